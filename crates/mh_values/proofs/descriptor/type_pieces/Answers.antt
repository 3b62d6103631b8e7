use Rattle.std.proofs.Common.{◌≡◌, ◌∙◌, ◌==◌, ◌||◌, ◌+◌, ◌-◌, ◌<◌, ◌++◌, ◌∷◌, [], false, sym, ap, List, ℕ, Bor, map, take, drop, get_or, length, arith}
use Rattle.std.proofs.lemmas.List.{map-append}
use Rattle.mh_values.specs.Descriptor.{pieces}
use Rattle.mh_values.proofs.Pieces.{within, cut-ends, cut-more, cut-last, cut-none}
use Rattle.mh_values.proofs.descriptor.type_pieces.Goals as goal
use Rattle.mh_values.proofs.descriptor.type_pieces.Goals.{then-ends_type+in_ok-push, else-ends_type+then-in_name, else-ends_type+else-in_name, then-start-bytes+in_ok-push-2, else-start-bytes}

abbrev texts : List (Bor (List ℕ)) → List (List ℕ)
texts found = map (λ x. x.now) found

-- the invariant at values that are equal to these
moved : (bytes : List ℕ) (found : List (List ℕ)) (start at : ℕ) (in_name : _) (found' : List (List ℕ)) (start' : ℕ) (in_name' : _) → found' ≡ found →
    start' ≡ start → in_name' ≡ in_name → pieces false bytes ≡ found ++ within (take (at - start) (drop start bytes)) (pieces in_name (drop at bytes)) →
    pieces false bytes ≡ found' ++ within (take (at - start') (drop start' bytes)) (pieces in_name' (drop at bytes))
moved bytes found start at in_name found' start' in_name' f s n cut = cc

pub loop-at-preserved : goal.loop-at-preserved
loop-at-preserved c =
    let bytes = c.args.bytes.now in
    let in_range : c.loop-at.at < length bytes = omega arith in
    elim c.if-ends_type.branch [
      | then-ends_type+in_ok-push w ↦
          let pushed : texts w.push.new.self.items ≡ texts c.loop-at.found.items ++ take (c.loop-at.at + 1 - c.loop-at.start) (drop c.loop-at.start bytes) ∷
          [] = ap texts w.in_ok-push.ensures.items ∙ map-append _ _ _ in
          record {
            ordered = omega arith;
            cut = moved bytes _ (c.loop-at.at + 1) (c.loop-at.at + 1) false (texts c.if-ends_type.found.items) c.if-ends_type.start c.if-ends_type.in_name
                (ap (λ v. texts v.items) w.found-is ∙ pushed) w.start-is w.in_name-is (cut-ends bytes (texts c.loop-at.found.items) c.loop-at.start c.loop-at.at
                c.loop-at.in_name c.loop-at.invariant.ordered in_range c.loop-at.invariant.cut (sym w.if-ends_type.ensures));
          }
      | else-ends_type+then-in_name w ↦
          let turned : c.loop-at.in_name ≡ (c.loop-at.in_name || get_or bytes c.loop-at.at 0 == 76) =
          w.if-in_name.true ∙ sym (ap (λ t. t || get_or bytes c.loop-at.at 0 == 76) w.if-in_name.true) in
          record {
            ordered = omega arith;
            cut = moved bytes (texts c.loop-at.found.items) c.loop-at.start (c.loop-at.at + 1) c.loop-at.in_name (texts c.if-ends_type.found.items)
                c.if-ends_type.start c.if-ends_type.in_name (ap (λ v. texts v.items) w.found-is) w.start-is w.in_name-is
                (cut-more bytes (texts c.loop-at.found.items) c.loop-at.start c.loop-at.at c.loop-at.in_name c.loop-at.in_name c.loop-at.invariant.ordered
                in_range c.loop-at.invariant.cut (sym w.if-ends_type.ensures) turned);
          }
      | else-ends_type+else-in_name w ↦
          let turned : (get_or bytes c.loop-at.at 0 == 76) ≡ (c.loop-at.in_name || get_or bytes c.loop-at.at 0 == 76) =
          sym (ap (λ t. t || get_or bytes c.loop-at.at 0 == 76) w.if-in_name.false) in
          record {
            ordered = omega arith;
            cut = moved bytes (texts c.loop-at.found.items) c.loop-at.start (c.loop-at.at + 1) (get_or bytes c.loop-at.at 0 == 76)
                (texts c.if-ends_type.found.items) c.if-ends_type.start c.if-ends_type.in_name (ap (λ v. texts v.items) w.found-is) w.start-is w.in_name-is
                (cut-more bytes (texts c.loop-at.found.items) c.loop-at.start c.loop-at.at c.loop-at.in_name (get_or bytes c.loop-at.at 0 == 76)
                c.loop-at.invariant.ordered in_range c.loop-at.invariant.cut (sym w.if-ends_type.ensures) turned);
          }
    ]

pub returns : goal.returns
returns c =
    let bytes = c.args.bytes.now in
    let all : c.loop-at.at ≡ length bytes = omega arith in
    elim c.if-start-bytes.branch [
      | then-start-bytes+in_ok-push-2 w ↦
          let pushed : texts w.push-then-start-bytes.new.self.items ≡ texts c.loop-at.found.items ++ take (c.loop-at.at - c.loop-at.start)
          (drop c.loop-at.start bytes) ∷ [] =
          ap texts w.in_ok-push-2.ensures.items ∙ map-append _ _ _ ∙
          ap (λ n. texts c.loop-at.found.items ++ take (n - c.loop-at.start) (drop c.loop-at.start bytes) ∷ []) (sym all) in
          ap (λ v. texts v.items) w.found-is ∙ pushed ∙ sym (cut-last bytes (texts c.loop-at.found.items) c.loop-at.start c.loop-at.at c.loop-at.in_name
          (omega arith) all c.loop-at.invariant.cut)
      | else-start-bytes w ↦
          ap (λ v. texts v.items) w.found-is ∙ sym (cut-none bytes (texts c.loop-at.found.items) c.loop-at.start c.loop-at.at c.loop-at.in_name (omega arith)
          all c.loop-at.invariant.cut)
    ]
