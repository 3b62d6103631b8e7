use Rattle.std.proofs.Common.{arith, ◌≡◌, ◌∙◌, ◌∷◌, ℕ, [], List, Some, length, length-append, sym, subst, ap}
use Rattle.mh_intern.specs.declared.holding.Entry.{Entry}
use Rattle.mh_intern.specs.declared.keeper.Keeper.{Keeper}
use Rattle.mh_intern.specs.Lists.{Listed}
use Rattle.mh_intern.specs.Kinds.{dealt, first_keeper, without_first, at_rest}
use Rattle.mh_intern.specs.Keep.{IsKeeper}
use Rattle.mh_intern.specs.Claims.{HasKeeper}
use Rattle.mh_intern.proofs.Opening.{deals}
use Rattle.mh_intern.proofs.Dealing.{one_more, listed_none}
use Rattle.mh_intern.proofs.keeper.deal_keepers.Goals as goal

pub loop-bucket-preserved : goal.loop-bucket-preserved
loop-bucket-preserved c =
    let i = c.loop-bucket.invariant in
    let b : ℕ = c.loop-bucket.bucket in
    let n : ℕ = length c.loop-bucket.keepers.items in
    let d = deals b c.loop-bucket-test.true in
    let k = c.split_keeper-seat.ensures in
    let items = c.in_ok-push.ensures.items in
    let seat = c.split_keeper-seat.result in
    let keeper : Keeper = record { seat = seat; entries = c.new.result } in
    let good : IsKeeper c.args.first.now.table_id n keeper = record {
      of = k.right.0 ∙ i.0;
      free = ap (λ m. m.1) k.right.1;
      view = ap (λ m. m.0) k.right.1 ∙ (ap (λ z. first_keeper z.0) i.1 ∙ (d.2 ∙ (λ j. at_rest (sym i.2 j) (sym c.new.ensures.items j))));
      listed = subst (λ (es : List Entry). Listed n es) (sym c.new.ensures.items) (listed_none n);
    } in (
      k.left.0 ∙ i.0,
      k.left.1 ∙ ((λ j. (without_first (i.1 j).0, (i.1 j).1)) ∙ ap (λ z. (z, [])) d.1),
      omega (arith, ap length items, length-append c.loop-bucket.keepers.items (Some keeper ∷ []), i.2),
      one_more c.args.first.now.table_id c.loop-bucket.keepers.items c.push.new.self.items keeper items good i.3,
    )

pub returns-clause-first : goal.returns-clause-first
returns-clause-first c =
    let b : c.loop-bucket.bucket ≡ 64 = omega arith in
    c.loop-bucket.invariant.1 ∙ ap (λ z. (dealt z, [])) b

pub returns-clause-many : goal.returns-clause-many
returns-clause-many c =
    let b : c.loop-bucket.bucket ≡ 64 = omega arith in
    c.loop-bucket.invariant.2 ∙ b

pub returns-clause-keepers : goal.returns-clause-keepers
returns-clause-keepers c = λ j x e. subst (λ z. HasKeeper z j x) c.requires.table.0 (c.loop-bucket.invariant.3 j x e)
