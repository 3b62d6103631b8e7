-- The notes of a seat, as its view changes.
use Rattle.std.specs.List.{position}
use Rattle.std.proofs.lemmas.Bool.{and_parts, eqb-true, eq-eqb}
use Rattle.std.proofs.Common.{All, Option, Some, None, Result, Ok, Err, OnOk, OnErr, nat_lt, inl, inr, ⊎_elim, ◌≡◌, ℕ, zero, suc, ◌+◌, ◌-◌, ◌<◌, ◌≤◌, ◌≢◌, ◌==◌, ◌&&◌, Bool, true, false, cond, List, [], ◌∷◌, ◌++◌, length, sum_by, count_by, get_or, drop, set, replicate, refl, sym, ap, ◌∙◌, subst, arith, length-append}
use native.Mathlib.Decide.{ℕ_discrete}
use mathlib.Core.Logic.{dite}
use mathlib.Core.Option.{some, some-injective, some-ne-none}
use lib.ListN.{get_elem?}
use Rattle.mh_values.specs.declared.types.MethodTy.{MethodTy}
use Rattle.mh_values.specs.Same.{is_same_method_type}
use Rattle.mh_values.proofs.SameTypes.{same_method_type-is}
use Rattle.mh_seats.specs.Room.{limit}
use Rattle.mh_intern.specs.declared.holding.Entry.{Entry}
use Rattle.mh_intern.specs.declared.holding.Holding.{Holding}
use Rattle.mh_intern.specs.declared.notes.Note.{Note}
use Rattle.mh_intern.specs.Callers.{Again, CallerView, LooksAt}
use Rattle.mh_intern.specs.declared.error.InternError.{InternError}
use Rattle.mh_intern.specs.declared.error.InternError.TheVariants.{NoMemory, TypesFull}
use Rattle.mh_intern.specs.Held.{has, weight, asks, uses, IsFull}
use Rattle.mh_intern.specs.Kinds.{held_more, held_less, kept_more, kept_asked, kept_less}
use Rattle.mh_intern.specs.Interning.{granted, Interned}
use Rattle.mh_intern.specs.Lists.{Agrees, entry, is_entry, removed}
use Rattle.mh_intern.specs.Notes.{owed, owed_by, IsCovered, IsNoted, Changes, Owes, more_owed, less_owed, as_kept}
use Rattle.mh_seats.proofs.Totals.{total_set, at_most, each_set}
use Rattle.mh_intern.proofs.Measures.{count_cons}
use Rattle.mh_intern.proofs.Entries.{bit, In, entry-is, entry-itself, removed_count, removed_length}
use Rattle.mh_intern.proofs.Seating.{agrees_less}
use Rattle.mh_intern.proofs.Finding.{no_sum, at_item, some_more, no_more, and_false, found, found_some, missing, cond_more, cond_less}

module _ (v : Holding) (notes : List Note) (n : IsNoted v notes) where
  -- the room that contracts see, and what is owed, are the view's own room
  pub room_kept : (as_kept v).room + owed notes ≡ v.room
  room_kept = omega (arith, n.many, n.room)

  pub weight_kept : weight (as_kept v) ≡ weight v
  weight_kept = omega (arith, n.many, n.room)

  -- of what is kept, a hold is counted
  pub in_counted : (e : Entry) → In v.kept e → In v.holds e
  in_counted e kept = dite (ℕ_discrete (has e.slot e.ty v.holds) 0)
      (λ gone. absurd (omega (arith, n.counts (λ (x : Entry). is_entry x e), nothing_owed gone)))
      (λ some_are. omega arith)
    where
      nothing_owed : has e.slot e.ty v.holds ≡ 0 → owed_by (λ x. is_entry x e) notes ≡ 0
      nothing_owed gone = no_sum (λ (m : Note). cond (is_entry m.entry e) m.owed 0) notes
          (λ i m at. test m (is_entry m.entry e) refl (n.covered i m at))
        where
          test : (m : Note) (b : Bool) → is_entry m.entry e ≡ b → IsCovered v.holds m → cond (is_entry m.entry e) m.owed 0 ≡ 0
          test m false q covered = ap (λ z. cond z m.owed 0) q
          test m true q covered =
              let same : has m.entry.slot m.entry.ty v.holds ≡ has e.slot e.ty v.holds = ap (λ (z : Entry). has z.slot z.ty v.holds) (entry-is m.entry e q) in
              dite (ℕ_discrete m.owed 0) (λ none_owed. ap (λ z. cond z m.owed 0) q ∙ none_owed) (λ some_are. absurd (omega (arith, covered (omega arith))))

  pub agrees_kept : Agrees v.holds → Agrees v.kept
  agrees_kept agrees = agrees_less v.kept v.holds in_counted agrees

  -- what is noted as counted is held
  pub noted_held : (i : ℕ) (m : Note) → get_elem? notes i ≡ some m → 0 < m.counted → In v.holds m.entry
  noted_held i m at lt =
      let hit : cond (is_entry m.entry m.entry) m.counted 0 ≡ m.counted = ap (λ b. cond b m.counted 0) (entry-itself m.entry) in
      let most = at_most (λ (x : Note). cond (is_entry x.entry m.entry) x.counted 0) notes i m at in
      omega (arith, n.known m.entry.slot m.entry.ty)

  pub in_kept : (e : Entry) → In v.holds e → In v.kept e
  in_kept e mine = omega (arith, n.counts (λ (x : Entry). is_entry x e))

  -- the note of a slot that is kept has its entry
  pub noted_is : (i : ℕ) (m : Note) (e : Entry) → get_elem? notes i ≡ some m → In v.holds m.entry → Agrees v.kept → In v.kept e →
      m.entry.slot ≡ e.slot → m.entry ≡ e
  noted_is i m e at mine agrees kept is = λ z. record { slot = is z; ty = (agrees m.entry e (in_kept m.entry mine) kept).0 is z }

  pub agrees_counted : Agrees v.kept → Agrees v.holds
  agrees_counted agrees = agrees_less v.holds v.kept in_kept agrees

  -- the note that was found of a slot of which a hold is counted, or owed
  pub counted_found : (i k : ℕ) → position (λ x. (x.entry.slot == k) && nat_lt 0 x.counted) notes ≡ Some i
      → (m : Note) × (get_elem? notes i ≡ some m) × (m.entry.slot ≡ k) × In v.holds m.entry
  counted_found i k e =
      let q = found_some (λ x. (x.entry.slot == k) && nat_lt 0 x.counted) notes i e in
      let t = and_parts (q.0.entry.slot == k) (nat_lt 0 q.0.counted) q.2 in
      (q.0, q.1, eqb-true q.0.entry.slot k t.0, noted_held i q.0 q.1 (some_more q.0.counted t.1))

  pub owed_found : (i k : ℕ) → position (λ x. (x.entry.slot == k) && nat_lt 0 x.owed) notes ≡ Some i
      → (m : Note) × (get_elem? notes i ≡ some m) × (m.entry.slot ≡ k) × (1 ≤ m.owed) × In v.holds m.entry
  owed_found i k e =
      let q = found_some (λ x. (x.entry.slot == k) && nat_lt 0 x.owed) notes i e in
      let t = and_parts (q.0.entry.slot == k) (nat_lt 0 q.0.owed) q.2 in
      let lt = some_more q.0.owed t.1 in
      (q.0, q.1, eqb-true q.0.entry.slot k t.0, lt, n.covered i q.0 q.1 lt)

  pub type_found : (i : ℕ) (ty : MethodTy) → position (λ x. nat_lt 0 x.counted && is_same_method_type x.entry.ty ty) notes ≡ Some i
      → (m : Note) × (get_elem? notes i ≡ some m) × (m.entry.ty ≡ ty) × In v.holds m.entry
  type_found i ty e =
      let q = found_some (λ x. nat_lt 0 x.counted && is_same_method_type x.entry.ty ty) notes i e in
      let t = and_parts (nat_lt 0 q.0.counted) (is_same_method_type q.0.entry.ty ty) q.2 in
      (q.0, q.1, same_method_type-is q.0.entry.ty ty t.1, noted_held i q.0 q.1 (some_more q.0.counted t.0))

  -- no hold of a slot is owed
  pub unowed : (k : ℕ) → position (λ x. (x.entry.slot == k) && nat_lt 0 x.owed) notes ≡ None
      → (i : ℕ) (m : Note) → get_elem? notes i ≡ some m → m.entry.slot ≡ k → m.owed ≡ 0
  unowed k e i m at is =
      no_more m.owed (and_false (m.entry.slot == k) (nat_lt 0 m.owed) (eq-eqb m.entry.slot k is)
      (missing (λ x. (x.entry.slot == k) && nat_lt 0 x.owed) notes e i m at))

  -- what a look shows of the view, as contracts see it
  pub looks_kept : Agrees v.holds → All IsFull v.full → weight v ≤ limit → (weight v ≡ limit → (t : MethodTy) → 0 < uses t v → 0 < asks t v)
      → LooksAt (as_kept v)
  looks_kept agrees full most asked = record {
    agrees = agrees_kept agrees;
    full = full;
    most = omega (arith, weight_kept);
    asked = λ whole t used. asked (omega (arith, weight_kept)) t used;
  }

  -- the view, as contracts see it, after a hold more or less
  pub kept_again : (e : Entry) → as_kept (kept_asked e v) ≡ granted e (as_kept v)
  kept_again e =
      let r : v.room + length v.holds - length (e ∷ v.kept) ≡ v.room + length v.holds - length v.kept - 1 = omega arith in
      ap (λ z. record v { holds = e ∷ v.kept; kept = e ∷ v.kept; asked = e.ty ∷ v.asked; room = z }) r

  pub kept_one_more : (e : Entry) → as_kept (kept_more e v) ≡ held_more e (as_kept v)
  kept_one_more e =
      let r : v.room + length v.holds - length (e ∷ v.kept) ≡ v.room + length v.holds - length v.kept - 1 = omega arith in
      ap (λ z. record v { holds = e ∷ v.kept; kept = e ∷ v.kept; room = z }) r

  pub kept_held_more : (e : Entry) → 1 ≤ (as_kept v).room → as_kept (held_more e v) ≡ held_more e (as_kept v)
  kept_held_more e room =
      let r : v.room - 1 + length (e ∷ v.holds) - length (e ∷ v.kept) ≡ v.room + length v.holds - length v.kept - 1 =
      omega (arith, n.many, n.room, room_kept) in
      ap (λ z. record v { holds = e ∷ v.kept; kept = e ∷ v.kept; room = z }) r

  pub kept_one_less : (e : Entry) → In v.kept e → as_kept (kept_less e v) ≡ held_less e (as_kept v)
  kept_one_less e kept =
      let r : v.room + length v.holds - length (removed e v.kept) ≡ v.room + length v.holds - length v.kept + 1 =
      omega (arith, n.many, n.room, removed_length e v.kept kept) in
      ap (λ z. record v { holds = removed e v.kept; kept = removed e v.kept; room = z }) r

  pub kept_held_less : (e : Entry) → In v.kept e → as_kept (held_less e v) ≡ held_less e (as_kept v)
  kept_held_less e kept =
      let r : v.room + 1 + length (removed e v.holds) - length (removed e v.kept) ≡ v.room + length v.holds - length v.kept + 1 =
      omega (arith, n.many, n.room, removed_length e v.kept kept, removed_length e v.holds (in_counted e kept)) in
      ap (λ z. record v { holds = removed e v.kept; kept = removed e v.kept; room = z }) r

  pub kept_interned : (t : MethodTy) (r : Result Entry InternError) (w : Holding) → 1 ≤ (as_kept v).room → Interned t v r w
      → Interned t (as_kept v) r (as_kept w)
  kept_interned t (Ok e) w room (is, small, now) =
      let q : v.room - 1 + length (e ∷ v.holds) - length (e ∷ v.kept) ≡ v.room + length v.holds - length v.kept - 1 =
      omega (arith, n.many, n.room, room_kept) in
      (is, small, ap as_kept now ∙ ap (λ z. record v { holds = e ∷ v.kept; kept = e ∷ v.kept; asked = e.ty ∷ v.asked; room = z }) q)
  kept_interned t (Err NoMemory) w room now = ap as_kept now
  kept_interned t (Err (TypesFull b)) w room (is, (f, for, now)) = (is, (f, for, ap as_kept now))

  -- one hold more is owed
  pub owes_more : (i : ℕ) (m : Note) (w : Holding) → get_elem? notes i ≡ some m → In v.holds m.entry → 1 ≤ (as_kept v).room → w.holds ≡ v.holds →
      w.room ≡ v.room → w.kept ≡ m.entry ∷ v.kept → IsNoted w (set notes i (record m { owed = m.owed + 1 }))
  owes_more i m w at mine room holds rooms kept =
      let new : Note = record m { owed = m.owed + 1 } in
      record {
        counts = λ p.
            let a : count_by p w.kept ≡ count_by p (m.entry ∷ v.kept) = ap (count_by p) kept in
            let b : count_by p w.holds ≡ count_by p v.holds = ap (count_by p) holds in
            omega (
              arith,
              count_cons p m.entry v.kept,
              n.counts p,
              cond_more (p m.entry) m.owed,
              total_set (λ (x : Note). cond (p x.entry) x.owed 0) notes i m new at,
            );
        many =
            let a : length w.kept ≡ length v.kept + 1 = ap length kept ∙ omega arith in
            let b : length w.holds ≡ length v.holds = ap length holds in
            omega (arith, n.many, total_set (λ (x : Note). x.owed) notes i m new at);
        known = λ k t.
            let b : has k t w.holds ≡ has k t v.holds = ap (has k t) holds in
            omega (arith, n.known k t, total_set (λ (x : Note). cond (is_entry x.entry (entry k t)) x.counted 0) notes i m new at);
        covered = each_set (IsCovered w.holds) notes i new (λ j x there. subst (λ hs. IsCovered hs x) (sym holds) (n.covered j x there))
            (λ _. subst (λ hs. In hs m.entry) (sym holds) mine);
        room = omega (arith, room_kept, total_set (λ (x : Note). x.owed) notes i m new at);
        small = each_set (λ (x : Note). x.entry.slot < 2048) notes i new n.small (n.small i m at);
      }

  -- one hold less is owed
  pub owes_less : (i : ℕ) (m : Note) (e : Entry) → get_elem? notes i ≡ some m → m.entry ≡ e → 1 ≤ m.owed → In v.kept e
      → IsNoted (kept_less e v) (set notes i (record m { owed = m.owed - 1 }))
  owes_less i m e at is some_owed mine =
      let new : Note = record m { owed = m.owed - 1 } in
      record {
        counts = λ p.
            let q : bit (p m.entry) ≡ bit (p e) = ap (λ z. bit (p z)) is in
            omega (
              arith,
              removed_count p e v.kept mine,
              n.counts p,
              cond_less (p m.entry) m.owed some_owed,
              total_set (λ (x : Note). cond (p x.entry) x.owed 0) notes i m new at,
            );
        many = omega (arith, n.many, removed_length e v.kept mine, total_set (λ (x : Note). x.owed) notes i m new at);
        known = λ k t. omega (arith, n.known k t, total_set (λ (x : Note). cond (is_entry x.entry (entry k t)) x.counted 0) notes i m new at);
        covered = each_set (IsCovered v.holds) notes i new n.covered (λ lt. n.covered i m at (omega arith));
        room = omega (arith, n.room, total_set (λ (x : Note). x.owed) notes i m new at);
        small = each_set (λ (x : Note). x.entry.slot < 2048) notes i new n.small (n.small i m at);
      }

  -- a hold stands on one that was found as counted
  pub noted_again : (i : ℕ) (e : Entry) (w : Holding) (new : List Note) → position (λ x. (x.entry.slot == e.slot) && nat_lt 0 x.counted) notes ≡ Some i
      → Agrees v.kept → In v.kept e → 1 ≤ (as_kept v).room → Changes i more_owed notes new → w.holds ≡ v.holds → w.room ≡ v.room → w.kept ≡ e ∷ v.kept
      → IsNoted w new
  noted_again i e w new place agrees kept room changes holds rooms keeps =
      let m = counted_found i e.slot place in
      let is = noted_is i m.0 e m.1 m.3 agrees kept m.2 in
      subst (IsNoted w) (sym (changes m.0 m.1)) (owes_more i m.0 w m.1 m.3 room holds rooms (keeps ∙ ap (λ z. z ∷ v.kept) (sym is)))

  pub again_is : (i : ℕ) (e : Entry) (d : Note) → position (λ x. (x.entry.slot == e.slot) && nat_lt 0 x.counted) notes ≡ Some i → Agrees v.kept → In v.kept e
      → d ≡ get_or notes i d → d.entry ≡ e
  again_is i e d place agrees kept is =
      let m = counted_found i e.slot place in
      ap (λ (z : Note). z.entry) (is ∙ at_item notes i d m.0 m.1) ∙ noted_is i m.0 e m.1 m.3 agrees kept m.2

  -- a hold that was found as owed is given back
  pub owes_at : (i k : ℕ) → position (λ x. (x.entry.slot == k) && nat_lt 0 x.owed) notes ≡ Some i → Owes i notes
  owes_at i k place x at = let m = owed_found i k place in subst (λ (z : Note). 1 ≤ z.owed) (some-injective m.0 x (sym m.1 ∙ at)) m.3

  pub noted_repaid : (i : ℕ) (e : Entry) (new : List Note) → position (λ x. (x.entry.slot == e.slot) && nat_lt 0 x.owed) notes ≡ Some i → Agrees v.kept →
      In v.kept e → Changes i less_owed notes new → IsNoted (kept_less e v) new
  noted_repaid i e new place agrees kept changes =
      let m = owed_found i e.slot place in
      let is = noted_is i m.0 e m.1 m.4 agrees kept m.2 in
      subst (IsNoted (kept_less e v)) (sym (changes m.0 m.1)) (owes_less i m.0 e m.1 is m.3 kept)

  -- a type that was found is held again
  pub found_again : (i : ℕ) (t : MethodTy) (d : Note) (e : Entry) → position (λ x. nat_lt 0 x.counted && is_same_method_type x.entry.ty t) notes ≡ Some i
      → d ≡ get_or notes i d → e ≡ d.entry → (e.ty ≡ t) × (e.slot < 2048) × In v.holds e
  found_again i t d e place is same =
      let m = type_found i t place in
      let q = same ∙ ap (λ (z : Note). z.entry) (is ∙ at_item notes i d m.0 m.1) in
      (ap (λ (z : Entry). z.ty) q ∙ m.2, subst (λ (z : Entry). z.slot < 2048) (sym q) (n.small i m.0 m.1), subst (In v.holds) (sym q) m.3)

  pub noted_found : (i : ℕ) (t : MethodTy) (d : Note) (e : Entry) (w : Holding) (new : List Note)
      → position (λ x. nat_lt 0 x.counted && is_same_method_type x.entry.ty t) notes ≡ Some i → d ≡ get_or notes i d → e ≡ d.entry → 1 ≤ (as_kept v).room
      → Changes i more_owed notes new → w.holds ≡ v.holds → w.room ≡ v.room → w.kept ≡ e ∷ v.kept → IsNoted w new
  noted_found i t d e w new place is same room changes holds rooms keeps =
      let m = type_found i t place in
      let q = same ∙ ap (λ (z : Note). z.entry) (is ∙ at_item notes i d m.0 m.1) in
      subst (IsNoted w) (sym (changes m.0 m.1)) (owes_more i m.0 w m.1 m.3 room holds rooms (keeps ∙ ap (λ z. z ∷ v.kept) q))

  pub again_by : (i : ℕ) (t : MethodTy) (d : Note) (e : Entry) (old new : CallerView) (w : Holding)
      → position (λ x. nat_lt 0 x.counted && is_same_method_type x.entry.ty t) notes ≡ Some i → d ≡ get_or notes i d → e ≡ d.entry → old.view ≡ as_kept v
      → new.table ≡ old.table → new.view ≡ as_kept w → w ≡ kept_asked e v → Again t e old new
  again_by i t d e old new w place is same seen table view now =
      let f = found_again i t d e place is same in
      record {
        ty = f.0;
        slot = f.1;
        held = subst (λ (z : Holding). In z.holds e) (sym seen) (in_kept e f.2);
        moves = (table, view ∙ (ap as_kept now ∙ (kept_again e ∙ ap (granted e) (sym seen))));
      }

  -- one hold more is counted
  pub counts_one : (e : Entry) (w : Holding) → 1 ≤ (as_kept v).room → w.holds ≡ e ∷ v.holds → w.kept ≡ e ∷ v.kept → w.room ≡ v.room - 1 → IsNoted w notes
  counts_one e w room holds kept rooms =
      let more : (p : Entry → Bool) → count_by p w.holds ≡ bit (p e) + count_by p v.holds = λ p. ap (count_by p) holds ∙ count_cons p e v.holds in
      record {
        counts = λ p. let a : count_by p w.kept ≡ bit (p e) + count_by p v.kept = ap (count_by p) kept ∙ count_cons p e v.kept in
            omega (arith, more p, n.counts p);
        many =
            let a : length w.kept ≡ length v.kept + 1 = ap length kept ∙ omega arith in
            let b : length w.holds ≡ length v.holds + 1 = ap length holds ∙ omega arith in
            omega (arith, n.many);
        known = λ k t. omega (arith, n.known k t, more (λ (x : Entry). is_entry x (entry k t)));
        covered = λ i m at lt. omega (arith, n.covered i m at lt, more (λ (x : Entry). is_entry x m.entry));
        room = omega (arith, room_kept);
        small = n.small;
      }

  -- a view that holds and keeps the same
  pub noted_same : (w : Holding) → w.holds ≡ v.holds → w.kept ≡ v.kept → w.room ≡ v.room → IsNoted w notes
  noted_same w holds kept rooms = record {
    counts = λ p. ap (count_by p) kept ∙ (n.counts p ∙ ap (λ z. z + owed_by p notes) (sym (ap (count_by p) holds)));
    many = ap length kept ∙ (n.many ∙ ap (λ z. z + owed notes) (sym (ap length holds)));
    known = λ k t. let b : has k t w.holds ≡ has k t v.holds = ap (has k t) holds in omega (arith, n.known k t);
    covered = λ i m at. subst (λ hs. IsCovered hs m) (sym holds) (n.covered i m at);
    room = omega (arith, n.room);
    small = n.small;
  }
