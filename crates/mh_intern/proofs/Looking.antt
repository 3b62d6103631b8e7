-- What a look at the table tells of a view.
use Rattle.std.proofs.Common.{◌≡◌, ℕ, ◌<◌, Bool, true, false, List, sum_by, sym, refl, subst, arith}
use Rattle.std.proofs.lemmas.List.{set-get_or}
use native.Mathlib.Decide.{ℕ_discrete}
use mathlib.Core.Logic.{dite}
use mathlib.Core.Option.{some}
use lib.ListN.{get_elem?}
use Rattle.atomic_table.specs.Table.{State, Allows, keeps}
use Rattle.atomic_table.proofs.Lists.{set_again}
use Rattle.mh_values.specs.declared.types.MethodTy.{MethodTy}
use Rattle.mh_values.specs.Same.{is_same_method_type}
use Rattle.mh_values.proofs.SameTypes.{same_method_type-is, same_method_type-itself}
use Rattle.mh_intern.specs.declared.holding.Entry.{Entry}
use Rattle.mh_intern.specs.declared.holding.Holding.{Holding}
use Rattle.mh_intern.specs.Held.{on_slot, on_type, has, weight, asks, uses, Held}
use Rattle.mh_seats.specs.Room.{limit}
use Rattle.mh_intern.specs.Lists.{Agrees}
use Rattle.mh_intern.specs.Plays.{HMe, Looked}
use Rattle.mh_seats.proofs.Totals.{at_most, alone}
use Rattle.mh_intern.proofs.Entries.{two_of_slot, two_of_type}

-- the holds of one view agree
pub agree : (s : State (Unit {0}) Holding) → Held s → (id : ℕ) (v : Holding) → get_elem? s.views id ≡ some v → Agrees v.holds
agree s h id v at a b ha hb = (
  (λ same. type_test (is_same_method_type a.ty b.ty) refl same),
  (λ same. dite (ℕ_discrete a.slot b.slot) (λ e. e) (λ apart. absurd (one_slot same apart))),
)
  where
    entry_of : (e : Entry) → 0 < has e.slot e.ty v.holds → 0 < sum_by (λ u. has e.slot e.ty u.entries) s.views
    entry_of e mine = dite (ℕ_discrete (sum_by (λ u. has e.slot e.ty u.entries) s.views) 0)
        (λ none. let z = h.held e.slot e.ty none in let m = at_most (λ (u : Holding). has e.slot e.ty u.holds) s.views id v at in absurd (omega arith))
        (λ some_are. omega arith)

    two_slots : a.slot ≡ b.slot → ¬ (a.ty ≡ b.ty) → ⊥
    two_slots same apart =
        let sums = Rattle.mh_intern.proofs.Entries.two_le (λ (u : Holding). has a.slot a.ty u.entries) (λ u. has a.slot b.ty u.entries)
        (λ u. on_slot a.slot u.entries) (λ u. two_of_slot a.slot a.ty b.ty apart u.entries) s.views in
        let x = entry_of a ha in
        let y : 0 < sum_by (λ u. has a.slot b.ty u.entries) s.views = subst (λ (z : ℕ). 0 < sum_by (λ u. has z b.ty u.entries) s.views) (sym same)
        (entry_of b hb) in
        absurd (omega (arith, h.slots a.slot))

    one_slot : a.ty ≡ b.ty → ¬ (a.slot ≡ b.slot) → ⊥
    one_slot same apart =
        let sums = Rattle.mh_intern.proofs.Entries.two_le (λ (u : Holding). has a.slot a.ty u.entries) (λ u. has b.slot a.ty u.entries)
        (λ u. on_type a.ty u.entries) (λ u. two_of_type a.slot b.slot a.ty apart u.entries) s.views in
        let x = entry_of a ha in
        let y : 0 < sum_by (λ u. has b.slot a.ty u.entries) s.views = subst (λ (z : MethodTy). 0 < sum_by (λ u. has b.slot z u.entries) s.views) (sym same)
        (entry_of b hb) in
        absurd (omega (arith, h.types a.ty))

    type_test : (t : Bool) → is_same_method_type a.ty b.ty ≡ t → a.slot ≡ b.slot → a.ty ≡ b.ty
    type_test true q same = same_method_type-is a.ty b.ty q
    type_test false q same =
        absurd (two_slots same (λ e. let z : is_same_method_type a.ty b.ty ≡ true = subst (λ (u : MethodTy). is_same_method_type a.ty u ≡ true) e
        (same_method_type-itself a.ty) in cc))

-- the view with all the room has asked for all that it uses
pub asked_all : (s : State (Unit {0}) Holding) → Held s → (id : ℕ) (v : Holding) → get_elem? s.views id ≡ some v → weight v ≡ limit → (t : MethodTy) →
    0 < uses t v → 0 < asks t v
asked_all s h id v at full t used =
    let all : asks t v ≡ sum_by (asks t) s.views = alone weight (asks t) s.views (λ i u there none. (h.each i u there).idle none t) id v at
    (omega (arith, h.whole)) in
    dite (ℕ_discrete (asks t v) 0)
    (λ none. let z = h.asked t (omega arith) in let m = at_most (uses t) s.views id v at in absurd (omega arith))
    (λ some_are. omega arith)

pub looks_allowed : (slots id : ℕ) (me : HMe) → Allows Held slots id me 0 (λ n. n) (λ n m. Looked me.0 m.0 × (m.1 ≡ me.1))
looks_allowed slots id me s h _ at _ = (
  me.0,
  keeps,
  tt,
  subst (λ (z : List ℕ × List Holding). Held record { words = z.0; homes = s.homes; views = z.1 })
      (λ i. (sym (set-get_or s.words 0 0) i, sym (set_again s.views id me.0 at) i)) h,
  (
    record {
      same = refl;
      agrees = agree s h id me.0 at;
      full = (h.each id me.0 at).full;
      most = (let m = at_most weight s.views id me.0 at in
          omega (arith, h.whole));
      asked = asked_all s h id me.0 at;
    },
    refl,
  ),
)
