-- What a seat holds of registers, one by one.
use denote.Ref.{Bor}
use Rattle.std.proofs.Common.{◌≡◌, subst, arith, ℕ, ◌+◌, Bool, true, false, List, [], ◌∷◌, ◌++◌, length, length-append, Option, None, Some}
use Rattle.std.specs.Prelude.{if◌then◌else◌}
use Rattle.atomic_table.specs.Seated.{TableId}
use Rattle.mh_values.specs.declared.types.MethodTy.{MethodTy}
use Rattle.mh_intern.specs.Exchanges.{AreHeld, AreOf, entries_of}
use Rattle.mh_intern.specs.Held.{has}
use Rattle.mh_intern.specs.Views.{HoldView, SeatView}
use Rattle.mh_intern.proofs.HeldLists.{has-append, held-first, held-none, held-second, of-both, of-first, of-second}
use Rattle.mh_handle.proofs.holding.HoldOrders.{Same}
use Rattle.mh_attempt.specs.declared.registers.Assignment.{Assignment}
use Rattle.mh_attempt.specs.declared.registers.Held.{Held}
use Rattle.mh_attempt.specs.Registers.{IsKeptIn, assigned_to, held_under, holds_in, holds_of, is_named}
use Rattle.mh_attempt.proofs.assigned.Assigning.{assignment}

-- the holds of what was found, if anything was
abbrev pub holds_found : Option Held → List HoldView
holds_found (Some h) = holds_of h
holds_found None = []

-- ---- an assignment

module _ (name : Bor (List ℕ)) (h : Held) where
  -- each hold of what came before, and of what is assigned, as often
  counts-assigned : (k : ℕ) (t : MethodTy) (assigned : List Assignment) →
      has k t (entries_of (holds_in (assigned_to name h assigned))) + has k t (entries_of (holds_found (held_under name.now assigned)))
      ≡ has k t (entries_of (holds_in assigned)) + has k t (entries_of (holds_of h))
  counts-assigned k t [] = let last = has-append k t (holds_of h) [] in omega (arith, last)
  counts-assigned k t (a ∷ assigned) = cases (is_named name.now a) (counts-assigned k t assigned)
    where
      cases : (b : Bool) →
          has k t (entries_of (holds_in (assigned_to name h assigned))) + has k t (entries_of (holds_found (held_under name.now assigned)))
          ≡ has k t (entries_of (holds_in assigned)) + has k t (entries_of (holds_of h)) →
          has k t (entries_of (holds_in (if b then assignment a.name h ∷ assigned else a ∷ assigned_to name h assigned)))
          + has k t (entries_of (holds_found (if b then Some a.held else held_under name.now assigned)))
          ≡ has k t (entries_of (holds_in (a ∷ assigned))) + has k t (entries_of (holds_of h))
      cases true rest =
          let m = has-append k t (holds_of h) (holds_in assigned) in
          let n = has-append k t (holds_of a.held) (holds_in assigned) in
          omega (arith, m, n)
      cases false rest =
          let m = has-append k t (holds_of a.held) (holds_in (assigned_to name h assigned)) in
          let n = has-append k t (holds_of a.held) (holds_in assigned) in
          omega (arith, m, n, rest)

  pub many-assigned : (assigned : List Assignment) →
      length (holds_in (assigned_to name h assigned)) + length (holds_found (held_under name.now assigned))
      ≡ length (holds_in assigned) + length (holds_of h)
  many-assigned [] = let last = length-append (holds_of h) [] in omega (arith, last)
  many-assigned (a ∷ assigned) = cases (is_named name.now a) (many-assigned assigned)
    where
      cases : (b : Bool) →
          length (holds_in (assigned_to name h assigned)) + length (holds_found (held_under name.now assigned))
          ≡ length (holds_in assigned) + length (holds_of h) →
          length (holds_in (if b then assignment a.name h ∷ assigned else a ∷ assigned_to name h assigned))
          + length (holds_found (if b then Some a.held else held_under name.now assigned))
          ≡ length (holds_in (a ∷ assigned)) + length (holds_of h)
      cases true rest =
          let m = length-append (holds_of h) (holds_in assigned) in
          let n = length-append (holds_of a.held) (holds_in assigned) in
          omega (arith, m, n)
      cases false rest =
          let m = length-append (holds_of a.held) (holds_in (assigned_to name h assigned)) in
          let n = length-append (holds_of a.held) (holds_in assigned) in
          omega (arith, m, n, rest)

  -- holds of the same table
  pub of-assigned : (table : TableId) (assigned : List Assignment) → AreOf table (holds_in assigned) → AreOf table (holds_of h) →
      AreOf table (holds_in (assigned_to name h assigned))
  of-assigned table [] all last = of-both table (holds_of h) [] last tt
  of-assigned table (a ∷ assigned) all last =
      cases (is_named name.now a) (of-assigned table assigned (of-second table (holds_of a.held) (holds_in assigned) all) last)
    where
      cases : (b : Bool) → AreOf table (holds_in (assigned_to name h assigned)) →
          AreOf table (holds_in (if b then assignment a.name h ∷ assigned else a ∷ assigned_to name h assigned))
      cases true rest = of-both table (holds_of h) (holds_in assigned) last (of-second table (holds_of a.held) (holds_in assigned) all)
      cases false rest =
          of-both table (holds_of a.held) (holds_in (assigned_to name h assigned)) (of-first table (holds_of a.held) (holds_in assigned) all) rest

  pub same-assigned : (assigned : List Assignment) →
      Same (holds_found (held_under name.now assigned) ++ holds_in (assigned_to name h assigned)) (holds_in assigned ++ holds_of h)
  same-assigned assigned = record {
    counts = λ k t.
        let m = has-append k t (holds_found (held_under name.now assigned)) (holds_in (assigned_to name h assigned)) in
        let n = has-append k t (holds_in assigned) (holds_of h) in
        let c = counts-assigned k t assigned in
        omega (arith, m, n, c);
    many =
        let m = length-append (holds_found (held_under name.now assigned)) (holds_in (assigned_to name h assigned)) in
        let n = length-append (holds_in assigned) (holds_of h) in
        let c = many-assigned assigned in
        omega (arith, m, n, c);
  }

-- ---- what is found

pub found-of : (table : TableId) (name : List ℕ) (assigned : List Assignment) → AreOf table (holds_in assigned) →
    AreOf table (holds_found (held_under name assigned))
found-of table name [] all = tt
found-of table name (a ∷ assigned) all = cases (is_named name a) (found-of table name assigned (of-second table (holds_of a.held) (holds_in assigned) all))
  where
    cases : (b : Bool) → AreOf table (holds_found (held_under name assigned)) → AreOf table (holds_found (if b then Some a.held else held_under name assigned))
    cases true rest = of-first table (holds_of a.held) (holds_in assigned) all
    cases false rest = rest

-- a seat that holds the types of all holds those of what is found under a name
pub found-held : (seat : SeatView) (name : List ℕ) (assigned : List Assignment) → AreHeld seat (holds_in assigned) →
    AreHeld seat (holds_found (held_under name assigned))
found-held seat name [] all = held-none seat
found-held seat name (a ∷ assigned) all = cases (is_named name a) (found-held seat name assigned (held-second seat (holds_of a.held) (holds_in assigned) all))
  where
    cases : (b : Bool) → AreHeld seat (holds_found (held_under name assigned)) →
        AreHeld seat (holds_found (if b then Some a.held else held_under name assigned))
    cases true rest = held-first seat (holds_of a.held) (holds_in assigned) all
    cases false rest = rest

pub found-kept : (seat : SeatView) (name : List ℕ) (assigned : List Assignment) (h : Held) → held_under name assigned ≡ Some h →
    AreHeld seat (holds_in assigned) → IsKeptIn seat h
found-kept seat name assigned h is all = subst (λ o. AreHeld seat (holds_found o)) is (found-held seat name assigned all)
