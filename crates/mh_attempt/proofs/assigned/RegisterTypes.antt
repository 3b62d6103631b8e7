-- Which types registers hold after an assignment, and all at once.
use denote.Ref.{Bor}
use Rattle.std.proofs.Common.{◌≡◌, sym, ◌∙◌, ap, subst, arith, ℕ, List, [], ◌∷◌, ◌++◌, append-nil, length, length-append, None, Some}
use Rattle.std.proofs.lemmas.Grind.{flat_map-append}
use Rattle.mh_intern.specs.Exchanges.{AreHeld, AreOf, Exchanges}
use Rattle.mh_intern.specs.Views.{HoldView, SeatView}
use Rattle.mh_intern.proofs.Exchanging.{exchanges-still, exchanges-then}
use Rattle.mh_intern.proofs.HeldLists.{held-first, held-second, of-both, of-first, of-second}
use Rattle.mh_handle.proofs.holding.HoldOrders.{Same, exchanges-kept, exchanges-same, same-swapped}
use Rattle.mh_handle.specs.declared.work.Work.{Work}
use Rattle.mh_handle.proofs.obeying.Going.{Seated}
use Rattle.mh_attempt.specs.declared.registers.Assignment.{Assignment}
use Rattle.mh_attempt.specs.declared.registers.Held.{Held}
use Rattle.mh_attempt.specs.Registers.{IsKeptIn, assigned_to, held_under, holds_in, holds_of}
use Rattle.mh_attempt.proofs.assigned.AssignedHolds.{holds_found, found-of, many-assigned, of-assigned, same-assigned}

-- ---- seats

-- the same holds in another order are held
pub held-same : (seat : SeatView) (a b : List HoldView) → Same a b → AreOf seat.table.holders a → AreHeld seat b → AreHeld seat a
held-same seat a b same of_table all = record {
  tables = of_table;
  held = record { counts = λ k t. let c = same.counts k t in let h = all.held.counts k t in omega (arith, c, h) };
}

-- what was found was given back, once the name was assigned
pub assigned-exchanges : (name : Bor (List ℕ)) (h : Held) (assigned more : List Assignment) (old new : SeatView) → more ≡ assigned_to name h assigned →
    AreHeld old (holds_in assigned ++ holds_of h) → Exchanges [] (holds_found (held_under name.now assigned)) [] old new →
    Exchanges [] (holds_in assigned ++ holds_of h) (holds_in more) old new
assigned-exchanges name h assigned more old new is all back =
    let came = holds_in (assigned_to name h assigned) in
    let gone = holds_found (held_under name.now assigned) in
    let first = of-first old.table.holders (holds_in assigned) (holds_of h) all.tables in
    let last = of-second old.table.holders (holds_in assigned) (holds_of h) all.tables in
    let of_came = of-assigned name h old.table.holders assigned first last in
    let both = held-same old (gone ++ came) (holds_in assigned ++ holds_of h) (same-assigned name h assigned)
    (of-both old.table.holders gone came (found-of old.table.holders name.now assigned first) of_came) all in
    subst (λ l. Exchanges [] (holds_in assigned ++ holds_of h) (holds_in l) old new) (sym is)
    (exchanges-same [] (gone ++ came) (holds_in assigned ++ holds_of h) came old new (same-assigned name h assigned)
    (exchanges-kept [] gone [] came old new (held-second old gone came both) back))

-- nothing was found
pub assigned-none : (name : Bor (List ℕ)) (h : Held) (assigned more : List Assignment) (seat : SeatView) → more ≡ assigned_to name h assigned →
    AreHeld seat (holds_in assigned ++ holds_of h) → None ≡ held_under name.now assigned →
    Exchanges [] (holds_in assigned ++ holds_of h) (holds_in more) seat seat
assigned-none name h assigned more seat is all none =
    assigned-exchanges name h assigned more seat seat is all (subst (λ o. Exchanges [] (holds_found o) [] seat seat) none (exchanges-still seat))

-- something was found
pub assigned-some : (name : Bor (List ℕ)) (h before : Held) (assigned more : List Assignment) (old new : SeatView) → more ≡ assigned_to name h assigned →
    AreHeld old (holds_in assigned ++ holds_of h) → Some before ≡ held_under name.now assigned → Exchanges [] (holds_of before) [] old new →
    Exchanges [] (holds_in assigned ++ holds_of h) (holds_in more) old new
assigned-some name h before assigned more old new is all some back =
    assigned-exchanges name h assigned more old new is all (subst (λ o. Exchanges [] (holds_found o) [] old new) some back)

-- the seat has no less room than before
pub assigned-seated : (name : Bor (List ℕ)) (h : Held) (assigned more : List Assignment) (old new : Work) → more ≡ assigned_to name h assigned →
    Exchanges [] (holds_in assigned ++ holds_of h) (holds_in more) old.seat.now new.seat.now → Seated 0 old new
assigned-seated name h assigned more old new is x = record {
  seat = x.table;
  holds =
      let m : length (holds_in more) ≡ length (holds_in (assigned_to name h assigned)) = ap (λ l. length (holds_in l)) is in
      let n = length-append (holds_in assigned) (holds_of h) in
      let c = many-assigned name h assigned in
      omega (arith, m, n, c, x.room);
}

-- ---- all at once

last-holds : (assigned rest : List Assignment) (a : Assignment) → assigned ≡ rest ++ a ∷ [] → holds_in assigned ≡ holds_in rest ++ holds_of a.held
last-holds assigned rest a is =
    ap holds_in is ∙ (flat_map-append (λ (b : Assignment). holds_of b.held) rest (a ∷ []) ∙ ap (λ l. holds_in rest ++ l) (append-nil (holds_of a.held)))

-- the last is held still, where those after it were given back
pub last-kept : (assigned rest : List Assignment) (a : Assignment) (seat : SeatView) → assigned ≡ rest ++ a ∷ [] →
    AreHeld seat (holds_in assigned) → IsKeptIn seat a.held
last-kept assigned rest a seat is kept = held-second seat (holds_in rest) (holds_of a.held) (subst (AreHeld seat) (last-holds assigned rest a is) kept)

-- it is given back too
pub last-exchanges : (all : List HoldView) (assigned rest : List Assignment) (a : Assignment) (old mid new : SeatView) → assigned ≡ rest ++ a ∷ [] →
    AreHeld mid (holds_in assigned) → Exchanges [] all (holds_in assigned) old mid → Exchanges [] (holds_of a.held) [] mid new →
    Exchanges [] all (holds_in rest) old new
last-exchanges all assigned rest a old mid new is kept so_far back =
    let both = subst (AreHeld mid) (last-holds assigned rest a is) kept in
    let next : Exchanges [] (holds_in assigned) (holds_in rest) mid new =
    subst (λ l. Exchanges [] l (holds_in rest) mid new) (sym (last-holds assigned rest a is))
    (exchanges-same [] (holds_of a.held ++ holds_in rest) (holds_in rest ++ holds_of a.held) (holds_in rest) mid new
    (same-swapped (holds_of a.held) (holds_in rest))
    (exchanges-kept [] (holds_of a.held) [] (holds_in rest) mid new (held-first mid (holds_in rest) (holds_of a.held) both) back)) in
    subst (λ l. Exchanges [] l (holds_in rest) old new) (append-nil all)
    (exchanges-then [] [] all (holds_in assigned) [] (holds_in rest) old mid new so_far
    (subst (λ l. Exchanges [] l (holds_in rest) mid new) (sym (append-nil (holds_in assigned))) next))
