-- Registers out of which a handle was taken.
use denote.Ref.{Bor}
use Rattle.std.proofs.Common.{◌≡◌, sym, ap, subst, arith, ℤ, pos, List, [], ◌++◌, append-nil, length-append, Option, None, Some, Ok}
use Rattle.std.specs.Prelude.{ℕ, ok_or}
use Rattle.mh_intern.specs.Exchanges.{AreOf}
use Rattle.mh_intern.proofs.Exchanging.{exchanges-still}
use Rattle.mh_intern.proofs.HeldLists.{has-append, of-both}
use Rattle.mh_leaf.specs.LeafTable.{LeafTable}
use Rattle.mh_handle.specs.declared.handle.Handle.{Handle}
use Rattle.mh_handle.specs.declared.work.Work.{Work}
use Rattle.mh_handle.specs.Stands.{Stands}
use Rattle.mh_handle.proofs.holding.HoldOrders.{Same, exchanges-kept, exchanges-same}
use Rattle.mh_script.specs.declared.operand.Register.TheVariants as register
use Rattle.mh_jobs.specs.Thrown.{◌>>=◌}
use Rattle.mh_link.specs.Operands.{Content, Frame, as_handle, handle_in, last_assigned, no_argument}
use Rattle.mh_attempt.specs.declared.registers.Assignment.{Assignment}
use Rattle.mh_attempt.specs.declared.registers.Held.{Held}
use Rattle.mh_attempt.specs.declared.registers.Held.TheVariants as held
use Rattle.mh_attempt.specs.declared.registers.Registers.{Registers}
use Rattle.mh_attempt.specs.Registers.{AreHeldBy, Hold, HoldsLast, assigned_to, held_under, holds_in, holds_of}
use Rattle.mh_attempt.specs.Runs.{Replaces}
use Rattle.mh_attempt.specs.Told.{TellsBy}
use Rattle.mh_attempt.proofs.assigned.AssignedHolds.{found-of, holds_found, of-assigned, same-assigned}
use Rattle.mh_attempt.proofs.assigned.RegisterTypes.{held-same}

-- what stands in place of a handle
abbrev pub nought : Held
nought = held.Number (pos 0)

-- ---- types

-- what is left holds, with what was taken out, the same as before
left-same : (name : Bor (List ℕ)) (h : Held) (assigned : List Assignment) → Some h ≡ held_under name.now assigned →
    Same (holds_in (assigned_to name nought assigned) ++ holds_of h) (holds_in assigned)
left-same name h assigned found =
    let left = holds_in (assigned_to name nought assigned) in
    let same : Same (holds_of h ++ left) (holds_in assigned ++ []) =
    subst (λ o. Same (holds_found o ++ left) (holds_in assigned ++ [])) (sym found) (same-assigned name nought assigned) in
    record {
      counts = λ k t.
          let m = has-append k t (holds_of h) left in
          let n = has-append k t left (holds_of h) in
          let p = has-append k t (holds_in assigned) [] in
          let c = same.counts k t in
          omega (arith, m, n, p, c);
      many =
          let m = length-append (holds_of h) left in
          let n = length-append left (holds_of h) in
          let p = length-append (holds_in assigned) [] in
          omega (arith, m, n, p, same.many);
    }

-- the seat has what is left and what was taken out in place of what was there
pub taken-replaces : (name : Bor (List ℕ)) (h : Held) (before after : Registers) (w : Work) → Some h ≡ held_under name.now before.assigned.items →
    after.assigned.items ≡ assigned_to name nought before.assigned.items → AreHeldBy w.seat.now before →
    Replaces (holds_in before.assigned.items) (holds_in after.assigned.items ++ holds_of h) w w
taken-replaces name h before after w found is kept =
    let assigned = before.assigned.items in
    let seat = w.seat.now in
    let table = seat.table.holders in
    let left = holds_in (assigned_to name nought assigned) in
    let same = left-same name h assigned found in
    let of_taken : AreOf table (holds_of h) = subst (λ o. AreOf table (holds_found o)) (sym found) (found-of table name.now assigned kept.tables) in
    let all = held-same seat (left ++ holds_of h) (holds_in assigned) same
    (of-both table left (holds_of h) (of-assigned name nought table assigned kept.tables tt) of_taken) kept in
    subst (λ l. Replaces (holds_in assigned) (holds_in l ++ holds_of h) w w) (sym is) (
      [],
      exchanges-same [] (left ++ holds_of h) (holds_in assigned) (left ++ holds_of h) seat seat same
          (exchanges-kept [] [] [] (left ++ holds_of h) seat seat all (exchanges-still seat)),
    )

-- a number holds no types
pub number-replaces : (name : Bor (List ℕ)) (n : ℤ) (before after : Registers) (w : Work) →
    Some (held.Number n) ≡ held_under name.now before.assigned.items →
    after.assigned.items ≡ assigned_to name nought before.assigned.items → AreHeldBy w.seat.now before →
    Replaces (holds_in before.assigned.items) (holds_in after.assigned.items) w w
number-replaces name n before after w found is kept =
    subst (λ l. Replaces (holds_in before.assigned.items) l w w) (append-nil (holds_in after.assigned.items))
    (taken-replaces name (held.Number n) before after w found is kept)

-- ---- what is told

handle-last : (leaves : LeafTable) (h : Handle) (o : Option Content) → HoldsLast leaves (Some (held.Handle h)) o →
    TellsBy (Stands leaves) (Ok h) (ok_or o no_argument >>= as_handle)
handle-last leaves h (Some c) holds = (holds.0, ap as_handle holds.1, holds.2)
handle-last leaves h None holds = absurd holds

-- a handle that is found stands for that of the frame
pub handle-told : (leaves : LeafTable) (frame : Frame) (name : List ℕ) (registers : Registers) → Hold leaves registers frame → (h : Handle) →
    Some (held.Handle h) ≡ held_under name registers.assigned.items → TellsBy (Stands leaves) (Ok h) (handle_in frame (register.Assigned name))
handle-told leaves frame name registers hold h found =
    let last = last_assigned name frame.assigned in
    handle-last leaves h last (subst (λ o. HoldsLast leaves o last) (sym found) (hold.assigned.under name))
