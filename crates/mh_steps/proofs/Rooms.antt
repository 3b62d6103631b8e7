-- What calls leave of a thread's work for the calls after them: numbers that may still be drawn, and leaves that stayed.
use Rattle.std.proofs.Common.{◌≡◌, sym, subst, ap, ℕ, ◌≤◌, Result, Ok, Err, IfOk, arith}
use Rattle.mh_seats.specs.Room.{limit}
use Rattle.mh_intern.specs.Views.{new_seat}
use Rattle.mh_intern.specs.Views as types
use Rattle.mh_leaf.specs.LeafTable.{LeafTable}
use Rattle.mh_tree.specs.Tree.{Tree}
use Rattle.mh_handle.specs.declared.error.HandleError.{HandleError}
use Rattle.mh_handle.specs.declared.handle.Handle.{Handle}
use Rattle.mh_handle.specs.declared.work.Work.{Work}
use Rattle.mh_handle.specs.Passes.{PassView, SeatView, pass_at, seat_at}
use Rattle.mh_handle.specs.Stands.{HandleView, Stands, StandsForSome}
use Rattle.mh_handle.specs.Works.{IsReady}

-- ---- numbers

-- the first pass over a table may draw more numbers than any test or measurement, and the first seat of a table of types has room for their handles
pub ready-first : (w : Work) (seat : SeatView) (numbers : ℕ) → w.pass.now ≡ pass_at w.forms.now seat → seat ≡ seat_at w.forms.now 0 →
    w.seat.now ≡ new_seat w.types.now limit → numbers ≤ 8589934592 → IsReady w numbers
ready-first w seat numbers pass first held few = record {
  of_table = ap (λ (p : PassView). p.table) pass;
  room = omega (arith, few, ap (λ (p : PassView). p.seat.room) pass, ap (λ (s : SeatView). s.room) first);
  of_types = ap (λ (s : types.SeatView). s.table) held;
  holds = let room : w.seat.now.room ≡ limit = ap (λ (s : types.SeatView). s.room) held in omega (arith, few, room);
}

-- ---- handles over leaves that stayed

-- what stands for a tree stands for some tree
pub some-tree : (table : LeafTable) (t : Tree) (r : Result Handle HandleError) → IfOk r (λ h. Stands table h t) → IfOk r (StandsForSome table)
some-tree table t (Ok h) stands = (t, stands)
some-tree table t (Err e) stands = stands

pub stands-over : (old new : LeafTable) (h : HandleView) → new ≡ old → StandsForSome old h → StandsForSome new h
stands-over old new h same stands = subst (λ table. StandsForSome table h) (sym same) stands

pub some-over : (old new : LeafTable) (t : Tree) (r : Result Handle HandleError) → new ≡ old → IfOk r (λ h. Stands new h t) → IfOk r (StandsForSome old)
some-over old new t r same stands = subst (λ table. IfOk r (StandsForSome table)) same (some-tree new t r stands)
