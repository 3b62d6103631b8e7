-- A seat that has one hold in hand.
use Rattle.std.proofs.Common.{◌≡◌, List, [], ◌∷◌, ◌∙◌, sym, subst, ap}
use Rattle.mh_intern.specs.declared.holding.Entry.{Entry}
use Rattle.mh_intern.specs.Lists.{removed}
use Rattle.mh_values.specs.declared.types.MethodTy.{MethodTy}
use Rattle.mh_intern.specs.Views.{TypesId, SeatView, HoldView, with_hold, without_hold, with_asked}
use Rattle.mh_intern.specs.Seats.{Holds}
use Rattle.mh_intern.proofs.Entries.{In}
use Rattle.mh_intern.proofs.HoldCounts.{in_here, removed_here}
use Rattle.mh_sharing_tests.specs.Hands.{HasInHand}

-- the seat holds what is in hand
pub in_hand : (table : TypesId) (seat : SeatView) (hold : HoldView) → HasInHand table seat hold → Holds seat hold
in_hand table seat hold h = record {
  table = h.hold_of ∙ ap (λ (t : TypesId). t.holders) (sym h.seat_of);
  counted = subst (λ (l : List Entry). In l hold.entry) (sym h.holds) (in_here hold.entry []);
}

-- another type is in hand, after the one before was let go
pub hand_after : (table : TypesId) (seat mid new : SeatView) (hold next : HoldView) (t : MethodTy) → HasInHand table seat hold
    → mid ≡ without_hold hold.entry seat → new ≡ with_asked t (with_hold next.entry mid) → Holds new next → HasInHand table new next
hand_after table seat mid new hold next t h released interned holds =
    let of : new.table ≡ table = ap (λ s. s.table) interned ∙ (ap (λ s. s.table) released ∙ h.seat_of) in
    let none : mid.holds ≡ [] = ap (λ s. s.holds) released ∙ (ap (removed hold.entry) h.holds ∙ removed_here hold.entry []) in
    record {
      seat_of = of;
      hold_of = holds.table ∙ ap (λ (i : TypesId). i.holders) of;
      holds = ap (λ s. s.holds) interned ∙ ap (λ l. next.entry ∷ l) none;
    }
