-- A seat whose copy of a hold was let go.
use Rattle.std.proofs.Common.{◌≡◌, ◌≤◌, ◌+◌, ◌-◌, ◌∙◌, ap, arith}
use Rattle.mh_intern.specs.declared.holding.Entry.{Entry}
use Rattle.mh_intern.specs.Views.{SeatView, with_hold, without_hold}
use Rattle.mh_intern.proofs.HoldCounts.{removed_here}

-- it is as it was before
pub copy_let_go : (e : Entry) (old mid new : SeatView) → 1 ≤ old.room → mid ≡ with_hold e old → new ≡ without_hold e mid → new ≡ old
copy_let_go e old mid new some copied released =
    let back : old.room - 1 + 1 ≡ old.room = omega (arith, some) in
    released ∙ (ap (without_hold e) copied
    ∙ (λ i. record { table = old.table; holds = removed_here e old.holds i; room = back i; asked = old.asked; full = old.full }))
