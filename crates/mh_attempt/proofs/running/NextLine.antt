-- What the next line needs.
use denote.Ref.{Bor}
use Rattle.std.proofs.Common.{sym, subst, ℕ, ◌+◌, ◌*◌, ◌^◌, ◌<◌, ◌≤◌, List}
use Rattle.mh_leaf.specs.LeafTable.{LeafTable}
use Rattle.mh_handle.specs.declared.work.Work.{Work}
use Rattle.mh_handle.specs.Works.{IsReady}
use Rattle.mh_handle.proofs.obeying.Rooms.{ready-after}
use Rattle.mh_script.specs.declared.script.End.{End}
use Rattle.mh_script.specs.declared.script.Step.{Step}
use Rattle.mh_attempt.specs.declared.registers.Registers.{Registers}
use Rattle.mh_attempt.specs.Registers.{AreHeldBy, Hold, HoldSome, holds_in}
use Rattle.mh_attempt.specs.Runs.{MayRun, draws}
use Rattle.mh_attempt.proofs.types.Replacing.{replaces-held}
use Rattle.mh_attempt.proofs.running.RunLines.{HasRun}

-- ---- what the next line needs

module _ (lines : ℕ) (steps rest : List Step) (e : End) (before after : Registers) (old now : Work) (may : MayRun steps before old)
    (so_far : HasRun lines steps rest e before after old now) where
  pub next-ready : (numbers : ℕ) → 4 * lines + numbers ≤ draws steps → IsReady now numbers
  next-ready numbers few = ready-after (4 * lines) numbers (draws steps) old now few so_far.goes_on may.ready

  pub next-some : HoldSome now.leaves.now after
  next-some =
      let at = so_far.reaches may.holds.0 may.holds.1 in
      (at.reached, subst (λ (leaves : Bor LeafTable). Hold leaves.now after at.reached) (sym so_far.goes_on.leaves) at.holds)

  pub next-kept : AreHeldBy now.seat.now after
  next-kept = replaces-held (holds_in before.assigned.items) (holds_in after.assigned.items) old now may.kept so_far.types

  pub next-serial : after.serial < 2 ^ 63
  next-serial = rw so_far.serial may.serial
