-- A thread's lane, with its pass over a table of forms, may go to another thread.
use denote.Ref.{NamedLft}
use denote.Param.Send.{IsSend, sendable}
use Rattle.std.proofs.Crossing.{crosses}
use Rattle.mh_base.proofs.seq.Seq.TheSendSync as seq
use Rattle.mh_handle.proofs.passes.Crossing.{pass-send}
use Rattle.mh_handle_tests.specs.contracts.racing.Lane as Lane
use Rattle.mh_handle_tests.proofs.racing.Edited.TheSendSync as edited
use Rattle.mh_handle_tests.specs.contracts.racing.Edited as Edited

-- by what was shown of the pass, since a search that goes down through it runs out of steps
pub lane_send : (ℓ : NamedLft) → IsSend (Lane.the_row ℓ)
lane_send ℓ =
    let p = pass-send ℓ in
    let s = seq.the_send Edited.the_row edited.the_send in
    search (crosses, sendable) depth 40
