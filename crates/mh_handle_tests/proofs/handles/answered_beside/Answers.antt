use denote.Param.Send.{sendable}
use Rattle.std.proofs.Crossing.{crosses}
use Rattle.mh_handle.proofs.passes.Crossing.{answer-send}
use Rattle.mh_handle_tests.proofs.handles.answered_beside.Goals as goal

pub join-answer-requires-send-A : goal.join-answer-requires-send-A
join-answer-requires-send-A g c κs within = search (answer-send, crosses, sendable) depth 20
