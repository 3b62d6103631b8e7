use denote.Param.Send.{sendable}
use Rattle.std.proofs.Crossing.{crosses}
use Rattle.mh_handle_tests.proofs.Crossing.{lane_send}
use Rattle.mh_handle_tests.proofs.racing.run_lanes.Goals as goal

pub run_each-requires-send-T-Lane : goal.run_each-requires-send-T-Lane
run_each-requires-send-T-Lane g c κs within = search (lane_send, crosses, sendable) depth 20
