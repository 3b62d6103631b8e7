use Rattle.std.proofs.Common.{◌^◌, arith}
use Rattle.mh_steps.proofs.Rooms.{ready-first}
use Rattle.mh_bench.proofs.rows.first_on.Goals as goal

pub row_on-done-requires : goal.row_on-done-requires
row_on-done-requires g c =
    record { ready = ready-first _ c.args.start.seat (2 ^ 33) c.in_ok-pass.ensures c.requires.first c.requires.held (omega arith) }
