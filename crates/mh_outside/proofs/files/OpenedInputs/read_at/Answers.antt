use Rattle.std.proofs.Common.{◌≡◌, ◌+◌, ◌≤◌, length, arith}
use Rattle.mh_outside.proofs.Opened.{StandsAt-read}
use Rattle.mh_outside.proofs.files.OpenedInputs.read_at.Goals as goal

pub keep-requires : goal.keep-requires
keep-requires g c =
    let end : c.in-Some.end ≡ c.args.at + c.in_ok-count.count = omega (arith, c.in-Some.ensures) in
    let within : c.in_ok-count.count ≤ length c.read.new.buf = omega (arith, c.in_ok-count.ensures.bound) in
    rw end (StandsAt-read _ _ _ _ _ _ within c.in_ok-file.ensures c.in_ok-count.ensures.bytes.0)
