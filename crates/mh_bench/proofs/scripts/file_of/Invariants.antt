use Rattle.std.proofs.Common.{◌≡◌}
use Rattle.std.specs.String.{string_bytes}
use Rattle.mh_bench.specs.Scripts.{file_text}
use Rattle.mh_bench.proofs.scripts.file_of.Given as goal

abbrev pub invariant-loop-number : goal.invariant-loop-number
invariant-loop-number l = string_bytes l.file ≡ file_text l.owner l.number
