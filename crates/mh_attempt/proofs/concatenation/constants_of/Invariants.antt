use Rattle.std.proofs.Common.{◌≡◌, take, map}
use Rattle.mh_link.specs.Concatenation.{constant_of}
use Rattle.mh_attempt.proofs.concatenation.constants_of.Given as goal

abbrev pub invariant-loop-argument : goal.invariant-loop-argument
invariant-loop-argument l = l.values ≡ map constant_of (take l.argument-index l.arguments)
