use Rattle.std.proofs.Common.{◌≡◌, map, take}
use Rattle.mh_script.specs.Tokens.{register_of}
use Rattle.mh_script.proofs.line.registers_of.Given as goal

abbrev pub invariant-loop-token : goal.invariant-loop-token
invariant-loop-token l = l.registers ≡ map register_of (map (λ t. t.now) (take l.token-index l.tokens))
