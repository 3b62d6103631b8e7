use Rattle.std.proofs.Common.{◌≡◌, ◌++◌, map, drop, option_map}
use Rattle.mh_script.specs.Numbers.{numbers_of}
use Rattle.mh_script.proofs.number.read_numbers.Given as goal

abbrev pub invariant-loop-text : goal.invariant-loop-text
invariant-loop-text l = numbers_of (map (λ x. x.now) l.texts) ≡ option_map (λ ns. l.numbers ++ ns) (numbers_of (map (λ x. x.now) (drop l.text-index l.texts)))
