use Rattle.std.proofs.Common.{◌≡◌, map, take}
use Rattle.mh_jobs.specs.declared.unresolved.Part.TheVariants.{Constant}
use Rattle.mh_sharing_tests.proofs.constants.built.parts_of.Given as goal

abbrev pub invariant-loop-name : goal.invariant-loop-name
invariant-loop-name l = l.parts ≡ map (λ d. Constant d) (take l.name-index l.names)
