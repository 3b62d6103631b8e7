use Rattle.std.proofs.Common.{◌≤◌, ◌*◌}
use Rattle.std.specs.Prelude.{sum_by}
use Rattle.std.specs.List.{AllByRecursion}
use Rattle.mh_made_class.specs.Sites.{IsMakeableArgument, argument_width}
use Rattle.mh_case_runs.proofs.made.arguments_of.Given as goal

abbrev pub invariant-loop-argument : goal.invariant-loop-argument
invariant-loop-argument l = record {
  each : AllByRecursion IsMakeableArgument l.made;
  width : sum_by argument_width l.made ≤ 2 * l.argument-index;
}
