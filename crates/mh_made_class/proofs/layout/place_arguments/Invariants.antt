use Rattle.std.proofs.Common.{◌≡◌, ◌+◌, ◌<◌, ◌^◌, ◌++◌, drop, sum_by}
use Rattle.std.specs.List.{AllByRecursion}
use Rattle.mh_made_class.specs.Sites.{IsMakeableArgument, argument_width}
use Rattle.mh_made_class.specs.Layout.{arguments_from}
use Rattle.mh_made_class.proofs.layout.place_arguments.Given as goal

abbrev pub invariant-loop-arg : goal.invariant-loop-arg
invariant-loop-arg l = record {
  put : l.placed.items ++ arguments_from l.next (drop l.arg-index l.args) ≡ arguments_from l.first l.args;
  makeable : AllByRecursion IsMakeableArgument (drop l.arg-index l.args);
  fits : l.next + sum_by argument_width (drop l.arg-index l.args) < 2 ^ 16;
}
