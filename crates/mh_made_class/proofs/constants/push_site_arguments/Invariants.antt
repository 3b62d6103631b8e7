use Rattle.std.proofs.Common.{◌≡◌, ◌++◌, take}
use Rattle.std.specs.List.{flat_map}
use Rattle.mh_made_class.specs.Constants.{entry_bytes, argument_entries}
use Rattle.mh_made_class.proofs.constants.push_site_arguments.Given as goal

abbrev pub invariant-loop-argument : goal.invariant-loop-argument
invariant-loop-argument l =
    l.file.items ≡ l.initial.file.items ++ flat_map entry_bytes (flat_map argument_entries (take l.argument-index l.argument-items))
