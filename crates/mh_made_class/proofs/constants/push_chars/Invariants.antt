use Rattle.std.proofs.Common.{◌≡◌, ◌<◌, ◌++◌, take, drop}
use Rattle.std.specs.List.{AllByRecursion}
use Rattle.mh_made_class.proofs.constants.push_chars.Given as goal

abbrev pub invariant-loop-c : goal.invariant-loop-c
invariant-loop-c l = record {
  put : l.file.items ≡ l.initial.file.items ++ take l.c-index l.text;
  ascii : AllByRecursion (λ c. (0 < c) × (c < 128)) (drop l.c-index l.text);
}
