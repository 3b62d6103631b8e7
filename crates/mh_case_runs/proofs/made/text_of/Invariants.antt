use Rattle.std.proofs.Common.{◌≡◌, ◌<◌, length}
use Rattle.std.specs.List.{AllByRecursion}
use Rattle.mh_case_runs.proofs.made.text_of.Given as goal

abbrev pub invariant-loop-byte : goal.invariant-loop-byte
invariant-loop-byte l = record {
  each : AllByRecursion (λ c. (0 < c) × (c < 128)) l.characters;
  count : length l.characters ≡ l.byte-index;
}
