use Rattle.std.proofs.Common.{◌≡◌, length, take}
use Rattle.mh_texts.proofs.printed.push_plain.Given as goal

abbrev pub invariant-loop-at : goal.invariant-loop-at
invariant-loop-at l = record {
  long : length l.plain ≡ 32;
  written : take l.at l.plain ≡ take l.at l.text;
}
