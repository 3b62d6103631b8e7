use Rattle.std.proofs.Common.{◌≡◌, ◌+◌, ◌≤◌, ◌++◌, length, take, vec_len, vec_capacity}
use Rattle.mh_texts.specs.Text.{escaped}
use Rattle.mh_texts.proofs.printed.push_each.Given as goal

abbrev pub invariant-loop-character : goal.invariant-loop-character
invariant-loop-character l = record {
  written : l.bytes.items ≡ l.initial.bytes.items ++ escaped (take l.character-index l.text);
  left : l.left + l.character-index ≡ length l.text;
  room : vec_len l.bytes + l.left ≤ vec_capacity l.bytes;
}
