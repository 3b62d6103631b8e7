use Rattle.std.proofs.Common.{◌≡◌, ◌+◌, ◌≤◌, ◌++◌, length, take, vec_len, vec_capacity}
use Rattle.mh_texts.specs.Text.{escaped}
use Rattle.mh_texts.proofs.printed.push_name.Given as goal

abbrev pub invariant-loop-byte : goal.invariant-loop-byte
invariant-loop-byte l = record {
  written : l.bytes.items ≡ l.initial.bytes.items ++ escaped (take l.byte-index l.name);
  left : l.left + l.byte-index ≡ length l.name;
  room : vec_len l.bytes + l.left ≤ vec_capacity l.bytes;
}
