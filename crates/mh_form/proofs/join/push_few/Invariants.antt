use Rattle.std.proofs.Common.{◌≡◌, ◌++◌, ◌+◌, ◌≤◌, length, take, vec_capacity}
use Rattle.mh_form.proofs.join.push_few.Given as goal

-- the characters so far stand after the old ones, and there is room for the others
abbrev pub invariant-loop-character : goal.invariant-loop-character
invariant-loop-character l =
    record {
      so_far : l.chars.items ≡ l.fn.chars.items ++ take l.character-index l.text;
      room : length l.chars.items + length l.text ≤ vec_capacity l.chars + l.character-index;
    }
