use Rattle.std.proofs.Common.{◌≡◌, ◌<◌, take, All, IsTrue}
use Rattle.mh_texts.specs.Text.{escaped}
use Rattle.mh_texts.proofs.printed.are_plain.Given as goal

abbrev pub invariant-loop-character : goal.invariant-loop-character
invariant-loop-character l = record {
  low : IsTrue l.plain → All (λ c. c < 128) (take l.character-index l.text);
  plain : IsTrue l.plain → escaped (take l.character-index l.text) ≡ take l.character-index l.text;
}
