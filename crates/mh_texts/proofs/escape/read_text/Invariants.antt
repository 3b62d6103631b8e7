use Rattle.std.proofs.Common.{◌≡◌, ◌++◌, drop, option_map}
use Rattle.mh_texts.specs.declared.escape.Escape.TheVariants as escape
use Rattle.mh_texts.specs.Escapes.{characters_from}
use Rattle.mh_texts.proofs.escape.read_text.Given as goal

abbrev pub invariant-loop-byte : goal.invariant-loop-byte
invariant-loop-byte l = characters_from escape.Outside l.bytes ≡ option_map (λ cs. l.text ++ cs) (characters_from l.escape (drop l.byte-index l.bytes))
