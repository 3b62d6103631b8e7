use Rattle.std.proofs.Common.{◌≡◌, take}
use Rattle.mh_generated.proofs.sites.text.Given as goal

abbrev pub invariant-loop-byte : goal.invariant-loop-byte
invariant-loop-byte l = l.text ≡ take l.byte-index l.word
