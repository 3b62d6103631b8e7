use Rattle.std.proofs.Common.{◌≡◌, take}
use Rattle.mh_class_tests.proofs.sites.text.Given as goal

abbrev pub invariant-loop-byte : goal.invariant-loop-byte
invariant-loop-byte l = l.text ≡ take l.byte-index l.word
