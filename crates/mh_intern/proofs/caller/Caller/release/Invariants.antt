use Rattle.std.proofs.Common.{[]}
use Rattle.mh_intern.proofs.caller.Caller.release.Given as goal

abbrev pub ghosts-keep_less : goal.ghosts-keep_less
ghosts-keep_less a = record { hold = a.hold.now; count = 0; entries = [] }

abbrev pub ghosts-lower : goal.ghosts-lower
ghosts-lower a = record { hold = a.hold.now; count = 0; entries = [] }
