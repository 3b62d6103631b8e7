use Rattle.std.proofs.Common.{[]}
use Rattle.mh_intern.proofs.caller.Caller.again.Given as goal

abbrev pub ghosts-keep_asked : goal.ghosts-keep_asked
ghosts-keep_asked a = record { hold = a.hold.now; count = 0; entries = [] }
