use Rattle.std.proofs.Common.{[]}
use Rattle.mh_intern.proofs.caller.Caller.dup.Given as goal

abbrev pub ghosts-keep_more : goal.ghosts-keep_more
ghosts-keep_more a = record { hold = a.hold.now; count = 0; entries = [] }

abbrev pub ghosts-raise_held : goal.ghosts-raise_held
ghosts-raise_held a = record { hold = a.hold.now; count = 0; entries = [] }
