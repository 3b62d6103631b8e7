use Rattle.mh_intern.proofs.caller.Caller.split.Given as goal

abbrev pub ghosts-split_room : goal.ghosts-split_room
ghosts-split_room a = record { room = a.room }
