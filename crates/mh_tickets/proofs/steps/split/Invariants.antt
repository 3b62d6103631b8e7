use Rattle.mh_tickets.proofs.steps.split.Given as goal

abbrev pub ghosts-cut_room : goal.ghosts-cut_room
ghosts-cut_room a = record { room = a.room }
