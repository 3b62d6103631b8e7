use Rattle.mh_intern.proofs.serve.serve_listed.Given as goal

abbrev pub ghosts-raise_listed : goal.ghosts-raise_listed
ghosts-raise_listed a = record { hold = a.hold.now; count = 0; entries = a.entries.now }
