use Rattle.mh_intern.proofs.serve.send_request.Given as goal

abbrev pub ghosts-request : goal.ghosts-request
ghosts-request a = record { wanted = a.ty.now }
