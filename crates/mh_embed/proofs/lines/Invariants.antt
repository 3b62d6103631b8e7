use Rattle.mh_runtime.specs.Input.{given_by}
use Rattle.mh_embed.proofs.lines.Given as goal

abbrev pub ghosts-link_and_call : goal.ghosts-link_and_call
ghosts-link_and_call g a = record { given = given_by a.input.now }
