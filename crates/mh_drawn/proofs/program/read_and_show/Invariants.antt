use Rattle.mh_drawn.specs.Reading.{given_by}
use Rattle.mh_drawn.proofs.program.read_and_show.Given as goal

-- the run's data are those that were read
abbrev pub ghosts-show : goal.ghosts-show
ghosts-show g a = record { given = given_by a.given.now }
