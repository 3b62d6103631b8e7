use Rattle.mh_words.specs.Words.{held_names}
use Rattle.mh_main.specs.Stops.{ReachesInput}
use Rattle.mh_main.proofs.GeneratedInput.{generated_stops}
use Rattle.mh_generated.specs.Files.{files_of}
use Rattle.mh_main.proofs.generated.read_generated.Goals as goal

pub returns-clause-memory : goal.returns-clause-memory
returns-clause-memory c =
    generated_stops c.read_program.result c.args.number c.in_ok-files.files.number (held_names c.in_ok-names.names)
    (ReachesInput (held_names c.in_ok-names.names) (files_of c.in_ok-files.files.number)) c.in_ok-names.ensures c.in_ok-files.ensures
    c.read_program.ensures.stop c.read_program.ensures.refuses
