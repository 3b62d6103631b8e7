use Rattle.mh_values.specs.Descriptor.{desc}
use Rattle.mh_jobs.specs.Thrown.{plainly}
use Rattle.mh_attempt.proofs.nodes.Telling.{no_type-tells}
use Rattle.mh_attempt.proofs.names.method_type_of_text.Goals as goal

pub returns-in-Err : goal.returns-in-Err
returns-in-Err c =
    let bad = c.in-Err in
    let text = c.args.text.now in
    no_type-tells plainly text (desc c.args.classes.now text) bad.error c.no_type.result bad.ensures.tells c.no_type.ensures.memory c.no_type.ensures.thrown
