use Rattle.std.proofs.Common.{◌≡◌, Some}
use Rattle.std.proofs.lemmas.Result.{on_ok_weaker, IfErr-weaker}
use Rattle.mh_values.specs.Grammar.{type_fault}
use Rattle.mh_values.specs.Spelling.{IsFirstBad, IsTypeText}
use Rattle.mh_values.proofs.FirstPlace.{type_first_bad}
use Rattle.mh_values.proofs.Sound.{type_sound}
use Rattle.mh_values.proofs.descriptor.field_descriptor_text.Goals as goal

pub returns-clause-accepted : goal.returns-clause-accepted
returns-clause-accepted c = on_ok_weaker c.text_from.result (type_sound c.args.bytes.now) c.text_from.ensures.ok

pub returns-clause-refused : goal.returns-clause-refused
returns-clause-refused c =
    IfErr-weaker c.text_from.result (λ bad. type_fault c.args.bytes.now ≡ Some bad.at) (λ bad. IsFirstBad IsTypeText c.args.bytes.now bad.at)
    (λ bad told. type_first_bad c.args.bytes.now bad.at told) c.text_from.ensures.bad
