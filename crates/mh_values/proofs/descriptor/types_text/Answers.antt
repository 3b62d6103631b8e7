use Rattle.std.proofs.Common.{◌≡◌, Some}
use Rattle.std.proofs.lemmas.Result.{on_ok_weaker, IfErr-weaker}
use Rattle.mh_values.specs.Grammar.{types_fault}
use Rattle.mh_values.specs.Spelling.{IsFirstBad, AreTypeTexts}
use Rattle.mh_values.proofs.FirstPlace.{types_first_bad}
use Rattle.mh_values.proofs.Sound.{types_sound}
use Rattle.mh_values.proofs.descriptor.types_text.Goals as goal

pub returns-clause-accepted : goal.returns-clause-accepted
returns-clause-accepted c = on_ok_weaker c.text_from.result (types_sound c.args.bytes.now) c.text_from.ensures.ok

pub returns-clause-refused : goal.returns-clause-refused
returns-clause-refused c =
    IfErr-weaker c.text_from.result (λ bad. types_fault c.args.bytes.now ≡ Some bad.at) (λ bad. IsFirstBad AreTypeTexts c.args.bytes.now bad.at)
    (λ bad told. types_first_bad c.args.bytes.now bad.at told) c.text_from.ensures.bad
