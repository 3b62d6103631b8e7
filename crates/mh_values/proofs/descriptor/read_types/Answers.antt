use Rattle.std.proofs.Common.{◌≡◌, ◌∙◌, sym, ap, subst, false, map, flat_map, length, arith}
use Rattle.mh_values.specs.Descriptor.{bytes_of, pieces, types_meant, types_desc, unless_bad, TellsType}
use Rattle.mh_values.specs.ReadAs.{AreWritten}
use Rattle.mh_values.specs.Spelling.{AreTypeTexts}
use Rattle.mh_values.specs.TypeText.{type_text}
use Rattle.mh_values.proofs.ReadBy.{read_told, types_read}
use Rattle.mh_values.proofs.TypesRead.{pieces-bytes}
use Rattle.mh_values.proofs.descriptor.read_types.Goals as goal

pub types_of-requires : goal.types_of-requires
types_of-requires c =
    let same : bytes_of (map (λ x. x.now) c.deref.result.now) ≡ length c.args.bytes.now =
    ap (λ v. bytes_of (map (λ x. x.now) v)) c.deref.ensures.value ∙ ap bytes_of c.in_ok-texts.ensures ∙ pieces-bytes false c.args.bytes.now in
    omega arith

pub returns-clause-read : goal.returns-clause-read
returns-clause-read c =
    let classes = c.args.classes.now in
    let text = c.args.bytes.now in
    let meant : types_meant classes 0 (map (λ x. x.now) c.deref.result.now) ≡ types_desc classes text =
    ap (λ v. types_meant classes 0 (map (λ x. x.now) v)) c.deref.ensures.value ∙ ap (types_meant classes 0) c.in_ok-texts.ensures
    ∙ sym (ap (λ fault. unless_bad fault (types_meant classes 0 (pieces false text))) c.in_ok-types_text.ensures.ok) in
    read_told AreTypeTexts (AreWritten classes) (flat_map (type_text classes)) classes text c.types_of.result (types_desc classes text)
    (subst (TellsType c.types_of.result) meant c.types_of.ensures) (types_read classes text)
