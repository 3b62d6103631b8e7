use Rattle.std.proofs.Common.{◌≡◌, ◌∙◌, sym, ap, subst, false, map, length, drop, length-drop, arith}
use Rattle.std.proofs.lemmas.List.{take_rest}
use Rattle.mh_values.specs.Descriptor.{bytes_of, pieces, method_of, method_meant, desc, unless_bad, TellsType}
use Rattle.mh_values.specs.ReadAs.{BeginsMethod}
use Rattle.mh_values.specs.Spelling.{IsMethodDescriptor}
use Rattle.mh_values.specs.TypeText.{method_type_text}
use Rattle.mh_values.proofs.ReadBy.{read_told, method_read}
use Rattle.mh_values.proofs.TypesRead.{pieces-bytes}
use Rattle.mh_values.proofs.descriptor.read_descriptor.Goals as goal

pub method_of-requires-clause-texts : goal.method_of-requires-clause-texts
method_of-requires-clause-texts c =
    let same : bytes_of (map (λ x. x.now) c.deref.result.now) ≡ length (drop 1 c.args.bytes.now) =
    ap (λ v. bytes_of (map (λ x. x.now) v)) c.deref.ensures.value ∙ ap bytes_of c.in_ok-texts.ensures
    ∙ ap (λ t. bytes_of (pieces false t)) (take_rest c.args.bytes.now 1) ∙ pieces-bytes false (drop 1 c.args.bytes.now) in
    omega (arith, length-drop 1 c.args.bytes.now)

pub returns-clause-read : goal.returns-clause-read
returns-clause-read c =
    let classes = c.args.classes.now in
    let text = c.args.bytes.now in
    let cut : map (λ x. x.now) c.deref.result.now ≡ pieces false (drop 1 text) =
    ap (λ v. map (λ x. x.now) v) c.deref.ensures.value ∙ c.in_ok-texts.ensures ∙ ap (pieces false) (take_rest text 1) in
    let meant : method_of classes (length text) (map (λ x. x.now) c.deref.result.now) ≡ desc classes text =
    ap (method_of classes (length text)) cut ∙ sym (ap (λ fault. unless_bad fault (method_meant classes text)) c.in_ok-descriptor_text.ensures.ok) in
    read_told IsMethodDescriptor (BeginsMethod classes) (method_type_text classes) classes text c.method_of.result (desc classes text)
    (subst (TellsType c.method_of.result) meant c.method_of.ensures) (method_read classes text)
