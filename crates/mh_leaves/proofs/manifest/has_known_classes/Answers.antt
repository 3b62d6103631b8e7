use Rattle.std.proofs.Common.{◌≡◌, ◌∙◌, sym, false, Result, Ok, Err, OnOk, is_err}
use Rattle.std.proofs.lemmas.Result.{IfOk-weaker}
use Rattle.mh_values.specs.Spelling.{IsMethodDescriptor}
use Rattle.mh_leaves.specs.Manifest.{knows_names}
use Rattle.mh_leaves.specs.Names.{KnowsNames}
use Rattle.mh_leaves.proofs.KnownNames.{names_known}
use Rattle.mh_leaves.proofs.manifest.has_known_classes.Goals as goal

ok_holds : {T E : Type 0} (r : Result T E) (P : Type 0) → OnOk r P → is_err r ≡ false → P
ok_holds (Ok t) P holds ok = holds
ok_holds (Err e) P holds ok = absurd cc

pub returns-clause-names : goal.returns-clause-names
returns-clause-names c =
    let classes = c.args.classes.now in
    let text = c.args.descriptor.now in
    let is : IsMethodDescriptor text =
    ok_holds c.descriptor_text.result (IsMethodDescriptor text) c.descriptor_text.ensures.accepted (sym c.if-is_err.ensures.value) in
    IfOk-weaker c.knows_names.result (λ known. known ≡ knows_names classes text) (λ known. KnowsNames classes text known)
    (λ known told. record { descriptor = λ d. told ∙ names_known classes text d; other = λ none. absurd (none is) }) c.knows_names.ensures
