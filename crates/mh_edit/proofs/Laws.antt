-- Each key's law holds of the body that it makes.
use Rattle.std.proofs.Common.{◌≡◌, subst, sym, Result, Ok, Err, IfOk, ◌-◌, ◌<◌, length, arith}
use Rattle.std.specs.Prelude.{IsTrue, not}
use Rattle.mh_base.specs.declared.memory.NoMemory.{NoMemory}
use Rattle.mh_form.specs.declared.basic.Basic.TheVariants as basic
use Rattle.mh_form.specs.declared.body.FormBody.{FormBody}
use Rattle.mh_edit.specs.Applied.{applied}
use Rattle.mh_edit.specs.Fit.{fits, is_nothing}
use Rattle.mh_edit.specs.Law.{Law}
use Rattle.mh_edit.specs.declared.key.Key.{Key}
use Rattle.mh_edit.specs.declared.key.Key.TheVariants.{LeafRoot, ConstRoot, IdentityRoot, ThrowRoot, GuardRoot, CatchRoot, TryRoot, SwitchRoot, LoopRoot, ConcatRoot, Bind, Add, Permute, Collect, Fold, FilterReturn, Convert, Spread, Gather}
use Rattle.mh_edit.proofs.Fitting.{first-true, second-true, at-most, below, same-number, is-parameter, takes-result, has-last}
use Rattle.mh_edit.proofs.Parameters.{law-Add, law-Bind, law-Permute}
use Rattle.mh_edit.proofs.Parts.{law-Collect, law-Fold}
use Rattle.mh_edit.proofs.Results.{law-FilterReturn}
use Rattle.mh_edit.proofs.Converted.{law-Convert}
use Rattle.mh_edit.proofs.RootEndings.{law-TryRoot, law-SwitchRoot, law-LoopRoot}
use Rattle.mh_edit.proofs.RootLaws.{law-LeafRoot, law-ConstRoot, law-IdentityRoot, law-ThrowRoot, law-GuardRoot, law-CatchRoot, law-ConcatRoot}
use Rattle.mh_edit.proofs.Arrays.{law-Spread, law-Gather}

pub law-applied : (key : Key) (body : FormBody) → IsTrue (fits key body) → Law key body (applied key body)
law-applied (LeafRoot shape) body h = law-LeafRoot shape body
law-applied (ConstRoot b) body h = law-ConstRoot b body
law-applied (IdentityRoot b) body h = law-IdentityRoot b body
law-applied (ThrowRoot ret) body h = law-ThrowRoot ret body
law-applied (GuardRoot shape test) body h = law-GuardRoot shape test body (at-most test (length shape.params) (second-true _ _ h))
law-applied (CatchRoot shape handler) body h = law-CatchRoot shape handler body
law-applied (TryRoot shape cleanup) body h = law-TryRoot shape cleanup body
law-applied (SwitchRoot shape count) body h = law-SwitchRoot shape count body
law-applied (LoopRoot shape iterations init turns) body h = law-LoopRoot shape iterations init turns body
law-applied (ConcatRoot shape) body h = law-ConcatRoot shape body
law-applied (Bind pos) body h = law-Bind pos body (below pos (length body.params) (second-true _ _ h))
law-applied (Add pos basics) body h = law-Add pos basics body (at-most pos (length body.params) (second-true _ _ h))
law-applied (Permute basics reorder) body h = law-Permute basics reorder body
law-applied (Collect pos basics ret) body h = law-Collect pos basics ret body (takes-result body.params pos ret (second-true _ _ h))
law-applied (Fold pos count ret) body h =
    let both = second-true _ _ h in
    law-Fold pos count ret body (takes-result body.params pos ret (first-true _ _ both)) (at-most _ _ (second-true _ _ both))
law-applied (FilterReturn ret) body h = law-FilterReturn ret body
law-applied (Convert es ret) body h = law-Convert es ret body (same-number _ _ (second-true _ _ h))
law-applied (Spread count b) body h = law-Spread count b body (has-last body.params count b (second-true _ _ h))
law-applied (Gather count b) body h =
    let last : length body.params - 1 < length body.params = is-parameter body.params (length body.params - 1) basic.L (second-true (not (is_nothing body)) _ h)
    in law-Gather count b body (omega arith)

pub law-made :
    (key : Key) (body : FormBody) (r : Result FormBody NoMemory) →
    IsTrue (fits key body) →
    IfOk r (λ new. new ≡ applied key body) →
    IfOk r (λ new. Law key body new)
law-made key body (Ok new) fit is = subst (λ v. Law key body v) (sym is) (law-applied key body fit)
law-made key body (Err e) fit is = is
