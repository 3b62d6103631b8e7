-- Basic types that are one.
use Rattle.std.proofs.Common.{◌≡◌, refl, true}
use Rattle.mh_form.specs.declared.basic.Basic.{Basic}
use Rattle.mh_form.specs.declared.basic.Basic.TheVariants as basic
use Rattle.mh_edit.specs.Fit.{is_same_basic}

pub same_basic-itself : (b : Basic) → is_same_basic b b ≡ true
same_basic-itself basic.L = refl
same_basic-itself basic.I = refl
same_basic-itself basic.J = refl
