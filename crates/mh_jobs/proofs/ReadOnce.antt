-- Descriptors that were read, and one more.
use Rattle.std.proofs.Common.{◌≡◌, sym, ◌∙◌, ap, subst, inl, inr, ℕ, cond, List, Some}
use Rattle.std.proofs.lemmas.Bool.{cases_Bool}
use Rattle.std.proofs.lemmas.Slice.Eq.{bytes_eq-Decides}
use Rattle.std.specs.BTreeMap.{BTreeMap}
use Rattle.std.specs.Global.{Vec}
use Rattle.std.specs.Str.{bytes_eq}
use Rattle.mh_base.specs.TextMaps.{at_text, WritesText}
use Rattle.mh_base.proofs.Inversion.{some_is}
use Rattle.mh_values.specs.declared.class.Class.{Class}
use Rattle.mh_values.specs.declared.types.MethodTy.{MethodTy}
use Rattle.mh_script.proofs.Nested.{at_text-written}
use Rattle.mh_jobs.specs.Names.{method_type_of_text}
use Rattle.mh_jobs.specs.Thrown.{OrThrown, as_shown}
use Rattle.mh_jobs.specs.Types.{AreTypes}

-- a descriptor that is read and kept
pub types-more : (classes : List Class) (old new : BTreeMap (Vec ℕ) (OrThrown MethodTy)) (key : List ℕ) (ty : OrThrown MethodTy) →
    AreTypes classes old → WritesText old new key (Some ty) → ty ≡ method_type_of_text as_shown classes key → AreTypes classes new
types-more classes old new key ty are put is text t h =
    let there = at_text-written old new key text (Some ty) put in
    elim (cases_Bool (bytes_eq key text)) [
      | inl e ↦
          let same : key ≡ text = (bytes_eq-Decides key text).0 e in
          let kept : Some ty ≡ Some t = sym (there ∙ ap (λ b. cond b (Some ty) (at_text old text)) e) ∙ h in
          subst (λ l. t ≡ method_type_of_text as_shown classes l) same (sym (some_is ty t kept) ∙ is)
      | inr e ↦ are text t (sym (there ∙ ap (λ b. cond b (Some ty) (at_text old text)) e) ∙ h)
    ]
