-- What parts of a line answer, one after the other.
use Rattle.std.proofs.Common.{◌≡◌, refl, sym, ◌∙◌, ap, subst, List, ℕ, Result, Err}
use Rattle.mh_values.specs.declared.descriptor.DescriptorError.{DescriptorError}
use Rattle.mh_values.specs.declared.descriptor.DescriptorError.TheVariants as descriptor
use Rattle.mh_values.specs.declared.value.Exc.{Exc}
use Rattle.mh_values.specs.Descriptor.{TellsType}
use Rattle.mh_tree.specs.declared.error.CheckError.{CheckError}
use Rattle.mh_tree.specs.declared.error.CheckError.TheVariants.{NoMemory, Refused}
use Rattle.mh_jobs.specs.Names.{meaning}
use Rattle.mh_jobs.specs.Thrown.{OrThrown, Says, no_type}
use Rattle.mh_attempt.specs.Told.{Tells, TellsBy, Throws}

-- ---- what is thrown

-- what is thrown is what was to be told
pub throws-tells : {A : Type 0} (error : CheckError) (e : Exc) (m : OrThrown A) → m ≡ Err e → Throws error e → Tells {A = A} (Err error) m
throws-tells NoMemory e m h t = tt
throws-tells (Refused told) e m h t = h ∙ ap (λ x. Err x) t

pub throws-tells-by : {A B : Type 0} (Is : A → B → Type 0) (error : CheckError) (e : Exc) (m : OrThrown B) → m ≡ Err e → Throws error e →
    TellsBy {A = A} {B = B} Is (Err error) m
throws-tells-by Is NoMemory e m h t = tt
throws-tells-by Is (Refused told) e m h t = h ∙ ap (λ x. Err x) t

-- a text that has no type
pub no_type-tells : {A : Type 0} (says : Says) (text : List ℕ) (meant : Result A DescriptorError) (bad : DescriptorError) (error : CheckError) →
    TellsType (Err bad) meant → (bad ≡ descriptor.NoMemory → error ≡ NoMemory) → Throws error (no_type says text bad) →
    Tells {A = A} (Err error) (meaning says text meant)
no_type-tells {A} says text meant descriptor.NoMemory error h memory t =
    subst (λ (r : CheckError). Tells {A = A} (Err r) (meaning says text meant)) (sym (memory refl)) tt
no_type-tells says text meant (descriptor.Bad at) error h memory t =
    throws-tells error (no_type says text (descriptor.Bad at)) (meaning says text meant) (ap (λ m. meaning says text m) h) t
no_type-tells says text meant (descriptor.NoClass at len) error h memory t =
    throws-tells error (no_type says text (descriptor.NoClass at len)) (meaning says text meant) (ap (λ m. meaning says text m) h) t
no_type-tells says text meant (descriptor.Unsupported at) error h memory t =
    throws-tells error (no_type says text (descriptor.Unsupported at)) (meaning says text meant) (ap (λ m. meaning says text m) h) t
