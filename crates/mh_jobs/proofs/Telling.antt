-- What is told of an exception that is thrown.
use Rattle.std.proofs.Common.{◌≡◌, refl, sym, ◌∙◌, ap, subst, List, ℕ, Result, Err}
use Rattle.mh_values.specs.declared.descriptor.DescriptorError.{DescriptorError}
use Rattle.mh_values.specs.declared.descriptor.DescriptorError.TheVariants as descriptor
use Rattle.mh_values.specs.declared.value.Exc.{Exc}
use Rattle.mh_values.specs.Descriptor.{TellsType}
use Rattle.mh_jobs.specs.declared.error.ResolutionError.{ResolutionError}
use Rattle.mh_jobs.specs.declared.error.ResolutionError.TheVariants.{NoMemory, Thrown}
use Rattle.mh_jobs.specs.Names.{meaning}
use Rattle.mh_jobs.specs.Thrown.{OrThrown, Says, no_type}
use Rattle.mh_jobs.specs.Told.{Throws, TellsResolved}

-- what is thrown is what was to be told
pub thrown-tells : {A : Type 0} (error : ResolutionError) (e : Exc) (m : OrThrown A) → m ≡ Err e → Throws error e → TellsResolved {A = A} (Err error) m
thrown-tells NoMemory e m h t = tt
thrown-tells (Thrown told) e m h t = h ∙ ap (λ x. Err x) t

-- a text that has no type
pub no_type-tells : {A : Type 0} (says : Says) (text : List ℕ) (meant : Result A DescriptorError) (bad : DescriptorError) (error : ResolutionError) →
    TellsType (Err bad) meant → (bad ≡ descriptor.NoMemory → error ≡ NoMemory) → Throws error (no_type says text bad) →
    TellsResolved {A = A} (Err error) (meaning says text meant)
no_type-tells {A} says text meant descriptor.NoMemory error h memory t =
    subst (λ (r : ResolutionError). TellsResolved {A = A} (Err r) (meaning says text meant)) (sym (memory refl)) tt
no_type-tells says text meant (descriptor.Bad at) error h memory t =
    thrown-tells error (no_type says text (descriptor.Bad at)) (meaning says text meant) (ap (λ m. meaning says text m) h) t
no_type-tells says text meant (descriptor.NoClass at len) error h memory t =
    thrown-tells error (no_type says text (descriptor.NoClass at len)) (meaning says text meant) (ap (λ m. meaning says text m) h) t
no_type-tells says text meant (descriptor.Unsupported at) error h memory t =
    thrown-tells error (no_type says text (descriptor.Unsupported at)) (meaning says text meant) (ap (λ m. meaning says text m) h) t
