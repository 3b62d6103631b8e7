-- What goes well that is made of parts: each part goes well.
use Rattle.std.proofs.Common.{◌≡◌, refl, Bool, true, false, Ok, Err}
use Rattle.mh_values.specs.declared.value.Exc.{Exc}
use Rattle.mh_jobs.specs.Thrown.{OrThrown, ◌>>=◌, ◌>>◌, require}

-- a value, and what goes on with it
pub bound-parts : {A B : Type 0} (m : OrThrown A) (next : A → OrThrown B) (b : B) → (m >>= next) ≡ Ok b → (a : A) × (m ≡ Ok a) × (next a ≡ Ok b)
bound-parts (Ok a) next b h = (a, refl, h)
bound-parts (Err e) next b h = absurd cc

-- a condition, and what goes on where it holds
pub require-parts : {A : Type 0} (holds : Bool) (e : Exc) (next : OrThrown A) (a : A) → (require holds e >> next) ≡ Ok a → (holds ≡ true) × (next ≡ Ok a)
require-parts true e next a h = (refl, h)
require-parts false e next a h = absurd cc
