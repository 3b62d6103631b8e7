-- Answers of the parts of a line, compared with their meaning.
use Rattle.std.specs.Prelude.{◌≡◌, Result, Ok, Err}
use Rattle.mh_values.specs.declared.value.Exc.{Exc}
use Rattle.mh_tree.specs.declared.error.CheckError.{CheckError}
use Rattle.mh_tree.specs.declared.error.CheckError.TheVariants as check
use Rattle.mh_jobs.specs.Thrown.{OrThrown}

-- The answer is the value or the exception of the meaning. If memory runs out, it says nothing about the meaning.
abbrev pub Tells : {A : Type 0} → Result A CheckError → OrThrown A → Type 0
Tells (Ok a) meaning = meaning ≡ Ok a
Tells (Err (check.Refused e)) meaning = meaning ≡ Err e
Tells (Err check.NoMemory) meaning = Unit {0}

-- the error is this exception; if memory runs out, it says nothing
abbrev pub Throws : CheckError → Exc → Type 0
Throws (check.Refused told) e = e ≡ told
Throws check.NoMemory e = Unit {0}

-- the same for an answer that stands for a value by the relation `Is`
abbrev pub TellsBy : {A B : Type 0} → (A → B → Type 0) → Result A CheckError → OrThrown B → Type 0
TellsBy {A} {B} Is (Ok a) meaning = (b : B) × (meaning ≡ Ok b) × Is a b
TellsBy Is (Err (check.Refused e)) meaning = meaning ≡ Err e
TellsBy Is (Err check.NoMemory) meaning = Unit {0}
