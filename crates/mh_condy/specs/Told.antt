-- Answers of the parts of a script, compared with their meaning.
use Rattle.std.specs.Prelude.{◌≡◌, Result, Ok, Err}
use Rattle.mh_values.specs.declared.value.Exc.{Exc}
use Rattle.mh_jobs.specs.Thrown.{OrThrown}
use Rattle.mh_condy.specs.declared.thrown.Failure.{Failure}
use Rattle.mh_condy.specs.declared.thrown.Failure.TheVariants.{NoMemory, Thrown}

-- the answer is the value or the exception of the meaning; if memory runs out, it says nothing about the meaning
abbrev pub Tells : {A : Type 0} → Result A Failure → OrThrown A → Type 0
Tells (Ok a) meaning = meaning ≡ Ok a
Tells (Err (Thrown e)) meaning = meaning ≡ Err e
Tells (Err NoMemory) meaning = Unit {0}

-- the failure is this exception; if memory runs out, it says nothing
abbrev pub Throws : Failure → Exc → Type 0
Throws (Thrown told) e = e ≡ told
Throws NoMemory e = Unit {0}
