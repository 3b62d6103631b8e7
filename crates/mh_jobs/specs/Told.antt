-- For proofs: no clause of a public function reaches these definitions.
-- What resolution answers.
use Rattle.std.specs.Prelude.{◌≡◌, Result, Ok, Err}
use Rattle.mh_base.specs.declared.memory.NoMemory.{NoMemory as OutOfMemory}
use Rattle.mh_values.specs.declared.value.Exc.{Exc}
use Rattle.mh_jobs.specs.declared.error.ResolutionError.{ResolutionError}
use Rattle.mh_jobs.specs.declared.error.ResolutionError.TheVariants.{NoMemory, Thrown}
use Rattle.mh_jobs.specs.Thrown.{OrThrown}

-- an exception that was made, or lack of memory for it
abbrev pub error_of : Result Exc OutOfMemory → ResolutionError
error_of (Ok e) = Thrown e
error_of (Err u) = NoMemory

-- this exception; about lack of memory nothing is said
abbrev pub Throws : ResolutionError → Exc → Type 0
Throws NoMemory e = Unit {0}
Throws (Thrown told) e = e ≡ told

-- the value, or what is thrown; about lack of memory nothing is said
abbrev pub TellsResolved : {A : Type 0} → Result A ResolutionError → OrThrown A → Type 0
TellsResolved (Ok a) meaning = meaning ≡ Ok a
TellsResolved (Err NoMemory) meaning = Unit {0}
TellsResolved (Err (Thrown e)) meaning = meaning ≡ Err e
