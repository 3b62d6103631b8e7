-- The answers of functions that read a part of a class file and take memory.
use Rattle.std.specs.Prelude.{◌≡◌, Result, Ok, Err}
use Rattle.mh_class_bytes.specs.Position.{Position}
use Rattle.mh_class_bytes.specs.Bytes.{MovesOn}
use Rattle.mh_class_bytes.specs.Format.{Format, Checked, reads}
use Rattle.mh_class_pool.specs.declared.fault.ClassKind.{ClassKind}
use Rattle.mh_class_pool.specs.declared.fault.ClassError.{ClassError}
use Rattle.mh_class_pool.specs.declared.fault.ClassError.TheVariants as errors

-- an error is the fault that was to be found; about lack of memory nothing is said
abbrev pub Fails : {Y : Type 0} → ClassError → Checked ClassKind Y → Type 0
Fails errors.NoMemory checked = Unit {0}
Fails (errors.Fault f) checked = checked ≡ Err f

-- a function answered, seen by a view, what is to be found
abbrev pub Yields : {X Y : Type 0} → (X → Y) → Result X ClassError → Checked ClassKind Y → Type 0
Yields view (Ok x) checked = checked ≡ Ok (view x)
Yields view (Err e) checked = Fails e checked

-- a function that reads at a cursor answered, seen by a view, what is to be read of the format there, and only moved the cursor on
pub record Gives {X Y : Type 0} (view : X → Y) (result : Result X ClassError) (old new : Position) (format : Format ClassKind Y) : Type 0 where
  pub found : Yields (λ x. (view x, new)) result (reads format old)
  pub moves : MovesOn old new
