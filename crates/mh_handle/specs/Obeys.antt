-- A call that makes a handle obeys the rule of its combinator.
use Rattle.std.specs.Prelude.{◌≡◌, Result, Ok, Err}
use Rattle.mh_values.specs.declared.types.MethodTy.{MethodTy}
use Rattle.mh_tree.specs.Rows.{TypeOrRefusal}
use Rattle.mh_handle.specs.declared.error.HandleError.{HandleError}
use Rattle.mh_handle.specs.declared.error.HandleError.TheVariants.{NoMemory, FormsFull, TypesFull, Refused}
use Rattle.mh_handle.specs.declared.handle.Handle.{Handle}

-- the rule refuses nothing
abbrev pub GivesType : TypeOrRefusal → Type 0
GivesType row = (t : MethodTy) × (row ≡ Ok t)

-- The answer is a handle of the rule's type, or the rule's refusal. A table is full only if the rule gives a type.
-- If memory runs out, the answer says nothing about the rule.
abbrev pub Obeys : TypeOrRefusal → Result Handle HandleError → Type 0
Obeys row (Ok h) = row ≡ Ok h.ty
Obeys row (Err (Refused e)) = row ≡ Err e
Obeys row (Err (FormsFull drawn)) = GivesType row
Obeys row (Err (TypesFull bucket)) = GivesType row
Obeys row (Err NoMemory) = Unit {0}
