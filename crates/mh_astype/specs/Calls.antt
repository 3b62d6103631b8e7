-- The number of keys of the form that an exact or a generic call runs, and how a generic call changes a thread's work.
use Rattle.std.specs.Prelude.{◌≡◌, ℕ, ◌⊎◌, List, [], ◌∷◌, ◌++◌, length, if◌then◌else◌, Option, Some, None, Result, Ok, Err}
use Rattle.mh_values.specs.declared.class.Class.{Class}
use Rattle.mh_values.specs.declared.types.MethodTy.{MethodTy}
use Rattle.mh_values.specs.declared.value.Exc.{Exc}
use Rattle.mh_values.specs.Same.{is_same_method_type}
use Rattle.mh_leaf.specs.LeafTable.{LeafTable}
use Rattle.mh_tree.specs.Tree.{Tree, AsType}
use Rattle.mh_tree.specs.Rows.{TypeOrRefusal, astype_row}
use Rattle.mh_tree.specs.Typing.{type_of}
use Rattle.mh_edit.specs.declared.key.Key.{Key}
use Rattle.mh_handle.specs.declared.answer.Answer.{Answer}
use Rattle.mh_handle.specs.declared.error.EditError.{EditError}
use Rattle.mh_handle.specs.declared.error.EditError.TheVariants.{NoMemory, FormsFull}
use Rattle.mh_handle.specs.declared.work.Work.{Work}
use Rattle.mh_handle.specs.Form.{FormView}
use Rattle.mh_handle.specs.Passes.{AsksFor, DrawsAtMostOne, IsFormOf, LacksNumber, PutsAtMost, PutsAtMostOne}
use Rattle.mh_handle.specs.Recipe.{convert_keys, recipe}

-- a number that depends on a type: 0 if it is refused
abbrev pub at_type : TypeOrRefusal → (MethodTy → ℕ) → ℕ
at_type (Ok t) count = count t
at_type (Err e) count = 0

-- How many keys the form has that an exact call runs. It is 0 if the types differ, because the call then throws before it runs a form.
abbrev pub exact_keys : LeafTable → Tree → MethodTy → ℕ
exact_keys table t asked = at_type (type_of table t) (λ own. if is_same_method_type own asked then length (recipe table t) else 0)

-- how many keys the form has that a generic call runs: 0 if the type is refused
abbrev pub generic_keys : LeafTable → Tree → MethodTy → ℕ
generic_keys table t asked =
    at_type (type_of table t) (λ own.
    if is_same_method_type own asked then length (recipe table t)
    else at_type (type_of table (AsType t asked)) (λ u. length (recipe table (AsType t asked))))

-- these keys, or none if the type is refused
abbrev pub unless_refused : TypeOrRefusal → List Key → List Key
unless_refused (Ok t) keys = keys
unless_refused (Err e) keys = []

-- the key of the edit that a generic call makes: none if nothing is converted or the type is refused
abbrev pub call_keys : List Class → MethodTy → ℕ → MethodTy → List Key
call_keys classes own weight asked =
    if is_same_method_type own asked then [] else unless_refused (astype_row classes own weight asked) (convert_keys classes asked own)

-- The form of a recipe is asked for: the one that the pass has learnt by then. If the pass has put it into the table, it has the number drawn now.
abbrev pub AsksForRecipe : List Key → Work → Work → Type 0
AsksForRecipe keys old new =
    (f : FormView) × (f.recipe ≡ keys) × AsksFor f old.pass.now new.pass.now × IsFormOf keys new.pass.now f × PutsAtMost f old.pass.now new.pass.now

-- How a generic call changes the work if it adds these keys to a recipe. If there are none, it asks for no form.
abbrev pub AsksBy : List Key → List Key → Work → Work → Result Answer EditError → Type 0
AsksBy recipe [] old new (Err (FormsFull drawn)) = ⊥
AsksBy recipe [] old new answer = new ≡ old
AsksBy recipe (k ∷ keys) old new (Ok a) =
    AsksForRecipe (recipe ++ k ∷ keys) old new × DrawsAtMostOne (recipe ++ k ∷ keys) old.pass.now new.pass.now
AsksBy recipe (k ∷ keys) old new (Err NoMemory) =
    ((new.pass.now.asked ≡ old.pass.now.asked) ⊎ AsksForRecipe (recipe ++ k ∷ keys) old new)
    × DrawsAtMostOne (recipe ++ k ∷ keys) old.pass.now new.pass.now × PutsAtMostOne (recipe ++ k ∷ keys) old.pass.now new.pass.now
AsksBy recipe (k ∷ keys) old new (Err (FormsFull drawn)) = LacksNumber (recipe ++ k ∷ keys) drawn old.pass.now new.pass.now

-- the exception that refuses the conversion to a type, if it is refused
abbrev pub IsRefusal : TypeOrRefusal → MethodTy → Option Exc → Type 0
IsRefusal row asked (Some e) = row ≡ Err e
IsRefusal row asked None = row ≡ Ok asked
