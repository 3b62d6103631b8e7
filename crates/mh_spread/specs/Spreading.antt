-- Spreads of a handle: the handle is first converted to a type that takes the array's items.
use Rattle.std.specs.Prelude.{◌≡◌, ℕ, nat_le, ◌⊎◌, List, [], ◌++◌, length, true, Option, Some, Result, Ok, Err}
use Rattle.std.specs.Option.{option_map_or}
use Rattle.mh_values.specs.declared.class.Class.{Class}
use Rattle.mh_values.specs.declared.types.Ty.{Ty}
use Rattle.mh_values.specs.declared.types.MethodTy.{MethodTy}
use Rattle.mh_values.specs.Array.{item_type}
use Rattle.mh_tree.specs.Rows.{component_of, spread_row}
use Rattle.mh_tree.specs.Tree.{Tree}
use Rattle.mh_tree.specs.Tree as tree
use Rattle.mh_tree.specs.Use.{items_used_as, use_row, use_weight, taking_items, spread_use_row}
use Rattle.mh_tree.specs.declared.error.CheckError.{CheckError}
use Rattle.mh_tree.specs.declared.error.CheckError.TheVariants as check
use Rattle.mh_form.specs.Erasure.{basic_of}
use Rattle.mh_edit.specs.declared.key.Key.{Key}
use Rattle.mh_edit.specs.declared.key.Key.TheVariants as key
use Rattle.mh_handle.specs.declared.error.HandleError.{HandleError}
use Rattle.mh_handle.specs.declared.error.HandleError.TheVariants.{Refused}
use Rattle.mh_handle.specs.declared.handle.Handle.{Handle}
use Rattle.mh_handle.specs.declared.work.Work.{Work}
use Rattle.mh_handle.specs.Recipe.{at_some, recipe}
use Rattle.mh_handle.specs.Works.{IsUnchanged, Makes, types_in}
use Rattle.mh_spread.specs.declared.spreading.Spreading.{Spreading}
use Rattle.mh_astype.specs.Use.{MakesFrom, used_types}

-- a spread: the array's component, the type that the handle is converted to, and the type of the new handle
pub record IsSpreading (classes : List Class) (t : MethodTy) (weight : ℕ) (array : Option Ty) (count : ℕ) (s : Spreading) : Type 0 where
  pub component : component_of array ≡ Some s.component
  pub within : nat_le count (length t.params) ≡ true
  pub asked : s.asked ≡ taking_items t s.component count
  pub used : use_row classes t weight s.asked ≡ Ok s.asked
  pub own : spread_row s.asked (use_weight t weight s.asked) array count ≡ Ok s.own

-- The answer is the spread, or the rule's refusal. If memory runs out, it says nothing about the rule.
abbrev pub TellsSpreading : List Class → MethodTy → ℕ → Option Ty → ℕ → Result Spreading CheckError → Type 0
TellsSpreading classes t weight array count (Ok s) = IsSpreading classes t weight array count s
TellsSpreading classes t weight array count (Err (check.Refused e)) = spread_use_row classes t weight array count ≡ Err e
TellsSpreading classes t weight array count (Err check.NoMemory) = Unit {0}

-- the types of the nodes that a spread makes: the type that takes the items, if it is another one, and that of the spread
abbrev pub spread_types : List Class → MethodTy → ℕ → Option Ty → ℕ → List MethodTy
spread_types classes t weight array count =
    option_map_or (λ c. used_types classes t weight (taking_items t c count)) (component_of array) [] ++ types_in (spread_use_row classes t weight array count)

-- the key of a spread of an array type's items: none if the type is no array
abbrev pub spread_keys : Option Ty → ℕ → List Key
spread_keys array count = at_some (component_of array) (λ c. key.Spread count (basic_of (item_type c)))

-- the weight after a conversion to a type, or the rule's refusal
abbrev pub TellsUse : List Class → MethodTy → ℕ → MethodTy → Result ℕ CheckError → Type 0
TellsUse classes t weight asked (Ok n) = (use_row classes t weight asked ≡ Ok asked) × (n ≡ use_weight t weight asked)
TellsUse classes t weight asked (Err (check.Refused e)) = use_row classes t weight asked ≡ Err e
TellsUse classes t weight asked (Err check.NoMemory) = Unit {0}

-- How two edits change the work: from one recipe to a second, unless they are equal, and then to a third.
-- Either the first edit fails, or it succeeds and the second one follows.
abbrev pub MakesBoth : List Key → List Key → List Key → Work → Work → Result Handle HandleError → Type 0
MakesBoth first second third old new (Ok h) = (mid : Work) × (g : Handle) × MakesFrom first second old mid (Ok g) × Makes third mid new (Ok h)
MakesBoth first second third old new (Err (Refused e)) = IsUnchanged old new
MakesBoth first second third old new (Err e) =
    MakesFrom first second old new (Err e) ⊎ ((mid : Work) × (g : Handle) × MakesFrom first second old mid (Ok g) × Makes third mid new (Err e))

-- How the spread of a tree of this type changes the work: by the edit of its conversion to the type that takes the items, and the spread's edit.
abbrev pub MakesSpread : MethodTy → Option Ty → ℕ → Tree → Work → Work → Result Handle HandleError → Type 0
MakesSpread own array count t old new result =
    MakesBoth (recipe old.leaves.now t) (recipe old.leaves.now (items_used_as own array count t))
    (recipe old.leaves.now (tree.Spread (items_used_as own array count t) array count)) old new result
