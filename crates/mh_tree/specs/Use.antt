-- Trees that are converted to another type before use (`MethodHandle.asType`, `MethodHandles.explicitCastArguments` and `MethodHandle.asSpreader`,
-- SE 17).
use Rattle.std.specs.Prelude.{ℕ, ◌+◌, ◌-◌, nat_le, List, ◌++◌, take, length, replicate, codes, if◌then◌else◌, Option, Ok}
use Rattle.std.specs.Option.{option_map_or}
use Rattle.mh_base.specs.Provided.{provided, provided_some}
use Rattle.mh_values.specs.declared.class.Class.{Class}
use Rattle.mh_values.specs.declared.types.Comp.{Comp}
use Rattle.mh_values.specs.declared.types.Ty.{Ty}
use Rattle.mh_values.specs.declared.types.MethodTy.{MethodTy}
use Rattle.mh_values.specs.Array.{item_type}
use Rattle.mh_values.specs.Same.{is_same_method_type}
use Rattle.mh_convert.specs.declared.conv.Rules.{Rules}
use Rattle.mh_convert.specs.declared.conv.Rules.TheVariants as rules
use Rattle.mh_tree.specs.Rows.{TypeOrRefusal, component_of, illegal, convert_row, spread_row}
use Rattle.mh_tree.specs.Tree.{Tree, converted}
use Rattle.mh_tree.specs.Typing.{with_type}

-- a tree converted by the rules to a type: the tree itself if it has that type
abbrev pub used_by : Rules → MethodTy → MethodTy → Tree → Tree
used_by by own asked t = if is_same_method_type own asked then t else converted by t asked

-- the type of a tree after this conversion, or the exception that refuses it
abbrev pub use_row_by : Rules → List Class → MethodTy → ℕ → MethodTy → TypeOrRefusal
use_row_by by classes own weight asked = if is_same_method_type own asked then Ok own else convert_row by classes own weight asked

-- a tree converted to a type as `asType` does
abbrev pub used_as : MethodTy → MethodTy → Tree → Tree
used_as own asked t = used_by rules.AsType own asked t

-- the type of a tree after that, or the exception that refuses it
abbrev pub use_row : List Class → MethodTy → ℕ → MethodTy → TypeOrRefusal
use_row classes own weight asked = use_row_by rules.AsType classes own weight asked

-- the weight of a tree after this conversion: one more if its type changes
abbrev pub use_weight : MethodTy → ℕ → MethodTy → ℕ
use_weight own weight asked = if is_same_method_type own asked then weight else 1 + weight

-- a type with items of an array in place of its last `count` parameters
abbrev pub taking_items : MethodTy → Comp → ℕ → MethodTy
taking_items t c count = record { params = take (length t.params - count) t.params ++ replicate count (item_type c); ret = t.ret }

-- a tree converted to the type that takes the items of an array
abbrev pub items_used_as : MethodTy → Option Ty → ℕ → Tree → Tree
items_used_as own array count t = option_map_or (λ c. used_as own (taking_items own c count) t) (component_of array) t

-- The rule of a spread: the type must be an array's, and the tree must have `count` parameters.
-- The tree is then converted to the type that takes the items, and the rule of Spread applies to that.
abbrev pub spread_use_row : List Class → MethodTy → ℕ → Option Ty → ℕ → TypeOrRefusal
spread_use_row classes t weight array count =
    provided_some (component_of array) (illegal (codes "spread")) (λ c.
    provided (nat_le count (length t.params)) (illegal (codes "spread"))
    (with_type (use_row classes t weight (taking_items t c count))
    (λ asked. spread_row asked (use_weight t weight (taking_items t c count)) array count)))
