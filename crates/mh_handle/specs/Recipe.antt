-- The recipe of a tree: the keys of the form of each handle that stands for the tree.
use Rattle.std.specs.Prelude.{ℕ, ◌-◌, Bool, true, ◌&&◌, List, [], ◌∷◌, ◌++◌, length, map, if◌then◌else◌, Option, Some, None, Ok, Err}
use Rattle.mh_values.specs.declared.class.Class.{Class}
use Rattle.mh_values.specs.declared.types.Ty.{Ty}
use Rattle.mh_values.specs.declared.types.MethodTy.{MethodTy}
use Rattle.mh_values.specs.Array.{item_type}
use Rattle.mh_convert.specs.Conversion.{is_trivial, is_trivial_ret}
use Rattle.mh_leaf.specs.LeafTable.{LeafTable}
use Rattle.mh_tree.specs.Tree.{Tree, cases_count}
use Rattle.mh_tree.specs.Tree as tree
use Rattle.mh_tree.specs.Rows.{TypeOrRefusal, component_of, further, kept_by, loop_params, taking}
use Rattle.mh_tree.specs.Typing.{type_of}
use Rattle.mh_form.specs.declared.basic.Basic.{Basic}
use Rattle.mh_form.specs.Erasure.{basic_of, basic_ret_of, shape_of}
use Rattle.mh_edit.specs.declared.key.Key.{Key}
use Rattle.mh_edit.specs.declared.key.Key.TheVariants as key
use Rattle.mh_edit.specs.declared.key.RetEntry.{RetEntry}
use Rattle.mh_edit.specs.declared.key.RetEntry.TheVariants as entry

-- the keys that depend on a type: none if the type is refused
abbrev pub at_type : TypeOrRefusal → (MethodTy → List Key) → List Key
at_type (Ok t) keys = keys t
at_type (Err e) keys = []

-- the key that depends on an optional part: none if it is missing
abbrev pub at_some : {A : Type 0} → Option A → (A → Key) → List Key
at_some (Some a) key = key a ∷ []
at_some None key = []

-- for each parameter its new basic type, or `None` if the conversion changes nothing
abbrev pub entries_of : List Class → List Ty → List Ty → List (Option Basic)
entries_of classes (s ∷ ss) (t ∷ ts) = (if is_trivial classes s t then None else Some (basic_of s)) ∷ entries_of classes ss ts
entries_of classes _ _ = []

-- what becomes of the result: it stays as it is if the conversion changes nothing
abbrev pub ret_entry_of : List Class → Option Ty → Option Ty → RetEntry
ret_entry_of classes s t = if is_trivial_ret classes s t then entry.Keep else entry.New (basic_ret_of t)

-- no conversion of these parameters changes anything
abbrev pub are_trivial : List Class → List Ty → List Ty → Bool
are_trivial classes (s ∷ ss) (t ∷ ts) = is_trivial classes s t && are_trivial classes ss ts
are_trivial classes _ _ = true

-- the key of a conversion to a type, or none if nothing changes
abbrev pub convert_keys : List Class → MethodTy → MethodTy → List Key
convert_keys classes asked t =
    if are_trivial classes asked.params t.params && is_trivial_ret classes t.ret asked.ret then []
    else key.Convert (entries_of classes asked.params t.params) (ret_entry_of classes t.ret asked.ret) ∷ []

-- the key of a part that runs on its own arguments, with its result in their place
abbrev pub collect_keys : ℕ → MethodTy → List Key
collect_keys place part = key.Collect place (map basic_of part.params) (basic_ret_of part.ret) ∷ []

-- the key of a part of this type with its cleanup
abbrev pub try_key : MethodTy → MethodTy → Key
try_key t cleanup = key.TryRoot (shape_of t) (kept_by cleanup t.ret)

-- the key of a switch whose parts have this type
abbrev pub switch_key : MethodTy → ℕ → Key
switch_key t count = key.SwitchRoot (shape_of t) count

-- the key of a loop whose parts have these types
abbrev pub loop_key : MethodTy → MethodTy → MethodTy → Key
loop_key iterations init body =
    key.LoopRoot (shape_of (taking (loop_params iterations body) body)) (length iterations.params) (length init.params) (length (further body))

-- The keys of a tree: those of its target, and then its own. If all parts are side parts, as those of a guard, the tree has a root of its own.
abbrev pub recipe : LeafTable → Tree → List Key
recipe table (tree.Leaf l) = at_type (type_of table (tree.Leaf l)) (λ ty. key.LeafRoot (shape_of ty) ∷ [])
recipe table (tree.Constant ty v) = at_some ty (λ r. key.ConstRoot (basic_of r))
recipe table (tree.Identity ty) = at_some ty (λ r. key.IdentityRoot (basic_of r))
recipe table (tree.Throw ret class) = key.ThrowRoot (basic_ret_of ret) ∷ []
recipe table (tree.Concat asked pieces) = key.ConcatRoot (shape_of asked) ∷ []
recipe table (tree.Bind target place v) = recipe table target ++ key.Bind place ∷ []
recipe table (tree.Drop target place types) = recipe table target ++ key.Add place (map basic_of types) ∷ []
recipe table (tree.Permute target asked reorder) = recipe table target ++ key.Permute (map basic_of asked.params) reorder ∷ []
recipe table (tree.FilterArg target place filter) = recipe table target ++ at_type (type_of table filter) (collect_keys place)
recipe table (tree.FilterRet target filter) =
    recipe table target ++ at_type (type_of table filter) (λ part. key.FilterReturn (basic_ret_of part.ret) ∷ [])
recipe table (tree.Fold target place combiner) =
    recipe table target ++ at_type (type_of table combiner) (λ part. key.Fold place (length part.params) (basic_ret_of part.ret) ∷ [])
recipe table (tree.Collect target place filter) = recipe table target ++ at_type (type_of table filter) (collect_keys place)
recipe table (tree.Spread target array count) =
    recipe table target ++ at_some (component_of array) (λ component. key.Spread count (basic_of (item_type component)))
recipe table (tree.Gather target array count) =
    recipe table target ++ at_some (component_of array) (λ component. key.Gather count (basic_of (item_type component)))
recipe table (tree.AsType target asked) = recipe table target ++ at_type (type_of table target) (convert_keys table.classes asked)
recipe table (tree.Explicit target asked) = recipe table target ++ at_type (type_of table target) (convert_keys table.classes asked)
recipe table (tree.Guard test target fallback) =
    at_type (type_of table target) (λ ty. at_type (type_of table test) (λ test_ty. key.GuardRoot (shape_of ty) (length test_ty.params) ∷ []))
recipe table (tree.Catch target class handler) =
    at_type (type_of table target) (λ ty. at_type (type_of table handler) (λ handler_ty. key.CatchRoot (shape_of ty) (length handler_ty.params - 1) ∷ []))
recipe table (tree.TryFinally target cleanup) =
    at_type (type_of table target) (λ ty. at_type (type_of table cleanup) (λ part. try_key ty part ∷ []))
recipe table (tree.Switch fallback cases) = at_type (type_of table fallback) (λ ty. switch_key ty (cases_count cases) ∷ [])
recipe table (tree.Counted iterations init body) =
    at_type (type_of table iterations) (λ counts. at_type (type_of table init) (λ starts. at_type (type_of table body) (λ turns.
    loop_key counts starts turns ∷ [])))
