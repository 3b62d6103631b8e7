-- The method type of a tree, or the exception that refuses it.
use Rattle.std.specs.Prelude.{ℕ, List, [], ◌∷◌, ◌++◌, length, slice_get, Result, Ok, Err}
use Rattle.mh_values.specs.declared.types.MethodTy.{MethodTy}
use Rattle.mh_values.specs.declared.value.Exc.{Exc}
use Rattle.mh_leaf.specs.LeafTable.{LeafTable}
use Rattle.mh_tree.specs.Tree.{Tree, Cases, weight, cases_weight}
use Rattle.mh_tree.specs.Tree as tree
use Rattle.mh_tree.specs.Rows.{TypeOrRefusal, leaf_row, constant_row, identity_row, throw_row, concat_row, bind_row, drop_row, permute_row, filter_row, filterret_row, fold_row, collect_row, spread_row, gather_row, astype_row, explicit_row, guard_row, catch_row, tryfinally_row, switch_row, counted_row}

-- continues with the type of a part, or is refused with the part's exception
abbrev pub with_type : TypeOrRefusal → (MethodTy → TypeOrRefusal) → TypeOrRefusal
with_type (Ok ty) next = next ty
with_type (Err e) next = Err e

-- types of trees, or the exception that refuses the first that is refused
abbrev pub TypesOrRefusal : Type 0
TypesOrRefusal = Result (List MethodTy) Exc

-- continues with the types of parts, or is refused with the exception of the first that is refused
abbrev pub with_types : TypesOrRefusal → (List MethodTy → TypeOrRefusal) → TypeOrRefusal
with_types (Ok tys) next = next tys
with_types (Err e) next = Err e

-- a type before others, unless one of them is refused
abbrev pub and_types : TypeOrRefusal → TypesOrRefusal → TypesOrRefusal
and_types (Ok ty) (Ok tys) = Ok (ty ∷ tys)
and_types (Ok ty) (Err e) = Err e
and_types (Err e) others = Err e

-- the types of trees, and of cases of switches
abbrev mutual
  -- the type of a tree over the leaves of a table
  pub type_of : LeafTable → Tree → TypeOrRefusal
  type_of table (tree.Leaf leaf) = leaf_row (slice_get table.leaves leaf.0)
  type_of table (tree.Constant ty value) = constant_row table.classes ty value
  type_of table (tree.Identity ty) = identity_row ty
  type_of table (tree.Throw ret class) = throw_row table.classes ret class
  type_of table (tree.Concat asked pieces) = concat_row table.classes asked pieces
  type_of table (tree.Bind target place value) = with_type (type_of table target) (λ ty. bind_row table.classes ty (weight target) place value)
  type_of table (tree.Drop target place types) = with_type (type_of table target) (λ ty. drop_row ty (weight target) place types)
  type_of table (tree.Permute target asked reorder) = with_type (type_of table target) (λ ty. permute_row ty (weight target) asked reorder)
  type_of table (tree.FilterArg target place filter) =
      with_type (type_of table target) (λ ty. with_type (type_of table filter) (λ part. filter_row ty (weight target) place part (weight filter)))
  type_of table (tree.FilterRet target filter) =
      with_type (type_of table target) (λ ty. with_type (type_of table filter) (λ part. filterret_row ty (weight target) part (weight filter)))
  type_of table (tree.Fold target place combiner) =
      with_type (type_of table target) (λ ty. with_type (type_of table combiner) (λ part. fold_row ty (weight target) place part (weight combiner)))
  type_of table (tree.Collect target place filter) =
      with_type (type_of table target) (λ ty. with_type (type_of table filter) (λ part. collect_row ty (weight target) place part (weight filter)))
  type_of table (tree.Spread target array count) = with_type (type_of table target) (λ ty. spread_row ty (weight target) array count)
  type_of table (tree.Gather target array count) = with_type (type_of table target) (λ ty. gather_row table.classes ty (weight target) array count)
  type_of table (tree.AsType target asked) = with_type (type_of table target) (λ ty. astype_row table.classes ty (weight target) asked)
  type_of table (tree.Explicit target asked) = with_type (type_of table target) (λ ty. explicit_row table.classes ty (weight target) asked)
  type_of table (tree.Guard test target fallback) =
      with_type (type_of table test) (λ test_ty. with_type (type_of table target) (λ ty. with_type (type_of table fallback) (λ fallback_ty.
      guard_row test_ty (weight test) ty (weight target) fallback_ty (weight fallback))))
  type_of table (tree.Catch target class handler) =
      with_type (type_of table target) (λ ty. with_type (type_of table handler) (λ handler_ty.
      catch_row table.classes ty (weight target) class handler_ty (weight handler)))
  type_of table (tree.TryFinally target cleanup) =
      with_type (type_of table target) (λ ty. with_type (type_of table cleanup) (λ part. tryfinally_row ty (weight target) part (weight cleanup)))
  type_of table (tree.Switch fallback cases) =
      with_type (type_of table fallback) (λ ty. with_types (types_of_cases table cases) (λ tys. switch_row ty (weight fallback) tys (cases_weight cases)))
  type_of table (tree.Counted iterations init body) =
      with_type (type_of table iterations) (λ counts. with_type (type_of table init) (λ starts. with_type (type_of table body) (λ turns.
      counted_row counts (weight iterations) starts (weight init) turns (weight body))))

  -- the types of cases
  pub types_of_cases : LeafTable → Cases → TypesOrRefusal
  types_of_cases table tree.no_cases = Ok []
  types_of_cases table (tree.one_case first others) = and_types (type_of table first) (types_of_cases table others)

-- how many parameters a type has: none if it is refused
abbrev pub arity_of : TypeOrRefusal → ℕ
arity_of (Ok ty) = length ty.params
arity_of (Err e) = 0

-- how many parameters a tree has
abbrev pub arity : LeafTable → Tree → ℕ
arity table t = arity_of (type_of table t)

-- a type before others, if there is one
abbrev pub held_before : TypeOrRefusal → List MethodTy → List MethodTy
held_before (Ok ty) others = ty ∷ others
held_before (Err e) others = others

-- the types of side parts of trees, and of cases of switches
abbrev mutual
  -- The types that a tree holds in addition to its own. A *side part* is a part that keeps a form of its own. It is a filter, combiner, test, branch, case,
  -- handler, cleanup, part of a loop, or target of a catch or of a cleanup. The list has the type of each side part, and those of that part's side parts after
  -- it.
  pub sides : LeafTable → Tree → List MethodTy
  sides table (tree.Bind target place value) = sides table target
  sides table (tree.Drop target place types) = sides table target
  sides table (tree.Permute target asked reorder) = sides table target
  sides table (tree.FilterArg target place filter) = sides table target ++ held_before (type_of table filter) (sides table filter)
  sides table (tree.FilterRet target filter) = sides table target ++ held_before (type_of table filter) (sides table filter)
  sides table (tree.Fold target place combiner) = sides table target ++ held_before (type_of table combiner) (sides table combiner)
  sides table (tree.Collect target place filter) = sides table target ++ held_before (type_of table filter) (sides table filter)
  sides table (tree.Spread target array count) = sides table target
  sides table (tree.Gather target array count) = sides table target
  sides table (tree.AsType target asked) = sides table target
  sides table (tree.Explicit target asked) = sides table target
  sides table (tree.Guard test target fallback) =
      held_before (type_of table test) (sides table test) ++ held_before (type_of table target) (sides table target)
      ++ held_before (type_of table fallback) (sides table fallback)
  sides table (tree.Catch target class handler) =
      held_before (type_of table target) (sides table target) ++ held_before (type_of table handler) (sides table handler)
  sides table (tree.TryFinally target cleanup) =
      held_before (type_of table target) (sides table target) ++ held_before (type_of table cleanup) (sides table cleanup)
  sides table (tree.Switch fallback cases) = held_before (type_of table fallback) (sides table fallback) ++ cases_held table cases
  sides table (tree.Counted iterations init body) =
      held_before (type_of table iterations) (sides table iterations) ++ held_before (type_of table init) (sides table init)
      ++ held_before (type_of table body) (sides table body)
  sides table _ = []

  -- the types that cases hold
  pub cases_held : LeafTable → Cases → List MethodTy
  cases_held table tree.no_cases = []
  cases_held table (tree.one_case first others) = held_before (type_of table first) (sides table first) ++ cases_held table others

-- the types that a tree holds: its own, then those of its side parts
abbrev pub held : LeafTable → Tree → List MethodTy
held table t = held_before (type_of table t) (sides table t)
