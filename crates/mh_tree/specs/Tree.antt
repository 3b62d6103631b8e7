-- Trees of combinators (`java.lang.invoke.MethodHandles`, `MethodHandle.asType` and `StringConcatFactory`, SE 17).
use Rattle.std.specs.Prelude.{ℕ, suc, ◌+◌, List, [], ◌∷◌, Option}
use Rattle.mh_values.specs.declared.class.ClassId.{ClassId}
use Rattle.mh_values.specs.declared.types.Ty.{Ty}
use Rattle.mh_values.specs.declared.types.MethodTy.{MethodTy}
use Rattle.mh_values.specs.declared.value.LeafId.{LeafId}
use Rattle.mh_values.specs.declared.value.Value.{Value}
use Rattle.mh_convert.specs.declared.conv.Rules.{Rules}
use Rattle.mh_convert.specs.declared.conv.Rules.TheVariants as rules
use Rattle.mh_pieces.specs.declared.piece.Piece.{Piece}

mutual
  -- A leaf, a concatenation, or a combinator with the trees of its parts. A type that is an `Option` is `None` if it is void.
  pub data Tree : Type 0 where
    Leaf : (leaf : LeafId) → Tree
    Constant : (ty : Option Ty) (value : Value) → Tree
    Identity : (ty : Option Ty) → Tree
    Throw : (ret : Option Ty) (class : ClassId) → Tree
    Concat : (ty : MethodTy) (pieces : List Piece) → Tree
    Bind : (target : Tree) (place : ℕ) (value : Value) → Tree
    Drop : (target : Tree) (place : ℕ) (types : List Ty) → Tree
    Permute : (target : Tree) (ty : MethodTy) (reorder : List ℕ) → Tree
    FilterArg : (target : Tree) (place : ℕ) (filter : Tree) → Tree
    FilterRet : (target : Tree) (filter : Tree) → Tree
    Fold : (target : Tree) (place : ℕ) (combiner : Tree) → Tree
    Collect : (target : Tree) (place : ℕ) (filter : Tree) → Tree
    Spread : (target : Tree) (array : Option Ty) (count : ℕ) → Tree
    Gather : (target : Tree) (array : Option Ty) (count : ℕ) → Tree
    AsType : (target : Tree) (ty : MethodTy) → Tree
    Explicit : (target : Tree) (ty : MethodTy) → Tree
    Guard : (test target fallback : Tree) → Tree
    Catch : (target : Tree) (class : ClassId) (handler : Tree) → Tree
    TryFinally : (target cleanup : Tree) → Tree
    Switch : (fallback : Tree) (cases : Cases) → Tree
    Counted : (iterations init body : Tree) → Tree

  -- the cases of a switch, from the first on
  pub data Cases : Type 0 where
    no_cases : Cases
    one_case : (first : Tree) (others : Cases) → Cases

-- the weight of trees, and of cases of switches
abbrev mutual
  -- One more than the weights of the parts. A loop weighs so much that no loop can be a part of another.
  pub weight : Tree → ℕ
  weight (Bind target place value) = 1 + weight target
  weight (Drop target place types) = 1 + weight target
  weight (Permute target ty reorder) = 1 + weight target
  weight (FilterArg target place filter) = 1 + weight target + weight filter
  weight (FilterRet target filter) = 1 + weight target + weight filter
  weight (Fold target place combiner) = 1 + weight target + weight combiner
  weight (Collect target place filter) = 1 + weight target + weight filter
  weight (Spread target array count) = 1 + weight target
  weight (Gather target array count) = 1 + weight target
  weight (AsType target ty) = 1 + weight target
  weight (Explicit target ty) = 1 + weight target
  weight (Guard test target fallback) = 1 + weight test + weight target + weight fallback
  weight (Catch target class handler) = 1 + weight target + weight handler
  weight (TryFinally target cleanup) = 1 + weight target + weight cleanup
  weight (Switch fallback cases) = 1 + weight fallback + cases_weight cases
  weight (Counted iterations init body) = 126 + weight iterations + weight init + weight body
  weight _ = 1

  -- the weights of cases
  pub cases_weight : Cases → ℕ
  cases_weight no_cases = 0
  cases_weight (one_case first others) = weight first + cases_weight others

-- how many cases there are
abbrev pub cases_count : Cases → ℕ
cases_count no_cases = 0
cases_count (one_case first others) = suc (cases_count others)

-- trees as cases
abbrev pub cases_of : List Tree → Cases
cases_of [] = no_cases
cases_of (t ∷ ts) = one_case t (cases_of ts)

-- a tree converted to a type by the rules
abbrev pub converted : Rules → Tree → MethodTy → Tree
converted rules.AsType target ty = AsType target ty
converted rules.Explicit target ty = Explicit target ty
