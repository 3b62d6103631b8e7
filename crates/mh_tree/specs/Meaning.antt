-- What a tree does with arguments of its types: a result or an exception, with the leaf calls that it makes in order.
use Rattle.std.specs.Prelude.{ℕ, zero, suc, pos, ◌-◌, true, false, List, [], ◌∷◌, ◌++◌, length, take, drop, if◌then◌else◌, Option, Some, slice_get, option_to_list, Result, Ok, Err}
use Rattle.mh_values.specs.declared.class.Class.{Class}
use Rattle.mh_values.specs.declared.types.Ty.{Ty}
use Rattle.mh_values.specs.declared.types.MethodTy.{MethodTy}
use Rattle.mh_values.specs.declared.value.Exc.{Exc}
use Rattle.mh_values.specs.declared.value.Num.TheVariants as num
use Rattle.mh_values.specs.declared.value.Value.{Value}
use Rattle.mh_values.specs.declared.value.Value.TheVariants as value
use Rattle.mh_values.specs.Array.{array_of, spread_values}
use Rattle.mh_values.specs.Class.{class_cast_class, null_pointer_class}
use Rattle.mh_values.specs.Computation.{Ran, Gave, Threw, Stuck, and_then, guarded, found, spliced, is_caught}
use Rattle.mh_leaf.specs.Ending.{bounded, ended_by, picked_by, turned}
use Rattle.mh_values.specs.Exception.{bare}
use Rattle.mh_values.specs.Same.{is_same_method_type}
use Rattle.std.specs.Option.{option_map}
use Rattle.mh_convert.specs.declared.conv.Rules.{Rules}
use Rattle.mh_convert.specs.declared.conv.Rules.TheVariants as rules
use Rattle.mh_convert.specs.Conversion.{conv, default_of, fit, ret_conversion_of, ret_conv}
use Rattle.mh_leaf.specs.LeafTable.{LeafTable}
use Rattle.mh_leaf.specs.Outcome.{leaf_mean, ran_of}
use Rattle.mh_pieces.specs.Joined.{joined}
use Rattle.mh_tree.specs.Tree.{Tree, Cases}
use Rattle.mh_tree.specs.Tree as tree
use Rattle.mh_tree.specs.Rows.{TypeOrRefusal, component_of, further, kept_by, mismatch}
use Rattle.mh_tree.specs.Typing.{type_of, arity}

-- how a call of a tree ends; a call whose return type is void returns no value
abbrev pub Done : Type 0
Done = Ran (Option Value)

-- continues with the type, if there is one
abbrev pub known : {A : Type 0} → TypeOrRefusal → (MethodTy → Ran A) → Ran A
known (Ok t) next = next t
known (Err e) next = Stuck

-- continues with the value, or throws the exception
abbrev pub or_throw : {A B : Type 0} → Result A Exc → (A → Ran B) → Ran B
or_throw (Ok a) next = next a
or_throw (Err e) next = Threw e []

-- continues with the value if it fits
abbrev pub fitted : {A : Type 0} → Result Value Exc → (Value → Ran A) → Ran A
fitted (Ok v) next = next v
fitted (Err e) next = Stuck

-- gives a value
abbrev pub giving : Value → Done
giving v = Gave (Some v) []

-- throws a value; null and a value that is no exception throw other exceptions instead
abbrev pub thrown : Value → Done
thrown (value.Thrown e) = Threw e []
thrown value.Null = Threw (bare null_pointer_class) []
thrown v = Threw (bare class_cast_class) []

-- the items of a list at these places, in the order of the places
abbrev pub picked : {A : Type 0} → List A → List ℕ → List A
picked xs [] = []
picked xs (i ∷ places) = option_to_list (slice_get xs i) ++ picked xs places

-- the arguments of a part: `count` of them from a place on
abbrev pub part_of : {A : Type 0} → ℕ → ℕ → List A → List A
part_of place count args = take count (drop place args)

-- a value before other values, unless one of these throws
abbrev pub value_and_more : Value → Result (List Value) Exc → Result (List Value) Exc
value_and_more v (Ok vs) = Ok (v ∷ vs)
value_and_more v (Err e) = Err e

-- a converted value, and then the others; the first exception ends
abbrev pub then_others : Result Value Exc → Result (List Value) Exc → Result (List Value) Exc
then_others (Ok v) others = value_and_more v others
then_others (Err e) others = Err e

-- arguments converted by the rules from left to right
abbrev pub conv_all : Rules → List Class → List Ty → List Ty → List Value → Result (List Value) Exc
conv_all by classes (s ∷ ss) (t ∷ ts) (v ∷ vs) = then_others (conv by classes s t v) (conv_all by classes ss ts vs)
conv_all by classes _ _ _ = Ok []

-- a result converted by the rules to what is asked for
abbrev pub conv_result : Rules → List Class → Option Ty → Option Ty → Option Value → Done
conv_result by classes s t r = found (ret_conversion_of by classes s t) (λ c. or_throw (ret_conv by classes c r) (λ v. Gave v []))

-- the first call if the test gave true, the second if it gave false
abbrev pub decided : Option Value → Done → Done → Done
decided (Some (value.Prim (num.Z true))) a b = a
decided (Some (value.Prim (num.Z false))) a b = b
decided _ a b = Stuck

-- what a number picks of a switch; anything but an int picks nothing
abbrev pub switched : Value → (ℕ → Done) → Done → Done
switched (value.Prim (num.I z)) pick other = picked_by z pick other
switched v pick other = Stuck

-- goes on with the turns of a loop, if the iterations gave an int that is at most the greatest number of turns
abbrev pub bounded_by : Option Value → (ℕ → Done) → Done
bounded_by (Some (value.Prim (num.I z))) next = bounded z next
bounded_by r next = Stuck

-- how many of the loop's arguments its body takes
abbrev pub further_count : TypeOrRefusal → ℕ
further_count (Ok ty) = length (further ty)
further_count (Err e) = 0

-- what trees, and cases of switches, do
abbrev mutual
  -- What a tree does with these arguments, after `n` earlier leaf calls. The number matters because a leaf of kind `tick` returns it.
  pub mean : LeafTable → Tree → List Value → ℕ → Done
  mean table (tree.Leaf leaf) args n = leaf_mean table leaf args n
  mean table (tree.Constant ty v) args n = found ty (λ ret. fitted (fit table.classes v ret) giving)
  mean table (tree.Identity ty) args n = found (slice_get args 0) giving
  mean table (tree.Throw ret class) args n = found (slice_get args 0) thrown
  mean table (tree.Concat asked pieces) args n = ran_of (joined table.classes pieces args) []
  mean table (tree.Bind target place v) args n =
      known (type_of table target) (λ ty. found (slice_get ty.params place) (λ parameter. fitted (fit table.classes v parameter) (λ bound.
      mean table target (spliced place 0 (bound ∷ []) args) n)))
  mean table (tree.Drop target place types) args n = mean table target (spliced place (length types) [] args) n
  mean table (tree.Permute target asked reorder) args n = mean table target (picked args reorder) n
  mean table (tree.FilterArg target place filter) args n =
      and_then (mean table filter (part_of place 1 args) n) n (λ r k. mean table target (spliced place 1 (option_to_list r) args) k)
  mean table (tree.FilterRet target filter) args n = and_then (mean table target args n) n (λ r k. mean table filter (option_to_list r) k)
  mean table (tree.Fold target place combiner) args n =
      and_then (mean table combiner (part_of place (arity table combiner) args) n) n (λ r k. mean table target (spliced place 0 (option_to_list r) args) k)
  mean table (tree.Collect target place filter) args n =
      and_then (mean table filter (part_of place (arity table filter) args) n) n
      (λ r k. mean table target (spliced place (arity table filter) (option_to_list r) args) k)
  mean table (tree.Spread target array count) args n =
      found (slice_get args (arity table target - count)) (λ v.
      and_then (spread_values count v) n (λ items k. mean table target (spliced (arity table target - count) 1 items args) k))
  mean table (tree.Gather target array count) args n =
      found (component_of array) (λ c.
      or_throw (array_of c (part_of (arity table target - 1) count args)) (λ v.
      mean table target (spliced (arity table target - 1) count (v ∷ []) args) n))
  mean table (tree.AsType target asked) args n =
      known (type_of table target) (λ ty.
      or_throw (conv_all rules.AsType table.classes asked.params ty.params args) (λ converted.
      and_then (mean table target converted n) n (λ r k. conv_result rules.AsType table.classes ty.ret asked.ret r)))
  mean table (tree.Explicit target asked) args n =
      known (type_of table target) (λ ty.
      or_throw (conv_all rules.Explicit table.classes asked.params ty.params args) (λ converted.
      and_then (mean table target converted n) n (λ r k. conv_result rules.Explicit table.classes ty.ret asked.ret r)))
  mean table (tree.Guard test target fallback) args n =
      and_then (mean table test (take (arity table test) args) n) n (λ r k. decided r (mean table target args k) (mean table fallback args k))
  mean table (tree.Catch target class handler) args n =
      guarded (mean table target args n) (is_caught table.classes class) n
      (λ e k. mean table handler (value.Thrown e ∷ take (arity table handler - 1) args) k)
  mean table (tree.TryFinally target cleanup) args n =
      known (type_of table target) (λ ty. known (type_of table cleanup) (λ part. ended_by (mean table target args n) n
      (λ r k. mean table cleanup (value.Null ∷ (option_to_list r ++ take (kept_by part ty.ret) args)) k)
      (λ e k. mean table cleanup (value.Thrown e ∷ (option_to_list (option_map default_of ty.ret) ++ take (kept_by part ty.ret) args)) k)))
  mean table (tree.Switch fallback cases) args n =
      found (slice_get args 0) (λ s. switched s (λ k. mean_case table cases k (mean table fallback args n) args n) (mean table fallback args n))
  mean table (tree.Counted iterations init body) args n =
      and_then (mean table iterations (take (arity table iterations) args) n) n (λ r k. bounded_by r (λ turns.
      and_then (mean table init (take (arity table init) args) k) k (λ v m.
      turned (λ j w l. mean table body (option_to_list w ++ (value.Prim (num.I (pos j)) ∷ take (further_count (type_of table body)) args)) l) 0 turns v m)))

  -- the case of a number, or something else if there is none
  pub mean_case : LeafTable → Cases → ℕ → Done → List Value → ℕ → Done
  mean_case table tree.no_cases number other args n = other
  mean_case table (tree.one_case first others) zero other args n = mean table first args n
  mean_case table (tree.one_case first others) (suc number) other args n = mean_case table others number other args n

-- a call, by the type `asked`, of a tree of type `ty`
abbrev pub exact_at : LeafTable → Tree → MethodTy → MethodTy → List Value → ℕ → Done
exact_at table t ty asked args n =
    if is_same_method_type ty asked then mean table t args n else Threw (mismatch table.classes ty asked) []

-- a call by a type that must be equal to the tree's (`MethodHandle.invokeExact`)
abbrev pub exact : LeafTable → Tree → MethodTy → List Value → ℕ → Done
exact table t asked args n = known (type_of table t) (λ ty. exact_at table t ty asked args n)

-- the call, unless the tree to be called is refused: then that exception
abbrev pub unless_refused : TypeOrRefusal → Done → Done
unless_refused (Ok t) run = run
unless_refused (Err e) run = Threw e []

-- a call of a tree of type `ty` by another type, to which `asType` converts the tree
abbrev pub generic_at : LeafTable → Tree → MethodTy → MethodTy → List Value → ℕ → Done
generic_at table t ty asked args n =
    if is_same_method_type ty asked then mean table t args n
    else unless_refused (type_of table (tree.AsType t asked)) (mean table (tree.AsType t asked) args n)

-- a call of a tree by any type, to which `asType` converts the tree (`MethodHandle.invoke`)
abbrev pub generic : LeafTable → Tree → MethodTy → List Value → ℕ → Done
generic table t asked args n = known (type_of table t) (λ ty. generic_at table t ty asked args n)
