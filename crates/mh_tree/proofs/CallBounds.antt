-- A call of a tree makes no more leaf calls than `most_calls` says.
use Rattle.std.proofs.Common.{ℕ, zero, suc, ◌+◌, ◌*◌, ◌-◌, max, pos, List, [], ◌∷◌, ◌++◌, take, length, Option, arith}
use Rattle.std.specs.Prelude.{option_to_list, slice_get}
use Rattle.std.specs.Option.{option_map}
use Rattle.mh_values.specs.declared.types.MethodTy.{MethodTy}
use Rattle.mh_values.specs.declared.value.Exc.{Exc}
use Rattle.mh_values.specs.declared.value.Num.TheVariants as num
use Rattle.mh_values.specs.declared.value.Value.{Value}
use Rattle.mh_values.specs.declared.value.Value.TheVariants as value
use Rattle.mh_values.specs.Array.{array_of, spread_values}
use Rattle.mh_values.specs.Computation.{and_then, found, spliced, is_caught}
use Rattle.mh_convert.specs.declared.conv.Rules.{Rules}
use Rattle.mh_convert.specs.declared.conv.Rules.TheVariants as rules
use Rattle.mh_convert.specs.Conversion.{default_of, fit}
use Rattle.mh_leaf.specs.Ending.{ended_by, most_turns, turned}
use Rattle.mh_leaf.specs.LeafTable.{LeafTable}
use Rattle.mh_pieces.specs.Joined.{joined}
use Rattle.mh_tree.specs.Tree.{Tree, Cases}
use Rattle.mh_tree.specs.Tree as tree
use Rattle.mh_tree.specs.Rows.{TypeOrRefusal, component_of, kept_by}
use Rattle.mh_tree.specs.Typing.{type_of, arity}
use Rattle.mh_tree.specs.Sound.{Body}
use Rattle.mh_tree.specs.Meaning.{Done, mean, mean_case, known, or_throw, fitted, giving, thrown, part_of, picked, conv_all, conv_result, decided, switched, bounded_by, further_count}
use Rattle.mh_tree.specs.MostCalls.{MakesAtMost, most_calls, cases_calls}
use Rattle.mh_tree.proofs.CallRuns.{then-most, guarded-most, ended-most, found-most, known-most, fitted-most, throw-most, spread-most, thrown-none, conv_result-none, outcome-none, leaf-one, decided-most, switched-most, turns-most, bounded-most}

convert-most : (by : Rules) (table : LeafTable) (body : Body) (c : TypeOrRefusal) (asked : MethodTy) (most : ℕ) →
    ((args : List Value) (n : ℕ) → MakesAtMost most (body args n)) → (args : List Value) (n : ℕ) →
    MakesAtMost most (known c (λ ty. or_throw (conv_all by table.classes asked.params ty.params args)
    (λ converted. and_then (body converted n) n (λ r k. conv_result by table.classes ty.ret asked.ret r))))
convert-most by table body c asked most h args n =
    let run : MethodTy → List Value → Done = λ ty converted. and_then (body converted n) n (λ r k. conv_result by table.classes ty.ret asked.ret r) in
    known-most c (λ ty. or_throw (conv_all by table.classes asked.params ty.params args) (run ty)) most (λ ty.
    throw-most (conv_all by table.classes asked.params ty.params args) (run ty) most (λ converted.
    let m = then-most (body converted n) n (λ r k. conv_result by table.classes ty.ret asked.ret r) most 0 (h converted n)
    (λ r k. conv_result-none by table.classes ty.ret asked.ret r) in
    omega (arith, m)))

mutual
  -- a call of a tree makes at most so many leaf calls, whatever its arguments are
  pub mean-most : (table : LeafTable) (t : Tree) (args : List Value) (n : ℕ) → MakesAtMost (most_calls t) (mean table t args n)
  mean-most table (tree.Leaf l) args n = leaf-one table l args n
  mean-most table (tree.Constant o v) args n =
      found-most o (λ ret. fitted (fit table.classes v ret) giving) 0 (λ ret. fitted-most (fit table.classes v ret) giving 0 (λ w. omega arith))
  mean-most table (tree.Identity o) args n = found-most (slice_get args 0) giving 0 (λ v. omega arith)
  mean-most table (tree.Throw ret class) args n = found-most (slice_get args 0) thrown 0 thrown-none
  mean-most table (tree.Concat asked pieces) args n = outcome-none (joined table.classes pieces args)
  mean-most table (tree.Bind t place v) args n =
      let run : Value → Done = λ w. mean table t (spliced place 0 (w ∷ []) args) n in
      known-most (type_of table t) (λ ty. found (slice_get ty.params place) (λ p. fitted (fit table.classes v p) run)) (most_calls t) (λ ty.
      found-most (slice_get ty.params place) (λ p. fitted (fit table.classes v p) run) (most_calls t) (λ p.
      fitted-most (fit table.classes v p) run (most_calls t) (λ w. mean-most table t (spliced place 0 (w ∷ []) args) n)))
  mean-most table (tree.Drop t place types) args n = mean-most table t (spliced place (length types) [] args) n
  mean-most table (tree.Permute t asked reorder) args n = mean-most table t (picked args reorder) n
  mean-most table (tree.FilterArg t place f) args n =
      then-most (mean table f (part_of place 1 args) n) n (λ r k. mean table t (spliced place 1 (option_to_list r) args) k) (most_calls f) (most_calls t)
      (mean-most table f (part_of place 1 args) n) (λ r k. mean-most table t (spliced place 1 (option_to_list r) args) k)
  mean-most table (tree.FilterRet t f) args n =
      then-most (mean table t args n) n (λ r k. mean table f (option_to_list r) k) (most_calls t) (most_calls f)
      (mean-most table t args n) (λ r k. mean-most table f (option_to_list r) k)
  mean-most table (tree.Fold t place c) args n =
      let own = part_of place (arity table c) args in
      then-most (mean table c own n) n (λ r k. mean table t (spliced place 0 (option_to_list r) args) k) (most_calls c) (most_calls t)
      (mean-most table c own n) (λ r k. mean-most table t (spliced place 0 (option_to_list r) args) k)
  mean-most table (tree.Collect t place f) args n =
      let taken = arity table f in
      let own = part_of place taken args in
      then-most (mean table f own n) n (λ r k. mean table t (spliced place taken (option_to_list r) args) k) (most_calls f) (most_calls t)
      (mean-most table f own n) (λ r k. mean-most table t (spliced place taken (option_to_list r) args) k)
  mean-most table (tree.Spread t array count) args n =
      let place = arity table t - count in
      let run : List Value → ℕ → Done = λ items k. mean table t (spliced place 1 items args) k in
      found-most (slice_get args place) (λ v. and_then (spread_values count v) n run) (most_calls t) (λ v.
      spread-most count v n run (most_calls t) (λ items k. mean-most table t (spliced place 1 items args) k))
  mean-most table (tree.Gather t array count) args n =
      let place = arity table t - 1 in
      let run : Value → Done = λ v. mean table t (spliced place count (v ∷ []) args) n in
      found-most (component_of array) (λ c. or_throw (array_of c (part_of place count args)) run) (most_calls t) (λ c.
      throw-most (array_of c (part_of place count args)) run (most_calls t) (λ v. mean-most table t (spliced place count (v ∷ []) args) n))
  mean-most table (tree.AsType t asked) args n =
      convert-most rules.AsType table (mean table t) (type_of table t) asked (most_calls t) (mean-most table t) args n
  mean-most table (tree.Explicit t asked) args n =
      convert-most rules.Explicit table (mean table t) (type_of table t) asked (most_calls t) (mean-most table t) args n
  mean-most table (tree.Guard c t e) args n =
      then-most (mean table c (take (arity table c) args) n) n (λ r k. decided r (mean table t args k) (mean table e args k))
      (most_calls c) (max (most_calls t) (most_calls e)) (mean-most table c (take (arity table c) args) n)
      (λ r k. decided-most r (mean table t args k) (mean table e args k) (most_calls t) (most_calls e) (mean-most table t args k) (mean-most table e args k))
  mean-most table (tree.Catch t class h) args n =
      let own = take (arity table h - 1) args in
      guarded-most (mean table t args n) (is_caught table.classes class) n (λ e k. mean table h (value.Thrown e ∷ own) k) (most_calls t) (most_calls h)
      (mean-most table t args n) (λ e k. mean-most table h (value.Thrown e ∷ own) k)
  mean-most table (tree.TryFinally t c) args n =
      let own : MethodTy → MethodTy → List Value = λ ty part. take (kept_by part ty.ret) args in
      let result : MethodTy → MethodTy → Option Value → ℕ → Done = λ ty part w k. mean table c (value.Null ∷ (option_to_list w ++ own ty part)) k in
      let exception : MethodTy → MethodTy → Exc → ℕ → Done = λ ty part e k.
      mean table c (value.Thrown e ∷ (option_to_list (option_map default_of ty.ret) ++ own ty part)) k in
      let run : MethodTy → MethodTy → Done = λ ty part. ended_by (mean table t args n) n (result ty part) (exception ty part) in
      known-most (type_of table t) (λ ty. known (type_of table c) (run ty)) (most_calls t + most_calls c) (λ ty.
      known-most (type_of table c) (run ty) (most_calls t + most_calls c) (λ part.
      ended-most (mean table t args n) n (result ty part) (exception ty part) (most_calls t) (most_calls c) (mean-most table t args n)
      (λ w k. mean-most table c (value.Null ∷ (option_to_list w ++ own ty part)) k)
      (λ e k. mean-most table c (value.Thrown e ∷ (option_to_list (option_map default_of ty.ret) ++ own ty part)) k)))
  mean-most table (tree.Switch f cases) args n =
      let most = max (most_calls f) (cases_calls cases) in
      let other = mean table f args n in
      let h = mean-most table f args n in
      found-most (slice_get args 0) (λ s. switched s (λ k. mean_case table cases k other args n) other) most (λ s.
      switched-most s (λ k. mean_case table cases k other args n) other most
      (λ k. cases-most table cases k other args n (most_calls f) h) (omega (arith, h)))
  mean-most table (tree.Counted c i b) args n =
      let own = take (further_count (type_of table b)) args in
      let turn : ℕ → Option Value → ℕ → Done = λ j w l. mean table b (option_to_list w ++ (value.Prim (num.I (pos j)) ∷ own)) l in
      let others = most_calls i + most_turns * most_calls b in
      let goes_on : ℕ → ℕ → Done = λ k turns. and_then (mean table i (take (arity table i) args) k) k (λ v m. turned turn 0 turns v m) in
      then-most (mean table c (take (arity table c) args) n) n (λ r k. bounded_by r (goes_on k)) (most_calls c) others
      (mean-most table c (take (arity table c) args) n) (λ r k.
      bounded-most r (goes_on k) others (λ turns few.
      then-most (mean table i (take (arity table i) args) k) k (λ v m. turned turn 0 turns v m) (most_calls i) (most_turns * most_calls b)
      (mean-most table i (take (arity table i) args) k) (λ v m.
      turns-most turn (most_calls b) (λ j w l. mean-most table b (option_to_list w ++ (value.Prim (num.I (pos j)) ∷ own)) l) turns few v m)))

  -- a case makes at most as many as that one of the cases with the most, and what stands for no case as many as it makes
  pub cases-most : (table : LeafTable) (cases : Cases) (k : ℕ) (other : Done) (args : List Value) (n most : ℕ) → MakesAtMost most other →
      MakesAtMost (max most (cases_calls cases)) (mean_case table cases k other args n)
  cases-most table tree.no_cases k other args n most h = omega (arith, h)
  cases-most table (tree.one_case first others) zero other args n most h = let m = mean-most table first args n in omega (arith, m)
  cases-most table (tree.one_case first others) (suc k) other args n most h =
      let m = cases-most table others k other args n most h in omega (arith, m)
