-- A tree that has a type keeps the limits of values, and so do calls of it.
use Rattle.std.proofs.Common.{◌≡◌, refl, ℕ, zero, suc, ◌-◌, List, [], ◌∷◌, ◌++◌, take, length, Ok, Err}
use Rattle.std.specs.Prelude.{option_to_list}
use Rattle.std.specs.Option.{option_map}
use Rattle.mh_values.specs.declared.types.MethodTy.{MethodTy}
use Rattle.mh_values.specs.declared.value.Value.{Value}
use Rattle.mh_values.specs.declared.value.Value.TheVariants as value
use Rattle.mh_values.specs.Computation.{Threw, spliced, is_caught}
use Rattle.mh_leaf.specs.Ending.{ended_by}
use Rattle.mh_values.specs.Same.{is_same_method_type}
use Rattle.mh_convert.specs.declared.conv.Rules.TheVariants as rules
use Rattle.mh_values.specs.ValueLimits.{AreValuesWithinLimits}
use Rattle.mh_convert.specs.Conversion.{default_of}
use Rattle.mh_leaf.specs.LeafTable.{LeafTable}
use Rattle.mh_leaf.specs.Limits.{IsRunWithinLimits}
use Rattle.mh_leaf.proofs.Limits.{leaf_mean-limits}
use Rattle.mh_tree.specs.Tree.{Tree, Cases, weight, cases_weight}
use Rattle.mh_tree.specs.Tree as tree
use Rattle.mh_tree.specs.Rows.{TypeOrRefusal, component_of, mismatch, bind_row, drop_row, permute_row, filter_row, filterret_row, fold_row, collect_row, spread_row, gather_row, astype_row, explicit_row, guard_row, catch_row, kept_by, tryfinally_row, switch_row, counted_row}
use Rattle.mh_tree.specs.Typing.{with_type, with_types, type_of, types_of_cases, arity}
use Rattle.mh_tree.specs.Limited.{KeepsLimits}
use Rattle.mh_tree.specs.Meaning.{Done, mean, mean_case, known, further_count, picked, exact_at, exact, unless_refused, generic_at, generic}
use Rattle.mh_tree.proofs.RowParts.{with_type-parts, with_types-parts, and_types-parts, gather_row-few}
use Rattle.mh_tree.proofs.Concatenated.{concat-keeps}
use Rattle.mh_tree.specs.Sound.{Body}
use Rattle.mh_tree.proofs.LimitedEndings.{counted-keeps, switch-keeps, tryfinally-keeps}
use Rattle.mh_tree.proofs.LimitedLists.{splice-limits, picked-limits}
use Rattle.mh_tree.proofs.LimitedRuns.{known-limits, chosen}
use Rattle.mh_tree.proofs.LimitedNodes.{constant-keeps, identity-keeps, throw-keeps, bind-keeps, then-keeps, filterret-keeps, spread-keeps, gather-keeps, convert-keeps, guard-keeps, catch-keeps}

mutual
  -- on arguments within their limits it gives a result within its limits, and calls leaves on such arguments
  pub mean-limits : (table : LeafTable) (t : Tree) (u : MethodTy) → type_of table t ≡ Ok u → KeepsLimits (mean table t)
  mean-limits table (tree.Leaf l) u typed = leaf_mean-limits table l
  mean-limits table (tree.Constant t v) u typed = constant-keeps table.classes t v
  mean-limits table (tree.Identity t) u typed = identity-keeps
  mean-limits table (tree.Throw ret class) u typed = throw-keeps
  mean-limits table (tree.Concat asked pieces) u typed = concat-keeps table.classes pieces
  mean-limits table (tree.Bind t place v) u typed =
      let q = with_type-parts (type_of table t) (λ ty. bind_row table.classes ty (weight t) place v) u typed in
      bind-keeps table.classes (mean table t) (type_of table t) place v (mean-limits table t q.0 q.1)
  mean-limits table (tree.Drop t place types) u typed =
      let q = with_type-parts (type_of table t) (λ ty. drop_row ty (weight t) place types) u typed in
      let keeps = mean-limits table t q.0 q.1 in
      λ args n have. keeps (spliced place (length types) [] args) n (splice-limits place (length types) [] args tt have)
  mean-limits table (tree.Permute t asked reorder) u typed =
      let q = with_type-parts (type_of table t) (λ ty. permute_row ty (weight t) asked reorder) u typed in
      let keeps = mean-limits table t q.0 q.1 in
      λ args n have. keeps (picked args reorder) n (picked-limits args reorder have)
  mean-limits table (tree.FilterArg t place f) u typed =
      let q = with_type-parts (type_of table t) (λ ty. with_type (type_of table f) (λ part. filter_row ty (weight t) place part (weight f))) u typed in
      let r = with_type-parts (type_of table f) (λ part. filter_row q.0 (weight t) place part (weight f)) u q.2 in
      then-keeps (mean table t) (mean table f) place 1 1 (mean-limits table t q.0 q.1) (mean-limits table f r.0 r.1)
  mean-limits table (tree.FilterRet t f) u typed =
      let q = with_type-parts (type_of table t) (λ ty. with_type (type_of table f) (λ part. filterret_row ty (weight t) part (weight f))) u typed in
      let r = with_type-parts (type_of table f) (λ part. filterret_row q.0 (weight t) part (weight f)) u q.2 in
      filterret-keeps (mean table t) (mean table f) (mean-limits table t q.0 q.1) (mean-limits table f r.0 r.1)
  mean-limits table (tree.Fold t place c) u typed =
      let q = with_type-parts (type_of table t) (λ ty. with_type (type_of table c) (λ part. fold_row ty (weight t) place part (weight c))) u typed in
      let r = with_type-parts (type_of table c) (λ part. fold_row q.0 (weight t) place part (weight c)) u q.2 in
      then-keeps (mean table t) (mean table c) place 0 (arity table c) (mean-limits table t q.0 q.1) (mean-limits table c r.0 r.1)
  mean-limits table (tree.Collect t place f) u typed =
      let q = with_type-parts (type_of table t) (λ ty. with_type (type_of table f) (λ part. collect_row ty (weight t) place part (weight f))) u typed in
      let r = with_type-parts (type_of table f) (λ part. collect_row q.0 (weight t) place part (weight f)) u q.2 in
      then-keeps (mean table t) (mean table f) place (arity table f) (arity table f) (mean-limits table t q.0 q.1) (mean-limits table f r.0 r.1)
  mean-limits table (tree.Spread t array count) u typed =
      let q = with_type-parts (type_of table t) (λ ty. spread_row ty (weight t) array count) u typed in
      spread-keeps (mean table t) (arity table t - count) count (mean-limits table t q.0 q.1)
  mean-limits table (tree.Gather t array count) u typed =
      let q = with_type-parts (type_of table t) (λ ty. gather_row table.classes ty (weight t) array count) u typed in
      let few = gather_row-few table.classes q.0 (weight t) array count u q.2 in
      gather-keeps (mean table t) (component_of array) (arity table t - 1) count few (mean-limits table t q.0 q.1)
  mean-limits table (tree.AsType t asked) u typed =
      let q = with_type-parts (type_of table t) (λ ty. astype_row table.classes ty (weight t) asked) u typed in
      convert-keeps rules.AsType table.classes (mean table t) (type_of table t) asked (mean-limits table t q.0 q.1)
  mean-limits table (tree.Explicit t asked) u typed =
      let q = with_type-parts (type_of table t) (λ ty. explicit_row table.classes ty (weight t) asked) u typed in
      convert-keeps rules.Explicit table.classes (mean table t) (type_of table t) asked (mean-limits table t q.0 q.1)
  mean-limits table (tree.Guard c t e) u typed =
      let p = with_type-parts (type_of table c)
      (λ test. with_type (type_of table t) (λ ty. with_type (type_of table e) (λ other. guard_row test (weight c) ty (weight t) other (weight e)))) u typed in
      let q = with_type-parts (type_of table t) (λ ty. with_type (type_of table e) (λ other. guard_row p.0 (weight c) ty (weight t) other (weight e))) u p.2 in
      let r = with_type-parts (type_of table e) (λ other. guard_row p.0 (weight c) q.0 (weight t) other (weight e)) u q.2 in
      guard-keeps (mean table c) (mean table t) (mean table e) (arity table c) (mean-limits table c p.0 p.1) (mean-limits table t q.0 q.1)
      (mean-limits table e r.0 r.1)
  mean-limits table (tree.Catch t class h) u typed =
      let q = with_type-parts (type_of table t)
      (λ ty. with_type (type_of table h) (λ handler. catch_row table.classes ty (weight t) class handler (weight h))) u typed in
      let r = with_type-parts (type_of table h) (λ handler. catch_row table.classes q.0 (weight t) class handler (weight h)) u q.2 in
      catch-keeps (mean table t) (mean table h) (is_caught table.classes class) (arity table h - 1) (mean-limits table t q.0 q.1)
      (mean-limits table h r.0 r.1)
  mean-limits table (tree.TryFinally t c) u typed =
      let q = with_type-parts (type_of table t) (λ ty. with_type (type_of table c) (λ part. tryfinally_row ty (weight t) part (weight c))) u typed in
      let r = with_type-parts (type_of table c) (λ part. tryfinally_row q.0 (weight t) part (weight c)) u q.2 in
      let run : MethodTy → MethodTy → Body = λ ty part args n. ended_by (mean table t args n) n
      (λ w k. mean table c (value.Null ∷ (option_to_list w ++ take (kept_by part ty.ret) args)) k)
      (λ e k. mean table c (value.Thrown e ∷ (option_to_list (option_map default_of ty.ret) ++ take (kept_by part ty.ret) args)) k) in
      λ args n have. known-limits (type_of table t) (λ ty. known (type_of table c) (λ part. run ty part args n)) (λ ty is.
      known-limits (type_of table c) (λ part. run ty part args n) (λ part is'.
      tryfinally-keeps (mean table t) (mean table c) ty.ret (kept_by part ty.ret) (mean-limits table t q.0 q.1) (mean-limits table c r.0 r.1) args n have))
  mean-limits table (tree.Switch f cases) u typed =
      let q = with_type-parts (type_of table f)
      (λ ty. with_types (types_of_cases table cases) (λ tys. switch_row ty (weight f) tys (cases_weight cases))) u typed in
      let r = with_types-parts (types_of_cases table cases) (λ tys. switch_row q.0 (weight f) tys (cases_weight cases)) u q.2 in
      let keeps : KeepsLimits (mean table f) = mean-limits table f q.0 q.1 in
      switch-keeps (mean table f) (λ k args n. mean_case table cases k (mean table f args n) args n) keeps
      (λ k args n have. cases-limits table cases r.0 r.1 k (mean table f args n) args n (keeps args n have) have)
  mean-limits table (tree.Counted n i b) u typed =
      let p = with_type-parts (type_of table n)
      (λ counts. with_type (type_of table i) (λ starts. with_type (type_of table b)
      (λ turns. counted_row counts (weight n) starts (weight i) turns (weight b)))) u typed in
      let q = with_type-parts (type_of table i) (λ starts. with_type (type_of table b)
      (λ turns. counted_row p.0 (weight n) starts (weight i) turns (weight b))) u p.2 in
      let r = with_type-parts (type_of table b) (λ turns. counted_row p.0 (weight n) q.0 (weight i) turns (weight b)) u q.2 in
      counted-keeps (mean table n) (mean table i) (mean table b) (arity table n) (arity table i) (further_count (type_of table b))
      (mean-limits table n p.0 p.1) (mean-limits table i q.0 q.1) (mean-limits table b r.0 r.1)

  cases-limits : (table : LeafTable) (cases : Cases) (tys : List MethodTy) → types_of_cases table cases ≡ Ok tys → (k : ℕ) (other : Done) (args : List Value)
      (n : ℕ) → IsRunWithinLimits other → AreValuesWithinLimits args → IsRunWithinLimits (mean_case table cases k other args n)
  cases-limits table tree.no_cases tys typed k other args n within have = within
  cases-limits table (tree.one_case first others) tys typed zero other args n within have =
      let q = and_types-parts (type_of table first) (types_of_cases table others) tys typed in
      mean-limits table first q.0 q.2 args n have
  cases-limits table (tree.one_case first others) tys typed (suc k) other args n within have =
      let q = and_types-parts (type_of table first) (types_of_cases table others) tys typed in
      cases-limits table others q.1 q.3 k other args n within have

-- ---- calls

-- a call by a type that must be the tree's
pub exact-limits : (table : LeafTable) (t : Tree) (asked : MethodTy) → KeepsLimits (exact table t asked)
exact-limits table t asked args n have =
    known-limits (type_of table t) (λ ty. exact_at table t ty asked args n) (λ ty typed.
    chosen (is_same_method_type ty asked) (mean table t args n) (Threw (mismatch table.classes ty asked) []) (mean-limits table t ty typed args n have) tt)

allowed : (r : TypeOrRefusal) (run : Done) → ((u : MethodTy) → r ≡ Ok u → IsRunWithinLimits run) → IsRunWithinLimits (unless_refused r run)
allowed (Ok u) run h = h u refl
allowed (Err e) run h = tt

-- a call by a type as which the tree is used
pub generic-limits : (table : LeafTable) (t : Tree) (asked : MethodTy) → KeepsLimits (generic table t asked)
generic-limits table t asked args n have =
    let used = tree.AsType t asked in
    known-limits (type_of table t) (λ ty. generic_at table t ty asked args n) (λ ty typed.
    chosen (is_same_method_type ty asked) (mean table t args n) (unless_refused (type_of table used) (mean table used args n))
    (mean-limits table t ty typed args n have)
    (allowed (type_of table used) (mean table used args n) (λ u is. mean-limits table used u is args n have)))
