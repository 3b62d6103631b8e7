-- A tree that has a type returns values of its return type or throws exceptions, and is never stuck, where each leaf is well typed.
use Rattle.std.proofs.Common.{◌≡◌, refl, sym, subst, ap, ◌∙◌, ℕ, zero, suc, ◌-◌, pos, true, List, [], ◌∷◌, ◌++◌, take, Option, Some, None, Ok}
use Rattle.std.specs.Prelude.{IsTrue, slice_get, option_to_list}
use Rattle.std.specs.List.{list_all}
use Rattle.std.specs.Option.{option_map}
use Rattle.std.proofs.lemmas.Bool.{and_parts}
use Rattle.mh_base.proofs.Inversion.{ok_is}
use Rattle.mh_values.specs.declared.types.MethodTy.{MethodTy}
use Rattle.mh_values.specs.declared.value.Exc.{Exc}
use Rattle.mh_values.specs.declared.calls.LeafCall.{LeafCall}
use Rattle.mh_values.specs.declared.value.LeafId.{LeafId}
use Rattle.mh_values.specs.declared.value.Num.TheVariants as num
use Rattle.mh_values.specs.declared.value.Value.{Value}
use Rattle.mh_values.specs.declared.value.Value.TheVariants as value
use Rattle.mh_values.specs.Array.{array_of, spread_values}
use Rattle.mh_values.specs.Class.{is_subclass, throwable_class}
use Rattle.mh_values.specs.Computation.{Threw, found, and_then, guarded, spliced, is_caught}
use Rattle.mh_leaf.specs.Ending.{ended_by, turned}
use Rattle.mh_values.specs.HasType.{HaveTypes}
use Rattle.mh_values.specs.Returns.{Returns}
use Rattle.mh_values.specs.Same.{is_same_method_type}
use Rattle.mh_values.proofs.SameTypes.{same_method_type-is}
use Rattle.mh_convert.specs.declared.conv.Rules.TheVariants as rules
use Rattle.mh_convert.specs.Conversion.{default_of, fit}
use Rattle.mh_leaf.specs.declared.leaf.Leaf.{Leaf}
use Rattle.mh_leaf.specs.LeafTable.{LeafTable}
use Rattle.mh_leaf.specs.Outcome.{leaf_run}
use Rattle.mh_leaf.specs.WellTyped.{IsWellTyped}
use Rattle.mh_leaf.proofs.Outcomes.{leaf-returns}
use Rattle.mh_tree.specs.Tree.{Tree, Cases, weight, cases_weight}
use Rattle.mh_tree.specs.Tree as tree
use Rattle.mh_tree.specs.Rows.{TypeOrRefusal, component_of, leaf_row, bind_row, drop_row, permute_row, filter_row, filterret_row, fold_row, collect_row, spread_row, gather_row, astype_row, explicit_row, guard_row, catch_row, kept_by, tryfinally_row, switch_row, counted_row}
use Rattle.mh_tree.specs.Typing.{with_type, with_types, type_of, types_of_cases, arity_of}
use Rattle.mh_tree.specs.Meaning.{Done, mean, mean_case, known, fitted, or_throw, part_of, conv_all, conv_result, decided, bounded_by, further_count}
use Rattle.mh_tree.specs.Sound.{Body, IsSound}
use Rattle.mh_tree.proofs.RowParts.{with_type-parts, with_types-parts, and_types-parts, switch_row-parts}
use Rattle.mh_tree.proofs.Concatenated.{concat-sound}
use Rattle.mh_tree.proofs.SoundRoots.{constant-sound, identity-sound, throw-sound}
use Rattle.mh_tree.proofs.SoundAdapters.{bind-sound, drop-sound, permute-sound, filter-sound, filterret-sound, fold-sound, collect-sound}
use Rattle.mh_tree.proofs.SoundSpread.{spread-sound}
use Rattle.mh_tree.proofs.SoundGather.{gather-sound}
use Rattle.mh_tree.proofs.SoundConversions.{convert-sound}
use Rattle.mh_tree.proofs.SoundBranches.{guard-sound, catch-sound}
use Rattle.mh_tree.proofs.SoundFinally.{tryfinally-sound}
use Rattle.mh_tree.proofs.SoundLoops.{switch-sound, counted-sound}

leaf-sound : (table : LeafTable) → IsWellTyped table → (l : LeafId) (o : Option Leaf) (u : MethodTy) → slice_get table.leaves l.0 ≡ o → leaf_row o ≡ Ok u →
    IsSound table.classes (leaf_run l o) u
leaf-sound table are l None u is typed = absurd cc
leaf-sound table are l (Some leaf) u is typed =
    subst (IsSound table.classes (leaf_run l (Some leaf))) (ok_is leaf.ty u typed) (λ args n have.
    leaf-returns table.classes are.classes l leaf args n (are.leaves l.0 leaf is) have)

mutual
  pub mean-sound : (table : LeafTable) → IsWellTyped table → (t : Tree) (u : MethodTy) → type_of table t ≡ Ok u → IsSound table.classes (mean table t) u
  mean-sound table are (tree.Leaf l) u typed = leaf-sound table are l (slice_get table.leaves l.0) u refl typed
  mean-sound table are (tree.Constant t v) u typed = constant-sound table.classes t v u typed
  mean-sound table are (tree.Identity t) u typed = identity-sound table.classes t u typed
  mean-sound table are (tree.Throw ret class) u typed = throw-sound table.classes are.classes ret class u typed
  mean-sound table are (tree.Concat asked pieces) u typed = concat-sound table.classes are.classes asked pieces u typed
  mean-sound table are (tree.Bind t place v) u typed =
      let q = with_type-parts (type_of table t) (λ ty. bind_row table.classes ty (weight t) place v) u typed in
      subst (λ c. IsSound table.classes
      (λ args n. known c (λ ty. found (slice_get ty.params place) (λ p. fitted (fit table.classes v p) (λ w. mean table t (spliced place 0 (w ∷ []) args)
      n)))) u) (sym q.1)
      (bind-sound table.classes (mean table t) q.0 (weight t) place v u (mean-sound table are t q.0 q.1) q.2)
  mean-sound table are (tree.Drop t place types) u typed =
      let q = with_type-parts (type_of table t) (λ ty. drop_row ty (weight t) place types) u typed in
      drop-sound table.classes (mean table t) q.0 (weight t) place types u (mean-sound table are t q.0 q.1) q.2
  mean-sound table are (tree.Permute t asked reorder) u typed =
      let q = with_type-parts (type_of table t) (λ ty. permute_row ty (weight t) asked reorder) u typed in
      permute-sound table.classes (mean table t) q.0 (weight t) asked reorder u (mean-sound table are t q.0 q.1) q.2
  mean-sound table are (tree.FilterArg t place f) u typed =
      let q = with_type-parts (type_of table t) (λ ty. with_type (type_of table f) (λ part. filter_row ty (weight t) place part (weight f))) u typed in
      let r = with_type-parts (type_of table f) (λ part. filter_row q.0 (weight t) place part (weight f)) u q.2 in
      filter-sound table.classes (mean table t) (mean table f) q.0 (weight t) place r.0 (weight f) u (mean-sound table are t q.0 q.1)
      (mean-sound table are f r.0 r.1) r.2
  mean-sound table are (tree.FilterRet t f) u typed =
      let q = with_type-parts (type_of table t) (λ ty. with_type (type_of table f) (λ part. filterret_row ty (weight t) part (weight f))) u typed in
      let r = with_type-parts (type_of table f) (λ part. filterret_row q.0 (weight t) part (weight f)) u q.2 in
      filterret-sound table.classes (mean table t) (mean table f) q.0 (weight t) r.0 (weight f) u (mean-sound table are t q.0 q.1)
      (mean-sound table are f r.0 r.1) r.2
  mean-sound table are (tree.Fold t place c) u typed =
      let q = with_type-parts (type_of table t) (λ ty. with_type (type_of table c) (λ part. fold_row ty (weight t) place part (weight c))) u typed in
      let r = with_type-parts (type_of table c) (λ part. fold_row q.0 (weight t) place part (weight c)) u q.2 in
      subst (λ o. IsSound table.classes (λ args n. and_then (mean table c (part_of place (arity_of o) args) n) n
      (λ r k. mean table t (spliced place 0 (option_to_list r) args) k)) u) (sym r.1)
      (fold-sound table.classes (mean table t) (mean table c) q.0 (weight t) place r.0 (weight c) u (mean-sound table are t q.0 q.1)
      (mean-sound table are c r.0 r.1) r.2)
  mean-sound table are (tree.Collect t place f) u typed =
      let q = with_type-parts (type_of table t) (λ ty. with_type (type_of table f) (λ part. collect_row ty (weight t) place part (weight f))) u typed in
      let r = with_type-parts (type_of table f) (λ part. collect_row q.0 (weight t) place part (weight f)) u q.2 in
      subst (λ o. IsSound table.classes (λ args n. and_then (mean table f (part_of place (arity_of o) args) n) n
      (λ r k. mean table t (spliced place (arity_of o) (option_to_list r) args) k)) u) (sym r.1)
      (collect-sound table.classes (mean table t) (mean table f) q.0 (weight t) place r.0 (weight f) u (mean-sound table are t q.0 q.1)
      (mean-sound table are f r.0 r.1) r.2)
  mean-sound table are (tree.Spread t array count) u typed =
      let q = with_type-parts (type_of table t) (λ ty. spread_row ty (weight t) array count) u typed in
      subst (λ o. IsSound table.classes (λ args n. found (slice_get args (arity_of o - count)) (λ v. and_then (spread_values count v) n
      (λ items k. mean table t (spliced (arity_of o - count) 1 items args) k))) u) (sym q.1)
      (spread-sound table.classes are.classes (mean table t) q.0 (weight t) array count u (mean-sound table are t q.0 q.1) q.2)
  mean-sound table are (tree.Gather t array count) u typed =
      let q = with_type-parts (type_of table t) (λ ty. gather_row table.classes ty (weight t) array count) u typed in
      subst (λ o. IsSound table.classes (λ args n. found (component_of array) (λ c. or_throw (array_of c (part_of (arity_of o - 1) count args))
      (λ v. mean table t (spliced (arity_of o - 1) count (v ∷ []) args) n))) u) (sym q.1)
      (gather-sound table.classes are.classes (mean table t) q.0 (weight t) array count u (mean-sound table are t q.0 q.1) q.2)
  mean-sound table are (tree.AsType t asked) u typed =
      let q = with_type-parts (type_of table t) (λ ty. astype_row table.classes ty (weight t) asked) u typed in
      subst (λ o. IsSound table.classes (λ args n. known o (λ ty. or_throw (conv_all rules.AsType table.classes asked.params ty.params args)
      (λ converted. and_then (mean table t converted n) n (λ r k. conv_result rules.AsType table.classes ty.ret asked.ret r)))) u) (sym q.1)
      (convert-sound rules.AsType table.classes are.classes (mean table t) q.0 (weight t) asked u (mean-sound table are t q.0 q.1) q.2)
  mean-sound table are (tree.Explicit t asked) u typed =
      let q = with_type-parts (type_of table t) (λ ty. explicit_row table.classes ty (weight t) asked) u typed in
      subst (λ o. IsSound table.classes (λ args n. known o (λ ty. or_throw (conv_all rules.Explicit table.classes asked.params ty.params args)
      (λ converted. and_then (mean table t converted n) n (λ r k. conv_result rules.Explicit table.classes ty.ret asked.ret r)))) u) (sym q.1)
      (convert-sound rules.Explicit table.classes are.classes (mean table t) q.0 (weight t) asked u (mean-sound table are t q.0 q.1) q.2)
  mean-sound table are (tree.Guard c t e) u typed =
      let p = with_type-parts (type_of table c)
      (λ test. with_type (type_of table t) (λ ty. with_type (type_of table e) (λ other. guard_row test (weight c) ty (weight t) other (weight e)))) u typed in
      let q = with_type-parts (type_of table t) (λ ty. with_type (type_of table e) (λ other. guard_row p.0 (weight c) ty (weight t) other (weight e))) u p.2 in
      let r = with_type-parts (type_of table e) (λ other. guard_row p.0 (weight c) q.0 (weight t) other (weight e)) u q.2 in
      subst (λ o. IsSound table.classes (λ args n. and_then (mean table c (take (arity_of o) args) n) n
      (λ r k. decided r (mean table t args k) (mean table e args k))) u) (sym p.1)
      (guard-sound table.classes (mean table c) (mean table t) (mean table e) p.0 (weight c) q.0 (weight t) r.0 (weight e) u (mean-sound table are c p.0 p.1)
      (mean-sound table are t q.0 q.1) (mean-sound table are e r.0 r.1) r.2)
  mean-sound table are (tree.Catch t class h) u typed =
      let q = with_type-parts (type_of table t)
      (λ ty. with_type (type_of table h) (λ handler. catch_row table.classes ty (weight t) class handler (weight h))) u
      typed in
      let r = with_type-parts (type_of table h) (λ handler. catch_row table.classes q.0 (weight t) class handler (weight h)) u q.2 in
      subst (λ o. IsSound table.classes (λ args n. guarded (mean table t args n) (is_caught table.classes class) n
      (λ e k. mean table h (value.Thrown e ∷ take (arity_of o - 1) args) k)) u) (sym r.1)
      (catch-sound table.classes are.classes (mean table t) (mean table h) q.0 (weight t) class r.0 (weight h) u (mean-sound table are t q.0 q.1)
      (mean-sound table are h r.0 r.1) r.2)
  mean-sound table are (tree.TryFinally t c) u typed =
      let q = with_type-parts (type_of table t) (λ ty. with_type (type_of table c) (λ part. tryfinally_row ty (weight t) part (weight c))) u typed in
      let r = with_type-parts (type_of table c) (λ part. tryfinally_row q.0 (weight t) part (weight c)) u q.2 in
      let run : TypeOrRefusal → TypeOrRefusal → Body = λ o p args n. known o (λ ty. known p (λ part. ended_by (mean table t args n) n
      (λ w k. mean table c (value.Null ∷ (option_to_list w ++ take (kept_by part ty.ret) args)) k)
      (λ e k. mean table c (value.Thrown e ∷ (option_to_list (option_map default_of ty.ret) ++ take (kept_by part ty.ret) args)) k))) in
      subst (λ o. IsSound table.classes (run o (type_of table c)) u) (sym q.1)
      (subst (λ p. IsSound table.classes (run (Ok q.0) p) u) (sym r.1)
      (tryfinally-sound table.classes (mean table t) (mean table c) q.0 (weight t) r.0 (weight c) u (mean-sound table are t q.0 q.1)
      (mean-sound table are c r.0 r.1) r.2))
  mean-sound table are (tree.Switch f cases) u typed =
      let q = with_type-parts (type_of table f)
      (λ ty. with_types (types_of_cases table cases) (λ tys. switch_row ty (weight f) tys (cases_weight cases))) u typed in
      let r = with_types-parts (types_of_cases table cases) (λ tys. switch_row q.0 (weight f) tys (cases_weight cases)) u q.2 in
      let s = switch_row-parts q.0 (weight f) r.0 (cases_weight cases) u r.2 in
      let sound : IsSound table.classes (mean table f) q.0 = mean-sound table are f q.0 q.1 in
      subst (IsSound table.classes (mean table (tree.Switch f cases))) (sym s.2)
      (switch-sound table.classes (mean table f) (λ k args n. mean_case table cases k (mean table f args n) args n) q.0 sound
      (λ k args n have. cases-sound table are cases r.0 q.0 r.1 s.0 k (mean table f args n) args n (sound args n have) have) s.1)
  mean-sound table are (tree.Counted n i b) u typed =
      let p = with_type-parts (type_of table n)
      (λ counts. with_type (type_of table i) (λ starts. with_type (type_of table b)
      (λ turns. counted_row counts (weight n) starts (weight i) turns (weight b)))) u typed in
      let q = with_type-parts (type_of table i) (λ starts. with_type (type_of table b)
      (λ turns. counted_row p.0 (weight n) starts (weight i) turns (weight b))) u p.2 in
      let r = with_type-parts (type_of table b) (λ turns. counted_row p.0 (weight n) q.0 (weight i) turns (weight b)) u q.2 in
      let run : TypeOrRefusal → TypeOrRefusal → TypeOrRefusal → Body = λ o v w args m. and_then (mean table n (take (arity_of o) args) m) m
      (λ x k. bounded_by x (λ turns. and_then (mean table i (take (arity_of v) args) k) k (λ y l.
      turned (λ j z h. mean table b (option_to_list z ++ (value.Prim (num.I (pos j)) ∷ take (further_count w) args)) h) 0 turns y l))) in
      subst (λ o. IsSound table.classes (run o (type_of table i) (type_of table b)) u) (sym p.1)
      (subst (λ o. IsSound table.classes (run (Ok p.0) o (type_of table b)) u) (sym q.1)
      (subst (λ o. IsSound table.classes (run (Ok p.0) (Ok q.0) o) u) (sym r.1)
      (counted-sound table.classes are.classes (mean table n) (mean table i) (mean table b) p.0 (weight n) q.0 (weight i) r.0 (weight b) u
      (mean-sound table are n p.0 p.1) (mean-sound table are i q.0 q.1) (mean-sound table are b r.0 r.1) r.2)))

  -- cases of one type, and what runs if there is none
  cases-sound :
      (table : LeafTable) → IsWellTyped table → (cases : Cases) (tys : List MethodTy) (ty : MethodTy) → types_of_cases table cases ≡ Ok tys →
      list_all (λ c. is_same_method_type c ty) tys ≡ true → (k : ℕ) (other : Done) (args : List Value) (n : ℕ) →
      Returns table.classes other ty.ret → HaveTypes table.classes args ty.params → Returns table.classes (mean_case table cases k other args n) ty.ret
  cases-sound table are tree.no_cases tys ty typed same k other args n returns have = returns
  cases-sound table are (tree.one_case first others) tys ty typed same zero other args n returns have =
      let q = and_types-parts (type_of table first) (types_of_cases table others) tys typed in
      let all : list_all (λ c. is_same_method_type c ty) (q.0 ∷ q.1) ≡ true = ap (list_all (λ c. is_same_method_type c ty)) q.4 ∙ same in
      let one = and_parts (is_same_method_type q.0 ty) (list_all (λ c. is_same_method_type c ty) q.1) all in
      subst (λ (t : MethodTy). HaveTypes table.classes args t.params → Returns table.classes (mean table first args n) t.ret)
      (same_method_type-is q.0 ty one.0) (mean-sound table are first q.0 q.2 args n) have
  cases-sound table are (tree.one_case first others) tys ty typed same (suc k) other args n returns have =
      let q = and_types-parts (type_of table first) (types_of_cases table others) tys typed in
      let all : list_all (λ c. is_same_method_type c ty) (q.0 ∷ q.1) ≡ true = ap (list_all (λ c. is_same_method_type c ty)) q.4 ∙ same in
      let one = and_parts (is_same_method_type q.0 ty) (list_all (λ c. is_same_method_type c ty) q.1) all in
      cases-sound table are others q.1 ty q.3 one.1 k other args n returns have

-- on arguments of its parameter types
pub mean-returns : (table : LeafTable) → IsWellTyped table → (t : Tree) (u : MethodTy) (args : List Value) (n : ℕ) → type_of table t ≡ Ok u →
    HaveTypes table.classes args u.params → Returns table.classes (mean table t args n) u.ret
mean-returns table are t u args n typed have = mean-sound table are t u typed args n have

-- what it throws there is of a class at or below Throwable
pub mean-throws : (table : LeafTable) → IsWellTyped table → (t : Tree) (u : MethodTy) (args : List Value) (n : ℕ) (e : Exc) (calls : List LeafCall) →
    type_of table t ≡ Ok u → HaveTypes table.classes args u.params → mean table t args n ≡ Threw e calls →
    IsTrue (is_subclass table.classes e.class throwable_class)
mean-throws table are t u args n e calls typed have is = subst (λ r. Returns table.classes r u.ret) is (mean-returns table are t u args n typed have)
