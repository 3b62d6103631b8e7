-- A tree of a weight of at most 256 makes at most 4,098 leaf calls, and so does a call of a tree that has a type.
use Rattle.std.proofs.Common.{◌≡◌, refl, ℕ, ◌+◌, ◌*◌, ◌-◌, ◌≤◌, max, List, [], Ok, Err, arith}
use Rattle.mh_values.specs.declared.types.MethodTy.{MethodTy}
use Rattle.mh_values.specs.declared.value.Value.{Value}
use Rattle.mh_values.specs.Computation.{Threw}
use Rattle.mh_values.specs.Same.{is_same_method_type}
use Rattle.mh_leaf.specs.LeafTable.{LeafTable}
use Rattle.mh_tree.specs.Tree.{Tree, Cases, weight, cases_weight}
use Rattle.mh_tree.specs.Tree as tree
use Rattle.mh_tree.specs.Rows.{TypeOrRefusal, mismatch}
use Rattle.mh_tree.specs.Typing.{type_of}
use Rattle.mh_tree.specs.Meaning.{Done, mean, known, exact_at, exact, unless_refused, generic_at, generic}
use Rattle.mh_tree.specs.MostCalls.{MakesAtMost, most_calls, cases_calls, most_leaf_calls}
use Rattle.mh_tree.proofs.CallBounds.{mean-most}
use Rattle.mh_tree.proofs.CallRuns.{chosen-most}
use Rattle.mh_tree.proofs.TypedWeights.{typed-light}

-- Without a loop, a tree weighs at least one less than twice its leaf calls. With a loop, there is a number of leaf calls of a turn: the tree makes at most
-- two more than 64 times that number, and it weighs at least 127 more than twice that number.
data IsBounded (calls weight : ℕ) : Type 0 where
  light : 2 * calls ≤ weight + 1 → IsBounded calls weight
  loop : (turn : ℕ) → calls ≤ 64 * turn + 2 → 2 * turn + 127 ≤ weight → 129 ≤ weight → IsBounded calls weight

-- it may weigh more
heavier : (c w v : ℕ) → IsBounded c w → w ≤ v → IsBounded c v
heavier c w v (light few) h = light (omega arith)
heavier c w v (loop turn few much far) h = loop turn few (omega arith) (omega arith)

-- two parts that run one after the other
both : (c w d v all : ℕ) → IsBounded c w → IsBounded d v → 1 + w + v ≤ all → all ≤ 256 → IsBounded (c + d) all
both c w d v all (light few) (light less) h within = light (omega arith)
both c w d v all (light few) (loop turn less much far) h within = loop (turn + c) (omega arith) (omega arith) (omega arith)
both c w d v all (loop turn few much far) (light less) h within = loop (turn + d) (omega arith) (omega arith) (omega arith)
both c w d v all (loop turn few much far) (loop other less more further) h within = absurd (omega arith)

-- two parts of which one runs
either : (c w d v all : ℕ) → IsBounded c w → IsBounded d v → w + v ≤ all → all ≤ 256 → IsBounded (max c d) all
either c w d v all (light few) (light less) h within = light (omega arith)
either c w d v all (light few) (loop turn less much far) h within = loop (turn + (c - 1)) (omega arith) (omega arith) (omega arith)
either c w d v all (loop turn few much far) (light less) h within = loop (turn + (d - 1)) (omega arith) (omega arith) (omega arith)
either c w d v all (loop turn few much far) (loop other less more further) h within = absurd (omega arith)

-- the parts of a loop
looped : (c w d v b u all : ℕ) → IsBounded c w → IsBounded d v → IsBounded b u → 1 ≤ w → 1 ≤ v → 1 ≤ u → 126 + w + v + u ≤ all → all ≤ 256 →
    IsBounded (c + (d + 64 * b)) all
looped c w d v b u all (light few) (light less) (light least) counts starts turns h within =
    loop (b + ((c - 1) + (d - 1))) (omega arith) (omega arith) (omega arith)
looped c w d v b u all (loop turn few much far) second third counts starts turns h within = absurd (omega arith)
looped c w d v b u all first (loop turn few much far) third counts starts turns h within = absurd (omega arith)
looped c w d v b u all first second (loop turn few much far) counts starts turns h within = absurd (omega arith)

-- a tree weighs something
weighs : (t : Tree) → 1 ≤ weight t
weighs (tree.Bind t place v) = omega arith
weighs (tree.Drop t place types) = omega arith
weighs (tree.Permute t ty reorder) = omega arith
weighs (tree.FilterArg t place f) = omega arith
weighs (tree.FilterRet t f) = omega arith
weighs (tree.Fold t place c) = omega arith
weighs (tree.Collect t place f) = omega arith
weighs (tree.Spread t array count) = omega arith
weighs (tree.Gather t array count) = omega arith
weighs (tree.AsType t ty) = omega arith
weighs (tree.Explicit t ty) = omega arith
weighs (tree.Guard c t e) = omega arith
weighs (tree.Catch t class h) = omega arith
weighs (tree.TryFinally t c) = omega arith
weighs (tree.Switch f cases) = omega arith
weighs (tree.Counted c i b) = omega arith
weighs t = omega arith

-- one part
one : (t : Tree) → (weight t ≤ 256 → IsBounded (most_calls t) (weight t)) → 1 + weight t ≤ 256 → IsBounded (most_calls t) (1 + weight t)
one t h within = heavier (most_calls t) (weight t) (1 + weight t) (h (omega arith)) (omega arith)

-- two parts, of which the first runs first
two : (s t : Tree) (all : ℕ) → (weight s ≤ 256 → IsBounded (most_calls s) (weight s)) → (weight t ≤ 256 → IsBounded (most_calls t) (weight t)) →
    1 + weight s + weight t ≤ all → all ≤ 256 →
    IsBounded (most_calls s + most_calls t) all
two s t all h g is within = both (most_calls s) (weight s) (most_calls t) (weight t) all (h (omega arith)) (g (omega arith)) is within

mutual
  bounded : (t : Tree) → weight t ≤ 256 → IsBounded (most_calls t) (weight t)
  bounded (tree.Leaf l) h = light (omega arith)
  bounded (tree.Bind t place v) h = one t (bounded t) h
  bounded (tree.Drop t place types) h = one t (bounded t) h
  bounded (tree.Permute t ty reorder) h = one t (bounded t) h
  bounded (tree.FilterArg t place f) h = two f t (1 + weight t + weight f) (bounded f) (bounded t) (omega arith) h
  bounded (tree.FilterRet t f) h = two t f (1 + weight t + weight f) (bounded t) (bounded f) (omega arith) h
  bounded (tree.Fold t place c) h = two c t (1 + weight t + weight c) (bounded c) (bounded t) (omega arith) h
  bounded (tree.Collect t place f) h = two f t (1 + weight t + weight f) (bounded f) (bounded t) (omega arith) h
  bounded (tree.Spread t array count) h = one t (bounded t) h
  bounded (tree.Gather t array count) h = one t (bounded t) h
  bounded (tree.AsType t ty) h = one t (bounded t) h
  bounded (tree.Explicit t ty) h = one t (bounded t) h
  bounded (tree.Guard c t e) h =
      let branches = either (most_calls t) (weight t) (most_calls e) (weight e) (weight t + weight e) (bounded t (omega arith)) (bounded e (omega arith))
      (omega arith) (omega arith) in
      both (most_calls c) (weight c) (max (most_calls t) (most_calls e)) (weight t + weight e) (1 + weight c + weight t + weight e) (bounded c (omega arith))
      branches (omega arith) h
  bounded (tree.Catch t class e) h = two t e (1 + weight t + weight e) (bounded t) (bounded e) (omega arith) h
  bounded (tree.TryFinally t c) h = two t c (1 + weight t + weight c) (bounded t) (bounded c) (omega arith) h
  bounded (tree.Switch f cases) h =
      either (most_calls f) (weight f) (cases_calls cases) (cases_weight cases) (1 + weight f + cases_weight cases) (bounded f (omega arith))
      (cases-bounded cases (omega arith)) (omega arith) h
  bounded (tree.Counted c i b) h =
      looped (most_calls c) (weight c) (most_calls i) (weight i) (most_calls b) (weight b) (126 + weight c + weight i + weight b)
      (bounded c (omega arith)) (bounded i (omega arith)) (bounded b (omega arith)) (weighs c) (weighs i) (weighs b) (omega arith) h
  bounded t h = light (omega arith)

  cases-bounded : (cases : Cases) → cases_weight cases ≤ 256 → IsBounded (cases_calls cases) (cases_weight cases)
  cases-bounded tree.no_cases h = light (omega arith)
  cases-bounded (tree.one_case first others) h =
      either (most_calls first) (weight first) (cases_calls others) (cases_weight others) (weight first + cases_weight others) (bounded first (omega arith))
      (cases-bounded others (omega arith)) (omega arith) h

at-most : (c w : ℕ) → IsBounded c w → w ≤ 256 → c ≤ most_leaf_calls
at-most c w (light few) h = omega arith
at-most c w (loop turn few much far) h = omega arith

-- a tree within the limit of weight
pub light-most : (t : Tree) → weight t ≤ 256 → most_calls t ≤ most_leaf_calls
light-most t h = at-most (most_calls t) (weight t) (bounded t h) h

-- ---- calls

-- a tree that has a type
pub typed-most : (table : LeafTable) (t : Tree) (u : MethodTy) → type_of table t ≡ Ok u → (args : List Value) (n : ℕ) →
    MakesAtMost most_leaf_calls (mean table t args n)
typed-most table t u typed args n =
    let runs = mean-most table t args n in
    let few = light-most t (typed-light table t u typed) in
    omega (arith, runs, few)

known-typed : (c : TypeOrRefusal) (next : MethodTy → Done) → ((u : MethodTy) → c ≡ Ok u → MakesAtMost most_leaf_calls (next u)) →
    MakesAtMost most_leaf_calls (known c next)
known-typed (Ok u) next h = h u refl
known-typed (Err e) next h = omega arith

-- a call by a type that must be the tree's
pub exact-most : (table : LeafTable) (t : Tree) (asked : MethodTy) (args : List Value) (n : ℕ) → MakesAtMost most_leaf_calls (exact table t asked args n)
exact-most table t asked args n =
    known-typed (type_of table t) (λ ty. exact_at table t ty asked args n) (λ ty typed.
    chosen-most (is_same_method_type ty asked) (mean table t args n) (Threw (mismatch table.classes ty asked) []) most_leaf_calls
    (λ is. typed-most table t ty typed args n) (omega arith))

allowed : (r : TypeOrRefusal) (run : Done) → ((u : MethodTy) → r ≡ Ok u → MakesAtMost most_leaf_calls run) →
    MakesAtMost most_leaf_calls (unless_refused r run)
allowed (Ok u) run h = h u refl
allowed (Err e) run h = omega arith

-- a call by a type as which the tree is used
pub generic-most : (table : LeafTable) (t : Tree) (asked : MethodTy) (args : List Value) (n : ℕ) → MakesAtMost most_leaf_calls (generic table t asked args n)
generic-most table t asked args n =
    let used = tree.AsType t asked in
    known-typed (type_of table t) (λ ty. generic_at table t ty asked args n) (λ ty typed.
    chosen-most (is_same_method_type ty asked) (mean table t args n) (unless_refused (type_of table used) (mean table used args n)) most_leaf_calls
    (λ is. typed-most table t ty typed args n)
    (allowed (type_of table used) (mean table used args n) (λ u is. typed-most table used u is args n)))
