-- A tree that has a type weighs at most 256.
use Rattle.std.proofs.Common.{◌≡◌, ◌&&◌, ◌==◌, ℕ, ◌+◌, ◌-◌, ◌≤◌, Bool, List, [], ◌∷◌, length, drop, replicate, Option, Some, is_some, Result, Ok, nat_lt, nat_le, codes, arith}
use Rattle.std.specs.Prelude.{slice_get, option_to_list}
use Rattle.std.proofs.lemmas.Bool.{leb-true}
use Rattle.mh_base.specs.Provided.{provided, provided_some}
use Rattle.mh_values.specs.declared.class.Class.{Class}
use Rattle.mh_values.specs.declared.class.ClassId.{ClassId}
use Rattle.mh_values.specs.declared.types.Ty.{Ty}
use Rattle.mh_values.specs.declared.types.Ty.TheVariants as ty
use Rattle.mh_values.specs.declared.types.MethodTy.{MethodTy}
use Rattle.mh_values.specs.declared.value.Exc.{Exc}
use Rattle.mh_values.specs.declared.value.Value.{Value}
use Rattle.mh_values.specs.Array.{item_type}
use Rattle.mh_values.specs.Class.{internal_error_class, is_subclass, throwable_class}
use Rattle.mh_values.specs.Computation.{spliced}
use Rattle.mh_values.specs.Exception.{saying}
use Rattle.mh_values.specs.Same.{are_same_types, is_same_return, begins_with_types, is_same_method_type}
use Rattle.mh_values.specs.Slots.{slots_of_all}
use Rattle.mh_values.specs.ValueLimits.{most_items}
use Rattle.mh_values.proofs.SameTypes.{method_type}
use Rattle.mh_convert.specs.declared.conv.Rules.{Rules}
use Rattle.mh_convert.specs.declared.conv.Rules.TheVariants as rules
use Rattle.mh_convert.specs.Conversion.{fit}
use Rattle.mh_leaf.specs.LeafTable.{LeafTable}
use Rattle.mh_leaf.specs.Outcome.{boolean_type}
use Rattle.mh_tree.specs.Tree.{Tree, weight, cases_weight}
use Rattle.mh_tree.specs.Tree as tree
use Rattle.mh_tree.specs.Rows.{TypeOrRefusal, illegal, provided_fit, limited, taking, count_of, gives_at, component_of, takes_array, names_types, folded, ends_with, can_be_used_as, mismatch, word_of, handles, cleans_up, may_switch, loop_params, may_loop, bind_row, drop_row, permute_row, filter_row, filterret_row, fold_row, collect_row, spread_row, gather_row, convert_row, guard_row, catch_row, tryfinally_row, switch_row, counted_row}
use Rattle.mh_tree.specs.Typing.{TypesOrRefusal, with_type, with_types, type_of, types_of_cases}
use Rattle.mh_tree.proofs.Provided.{with_type-parts, with_types-parts, provided-parts, provided_some-parts, provided_fit-parts}

-- if it gives a type, the weight is within the limit
abbrev IsLight : ℕ → TypeOrRefusal → Type 0
IsLight weight r = (u : MethodTy) → r ≡ Ok u → weight ≤ 256

limited-light : {weight : ℕ} (word : List ℕ) (t : MethodTy) → IsLight weight (limited word weight t)
limited-light {weight} word t u h =
    let heavy = saying internal_error_class (codes "weight") in
    let q = provided-parts (nat_le (slots_of_all t.params) 254) (illegal word) (provided (nat_le weight 256) heavy (Ok t)) u h in
    leb-true weight 256 (provided-parts (nat_le weight 256) heavy (Ok t) u q.1).0

provided-light : {weight : ℕ} {next : TypeOrRefusal} (b : Bool) (e : Exc) → IsLight weight next → IsLight weight (provided b e next)
provided-light {weight} {next} b e h u is = h u (provided-parts b e next u is).1

some-light : {A : Type 0} {weight : ℕ} {next : A → TypeOrRefusal} (o : Option A) (e : Exc) → ((a : A) → IsLight weight (next a)) →
    IsLight weight (provided_some o e next)
some-light {A} {weight} {next} o e h u is = let q = provided_some-parts o e next u is in h q.0 u q.2

fit-light : {weight : ℕ} {next : TypeOrRefusal} (r : Result Value Exc) (word : List ℕ) → IsLight weight next → IsLight weight (provided_fit r word next)
fit-light {weight} {next} r word h u is = let q = provided_fit-parts r word next u is in h u q.2

type-light : {weight : ℕ} {next : MethodTy → TypeOrRefusal} (c : TypeOrRefusal) → ((t : MethodTy) → IsLight weight (next t)) →
    IsLight weight (with_type c next)
type-light {weight} {next} c h u is = let q = with_type-parts c next u is in h q.0 u q.2

types-light : {weight : ℕ} {next : List MethodTy → TypeOrRefusal} (c : TypesOrRefusal) → ((ts : List MethodTy) → IsLight weight (next ts)) →
    IsLight weight (with_types c next)
types-light {weight} {next} c h u is = let q = with_types-parts c next u is in h q.0 u q.2

-- ---- one part

bind-light : (classes : List Class) (t : MethodTy) (weight place : ℕ) (v : Value) → IsLight (1 + weight) (bind_row classes t weight place v)
bind-light classes t weight place v =
    some-light (slice_get t.params place) (illegal (codes "bind")) (λ p.
    fit-light (fit classes v p) (codes "bind") (limited-light (codes "bind") (taking (spliced place 1 [] t.params) t)))

drop-light : (t : MethodTy) (weight place : ℕ) (types : List Ty) → IsLight (1 + weight) (drop_row t weight place types)
drop-light t weight place types =
    provided-light (nat_le place (length t.params)) (illegal (codes "drop")) (limited-light (codes "drop") (taking (spliced place 0 types t.params) t))

permute-light : (t : MethodTy) (weight : ℕ) (asked : MethodTy) (reorder : List ℕ) → IsLight (1 + weight) (permute_row t weight asked reorder)
permute-light t weight asked reorder =
    provided-light (names_types asked.params reorder t.params && is_same_return asked.ret t.ret) (illegal (codes "permute"))
    (limited-light (codes "permute") asked)

spread-light : (t : MethodTy) (weight : ℕ) (array : Option Ty) (count : ℕ) → IsLight (1 + weight) (spread_row t weight array count)
spread-light t weight array count =
    some-light (component_of array) (illegal (codes "spread")) (λ c.
    provided-light (ends_with t.params count (item_type c)) (illegal (codes "spread"))
    (limited-light (codes "spread") (taking (spliced (length t.params - count) count (ty.Array c ∷ []) t.params) t)))

gather-light : (classes : List Class) (t : MethodTy) (weight : ℕ) (array : Option Ty) (count : ℕ) →
    IsLight (1 + weight) (gather_row classes t weight array count)
gather-light classes t weight array count =
    some-light (component_of array) (illegal (codes "gather")) (λ c.
    provided-light (nat_lt 0 (length t.params) && takes_array classes c (slice_get t.params (length t.params - 1)) && nat_le count most_items)
    (illegal (codes "gather"))
    (limited-light (codes "gather") (taking (spliced (length t.params - 1) 1 (replicate count (item_type c)) t.params) t)))

convert-light : (by : Rules) (classes : List Class) (t : MethodTy) (weight : ℕ) (asked : MethodTy) →
    IsLight (1 + weight) (convert_row by classes t weight asked)
convert-light by classes t weight asked =
    provided-light (can_be_used_as by classes t asked) (mismatch classes t asked) (limited-light (word_of by) asked)

-- ---- several parts

filter-light : (t : MethodTy) (weight place : ℕ) (f : MethodTy) (own : ℕ) → IsLight (1 + weight + own) (filter_row t weight place f own)
filter-light t weight place f own =
    provided-light (length f.params == 1 && is_some f.ret && gives_at f.ret place t.params) (illegal (codes "filter"))
    (limited-light (codes "filter") (taking (spliced place 1 f.params t.params) t))

filterret-light : (t : MethodTy) (weight : ℕ) (f : MethodTy) (own : ℕ) → IsLight (1 + weight + own) (filterret_row t weight f own)
filterret-light t weight f own =
    provided-light (are_same_types f.params (option_to_list t.ret)) (illegal (codes "filterret"))
    (limited-light (codes "filterret") (method_type t.params f.ret))

fold-light : (t : MethodTy) (weight place : ℕ) (c : MethodTy) (own : ℕ) → IsLight (1 + weight + own) (fold_row t weight place c own)
fold-light t weight place c own =
    provided-light (gives_at c.ret place t.params && begins_with_types (drop place (folded t place c)) c.params) (illegal (codes "fold"))
    (limited-light (codes "fold") (taking (folded t place c) t))

collect-light : (t : MethodTy) (weight place : ℕ) (f : MethodTy) (own : ℕ) → IsLight (1 + weight + own) (collect_row t weight place f own)
collect-light t weight place f own =
    provided-light (gives_at f.ret place t.params) (illegal (codes "collect"))
    (limited-light (codes "collect") (taking (spliced place (count_of f.ret) f.params t.params) t))

guard-light : (c : MethodTy) (first : ℕ) (t : MethodTy) (weight : ℕ) (e : MethodTy) (last : ℕ) →
    IsLight (1 + first + weight + last) (guard_row c first t weight e last)
guard-light c first t weight e last =
    provided-light (is_same_method_type e t && is_same_return c.ret (Some boolean_type) && begins_with_types t.params c.params) (illegal (codes "guard"))
    (limited-light (codes "guard") t)

catch-light : (classes : List Class) (t : MethodTy) (weight : ℕ) (class : ClassId) (h : MethodTy) (own : ℕ) →
    IsLight (1 + weight + own) (catch_row classes t weight class h own)
catch-light classes t weight class h own =
    provided-light (is_subclass classes class throwable_class && handles classes class h t) (illegal (codes "catch")) (limited-light (codes "catch") t)

tryfinally-light : (t : MethodTy) (weight : ℕ) (c : MethodTy) (own : ℕ) → IsLight (1 + weight + own) (tryfinally_row t weight c own)
tryfinally-light t weight c own = provided-light (cleans_up c t) (illegal (codes "tryfinally")) (limited-light (codes "tryfinally") t)

switch-light : (f : MethodTy) (weight : ℕ) (cases : List MethodTy) (own : ℕ) → IsLight (1 + weight + own) (switch_row f weight cases own)
switch-light f weight cases own = provided-light (may_switch f cases) (illegal (codes "switch")) (limited-light (codes "switch") f)

counted-light : (c : MethodTy) (first : ℕ) (i : MethodTy) (weight : ℕ) (b : MethodTy) (last : ℕ) →
    IsLight (126 + first + weight + last) (counted_row c first i weight b last)
counted-light c first i weight b last =
    provided-light (may_loop c i b) (illegal (codes "counted")) (limited-light (codes "counted") (taking (loop_params c b) b))

-- ---- trees

pub typed-light : (table : LeafTable) (t : Tree) → IsLight (weight t) (type_of table t)
typed-light table (tree.Bind t place v) = type-light (type_of table t) (λ ty. bind-light table.classes ty (weight t) place v)
typed-light table (tree.Drop t place types) = type-light (type_of table t) (λ ty. drop-light ty (weight t) place types)
typed-light table (tree.Permute t asked reorder) = type-light (type_of table t) (λ ty. permute-light ty (weight t) asked reorder)
typed-light table (tree.FilterArg t place f) =
    type-light (type_of table t) (λ ty. type-light (type_of table f) (λ part. filter-light ty (weight t) place part (weight f)))
typed-light table (tree.FilterRet t f) =
    type-light (type_of table t) (λ ty. type-light (type_of table f) (λ part. filterret-light ty (weight t) part (weight f)))
typed-light table (tree.Fold t place c) =
    type-light (type_of table t) (λ ty. type-light (type_of table c) (λ part. fold-light ty (weight t) place part (weight c)))
typed-light table (tree.Collect t place f) =
    type-light (type_of table t) (λ ty. type-light (type_of table f) (λ part. collect-light ty (weight t) place part (weight f)))
typed-light table (tree.Spread t array count) = type-light (type_of table t) (λ ty. spread-light ty (weight t) array count)
typed-light table (tree.Gather t array count) = type-light (type_of table t) (λ ty. gather-light table.classes ty (weight t) array count)
typed-light table (tree.AsType t asked) = type-light (type_of table t) (λ ty. convert-light rules.AsType table.classes ty (weight t) asked)
typed-light table (tree.Explicit t asked) = type-light (type_of table t) (λ ty. convert-light rules.Explicit table.classes ty (weight t) asked)
typed-light table (tree.Guard c t e) =
    type-light (type_of table c) (λ test. type-light (type_of table t) (λ ty. type-light (type_of table e) (λ other.
    guard-light test (weight c) ty (weight t) other (weight e))))
typed-light table (tree.Catch t class h) =
    type-light (type_of table t) (λ ty. type-light (type_of table h) (λ handler. catch-light table.classes ty (weight t) class handler (weight h)))
typed-light table (tree.TryFinally t c) =
    type-light (type_of table t) (λ ty. type-light (type_of table c) (λ part. tryfinally-light ty (weight t) part (weight c)))
typed-light table (tree.Switch f cases) =
    type-light (type_of table f) (λ ty. types-light (types_of_cases table cases) (λ tys. switch-light ty (weight f) tys (cases_weight cases)))
typed-light table (tree.Counted c i b) =
    type-light (type_of table c) (λ counts. type-light (type_of table i) (λ starts. type-light (type_of table b) (λ turns.
    counted-light counts (weight c) starts (weight i) turns (weight b))))
typed-light table t = λ u is. omega arith
