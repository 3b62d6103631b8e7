-- What the rows of adapters tell that give a type: their conditions hold, and the type is the one that they make.
use Rattle.std.proofs.Common.{◌≡◌, true, ◌&&◌, ◌==◌, ℕ, ◌+◌, List, [], length, drop, Some, is_some, Ok, nat_le, codes}
use Rattle.std.specs.Prelude.{slice_get, option_to_list}
use Rattle.std.proofs.lemmas.Bool.{eqb-true, and_parts}
use Rattle.mh_values.specs.declared.class.Class.{Class}
use Rattle.mh_values.specs.declared.types.Ty.{Ty}
use Rattle.mh_values.specs.declared.types.MethodTy.{MethodTy}
use Rattle.mh_values.specs.declared.value.Value.{Value}
use Rattle.mh_values.specs.Computation.{spliced}
use Rattle.mh_values.specs.Same.{is_same_return, are_same_types, begins_with_types}
use Rattle.mh_values.proofs.SameTypes.{method_type}
use Rattle.mh_convert.specs.Conversion.{fit}
use Rattle.mh_tree.specs.Rows.{illegal, provided_fit, limited, taking, count_of, gives_at, names_types, folded, bind_row, drop_row, permute_row, filter_row, filterret_row, fold_row, collect_row}
use Rattle.mh_tree.proofs.Provided.{provided-parts, provided_some-parts, provided_fit-parts, limited-is}

pub bind_row-parts : (classes : List Class) (t : MethodTy) (weight place : ℕ) (v : Value) (u : MethodTy) → bind_row classes t weight place v ≡ Ok u →
    (p : Ty) × (w : Value) × (slice_get t.params place ≡ Some p) × (fit classes v p ≡ Ok w) × (u ≡ taking (spliced place 1 [] t.params) t)
bind_row-parts classes t weight place v u h =
    let made = taking (spliced place 1 [] t.params) t in
    let within = limited (codes "bind") (1 + weight) made in
    let q = provided_some-parts (slice_get t.params place) (illegal (codes "bind")) (λ p. provided_fit (fit classes v p) (codes "bind") within) u h in
    let f = provided_fit-parts (fit classes v q.0) (codes "bind") within u q.2 in
    (q.0, f.0, q.1, f.1, limited-is (codes "bind") (1 + weight) made u f.2)

pub drop_row-parts : (t : MethodTy) (weight place : ℕ) (types : List Ty) (u : MethodTy) → drop_row t weight place types ≡ Ok u →
    (nat_le place (length t.params) ≡ true) × (u ≡ taking (spliced place 0 types t.params) t)
drop_row-parts t weight place types u h =
    let made = taking (spliced place 0 types t.params) t in
    let q = provided-parts (nat_le place (length t.params)) (illegal (codes "drop")) (limited (codes "drop") (1 + weight) made) u h in
    (q.0, limited-is (codes "drop") (1 + weight) made u q.1)

pub permute_row-parts : (t : MethodTy) (weight : ℕ) (asked : MethodTy) (reorder : List ℕ) (u : MethodTy) → permute_row t weight asked reorder ≡ Ok u →
    (names_types asked.params reorder t.params ≡ true) × (is_same_return asked.ret t.ret ≡ true) × (u ≡ asked)
permute_row-parts t weight asked reorder u h =
    let named = names_types asked.params reorder t.params in
    let same = is_same_return asked.ret t.ret in
    let q = provided-parts (named && same) (illegal (codes "permute")) (limited (codes "permute") (1 + weight) asked) u h in
    let r = and_parts named same q.0 in
    (r.0, r.1, limited-is (codes "permute") (1 + weight) asked u q.1)

pub filter_row-parts : (t : MethodTy) (weight place : ℕ) (f : MethodTy) (f_weight : ℕ) (u : MethodTy) → filter_row t weight place f f_weight ≡ Ok u →
    (length f.params ≡ 1) × (is_some f.ret ≡ true) × (gives_at f.ret place t.params ≡ true) × (u ≡ taking (spliced place 1 f.params t.params) t)
filter_row-parts t weight place f f_weight u h =
    let made = taking (spliced place 1 f.params t.params) t in
    let one = length f.params == 1 in
    let gives = gives_at f.ret place t.params in
    let q = provided-parts (one && is_some f.ret && gives) (illegal (codes "filter")) (limited (codes "filter") (1 + weight + f_weight) made) u h in
    let r = and_parts (one && is_some f.ret) gives q.0 in
    let s = and_parts one (is_some f.ret) r.0 in
    (eqb-true (length f.params) 1 s.0, s.1, r.1, limited-is (codes "filter") (1 + weight + f_weight) made u q.1)

pub filterret_row-parts : (t : MethodTy) (weight : ℕ) (f : MethodTy) (f_weight : ℕ) (u : MethodTy) → filterret_row t weight f f_weight ≡ Ok u →
    (are_same_types f.params (option_to_list t.ret) ≡ true) × (u ≡ method_type t.params f.ret)
filterret_row-parts t weight f f_weight u h =
    let made = method_type t.params f.ret in
    let q = provided-parts (are_same_types f.params (option_to_list t.ret)) (illegal (codes "filterret")) (limited (codes "filterret") (1 + weight + f_weight)
    made) u h in
    (q.0, limited-is (codes "filterret") (1 + weight + f_weight) made u q.1)

pub fold_row-parts : (t : MethodTy) (weight place : ℕ) (c : MethodTy) (c_weight : ℕ) (u : MethodTy) → fold_row t weight place c c_weight ≡ Ok u →
    (gives_at c.ret place t.params ≡ true) × (begins_with_types (drop place (folded t place c)) c.params ≡ true) × (u ≡ taking (folded t place c) t)
fold_row-parts t weight place c c_weight u h =
    let made = taking (folded t place c) t in
    let gives = gives_at c.ret place t.params in
    let takes = begins_with_types (drop place (folded t place c)) c.params in
    let q = provided-parts (gives && takes) (illegal (codes "fold")) (limited (codes "fold") (1 + weight + c_weight) made) u h in
    let r = and_parts gives takes q.0 in
    (r.0, r.1, limited-is (codes "fold") (1 + weight + c_weight) made u q.1)

pub collect_row-parts : (t : MethodTy) (weight place : ℕ) (f : MethodTy) (f_weight : ℕ) (u : MethodTy) → collect_row t weight place f f_weight ≡ Ok u →
    (gives_at f.ret place t.params ≡ true) × (u ≡ taking (spliced place (count_of f.ret) f.params t.params) t)
collect_row-parts t weight place f f_weight u h =
    let made = taking (spliced place (count_of f.ret) f.params t.params) t in
    let q = provided-parts (gives_at f.ret place t.params) (illegal (codes "collect")) (limited (codes "collect") (1 + weight + f_weight) made) u h in
    (q.0, limited-is (codes "collect") (1 + weight + f_weight) made u q.1)
