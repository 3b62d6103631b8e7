-- What a row tells that gives a type: its conditions hold, and the type is the one that it makes.
use Rattle.std.proofs.Common.{◌≡◌, sym, Bool, true, ◌&&◌, ℕ, ◌+◌, ◌-◌, List, [], ◌∷◌, length, drop, replicate, Option, Some, is_some, Ok, nat_lt, nat_le, ◌≤◌, codes, arith}
use Rattle.std.specs.Prelude.{slice_get}
use Rattle.std.specs.List.{list_all}
use Rattle.std.proofs.lemmas.Bool.{and_parts}
use Rattle.std.proofs.lemmas.Bool.Decides.{nat_tests}
use Rattle.mh_base.specs.Provided.{provided}
use Rattle.mh_base.proofs.Inversion.{ok_is}
use Rattle.mh_values.specs.declared.class.Class.{Class}
use Rattle.mh_values.specs.declared.class.ClassId.{ClassId}
use Rattle.mh_values.specs.declared.types.Comp.{Comp}
use Rattle.mh_values.specs.declared.types.Ty.{Ty}
use Rattle.mh_values.specs.declared.types.Ty.TheVariants as ty
use Rattle.mh_values.specs.declared.types.MethodTy.{MethodTy}
use Rattle.mh_values.specs.declared.value.Value.{Value}
use Rattle.mh_values.specs.Array.{item_type}
use Rattle.mh_values.specs.Class.{is_subclass, throwable_class}
use Rattle.mh_values.specs.Computation.{spliced}
use Rattle.mh_values.specs.Same.{are_same_types, is_same_return, begins_with_types, is_same_method_type}
use Rattle.mh_values.specs.Slots.{slots_of_all}
use Rattle.mh_values.specs.ValueLimits.{most_items}
use Rattle.mh_values.proofs.SameTypes.{method_type}
use Rattle.mh_convert.specs.declared.conv.Rules.{Rules}
use Rattle.mh_convert.specs.Conversion.{fit, ret_conversion_of}
use Rattle.mh_leaf.specs.Outcome.{boolean_type, int_type}
use Rattle.mh_pieces.specs.declared.piece.Piece.{Piece}
use Rattle.mh_pieces.specs.Joined.{arg_types}
use Rattle.mh_pieces.specs.Recipe.{most_concat_slots, returns_text}
use Rattle.mh_tree.specs.Rows.{TypeOrRefusal, illegal, provided_fit, limited, taking, component_of, takes_array, ends_with, can_all, can_be_used_as, mismatch, takes_exception, handles, can_be_joined, constant_row, identity_row, throw_row, concat_row, spread_row, gather_row, word_of, convert_row, guard_row, catch_row, end_types, tryfinally_row, most_cases, switch_row, turn_types, loop_params, counted_row}
pub use Rattle.mh_tree.proofs.Provided.{with_type-parts, with_types-parts, and_types-parts, provided-parts, provided_some-parts, provided_fit-parts, limited-is}
pub use Rattle.mh_tree.proofs.RowPartsAdapters.{
  bind_row-parts,
  drop_row-parts,
  permute_row-parts,
  filter_row-parts,
  filterret_row-parts,
  fold_row-parts,
  collect_row-parts,
}

pub constant_row-parts : (classes : List Class) (t : Option Ty) (v : Value) (u : MethodTy) → constant_row classes t v ≡ Ok u → (r : Ty) × (w : Value)
    × (t ≡ Some r) × (fit classes v r ≡ Ok w) × (u ≡ method_type [] (Some r))
constant_row-parts classes t v u h =
    let make : Ty → TypeOrRefusal = λ r. limited (codes "constant") 1 (method_type [] (Some r)) in
    let q = provided_some-parts t (illegal (codes "constant")) (λ r. provided_fit (fit classes v r) (codes "constant") (make r)) u h in
    let f = provided_fit-parts (fit classes v q.0) (codes "constant") (make q.0) u q.2 in
    (q.0, f.0, q.1, f.1, limited-is (codes "constant") 1 (method_type [] (Some q.0)) u f.2)

pub identity_row-parts : (t : Option Ty) (u : MethodTy) → identity_row t ≡ Ok u → (r : Ty) × (t ≡ Some r) × (u ≡ method_type (r ∷ []) (Some r))
identity_row-parts t u h =
    let q = provided_some-parts t (illegal (codes "identity")) (λ r. limited (codes "identity") 1 (method_type (r ∷ []) (Some r))) u h in
    (q.0, q.1, limited-is (codes "identity") 1 (method_type (q.0 ∷ []) (Some q.0)) u q.2)

pub throw_row-parts : (classes : List Class) (ret : Option Ty) (class : ClassId) (u : MethodTy) → throw_row classes ret class ≡ Ok u →
    (is_subclass classes class throwable_class ≡ true) × (u ≡ method_type (ty.Class class ∷ []) ret)
throw_row-parts classes ret class u h =
    let made = method_type (ty.Class class ∷ []) ret in
    let q = provided-parts (is_subclass classes class throwable_class) (illegal (codes "throw")) (limited (codes "throw") 1 made) u h in
    (q.0, limited-is (codes "throw") 1 made u q.1)

pub concat_row-parts : (classes : List Class) (asked : MethodTy) (pieces : List Piece) (u : MethodTy) → concat_row classes asked pieces ≡ Ok u →
    (are_same_types (arg_types pieces) asked.params ≡ true) × (nat_le (slots_of_all asked.params) most_concat_slots ≡ true)
    × (returns_text classes asked.ret ≡ true)
    × (u ≡ asked)
concat_row-parts classes asked pieces u h =
    let same = are_same_types (arg_types pieces) asked.params in
    let few = nat_le (slots_of_all asked.params) most_concat_slots in
    let q = provided-parts (can_be_joined classes asked pieces) (illegal (codes "concat")) (Ok asked) u h in
    let r = and_parts (same && few) (returns_text classes asked.ret) q.0 in
    let s = and_parts same few r.0 in
    (s.0, s.1, r.1, sym (ok_is asked u q.1))

pub spread_row-parts : (t : MethodTy) (weight : ℕ) (array : Option Ty) (count : ℕ) (u : MethodTy) → spread_row t weight array count ≡ Ok u →
    (c : Comp) × (component_of array ≡ Some c) × (ends_with t.params count (item_type c) ≡ true)
    × (u ≡ taking (spliced (length t.params - count) count (ty.Array c ∷ []) t.params) t)
spread_row-parts t weight array count u h =
    let made : Comp → MethodTy = λ c. taking (spliced (length t.params - count) count (ty.Array c ∷ []) t.params) t in
    let within : Comp → TypeOrRefusal = λ c. limited (codes "spread") (1 + weight) (made c) in
    let q = provided_some-parts (component_of array) (illegal (codes "spread")) (λ c. provided (ends_with t.params count (item_type c))
    (illegal (codes "spread")) (within c)) u h in
    let r = provided-parts (ends_with t.params count (item_type q.0)) (illegal (codes "spread")) (within q.0) u q.2 in
    (q.0, q.1, r.0, limited-is (codes "spread") (1 + weight) (made q.0) u r.1)

pub gather_row-parts : (classes : List Class) (t : MethodTy) (weight : ℕ) (array : Option Ty) (count : ℕ) (u : MethodTy) →
    gather_row classes t weight array count ≡ Ok u → (c : Comp) × (component_of array ≡ Some c)
    × (takes_array classes c (slice_get t.params (length t.params - 1)) ≡ true)
    × (u ≡ taking (spliced (length t.params - 1) 1 (replicate count (item_type c)) t.params) t)
gather_row-parts classes t weight array count u h =
    let made : Comp → MethodTy = λ c. taking (spliced (length t.params - 1) 1 (replicate count (item_type c)) t.params) t in
    let within : Comp → TypeOrRefusal = λ c. limited (codes "gather") (1 + weight) (made c) in
    let some = nat_lt 0 (length t.params) in
    let takes : Comp → Bool = λ c. takes_array classes c (slice_get t.params (length t.params - 1)) in
    let few = nat_le count most_items in
    let q = provided_some-parts (component_of array) (illegal (codes "gather")) (λ c. provided (some && takes c && few) (illegal (codes "gather")) (within c)) u
    h in
    let r = provided-parts (some && takes q.0 && few) (illegal (codes "gather")) (within q.0) u q.2 in
    let s = and_parts (some && takes q.0) few r.0 in
    (q.0, q.1, (and_parts some (takes q.0) s.0).1, limited-is (codes "gather") (1 + weight) (made q.0) u r.1)

-- no more items are gathered than an array may have
pub gather_row-few : (classes : List Class) (t : MethodTy) (weight : ℕ) (array : Option Ty) (count : ℕ) (u : MethodTy) →
    gather_row classes t weight array count ≡ Ok u → count ≤ most_items
gather_row-few classes t weight array count u h =
    let made : Comp → MethodTy = λ c. taking (spliced (length t.params - 1) 1 (replicate count (item_type c)) t.params) t in
    let within : Comp → TypeOrRefusal = λ c. limited (codes "gather") (1 + weight) (made c) in
    let some = nat_lt 0 (length t.params) in
    let takes : Comp → Bool = λ c. takes_array classes c (slice_get t.params (length t.params - 1)) in
    let few = nat_le count most_items in
    let q = provided_some-parts (component_of array) (illegal (codes "gather")) (λ c. provided (some && takes c && few) (illegal (codes "gather")) (within c)) u
    h in
    let r = provided-parts (some && takes q.0 && few) (illegal (codes "gather")) (within q.0) u q.2 in
    let s : nat_le count most_items ≡ true = (and_parts (some && takes q.0) few r.0).1 in
    grind (arith, nat_tests)

pub convert_row-parts : (by : Rules) (classes : List Class) (t : MethodTy) (weight : ℕ) (asked u : MethodTy) → convert_row by classes t weight asked ≡ Ok u →
    (can_all by classes asked.params t.params ≡ true) × (is_some (ret_conversion_of by classes t.ret asked.ret) ≡ true) × (u ≡ asked)
convert_row-parts by classes t weight asked u h =
    let q = provided-parts (can_be_used_as by classes t asked) (mismatch classes t asked) (limited (word_of by) (1 + weight) asked) u h in
    let r = and_parts (can_all by classes asked.params t.params) (is_some (ret_conversion_of by classes t.ret asked.ret)) q.0 in
    (r.0, r.1, limited-is (word_of by) (1 + weight) asked u q.1)

pub guard_row-parts : (c : MethodTy) (c_weight : ℕ) (t : MethodTy) (weight : ℕ) (e : MethodTy) (e_weight : ℕ) (u : MethodTy) →
    guard_row c c_weight t weight e e_weight ≡ Ok u → (is_same_method_type e t ≡ true) × (is_same_return c.ret (Some boolean_type) ≡ true)
    × (begins_with_types t.params c.params ≡ true) × (u ≡ t)
guard_row-parts c c_weight t weight e e_weight u h =
    let same = is_same_method_type e t in
    let tests = is_same_return c.ret (Some boolean_type) in
    let takes = begins_with_types t.params c.params in
    let q = provided-parts (same && tests && takes) (illegal (codes "guard")) (limited (codes "guard") (1 + c_weight + weight + e_weight) t) u h in
    let r = and_parts (same && tests) takes q.0 in
    let s = and_parts same tests r.0 in
    (s.0, s.1, r.1, limited-is (codes "guard") (1 + c_weight + weight + e_weight) t u q.1)

pub catch_row-parts : (classes : List Class) (t : MethodTy) (weight : ℕ) (class : ClassId) (h : MethodTy) (h_weight : ℕ) (u : MethodTy) →
    catch_row classes t weight class h h_weight ≡ Ok u → (is_subclass classes class throwable_class ≡ true)
    × (takes_exception classes class h.params t.params ≡ true) × (is_same_return h.ret t.ret ≡ true) × (u ≡ t)
catch_row-parts classes t weight class h h_weight u is =
    let below = is_subclass classes class throwable_class in
    let q = provided-parts (below && handles classes class h t) (illegal (codes "catch")) (limited (codes "catch") (1 + weight + h_weight) t) u is in
    let r = and_parts below (handles classes class h t) q.0 in
    let s = and_parts (takes_exception classes class h.params t.params) (is_same_return h.ret t.ret) r.1 in
    (r.0, s.0, s.1, limited-is (codes "catch") (1 + weight + h_weight) t u q.1)

pub tryfinally_row-parts : (t : MethodTy) (weight : ℕ) (c : MethodTy) (c_weight : ℕ) (u : MethodTy) → tryfinally_row t weight c c_weight ≡ Ok u →
    (is_same_return c.ret t.ret ≡ true) × (begins_with_types c.params (end_types t.ret) ≡ true)
    × (begins_with_types t.params (drop (length (end_types t.ret)) c.params) ≡ true)
    × (u ≡ t)
tryfinally_row-parts t weight c c_weight u is =
    let same = is_same_return c.ret t.ret in
    let first = begins_with_types c.params (end_types t.ret) in
    let others = begins_with_types t.params (drop (length (end_types t.ret)) c.params) in
    let q = provided-parts (same && first && others) (illegal (codes "tryfinally")) (limited (codes "tryfinally") (1 + weight + c_weight) t) u is in
    let r = and_parts (same && first) others q.0 in
    let s = and_parts same first r.0 in
    (s.0, s.1, r.1, limited-is (codes "tryfinally") (1 + weight + c_weight) t u q.1)

pub switch_row-parts : (f : MethodTy) (weight : ℕ) (cases : List MethodTy) (c_weight : ℕ) (u : MethodTy) → switch_row f weight cases c_weight ≡ Ok u →
    (list_all (λ c. is_same_method_type c f) cases ≡ true) × (is_same_return (slice_get f.params 0) (Some int_type) ≡ true) × (u ≡ f)
switch_row-parts f weight cases c_weight u is =
    let some = nat_lt 0 (length cases) in
    let few = nat_le (length cases) most_cases in
    let same = list_all (λ c. is_same_method_type c f) cases in
    let picks = is_same_return (slice_get f.params 0) (Some int_type) in
    let q = provided-parts (some && few && same && picks) (illegal (codes "switch")) (limited (codes "switch") (1 + weight + c_weight) f) u is in
    let r = and_parts (some && few && same) picks q.0 in
    let s = and_parts (some && few) same r.0 in
    (s.1, r.1, limited-is (codes "switch") (1 + weight + c_weight) f u q.1)

pub counted_row-parts : (n : MethodTy) (n_weight : ℕ) (i : MethodTy) (i_weight : ℕ) (b : MethodTy) (b_weight : ℕ) (u : MethodTy) →
    counted_row n n_weight i i_weight b b_weight ≡ Ok u → (is_same_return n.ret (Some int_type) ≡ true)
    × (begins_with_types b.params (turn_types b.ret) ≡ true) × (is_same_return i.ret b.ret ≡ true)
    × (begins_with_types (loop_params n b) n.params ≡ true)
    × (begins_with_types (loop_params n b) i.params ≡ true)
    × (u ≡ taking (loop_params n b) b)
counted_row-parts n n_weight i i_weight b b_weight u is =
    let counts = is_same_return n.ret (Some int_type) in
    let first = begins_with_types b.params (turn_types b.ret) in
    let starts = is_same_return i.ret b.ret in
    let n_first = begins_with_types (loop_params n b) n.params in
    let i_first = begins_with_types (loop_params n b) i.params in
    let made = taking (loop_params n b) b in
    let q = provided-parts (counts && first && starts && n_first && i_first) (illegal (codes "counted"))
    (limited (codes "counted") (126 + n_weight + i_weight + b_weight) made) u is in
    let r = and_parts (counts && first && starts && n_first) i_first q.0 in
    let s = and_parts (counts && first && starts) n_first r.0 in
    let t = and_parts (counts && first) starts s.0 in
    let v = and_parts counts first t.0 in
    (v.0, v.1, t.1, s.1, r.1, limited-is (codes "counted") (126 + n_weight + i_weight + b_weight) made u q.1)
