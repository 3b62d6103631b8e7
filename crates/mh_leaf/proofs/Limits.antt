-- A leaf on arguments within their limits gives a result within its limits.
use Rattle.std.proofs.Common.{◌≡◌, refl, ℕ, zero, suc, ◌≤◌, ℤ, pos, negsuc, Bool, true, false, not, cond, List, [], ◌∷◌, ◌++◌, length, Option, Some, None, codes}
use Rattle.std.specs.Int.{w32, w64, int_wrap}
use Rattle.std.specs.Prelude.{◌+ℤ◌, ◌-ℤ◌, ◌*ℤ◌, int_lt, option_map, option_and_then, slice_get, sum_by}
use Rattle.std.proofs.lemmas.Bool.{leb-true}
use Rattle.mh_values.specs.declared.value.Exc.{Exc}
use Rattle.mh_values.specs.declared.value.Num.TheVariants as num
use Rattle.mh_values.specs.declared.value.Value.{Value}
use Rattle.mh_values.specs.declared.value.Value.TheVariants as value
use Rattle.mh_values.specs.declared.value.Outcome.{Outcome}
use Rattle.mh_values.specs.declared.value.Outcome.TheVariants.{Return, Throw}
use Rattle.mh_values.specs.declared.value.LeafId.{LeafId}
use Rattle.mh_values.specs.declared.calls.LeafCall.{LeafCall}
use Rattle.mh_values.specs.Class.{internal_error_class, null_pointer_class}
use Rattle.mh_values.specs.Exception.{bare, saying}
use Rattle.mh_values.specs.ValueLimits.{AreValuesWithinLimits, is_short_text, most_characters}
use Rattle.mh_leaf.specs.declared.leaf.Kind.{Kind}
use Rattle.mh_leaf.specs.declared.leaf.Kind.TheVariants as kind
use Rattle.mh_leaf.specs.declared.leaf.Leaf.{Leaf}
use Rattle.mh_leaf.specs.LeafTable.{LeafTable}
use Rattle.mh_leaf.specs.Limits.{IsOutcomeWithinLimits, AreCallsWithinLimits, IsRunWithinLimits}
use Rattle.mh_leaf.specs.Outcome.{returned, int, long, boolean, divided, is_same_int, characters_of, text, joined, units_of, measured, two_ints, two_longs, one_boolean, one_value, two_values, first_value, picked_value, kind_on, lacks_receiver, leaf_outcome, calls_of, ran_of_some, leaf_run, leaf_mean}

-- the outcome, if there is one, is within the limits
abbrev IsWithin : Option Outcome → Type 0
IsWithin (Some outcome) = IsOutcomeWithinLimits outcome
IsWithin None = Unit {0}

mapped-within : {A : Type 0} (f : A → Outcome) (o : Option A) → ((a : A) → IsOutcomeWithinLimits (f a)) → IsWithin (option_map f o)
mapped-within f (Some a) h = h a
mapped-within f None h = tt

-- of two numbers
pair-within : (f : ℤ × ℤ → Outcome) (o : Option (ℤ × ℤ)) → ((p : ℤ × ℤ) → IsOutcomeWithinLimits (f p)) → IsWithin (option_map f o)
pair-within f o h = mapped-within f o h

divided-within : (a b : ℤ) → IsOutcomeWithinLimits (divided a b)
divided-within a (pos zero) = tt
divided-within a (pos (suc b)) = tt
divided-within a (negsuc b) = tt

-- ---- texts

chosen : (b : Bool) (s : List ℕ) (e : Exc) → (b ≡ true → length s ≤ most_characters) → IsOutcomeWithinLimits (cond b (returned (value.Text s)) (Throw e))
chosen true s e h = h refl
chosen false s e h = tt

text-within : (s : List ℕ) → IsOutcomeWithinLimits (text s)
text-within s = chosen (is_short_text s) s (saying internal_error_class (codes "string too long")) (leb-true (length s) most_characters)

joined-within : (s t : Option (List ℕ)) → IsOutcomeWithinLimits (joined s t)
joined-within (Some s) (Some t) = text-within (s ++ t)
joined-within (Some s) None = tt
joined-within None t = tt

-- the length of a text, if there is one, is no text
counted : (b : Bool) (z : ℤ) → IsWithin (cond b (Some (int z)) None)
counted true z = tt
counted false z = tt

measured-within : (v : Value) → IsWithin (measured v)
measured-within (value.Text s) = counted (is_short_text s) (pos (sum_by units_of s))
measured-within value.Null = tt
measured-within v = tt

length-within : (o : Option Value) → IsWithin (option_and_then measured o)
length-within (Some v) = measured-within v
length-within None = tt

-- ---- arguments

one-within : (args : List Value) → AreValuesWithinLimits args → IsWithin (option_map returned (one_value args))
one-within [] have = tt
one-within (v ∷ []) have = have.0
one-within (v ∷ w ∷ vs) have = tt

first-within : (args : List Value) → AreValuesWithinLimits args → IsWithin (option_map returned (first_value args))
first-within [] have = tt
first-within (v ∷ []) have = tt
first-within (v ∷ w ∷ vs) have = have.0

picked-within : (args : List Value) → AreValuesWithinLimits args → IsWithin (option_map returned (picked_value args))
picked-within (value.Prim (num.Z true) ∷ v ∷ w ∷ []) have = have.1.0
picked-within (value.Prim (num.Z false) ∷ v ∷ w ∷ []) have = have.1.1.0
picked-within args have = tt

-- ---- kinds

kind-within : (k : Kind) (args : List Value) (n : ℕ) → AreValuesWithinLimits args → IsWithin (kind_on k args n)
kind-within kind.Iadd args n have = pair-within (λ p. int (int_wrap w32 (p.0 +ℤ p.1))) (two_ints args) (λ p. tt)
kind-within kind.Isub args n have = pair-within (λ p. int (int_wrap w32 (p.0 -ℤ p.1))) (two_ints args) (λ p. tt)
kind-within kind.Imul args n have = pair-within (λ p. int (int_wrap w32 (p.0 *ℤ p.1))) (two_ints args) (λ p. tt)
kind-within kind.Idiv args n have = pair-within (λ p. divided p.0 p.1) (two_ints args) (λ p. divided-within p.0 p.1)
kind-within kind.Ladd args n have = pair-within (λ p. long (int_wrap w64 (p.0 +ℤ p.1))) (two_longs args) (λ p. tt)
kind-within kind.Ieq args n have = pair-within (λ p. boolean (is_same_int p.0 p.1)) (two_ints args) (λ p. tt)
kind-within kind.Ilt args n have = pair-within (λ p. boolean (int_lt p.0 p.1)) (two_ints args) (λ p. tt)
kind-within kind.Not args n have = mapped-within (λ (b : Bool). boolean (not b)) (one_boolean args) (λ b. tt)
kind-within kind.Concat args n have =
    mapped-within (λ (p : Value × Value). joined (characters_of p.0) (characters_of p.1)) (two_values args)
    (λ p. joined-within (characters_of p.0) (characters_of p.1))
kind-within kind.Length args n have = length-within (one_value args)
kind-within kind.Same args n have = one-within args have
kind-within kind.First args n have = first-within args have
kind-within kind.Pick args n have = picked-within args have
kind-within kind.Tick args n have = tt
kind-within kind.Note args n have = tt
kind-within (kind.Throw class) args n have = tt

-- ---- leaves

chosen-within : (b : Bool) (x y : Option Outcome) → IsWithin x → IsWithin y → IsWithin (cond b x y)
chosen-within true x y h k = h
chosen-within false x y h k = k

leaf-within : (leaf : Leaf) (args : List Value) (n : ℕ) → AreValuesWithinLimits args → IsWithin (leaf_outcome leaf args n)
leaf-within leaf args n have =
    chosen-within (lacks_receiver leaf args) (Some (Throw (bare null_pointer_class))) (kind_on leaf.kind args n) tt (kind-within leaf.kind args n have)

calls-within : (b : Bool) (l : LeafId) (args : List Value) → AreValuesWithinLimits args →
    AreCallsWithinLimits (cond b [] (record { leaf = l; args = args } ∷ []))
calls-within true l args have = tt
calls-within false l args have = (have, tt)

ran-within : (o : Option Outcome) (calls : List LeafCall) → IsWithin o → AreCallsWithinLimits calls → IsRunWithinLimits (ran_of_some o calls)
ran-within (Some (Return v)) calls h k = (h, k)
ran-within (Some (Throw e)) calls h k = k
ran-within None calls h k = tt

run-within : (l : LeafId) (o : Option Leaf) (args : List Value) (n : ℕ) → AreValuesWithinLimits args → IsRunWithinLimits (leaf_run l o args n)
run-within l (Some leaf) args n have =
    ran-within (leaf_outcome leaf args n) (calls_of l leaf args) (leaf-within leaf args n have) (calls-within (lacks_receiver leaf args) l args have)
run-within l None args n have = tt

-- the run of a leaf of the table, on arguments within their limits
pub leaf_mean-limits : (table : LeafTable) (l : LeafId) (args : List Value) (n : ℕ) → AreValuesWithinLimits args → IsRunWithinLimits (leaf_mean table l args n)
leaf_mean-limits table l args n have = run-within l (slice_get table.leaves l.0) args n have
