-- How many leaf calls runs make, one after the other.
use Rattle.std.proofs.Common.{◌≡◌, refl, ℕ, zero, suc, ◌+◌, ◌*◌, ◌≤◌, ◌==◌, max, ℤ, pos, negsuc, Bool, true, false, cond, List, [], ◌∷◌, length, map, codes, Option, Some, None, Result, Ok, Err, nat_le, length-append, mul-le-mul_right, arith}
use Rattle.std.specs.Prelude.{slice_get}
use Rattle.std.proofs.lemmas.Bool.{leb-true}
use Rattle.mh_values.specs.declared.class.Class.{Class}
use Rattle.mh_values.specs.declared.types.Ty.{Ty}
use Rattle.mh_values.specs.declared.types.MethodTy.{MethodTy}
use Rattle.mh_values.specs.declared.calls.LeafCall.{LeafCall}
use Rattle.mh_values.specs.declared.value.Exc.{Exc}
use Rattle.mh_values.specs.declared.value.LeafId.{LeafId}
use Rattle.mh_values.specs.declared.value.Num.TheVariants as num
use Rattle.mh_values.specs.declared.value.Outcome.{Outcome}
use Rattle.mh_values.specs.declared.value.Outcome.TheVariants.{Return, Throw}
use Rattle.mh_values.specs.declared.value.Value.{Value}
use Rattle.mh_values.specs.declared.value.Value.TheVariants as value
use Rattle.mh_values.specs.Array.{spread_values, value_of_item}
use Rattle.mh_values.specs.Class.{illegal_argument_class, internal_error_class, null_pointer_class}
use Rattle.mh_values.specs.Computation.{Ran, Gave, Threw, Stuck, raised, after, and_then, guarded, found}
use Rattle.mh_values.specs.Exception.{bare, saying}
use Rattle.mh_convert.specs.declared.conv.Rules.{Rules}
use Rattle.mh_convert.specs.Conversion.{ret_conversion_of, ret_conv}
use Rattle.mh_leaf.specs.declared.leaf.Leaf.{Leaf}
use Rattle.mh_leaf.specs.Ending.{ended_by, most_turns, picked_by, rethrown, turned, turns_to}
use Rattle.mh_leaf.specs.LeafTable.{LeafTable}
use Rattle.mh_leaf.specs.Outcome.{calls_of, lacks_receiver, leaf_mean, leaf_outcome, leaf_run, ran_of, ran_of_some}
use Rattle.mh_tree.specs.Rows.{TypeOrRefusal}
use Rattle.mh_tree.specs.Meaning.{Done, known, fitted, or_throw, thrown, decided, switched, bounded_by, conv_result}
use Rattle.mh_tree.specs.MostCalls.{MakesAtMost}

-- ---- one run after another

pub after-most : {A : Type 0} (calls : List LeafCall) (r : Ran A) (most : ℕ) → MakesAtMost most r → MakesAtMost (length calls + most) (after calls r)
after-most calls (Gave a more) most h = omega (arith, length-append calls more)
after-most calls (Threw e more) most h = omega (arith, length-append calls more)
after-most calls Stuck most h = omega arith

pub then-most : {A B : Type 0} (r : Ran A) (n : ℕ) (next : A → ℕ → Ran B) (most others : ℕ) → MakesAtMost most r →
    ((a : A) (k : ℕ) → MakesAtMost others (next a k)) → MakesAtMost (most + others) (and_then r n next)
then-most (Gave a calls) n next most others h more =
    let m = after-most calls (next a (raised n calls)) others (more a (raised n calls)) in omega arith
then-most (Threw e calls) n next most others h more = omega arith
then-most Stuck n next most others h more = omega arith

pub chosen-most : {A : Type 0} (b : Bool) (r s : Ran A) (most : ℕ) → (b ≡ true → MakesAtMost most r) → MakesAtMost most s → MakesAtMost most (cond b r s)
chosen-most true r s most h k = h refl
chosen-most false r s most h k = k

pub guarded-most : {A : Type 0} (r : Ran A) (test : Exc → Bool) (n : ℕ) (handler : Exc → ℕ → Ran A) (most others : ℕ) → MakesAtMost most r →
    ((e : Exc) (k : ℕ) → MakesAtMost others (handler e k)) → MakesAtMost (most + others) (guarded r test n handler)
guarded-most (Gave a calls) test n handler most others h more = omega arith
guarded-most (Threw e calls) test n handler most others h more =
    let m = after-most calls (handler e (raised n calls)) others (more e (raised n calls)) in
    chosen-most (test e) (after calls (handler e (raised n calls))) (Threw e calls) (most + others) (λ is. omega (arith, m)) (omega arith)
guarded-most Stuck test n handler most others h more = omega arith

rethrown-most : {A : Type 0} (e : Exc) (r : Ran A) (most : ℕ) → MakesAtMost most r → MakesAtMost most (rethrown e r)
rethrown-most e (Gave a calls) most h = h
rethrown-most e (Threw d calls) most h = h
rethrown-most e Stuck most h = h

-- a cleanup after a run, however that ended
pub ended-most : {A B : Type 0} (r : Ran A) (n : ℕ) (on_result : A → ℕ → Ran B) (on_exception : Exc → ℕ → Ran B) (most others : ℕ) → MakesAtMost most r →
    ((a : A) (k : ℕ) → MakesAtMost others (on_result a k)) → ((e : Exc) (k : ℕ) → MakesAtMost others (on_exception e k)) →
    MakesAtMost (most + others) (ended_by r n on_result on_exception)
ended-most (Gave a calls) n on_result on_exception most others h results exceptions =
    let m = after-most calls (on_result a (raised n calls)) others (results a (raised n calls)) in omega arith
ended-most (Threw e calls) n on_result on_exception most others h results exceptions =
    let run = on_exception e (raised n calls) in
    let m = after-most calls (rethrown e run) others (rethrown-most e run others (exceptions e (raised n calls))) in omega arith
ended-most Stuck n on_result on_exception most others h results exceptions = omega arith

-- ---- what goes on with something, if it is there

pub found-most : {A B : Type 0} (o : Option A) (next : A → Ran B) (most : ℕ) → ((a : A) → MakesAtMost most (next a)) → MakesAtMost most (found o next)
found-most (Some a) next most h = h a
found-most None next most h = omega arith

pub known-most : {A : Type 0} (c : TypeOrRefusal) (next : MethodTy → Ran A) (most : ℕ) → ((t : MethodTy) → MakesAtMost most (next t)) →
    MakesAtMost most (known c next)
known-most (Ok t) next most h = h t
known-most (Err e) next most h = omega arith

pub fitted-most : {A : Type 0} (r : Result Value Exc) (next : Value → Ran A) (most : ℕ) → ((v : Value) → MakesAtMost most (next v)) →
    MakesAtMost most (fitted r next)
fitted-most (Ok v) next most h = h v
fitted-most (Err e) next most h = omega arith

pub throw-most : {A B : Type 0} (r : Result A Exc) (next : A → Ran B) (most : ℕ) → ((a : A) → MakesAtMost most (next a)) → MakesAtMost most (or_throw r next)
throw-most (Ok a) next most h = h a
throw-most (Err e) next most h = omega arith

-- ---- what makes no leaf calls

pub thrown-none : (v : Value) → MakesAtMost 0 (thrown v)
thrown-none (value.Thrown e) = omega arith
thrown-none value.Null = omega arith
thrown-none v = omega arith

chosen-none : {A : Type 0} (b : Bool) (r s : Ran A) → MakesAtMost 0 r → MakesAtMost 0 s → MakesAtMost 0 (cond b r s)
chosen-none true r s h k = h
chosen-none false r s h k = k

spread-none : (count : ℕ) (v : Value) → MakesAtMost 0 (spread_values count v)
spread-none count value.Null = chosen-none (count == 0) (Gave [] []) (Threw (bare null_pointer_class) []) (omega arith) (omega arith)
spread-none count (value.Array c items) =
    chosen-none (length items == count) (Gave (map value_of_item items) []) (Threw (saying illegal_argument_class (codes "spread")) []) (omega arith)
    (omega arith)
spread-none count v = omega arith

-- the items of an array, and then what runs on them
pub spread-most : {B : Type 0} (count : ℕ) (v : Value) (n : ℕ) (next : List Value → ℕ → Ran B) (most : ℕ) →
    ((vs : List Value) (k : ℕ) → MakesAtMost most (next vs k)) → MakesAtMost most (and_then (spread_values count v) n next)
spread-most count v n next most h = let m = then-most (spread_values count v) n next 0 most (spread-none count v) h in omega (arith, m)

pub conv_result-none : (by : Rules) (classes : List Class) (s t : Option Ty) (r : Option Value) → MakesAtMost 0 (conv_result by classes s t r)
conv_result-none by classes s t r =
    found-most (ret_conversion_of by classes s t) (λ c. or_throw (ret_conv by classes c r) (λ v. Gave v [])) 0
    (λ c. throw-most (ret_conv by classes c r) (λ v. Gave v []) 0 (λ v. omega arith))

pub outcome-none : (outcome : Outcome) → MakesAtMost 0 (ran_of outcome [])
outcome-none (Return v) = omega arith
outcome-none (Throw e) = omega arith

-- ---- leaves

outcome-most : (o : Option Outcome) (calls : List LeafCall) → MakesAtMost (length calls) (ran_of_some o calls)
outcome-most (Some (Return v)) calls = omega arith
outcome-most (Some (Throw e)) calls = omega arith
outcome-most None calls = omega arith

one-call : (b : Bool) (call : LeafCall) → length (cond b [] (call ∷ [])) ≤ 1
one-call true call = omega arith
one-call false call = omega arith

run-one : (l : LeafId) (o : Option Leaf) (args : List Value) (n : ℕ) → MakesAtMost 1 (leaf_run l o args n)
run-one l (Some leaf) args n =
    let m = outcome-most (leaf_outcome leaf args n) (calls_of l leaf args) in
    let one : length (calls_of l leaf args) ≤ 1 = one-call (lacks_receiver leaf args) (record { leaf = l; args = args }) in
    omega (arith, m, one)
run-one l None args n = omega arith

-- a leaf makes one leaf call, or none
pub leaf-one : (table : LeafTable) (l : LeafId) (args : List Value) (n : ℕ) → MakesAtMost 1 (leaf_mean table l args n)
leaf-one table l args n = run-one l (slice_get table.leaves l.0) args n

-- ---- branches and turns

pub decided-most : (r : Option Value) (a b : Done) (most others : ℕ) → MakesAtMost most a → MakesAtMost others b →
    MakesAtMost (max most others) (decided r a b)
decided-most (Some (value.Prim (num.Z true))) a b most others h k = omega arith
decided-most (Some (value.Prim (num.Z false))) a b most others h k = omega arith
decided-most r a b most others h k = omega arith

picked-most : (z : ℤ) (pick : ℕ → Done) (other : Done) (most : ℕ) → ((k : ℕ) → MakesAtMost most (pick k)) → MakesAtMost most other →
    MakesAtMost most (picked_by z pick other)
picked-most (pos k) pick other most h g = h k
picked-most (negsuc k) pick other most h g = g

pub switched-most : (v : Value) (pick : ℕ → Done) (other : Done) (most : ℕ) → ((k : ℕ) → MakesAtMost most (pick k)) → MakesAtMost most other →
    MakesAtMost most (switched v pick other)
switched-most (value.Prim (num.I z)) pick other most h g = picked-most z pick other most h g
switched-most v pick other most h g = omega arith

turned-most : {A : Type 0} (body : ℕ → A → ℕ → Ran A) (most : ℕ) → ((j : ℕ) (a : A) (k : ℕ) → MakesAtMost most (body j a k)) →
    (left i : ℕ) (a : A) (n : ℕ) → MakesAtMost (left * most) (turned body i left a n)
turned-most body most h zero i a n = omega arith
turned-most body most h (suc left) i a n =
    let m = then-most (body i a n) n (λ b k. turned body (suc i) left b k) most (left * most) (h i a n)
    (λ b k. turned-most body most h left (suc i) b k) in
    omega (arith, m)

-- so many turns as there may be
pub turns-most : {A : Type 0} (body : ℕ → A → ℕ → Ran A) (most : ℕ) → ((j : ℕ) (a : A) (k : ℕ) → MakesAtMost most (body j a k)) →
    (turns : ℕ) → turns ≤ most_turns → (a : A) (n : ℕ) → MakesAtMost (most_turns * most) (turned body 0 turns a n)
turns-most body most h turns few a n =
    let m = turned-most body most h turns 0 a n in
    let more : turns * most ≤ most_turns * most = mul-le-mul_right most few in
    omega (arith, m, more)

pub bounded-most : (r : Option Value) (next : ℕ → Done) (most : ℕ) → ((turns : ℕ) → turns ≤ most_turns → MakesAtMost most (next turns)) →
    MakesAtMost most (bounded_by r next)
bounded-most (Some (value.Prim (num.I z))) next most h =
    chosen-most (nat_le (turns_to z) most_turns) (next (turns_to z)) (Threw (saying internal_error_class (codes "loop")) []) most
    (λ is. h (turns_to z) (leb-true (turns_to z) most_turns is)) (omega arith)
bounded-most r next most h = omega arith
