-- Cleanups, switches and loops keep the limits of values, where their parts do.
use Rattle.std.proofs.Common.{ℕ, zero, suc, ℤ, pos, negsuc, [], ◌∷◌, ◌++◌, take, Option, Some, None, codes, nat_le}
use Rattle.std.specs.Prelude.{option_to_list, slice_get}
use Rattle.std.specs.Option.{option_map}
use Rattle.mh_values.specs.declared.types.Ty.{Ty}
use Rattle.mh_values.specs.declared.value.Exc.{Exc}
use Rattle.mh_values.specs.declared.value.Num.TheVariants as num
use Rattle.mh_values.specs.declared.value.Value.{Value}
use Rattle.mh_values.specs.declared.value.Value.TheVariants as value
use Rattle.mh_values.specs.Class.{internal_error_class}
use Rattle.mh_values.specs.Computation.{Gave, Threw, Stuck, raised, and_then, found}
use Rattle.mh_leaf.specs.Ending.{ended_by, most_turns, picked_by, rethrown, turned, turns_to}
use Rattle.mh_values.specs.Exception.{saying}
use Rattle.mh_values.specs.ValueLimits.{AreValuesWithinLimits}
use Rattle.mh_leaf.specs.Limits.{IsResultWithinLimits, IsRunWithinLimits}
use Rattle.mh_convert.specs.Conversion.{default_of}
use Rattle.mh_convert.proofs.Limits.{default-limits}
use Rattle.mh_tree.specs.Limited.{KeepsLimits}
use Rattle.mh_tree.specs.Meaning.{Done, bounded_by, switched}
use Rattle.mh_tree.specs.Sound.{Body}
use Rattle.mh_tree.proofs.LimitedLists.{join-limits, take-limits, result-limits}
use Rattle.mh_tree.proofs.LimitedRuns.{after-limits, chosen, found-limits, then-limits}

rethrown-limits : (e : Exc) (r : Done) → IsRunWithinLimits r → IsRunWithinLimits (rethrown e r)
rethrown-limits e (Gave v calls) h = h.1
rethrown-limits e (Threw d calls) h = h
rethrown-limits e Stuck h = tt

ended-limits : (r : Done) (n : ℕ) (on_result : Option Value → ℕ → Done) (on_exception : Exc → ℕ → Done) → IsRunWithinLimits r →
    ((v : Option Value) (k : ℕ) → IsResultWithinLimits v → IsRunWithinLimits (on_result v k)) → ((e : Exc) (k : ℕ) → IsRunWithinLimits (on_exception e k)) →
    IsRunWithinLimits (ended_by r n on_result on_exception)
ended-limits (Gave v calls) n on_result on_exception h results exceptions =
    after-limits calls (on_result v (raised n calls)) h.1 (results v (raised n calls) h.0)
ended-limits (Threw e calls) n on_result on_exception h results exceptions =
    after-limits calls (rethrown e (on_exception e (raised n calls))) h
    (rethrown-limits e (on_exception e (raised n calls)) (exceptions e (raised n calls)))
ended-limits Stuck n on_result on_exception h results exceptions = tt

default-result : (ret : Option Ty) → AreValuesWithinLimits (option_to_list (option_map default_of ret))
default-result None = tt
default-result (Some t) = (default-limits t, tt)

pub tryfinally-keeps : (body cleanup : Body) (ret : Option Ty) (kept : ℕ) → KeepsLimits body → KeepsLimits cleanup →
    KeepsLimits (λ args n. ended_by (body args n) n
    (λ r k. cleanup (value.Null ∷ (option_to_list r ++ take kept args)) k)
    (λ e k. cleanup (value.Thrown e ∷ (option_to_list (option_map default_of ret) ++ take kept args)) k))
tryfinally-keeps body cleanup ret kept keeps cleanup-keeps args n have =
    ended-limits (body args n) n
    (λ r k. cleanup (value.Null ∷ (option_to_list r ++ take kept args)) k)
    (λ e k. cleanup (value.Thrown e ∷ (option_to_list (option_map default_of ret) ++ take kept args)) k)
    (keeps args n have)
    (λ r k given. cleanup-keeps (value.Null ∷ (option_to_list r ++ take kept args)) k
    (tt, join-limits (option_to_list r) (take kept args) (result-limits r given) (take-limits kept args have)))
    (λ e k. cleanup-keeps (value.Thrown e ∷ (option_to_list (option_map default_of ret) ++ take kept args)) k
    (tt, join-limits (option_to_list (option_map default_of ret)) (take kept args) (default-result ret) (take-limits kept args have)))

picked-limits : (z : ℤ) (pick : ℕ → Done) (other : Done) → ((k : ℕ) → IsRunWithinLimits (pick k)) → IsRunWithinLimits other →
    IsRunWithinLimits (picked_by z pick other)
picked-limits (pos k) pick other h g = h k
picked-limits (negsuc k) pick other h g = g

switched-limits : (v : Value) (pick : ℕ → Done) (other : Done) → ((k : ℕ) → IsRunWithinLimits (pick k)) → IsRunWithinLimits other →
    IsRunWithinLimits (switched v pick other)
switched-limits (value.Prim (num.I z)) pick other h g = picked-limits z pick other h g
switched-limits v pick other h g = tt

pub switch-keeps : (body : Body) (pick : ℕ → Body) → KeepsLimits body → ((k : ℕ) → KeepsLimits (pick k)) →
    KeepsLimits (λ args n. found (slice_get args 0) (λ s. switched s (λ k. pick k args n) (body args n)))
switch-keeps body pick keeps picks args n have =
    found-limits (slice_get args 0) (λ s. switched s (λ k. pick k args n) (body args n))
    (λ v is. switched-limits v (λ k. pick k args n) (body args n) (λ k. picks k args n have) (keeps args n have))

turned-limits : (body : ℕ → Option Value → ℕ → Done) → ((j : ℕ) (w : Option Value) (k : ℕ) → IsResultWithinLimits w → IsRunWithinLimits (body j w k)) →
    (left i : ℕ) (v : Option Value) (n : ℕ) → IsResultWithinLimits v → IsRunWithinLimits (turned body i left v n)
turned-limits body h zero i v n have = (have, tt)
turned-limits body h (suc left) i v n have =
    then-limits (body i v n) n (λ w k. turned body (suc i) left w k) (h i v n have) (λ w k given. turned-limits body h left (suc i) w k given)

bounded-limits : (r : Option Value) (next : ℕ → Done) → ((turns : ℕ) → IsRunWithinLimits (next turns)) → IsRunWithinLimits (bounded_by r next)
bounded-limits (Some (value.Prim (num.I z))) next h =
    chosen (nat_le (turns_to z) most_turns) (next (turns_to z)) (Threw (saying internal_error_class (codes "loop")) []) (h (turns_to z)) tt
bounded-limits r next h = tt

pub counted-keeps : (count start turn : Body) (count_args start_args turn_args : ℕ) → KeepsLimits count → KeepsLimits start → KeepsLimits turn →
    KeepsLimits (λ args m. and_then (count (take count_args args) m) m (λ r k. bounded_by r (λ turns.
    and_then (start (take start_args args) k) k (λ v l.
    turned (λ j w q. turn (option_to_list w ++ (value.Prim (num.I (pos j)) ∷ take turn_args args)) q) 0 turns v l))))
counted-keeps count start turn count_args start_args turn_args count-keeps start-keeps turn-keeps args m have =
    let turns_on : ℕ → Option Value → ℕ → Done = λ j w q. turn (option_to_list w ++ (value.Prim (num.I (pos j)) ∷ take turn_args args)) q in
    let goes_on : ℕ → ℕ → Done = λ k turns. and_then (start (take start_args args) k) k (λ v l. turned turns_on 0 turns v l) in
    then-limits (count (take count_args args) m) m (λ r k. bounded_by r (goes_on k))
    (count-keeps (take count_args args) m (take-limits count_args args have))
    (λ r k given. bounded-limits r (goes_on k) (λ turns.
    then-limits (start (take start_args args) k) k (λ v l. turned turns_on 0 turns v l)
    (start-keeps (take start_args args) k (take-limits start_args args have))
    (λ v l first. turned-limits turns_on
    (λ j w q within. turn-keeps (option_to_list w ++ (value.Prim (num.I (pos j)) ∷ take turn_args args)) q
    (join-limits (option_to_list w) (value.Prim (num.I (pos j)) ∷ take turn_args args) (result-limits w within) (tt, take-limits turn_args args have)))
    turns 0 v l first)))
