-- Values within their limits, taken apart and put together.
use Rattle.std.proofs.Common.{◌≡◌, refl, subst, ℕ, zero, suc, ◌+◌, List, [], ◌∷◌, ◌++◌, take, drop, Option, Some, None}
use Rattle.std.specs.Prelude.{slice_get, option_to_list}
use Rattle.mh_values.specs.declared.value.Value.{Value}
use Rattle.mh_values.specs.Computation.{spliced}
use Rattle.mh_values.specs.ValueLimits.{IsValueWithinLimits, AreValuesWithinLimits}
use Rattle.mh_leaf.specs.Limits.{IsResultWithinLimits}
use Rattle.mh_tree.specs.Meaning.{picked, part_of}

pub join-limits : (vs ws : List Value) → AreValuesWithinLimits vs → AreValuesWithinLimits ws → AreValuesWithinLimits (vs ++ ws)
join-limits [] ws h k = k
join-limits (v ∷ vs) ws h k = (h.0, join-limits vs ws h.1 k)

pub take-limits : (n : ℕ) (vs : List Value) → AreValuesWithinLimits vs → AreValuesWithinLimits (take n vs)
take-limits zero vs h = tt
take-limits (suc n) [] h = tt
take-limits (suc n) (v ∷ vs) h = (h.0, take-limits n vs h.1)

pub drop-limits : (n : ℕ) (vs : List Value) → AreValuesWithinLimits vs → AreValuesWithinLimits (drop n vs)
drop-limits zero vs h = h
drop-limits (suc n) [] h = tt
drop-limits (suc n) (v ∷ vs) h = drop-limits n vs h.1

pub part-limits : (place count : ℕ) (args : List Value) → AreValuesWithinLimits args → AreValuesWithinLimits (part_of place count args)
part-limits place count args h = take-limits count (drop place args) (drop-limits place args h)

pub splice-limits : (place taken : ℕ) (given args : List Value) → AreValuesWithinLimits given → AreValuesWithinLimits args →
    AreValuesWithinLimits (spliced place taken given args)
splice-limits place taken given args h k =
    join-limits (take place args) (given ++ drop (place + taken) args) (take-limits place args k)
    (join-limits given (drop (place + taken) args) h (drop-limits (place + taken) args k))

pub get-limits : (args : List Value) (i : ℕ) (v : Value) → AreValuesWithinLimits args → slice_get args i ≡ Some v → IsValueWithinLimits v
get-limits [] i v h is = absurd cc
get-limits (w ∷ args) zero v h is = let e : w ≡ v = cc in subst IsValueWithinLimits e h.0
get-limits (w ∷ args) (suc i) v h is = get-limits args i v h.1 is

-- a result as arguments
pub result-limits : (r : Option Value) → IsResultWithinLimits r → AreValuesWithinLimits (option_to_list r)
result-limits (Some v) h = (h, tt)
result-limits None h = tt

got-limits : (args : List Value) (o : Option Value) (i : ℕ) → AreValuesWithinLimits args → slice_get args i ≡ o → AreValuesWithinLimits (option_to_list o)
got-limits args None i h is = tt
got-limits args (Some v) i h is = (get-limits args i v h is, tt)

pub picked-limits : (args : List Value) (places : List ℕ) → AreValuesWithinLimits args → AreValuesWithinLimits (picked args places)
picked-limits args [] h = tt
picked-limits args (i ∷ places) h =
    join-limits (option_to_list (slice_get args i)) (picked args places) (got-limits args (slice_get args i) i h refl) (picked-limits args places h)
