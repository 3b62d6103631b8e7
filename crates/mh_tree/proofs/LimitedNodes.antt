-- Nodes keep the limits of values, where their parts do.
use Rattle.std.proofs.Common.{ℕ, ◌≤◌, Bool, List, [], ◌∷◌, take, drop, length, Option, arith}
use Rattle.std.specs.Prelude.{slice_get, option_to_list}
use Rattle.std.proofs.lemmas.List.{length-take}
use Rattle.mh_values.specs.declared.class.Class.{Class}
use Rattle.mh_values.specs.declared.types.Comp.{Comp}
use Rattle.mh_values.specs.declared.types.Ty.{Ty}
use Rattle.mh_values.specs.declared.types.MethodTy.{MethodTy}
use Rattle.mh_values.specs.declared.value.Exc.{Exc}
use Rattle.mh_values.specs.declared.value.Value.{Value}
use Rattle.mh_values.specs.declared.value.Value.TheVariants as value
use Rattle.mh_values.specs.Array.{array_of, spread_values}
use Rattle.mh_values.specs.Computation.{found, and_then, guarded, spliced}
use Rattle.mh_values.specs.ValueLimits.{most_items}
use Rattle.mh_convert.specs.declared.conv.Rules.{Rules}
use Rattle.mh_convert.specs.Conversion.{fit}
use Rattle.mh_convert.proofs.Limits.{fit-limits}
use Rattle.mh_tree.specs.Limited.{KeepsLimits}
use Rattle.mh_tree.specs.Meaning.{Done, known, or_throw, fitted, giving, thrown, part_of, conv_all, conv_result, decided}
use Rattle.mh_tree.specs.Rows.{TypeOrRefusal}
use Rattle.mh_tree.specs.Sound.{Body}
use Rattle.mh_tree.proofs.LimitedLists.{take-limits, part-limits, splice-limits, get-limits, result-limits}
use Rattle.mh_tree.proofs.LimitedRuns.{then-limits, guarded-limits, found-limits, known-limits, fitted-limits, throw-limits, thrown-limits, decided-limits}
use Rattle.mh_tree.proofs.LimitedValues.{array-limits, spread-limits, conv_all-limits, conv_result-limits}

pub constant-keeps : (classes : List Class) (o : Option Ty) (v : Value) →
    KeepsLimits (λ args n. found o (λ r. fitted (fit classes v r) giving))
constant-keeps classes o v args n have =
    found-limits o (λ r. fitted (fit classes v r) giving)
    (λ r is. fitted-limits (fit classes v r) giving (fit-limits classes v r) (λ w h. (h, tt)))

pub identity-keeps : KeepsLimits (λ args n. found (slice_get args 0) giving)
identity-keeps args n have = found-limits (slice_get args 0) giving (λ v is. (get-limits args 0 v have is, tt))

pub throw-keeps : KeepsLimits (λ args n. found (slice_get args 0) thrown)
throw-keeps args n have = found-limits (slice_get args 0) thrown (λ v is. thrown-limits v)

pub bind-keeps : (classes : List Class) (body : Body) (c : TypeOrRefusal) (place : ℕ) (v : Value) → KeepsLimits body →
    KeepsLimits (λ args n. known c (λ ty. found (slice_get ty.params place) (λ p. fitted (fit classes v p) (λ w. body (spliced place 0 (w ∷ []) args) n))))
bind-keeps classes body c place v keeps args n have =
    let run : Value → Done = λ w. body (spliced place 0 (w ∷ []) args) n in
    let at : Ty → Done = λ p. fitted (fit classes v p) run in
    known-limits c (λ ty. found (slice_get ty.params place) at) (λ ty is. found-limits (slice_get ty.params place) at (λ p there.
    fitted-limits (fit classes v p) run (fit-limits classes v p) (λ w h.
    keeps (spliced place 0 (w ∷ []) args) n (splice-limits place 0 (w ∷ []) args (h, tt) have))))

-- a part, and then a body with the part's result in place of so many arguments
pub then-keeps : (body part : Body) (place taken own : ℕ) → KeepsLimits body → KeepsLimits part →
    KeepsLimits (λ args n. and_then (part (part_of place own args) n) n (λ r k. body (spliced place taken (option_to_list r) args) k))
then-keeps body part place taken own keeps part-keeps args n have =
    then-limits (part (part_of place own args) n) n (λ r k. body (spliced place taken (option_to_list r) args) k)
    (part-keeps (part_of place own args) n (part-limits place own args have)) (λ r k given.
    keeps (spliced place taken (option_to_list r) args) k (splice-limits place taken (option_to_list r) args (result-limits r given) have))

-- a body, and then a filter on its result
pub filterret-keeps : (body part : Body) → KeepsLimits body → KeepsLimits part →
    KeepsLimits (λ args n. and_then (body args n) n (λ r k. part (option_to_list r) k))
filterret-keeps body part keeps part-keeps args n have =
    then-limits (body args n) n (λ r k. part (option_to_list r) k) (keeps args n have) (λ r k given. part-keeps (option_to_list r) k (result-limits r given))

pub spread-keeps : (body : Body) (place count : ℕ) → KeepsLimits body →
    KeepsLimits (λ args n. found (slice_get args place) (λ v. and_then (spread_values count v) n (λ items k. body (spliced place 1 items args) k)))
spread-keeps body place count keeps args n have =
    let run : List Value → ℕ → Done = λ items k. body (spliced place 1 items args) k in
    found-limits (slice_get args place) (λ v. and_then (spread_values count v) n run) (λ v is.
    spread-limits count v n run (get-limits args place v have is) (λ items h.
    keeps (spliced place 1 items args) n (splice-limits place 1 items args h have)))

few-taken : (count : ℕ) (vs : List Value) → count ≤ most_items → length (take count vs) ≤ most_items
few-taken count vs few = omega (arith, length-take count vs, few)

pub gather-keeps : (body : Body) (o : Option Comp) (place count : ℕ) → count ≤ most_items → KeepsLimits body →
    KeepsLimits (λ args n. found o (λ c. or_throw (array_of c (part_of place count args)) (λ v. body (spliced place count (v ∷ []) args) n)))
gather-keeps body o place count few keeps args n have =
    let own = part_of place count args in
    let run : Value → Done = λ v. body (spliced place count (v ∷ []) args) n in
    found-limits o (λ c. or_throw (array_of c own) run) (λ c is.
    throw-limits (array_of c own) run (array-limits c own (few-taken count (drop place args) few) (part-limits place count args have)) (λ v h.
    keeps (spliced place count (v ∷ []) args) n (splice-limits place count (v ∷ []) args (h, tt) have)))

pub convert-keeps : (by : Rules) (classes : List Class) (body : Body) (c : TypeOrRefusal) (asked : MethodTy) → KeepsLimits body →
    KeepsLimits (λ args n. known c (λ ty. or_throw (conv_all by classes asked.params ty.params args)
    (λ converted. and_then (body converted n) n (λ r k. conv_result by classes ty.ret asked.ret r))))
convert-keeps by classes body c asked keeps args n have =
    let run : MethodTy → List Value → Done = λ ty converted. and_then (body converted n) n (λ r k. conv_result by classes ty.ret asked.ret r) in
    known-limits c (λ ty. or_throw (conv_all by classes asked.params ty.params args) (run ty)) (λ ty is.
    conv_all-limits by classes asked.params ty.params args (run ty) have (λ converted h.
    then-limits (body converted n) n (λ r k. conv_result by classes ty.ret asked.ret r) (keeps converted n h) (λ r k given.
    conv_result-limits by classes ty.ret asked.ret r given)))

pub guard-keeps : (test body other : Body) (count : ℕ) → KeepsLimits test → KeepsLimits body → KeepsLimits other →
    KeepsLimits (λ args n. and_then (test (take count args) n) n (λ r k. decided r (body args k) (other args k)))
guard-keeps test body other count test-keeps keeps other-keeps args n have =
    then-limits (test (take count args) n) n (λ r k. decided r (body args k) (other args k)) (test-keeps (take count args) n (take-limits count args have))
    (λ r k given. decided-limits r (body args k) (other args k) (keeps args k have) (other-keeps args k have))

pub catch-keeps : (body handler : Body) (is_caught : Exc → Bool) (count : ℕ) → KeepsLimits body → KeepsLimits handler →
    KeepsLimits (λ args n. guarded (body args n) is_caught n (λ e k. handler (value.Thrown e ∷ take count args) k))
catch-keeps body handler is_caught count keeps handler-keeps args n have =
    guarded-limits (body args n) is_caught n (λ e k. handler (value.Thrown e ∷ take count args) k) (keeps args n have)
    (λ e k. handler-keeps (value.Thrown e ∷ take count args) k (tt, take-limits count args have))
