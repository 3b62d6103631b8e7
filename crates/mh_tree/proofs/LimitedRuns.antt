-- Runs within the limits, one after the other.
use Rattle.std.proofs.Common.{◌≡◌, refl, ℕ, Bool, true, false, cond, List, [], ◌∷◌, ◌++◌, Option, Some, None, Result, Ok, Err}
use Rattle.mh_values.specs.declared.types.MethodTy.{MethodTy}
use Rattle.mh_values.specs.declared.calls.LeafCall.{LeafCall}
use Rattle.mh_values.specs.declared.value.Exc.{Exc}
use Rattle.mh_values.specs.declared.value.Num.TheVariants as num
use Rattle.mh_values.specs.declared.value.Value.{Value}
use Rattle.mh_values.specs.declared.value.Value.TheVariants as value
use Rattle.mh_values.specs.Computation.{Gave, Threw, Stuck, raised, after, and_then, guarded, found}
use Rattle.mh_values.specs.ValueLimits.{IsValueWithinLimits}
use Rattle.mh_leaf.specs.Limits.{IsResultWithinLimits, AreCallsWithinLimits, IsRunWithinLimits}
use Rattle.mh_convert.proofs.Limits.{ConvertsWithinLimits}
use Rattle.mh_tree.specs.Rows.{TypeOrRefusal}
use Rattle.mh_tree.specs.Meaning.{Done, known, fitted, or_throw, thrown, decided}

calls-join : (calls more : List LeafCall) → AreCallsWithinLimits calls → AreCallsWithinLimits more → AreCallsWithinLimits (calls ++ more)
calls-join [] more h k = k
calls-join (call ∷ calls) more h k = (h.0, calls-join calls more h.1 k)

pub after-limits : (calls : List LeafCall) (r : Done) → AreCallsWithinLimits calls → IsRunWithinLimits r → IsRunWithinLimits (after calls r)
after-limits calls (Gave v more) h k = (k.0, calls-join calls more h k.1)
after-limits calls (Threw e more) h k = calls-join calls more h k
after-limits calls Stuck h k = tt

pub then-limits : (r : Done) (n : ℕ) (next : Option Value → ℕ → Done) → IsRunWithinLimits r →
    ((v : Option Value) (k : ℕ) → IsResultWithinLimits v → IsRunWithinLimits (next v k)) → IsRunWithinLimits (and_then r n next)
then-limits (Gave v calls) n next h more = after-limits calls (next v (raised n calls)) h.1 (more v (raised n calls) h.0)
then-limits (Threw e calls) n next h more = h
then-limits Stuck n next h more = tt

pub chosen : (b : Bool) (r s : Done) → IsRunWithinLimits r → IsRunWithinLimits s → IsRunWithinLimits (cond b r s)
chosen true r s h k = h
chosen false r s h k = k

pub guarded-limits : (r : Done) (test : Exc → Bool) (n : ℕ) (handler : Exc → ℕ → Done) → IsRunWithinLimits r →
    ((e : Exc) (k : ℕ) → IsRunWithinLimits (handler e k)) → IsRunWithinLimits (guarded r test n handler)
guarded-limits (Gave v calls) test n handler h more = h
guarded-limits (Threw e calls) test n handler h more =
    chosen (test e) (after calls (handler e (raised n calls))) (Threw e calls)
    (after-limits calls (handler e (raised n calls)) h (more e (raised n calls))) h
guarded-limits Stuck test n handler h more = tt

pub found-limits : {A : Type 0} (o : Option A) (next : A → Done) → ((a : A) → o ≡ Some a → IsRunWithinLimits (next a)) → IsRunWithinLimits (found o next)
found-limits (Some a) next h = h a refl
found-limits None next h = tt

pub known-limits : (c : TypeOrRefusal) (next : MethodTy → Done) → ((t : MethodTy) → c ≡ Ok t → IsRunWithinLimits (next t)) → IsRunWithinLimits (known c next)
known-limits (Ok t) next h = h t refl
known-limits (Err e) next h = tt

pub fitted-limits : (r : Result Value Exc) (next : Value → Done) → ConvertsWithinLimits r →
    ((v : Value) → IsValueWithinLimits v → IsRunWithinLimits (next v)) → IsRunWithinLimits (fitted r next)
fitted-limits (Ok v) next h more = more v h
fitted-limits (Err e) next h more = tt

pub throw-limits : (r : Result Value Exc) (next : Value → Done) → ConvertsWithinLimits r →
    ((v : Value) → IsValueWithinLimits v → IsRunWithinLimits (next v)) → IsRunWithinLimits (or_throw r next)
throw-limits (Ok v) next h more = more v h
throw-limits (Err e) next h more = tt

pub thrown-limits : (v : Value) → IsRunWithinLimits (thrown v)
thrown-limits (value.Thrown e) = tt
thrown-limits value.Null = tt
thrown-limits v = tt

pub decided-limits : (r : Option Value) (a b : Done) → IsRunWithinLimits a → IsRunWithinLimits b → IsRunWithinLimits (decided r a b)
decided-limits (Some (value.Prim (num.Z true))) a b h k = h
decided-limits (Some (value.Prim (num.Z false))) a b h k = k
decided-limits r a b h k = tt
