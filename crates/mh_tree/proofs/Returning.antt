-- Calls that end as their return types say, one after the other.
use Rattle.std.proofs.Common.{◌≡◌, refl, ℕ, Bool, true, false, cond, List, [], Option, Some, None}
use Rattle.std.specs.Prelude.{option_to_list}
use Rattle.mh_values.specs.declared.class.Class.{Class}
use Rattle.mh_values.specs.declared.types.Ty.{Ty}
use Rattle.mh_values.specs.declared.value.Exc.{Exc}
use Rattle.mh_values.specs.declared.calls.LeafCall.{LeafCall}
use Rattle.mh_values.specs.declared.value.Value.{Value}
use Rattle.mh_values.specs.Class.{is_subclass, throwable_class}
use Rattle.mh_values.specs.Computation.{Gave, Threw, Stuck, raised, after, and_then, guarded}
use Rattle.mh_leaf.specs.Ending.{ended_by, rethrown}
use Rattle.mh_values.specs.HasType.{HaveTypes}
use Rattle.mh_values.specs.Returns.{Returns}
use Rattle.mh_tree.specs.Meaning.{Done}

pub returns-after : (classes : List Class) (calls : List LeafCall) (r : Done) (ret : Option Ty) → Returns classes r ret → Returns classes (after calls r) ret
returns-after classes calls (Gave (Some v) more) (Some t) h = h
returns-after classes calls (Gave None more) None h = tt
returns-after classes calls (Threw e more) ret h = h
returns-after classes calls r ret h = absurd h

-- what was returned, as arguments of what runs next
pub returned-typed : (classes : List Class) (v : Option Value) (calls : List LeafCall) (ret : Option Ty) → Returns classes (Gave v calls) ret →
    HaveTypes classes (option_to_list v) (option_to_list ret)
returned-typed classes (Some v) calls (Some t) h = (h, tt)
returned-typed classes None calls None h = tt
returned-typed classes v calls ret h = absurd h

pub returns-then :
    (classes : List Class) (r : Done) (ty ret : Option Ty) (n : ℕ) (next : Option Value → ℕ → Done) →
    Returns classes r ty →
    ((v : Option Value) (k : ℕ) → HaveTypes classes (option_to_list v) (option_to_list ty) → Returns classes (next v k) ret) →
    Returns classes (and_then r n next) ret
returns-then classes (Gave v calls) ty ret n next h more =
    returns-after classes calls (next v (raised n calls)) ret (more v (raised n calls) (returned-typed classes v calls ty h))
returns-then classes (Threw e calls) ty ret n next h more = h
returns-then classes Stuck ty ret n next h more = absurd h

caught : (classes : List Class) (b : Bool) (r s : Done) (ret : Option Ty) → (b ≡ true → Returns classes r ret) → Returns classes s ret →
    Returns classes (cond b r s) ret
caught classes true r s ret h k = h refl
caught classes false r s ret h k = k

pub returns-guarded :
    (classes : List Class) (r : Done) (ret : Option Ty) (test : Exc → Bool) (n : ℕ) (handler : Exc → ℕ → Done) →
    Returns classes r ret →
    ((e : Exc) (k : ℕ) → test e ≡ true → Returns classes (handler e k) ret) →
    Returns classes (guarded r test n handler) ret
returns-guarded classes (Gave v calls) ret test n handler h more = h
returns-guarded classes (Threw e calls) ret test n handler h more =
    caught classes (test e) (after calls (handler e (raised n calls))) (Threw e calls) ret
    (λ is. returns-after classes calls (handler e (raised n calls)) ret (more e (raised n calls) is)) h
returns-guarded classes Stuck ret test n handler h more = absurd h

-- a result that was given
pub given-returns : (classes : List Class) (v : Option Value) (ret : Option Ty) → HaveTypes classes (option_to_list v) (option_to_list ret) →
    Returns classes (Gave v []) ret
given-returns classes (Some v) (Some t) h = h.0
given-returns classes None None h = tt
given-returns classes (Some v) None h = absurd h
given-returns classes None (Some t) h = absurd h

rethrown-returns : (classes : List Class) (e : Exc) (r : Done) (ret : Option Ty) → is_subclass classes e.class throwable_class ≡ true →
    Returns classes r ret → Returns classes (rethrown e r) ret
rethrown-returns classes e (Gave v calls) ret below h = below
rethrown-returns classes e (Threw d calls) ret below h = h
rethrown-returns classes e Stuck ret below h = absurd h

pub returns-ended :
    (classes : List Class) (r : Done) (ty ret : Option Ty) (n : ℕ) (on_result : Option Value → ℕ → Done) (on_exception : Exc → ℕ → Done) →
    Returns classes r ty →
    ((v : Option Value) (k : ℕ) → HaveTypes classes (option_to_list v) (option_to_list ty) → Returns classes (on_result v k) ret) →
    ((e : Exc) (k : ℕ) → is_subclass classes e.class throwable_class ≡ true → Returns classes (on_exception e k) ret) →
    Returns classes (ended_by r n on_result on_exception) ret
returns-ended classes (Gave v calls) ty ret n on_result on_exception h results exceptions =
    returns-after classes calls (on_result v (raised n calls)) ret (results v (raised n calls) (returned-typed classes v calls ty h))
returns-ended classes (Threw e calls) ty ret n on_result on_exception h results exceptions =
    returns-after classes calls (rethrown e (on_exception e (raised n calls))) ret
    (rethrown-returns classes e (on_exception e (raised n calls)) ret h (exceptions e (raised n calls) h))
returns-ended classes Stuck ty ret n on_result on_exception h results exceptions = absurd h
