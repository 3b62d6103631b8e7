-- A part whose result decides what runs, and a part whose exceptions are guarded, erased.
use Rattle.std.proofs.Common.{◌≡◌, refl, sym, subst, ℕ, ◌<◌, ◌^◌, Bool, true, false, cond, List, Option}
use Rattle.std.specs.Prelude.{option_to_list}
use Rattle.mh_values.specs.declared.class.Class.{Class}
use Rattle.mh_values.specs.declared.types.Ty.{Ty}
use Rattle.mh_values.specs.declared.value.Exc.{Exc}
use Rattle.mh_values.specs.declared.calls.LeafCall.{LeafCall}
use Rattle.mh_values.specs.declared.value.Value.{Value}
use Rattle.mh_values.specs.Computation.{Ran, Gave, Threw, Stuck, Refines, and_then, after, guarded, raised}
use Rattle.mh_values.specs.HasType.{HaveTypes}
use Rattle.mh_values.specs.Returns.{Returns}
use Rattle.mh_tree.specs.Meaning.{Done}
use Rattle.mh_tree.proofs.Returning.{returned-typed}
use Rattle.mh_form.specs.declared.slot.Slot.{Slot}
use Rattle.mh_form.specs.Erasure.{erased_option, erased_ran}
use Rattle.mh_form.specs.Slots.{filled, none_as_zero}
use Rattle.mh_form.proofs.Refines.{refines-after}
use Rattle.mh_handle.proofs.standing.Erasing.{erased-after, raised-low}

pub refines-erased-after : (calls : List LeafCall) (r : Done) (s : Ran (Option Slot)) → Refines (erased_ran r) s →
    Refines (erased_ran (after calls r)) (after calls s)
refines-erased-after calls r s h =
    let P : Ran (Option Slot) → Type 0 = λ v. Refines v (after calls s) in
    subst P (sym (erased-after calls r)) (refines-after calls (erased_ran r) s h)

pub and_then-erased :
    (classes : List Class) (r : Done) (n : ℕ) (ret : Option Ty) (run : Slot → ℕ → Ran (Option Slot)) (next : Option Value → ℕ → Done) →
    Returns classes r ret →
    n < 2 ^ 32 →
    ((v : Option Value) (k : ℕ) → HaveTypes classes (option_to_list v) (option_to_list ret) → k < 2 ^ 32 →
    Refines (erased_ran (next v k)) (run (none_as_zero (erased_option v)) k)) →
    Refines (erased_ran (and_then r n next)) (and_then (filled (erased_ran r)) n run)
and_then-erased classes (Gave v calls) n ret run next h low more =
    refines-erased-after calls (next v (raised n calls)) (run (none_as_zero (erased_option v)) (raised n calls))
    (more v (raised n calls) (returned-typed classes v calls ret h) (raised-low calls n low))
and_then-erased classes (Threw e calls) n ret run next h low more = refl
and_then-erased classes Stuck n ret run next h low more = absurd h

caught-erased : (b : Bool) (calls : List LeafCall) (e : Exc) (r : Done) (s : Ran (Option Slot)) → (b ≡ true → Refines (erased_ran r) s) →
    Refines (erased_ran (cond b (after calls r) (Threw e calls))) (cond b (after calls s) (Threw e calls))
caught-erased true calls e r s h = refines-erased-after calls r s (h refl)
caught-erased false calls e r s h = refl

pub guarded-erased :
    (classes : List Class) (r : Done) (n : ℕ) (ret : Option Ty) (test : Exc → Bool) (run : Exc → ℕ → Ran (Option Slot)) (next : Exc → ℕ → Done) →
    Returns classes r ret →
    n < 2 ^ 32 →
    ((e : Exc) (k : ℕ) → test e ≡ true → k < 2 ^ 32 → Refines (erased_ran (next e k)) (run e k)) →
    Refines (erased_ran (guarded r test n next)) (guarded (erased_ran r) test n run)
guarded-erased classes (Gave v calls) n ret test run next h low more = refl
guarded-erased classes (Threw e calls) n ret test run next h low more =
    caught-erased (test e) calls e (next e (raised n calls)) (run e (raised n calls)) (λ is. more e (raised n calls) is (raised-low calls n low))
guarded-erased classes Stuck n ret test run next h low more = absurd h
