-- Cleanups and loops, erased.
use Rattle.std.proofs.Common.{◌≡◌, refl, sym, subst, ap, ◌∙◌, ℕ, zero, suc, ◌+◌, ◌<◌, ◌≤◌, ◌^◌, Bool, true, false, cond, List, [], ◌∷◌, map, Option, Some, None, codes, nat_le, arith}
use Rattle.std.specs.Prelude.{option_to_list, IsTrue}
use Rattle.std.specs.Option.{option_map}
use Rattle.std.proofs.lemmas.Bool.{leb-true}
use Rattle.mh_values.specs.declared.class.Class.{Class}
use Rattle.mh_values.specs.declared.types.Primitive.TheVariants as primitive
use Rattle.mh_values.specs.declared.types.Ty.{Ty}
use Rattle.mh_values.specs.declared.types.Ty.TheVariants as ty
use Rattle.mh_values.specs.declared.calls.LeafCall.{LeafCall}
use Rattle.mh_values.specs.declared.value.Exc.{Exc}
use Rattle.mh_values.specs.declared.value.Value.{Value}
use Rattle.mh_values.specs.Class.{internal_error_class, is_subclass, throwable_class}
use Rattle.mh_values.specs.Computation.{Ran, Gave, Threw, Stuck, Refines, after, and_then, mapped, raised}
use Rattle.mh_leaf.specs.Ending.{ended_by, most_turns, rethrown, turned, turns_to}
use Rattle.mh_values.specs.Exception.{saying}
use Rattle.mh_values.specs.HasType.{HaveTypes}
use Rattle.mh_values.specs.Returns.{Returns}
use Rattle.mh_convert.specs.Conversion.{default_of}
use Rattle.mh_leaf.specs.Outcome.{int_type}
use Rattle.mh_tree.specs.Meaning.{Done, bounded_by}
use Rattle.mh_tree.proofs.Returning.{returned-typed}
use Rattle.mh_tree.proofs.SoundLoops.{is_int}
use Rattle.mh_form.specs.declared.basic.BasicRet.{BasicRet}
use Rattle.mh_form.specs.declared.basic.BasicRet.TheVariants as basic_ret
use Rattle.mh_form.specs.declared.slot.Slot.{Slot}
use Rattle.mh_form.specs.Erasure.{basic_ret_of, erased, erased_option, erased_ran}
use Rattle.mh_form.specs.Slots.{bounded_slot, default_slots, filled, given, none_as_zero}
use Rattle.mh_form.proofs.Computations.{mapped-after}
use Rattle.mh_edit.specs.Law.{result_as, returned}
use Rattle.mh_handle.proofs.standing.Erasing.{raised-low, returned-erased}
use Rattle.mh_branch.proofs.Computing.{and_then-erased, refines-erased-after}

-- ---- slots as results

-- a run that fills a slot, as one that gives a result of a basic return type
abbrev pub as_result : BasicRet → Ran Slot → Ran (Option Slot)
as_result ret q = returned ret (mapped Some q)

result-after : (ret : BasicRet) (calls : List LeafCall) (q : Ran Slot) → as_result ret (after calls q) ≡ after calls (as_result ret q)
result-after ret calls q = ap (returned ret) (mapped-after Some calls q) ∙ mapped-after (result_as ret) calls (mapped Some q)

-- what follows a run gives the result
pub result-then :
    (ret : BasicRet) (q : Ran Slot) (n : ℕ) (next : Slot → ℕ → Ran Slot) →
    as_result ret (and_then q n next) ≡ and_then q n (λ s k. as_result ret (next s k))
result-then ret (Gave s calls) n next = result-after ret calls (next s (raised n calls))
result-then ret (Threw e calls) n next = refl
result-then ret Stuck n next = refl

-- a slot that a result filled
result-filled : (ret : BasicRet) (r : Ran (Option Slot)) → as_result ret (filled r) ≡ returned ret r
result-filled basic_ret.V (Gave s calls) = refl
result-filled (basic_ret.Is b) (Gave s calls) = refl
result-filled basic_ret.V (Threw e calls) = refl
result-filled (basic_ret.Is b) (Threw e calls) = refl
result-filled basic_ret.V Stuck = refl
result-filled (basic_ret.Is b) Stuck = refl

-- the same of the erased result of a call
pub result-erased :
    (classes : List Class) (r : Done) (t : Option Ty) → Returns classes r t → as_result (basic_ret_of t) (filled (erased_ran r)) ≡ erased_ran r
result-erased classes r t h = result-filled (basic_ret_of t) (erased_ran r) ∙ returned-erased classes r t h

-- what stands for the result of a call, as slots
pub given-slots :
    (classes : List Class) (v : Option Value) (t : Option Ty) → HaveTypes classes (option_to_list v) (option_to_list t) →
    given (basic_ret_of t) (none_as_zero (erased_option v)) ≡ map erased (option_to_list v)
given-slots classes None None have = refl
given-slots classes (Some v) (Some t) have = refl
given-slots classes None (Some t) have = absurd have
given-slots classes (Some v) None have = absurd have

given-result :
    (classes : List Class) (v : Option Value) (t : Option Ty) → HaveTypes classes (option_to_list v) (option_to_list t) →
    result_as (basic_ret_of t) (Some (none_as_zero (erased_option v))) ≡ erased_option v
given-result classes None None have = refl
given-result classes (Some v) (Some t) have = refl
given-result classes None (Some t) have = absurd have
given-result classes (Some v) None have = absurd have

-- the default of a return type, as slots
pub default-erased : (t : Option Ty) → default_slots (basic_ret_of t) ≡ map erased (option_to_list (option_map default_of t))
default-erased None = refl
default-erased (Some (ty.Prim primitive.Z)) = refl
default-erased (Some (ty.Prim primitive.B)) = refl
default-erased (Some (ty.Prim primitive.C)) = refl
default-erased (Some (ty.Prim primitive.S)) = refl
default-erased (Some (ty.Prim primitive.I)) = refl
default-erased (Some (ty.Prim primitive.J)) = refl
default-erased (Some (ty.Class c)) = refl
default-erased (Some (ty.Array c)) = refl

-- ---- cleanups

rethrown-erased :
    (e : Exc) (ret : BasicRet) (x : Done) (y : Ran Slot) →
    Refines (erased_ran x) (as_result ret y) →
    Refines (erased_ran (rethrown e x)) (as_result ret (rethrown e y))
rethrown-erased e ret (Gave v calls) (Gave s more) h = let same : calls ≡ more = cc in ap (Threw e) same
rethrown-erased e ret (Gave v calls) (Threw d more) h = absurd cc
rethrown-erased e ret (Gave v calls) Stuck h = absurd cc
rethrown-erased e ret (Threw c calls) (Gave s more) h = absurd cc
rethrown-erased e ret (Threw c calls) (Threw d more) h = h
rethrown-erased e ret (Threw c calls) Stuck h = absurd cc
rethrown-erased e ret Stuck y h = tt

-- a call with its cleanup, erased
pub ended-erased :
    (classes : List Class) (r : Done) (n : ℕ) (t : Option Ty) (ret : BasicRet) (f : Option Value → ℕ → Done) (g : Exc → ℕ → Done)
    (on_result : Slot → ℕ → Ran Slot) (on_exception : Exc → ℕ → Ran Slot) →
    Returns classes r t →
    n < 2 ^ 32 →
    ((v : Option Value) (k : ℕ) → HaveTypes classes (option_to_list v) (option_to_list t) → k < 2 ^ 32 →
    Refines (erased_ran (f v k)) (as_result ret (on_result (none_as_zero (erased_option v)) k))) →
    ((e : Exc) (k : ℕ) → IsTrue (is_subclass classes e.class throwable_class) → k < 2 ^ 32 →
    Refines (erased_ran (g e k)) (as_result ret (on_exception e k))) →
    Refines (erased_ran (ended_by r n f g)) (as_result ret (ended_by (filled (erased_ran r)) n on_result on_exception))
ended-erased classes (Gave v calls) n t ret f g on_result on_exception h low does handles =
    let k = raised n calls in
    let s = none_as_zero (erased_option v) in
    let P : Ran (Option Slot) → Type 0 = λ x. Refines (erased_ran (after calls (f v k))) x in
    subst P (sym (result-after ret calls (on_result s k)))
    (refines-erased-after calls (f v k) (as_result ret (on_result s k)) (does v k (returned-typed classes v calls t h) (raised-low calls n low)))
ended-erased classes (Threw e calls) n t ret f g on_result on_exception h low does handles =
    let k = raised n calls in
    let P : Ran (Option Slot) → Type 0 = λ x. Refines (erased_ran (after calls (rethrown e (g e k)))) x in
    subst P (sym (result-after ret calls (rethrown e (on_exception e k))))
    (refines-erased-after calls (rethrown e (g e k)) (as_result ret (rethrown e (on_exception e k)))
    (rethrown-erased e ret (g e k) (on_exception e k) (handles e k h (raised-low calls n low))))
ended-erased classes Stuck n t ret f g on_result on_exception h low does handles = absurd h

-- ---- loops

-- turns that each do what the erased turns do
pub turned-erased :
    (classes : List Class) (t : Option Ty) (f : ℕ → Option Value → ℕ → Done) (run : ℕ → Slot → ℕ → Ran Slot) →
    ((j : ℕ) (w : Option Value) (k : ℕ) → j < most_turns → HaveTypes classes (option_to_list w) (option_to_list t) → Returns classes (f j w k) t) →
    ((j : ℕ) (w : Option Value) (k : ℕ) → j < most_turns → HaveTypes classes (option_to_list w) (option_to_list t) → k < 2 ^ 32 →
    run j (none_as_zero (erased_option w)) k ≡ filled (erased_ran (f j w k))) →
    (left i : ℕ) (v : Option Value) (n : ℕ) →
    i + left ≤ most_turns →
    HaveTypes classes (option_to_list v) (option_to_list t) →
    n < 2 ^ 32 →
    Refines (erased_ran (turned f i left v n)) (as_result (basic_ret_of t) (turned run i left (none_as_zero (erased_option v)) n))
turned-erased classes t f run sound same zero i v n few have low = ap (λ o. Gave o []) (sym (given-result classes v t have))
turned-erased classes t f run sound same (suc left) i v n few have low =
    let ret = basic_ret_of t in
    let s = none_as_zero (erased_option v) in
    let r = f i v n in
    let more : i < most_turns = omega (arith, few) in
    let next : Option Value → ℕ → Done = λ w k. turned f (suc i) left w k in
    let last : Slot → ℕ → Ran Slot = λ x k. turned run (suc i) left x k in
    let all : Refines (erased_ran (and_then r n next)) (and_then (filled (erased_ran r)) n (λ x k. as_result ret (last x k))) =
    and_then-erased classes r n t (λ x k. as_result ret (last x k)) next (sound i v n more have) low (λ w k typed small.
    turned-erased classes t f run sound same left (suc i) w k (omega (arith, few)) typed small) in
    let P : Ran Slot → Type 0 = λ q. Refines (erased_ran (and_then r n next)) (and_then q n (λ x k. as_result ret (last x k))) in
    let Q : Ran (Option Slot) → Type 0 = λ q. Refines (erased_ran (and_then r n next)) q in
    subst Q (sym (result-then ret (run i s n) n last)) (subst P (sym (same i v n more have low)) all)

either-erased :
    (b : Bool) (e : Exc) (ret : BasicRet) (x : Done) (y : Ran Slot) →
    (b ≡ true → Refines (erased_ran x) (as_result ret y)) →
    Refines (erased_ran (cond b x (Threw e []))) (as_result ret (cond b y (Threw e [])))
either-erased true e ret x y h = h refl
either-erased false e ret x y h = refl

-- what goes on with the turns that the iterations gave
pub bounded-erased :
    (classes : List Class) (r : Option Value) (ret : BasicRet) (next : ℕ → Done) (run : ℕ → Ran Slot) →
    HaveTypes classes (option_to_list r) (int_type ∷ []) →
    ((turns : ℕ) → turns ≤ most_turns → Refines (erased_ran (next turns)) (as_result ret (run turns))) →
    Refines (erased_ran (bounded_by r next)) (as_result ret (bounded_slot (none_as_zero (erased_option r)) run))
bounded-erased classes None ret next run have h = absurd have
bounded-erased classes (Some v) ret next run have h =
    let z = is_int classes v have.0 in
    let P : Value → Type 0 =
    λ x. Refines (erased_ran (bounded_by (Some x) next)) (as_result ret (bounded_slot (none_as_zero (erased_option (Some x))) run)) in
    subst P (sym z.1)
    (either-erased (nat_le (turns_to z.0) most_turns) (saying internal_error_class (codes "loop")) ret (next (turns_to z.0)) (run (turns_to z.0))
    (λ few. h (turns_to z.0) (leb-true (turns_to z.0) most_turns few)))
