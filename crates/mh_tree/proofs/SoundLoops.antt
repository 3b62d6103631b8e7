-- Switches and loops end as their types say, where their parts do.
use Rattle.std.proofs.Common.{◌≡◌, refl, sym, subst, ap, ◌∙◌, ℕ, zero, suc, ◌+◌, ◌<◌, ◌≤◌, ◌^◌, ℤ, pos, negsuc, Bool, true, false, cond, List, [], ◌∷◌, ◌++◌, take, length, Option, Some, None, Ok, codes, nat_le, append-nil, arith}
use Rattle.std.specs.Prelude.{option_to_list, slice_get}
use Rattle.std.proofs.lemmas.Bool.{leb-true, lt-ltb}
use Rattle.mh_values.specs.declared.class.Class.{Class}
use Rattle.mh_values.specs.declared.types.Ty.{Ty}
use Rattle.mh_values.specs.declared.types.MethodTy.{MethodTy}
use Rattle.mh_values.specs.declared.value.Num.TheVariants as num
use Rattle.mh_values.specs.declared.value.Value.{Value}
use Rattle.mh_values.specs.declared.value.Value.TheVariants as value
use Rattle.mh_values.specs.Class.{internal_error_class}
use Rattle.mh_values.specs.Classes.{AreClasses}
use Rattle.mh_values.specs.Computation.{Threw, and_then, found}
use Rattle.mh_leaf.specs.Ending.{most_turns, picked_by, turned, turns_to}
use Rattle.mh_values.specs.Exception.{saying}
use Rattle.mh_values.specs.HasType.{has_type, HaveTypes}
use Rattle.mh_values.specs.Returns.{Returns}
use Rattle.mh_values.specs.Same.{begins_with_types, is_same_return}
use Rattle.mh_values.proofs.BelowTypes.{internal_error-below}
use Rattle.mh_values.proofs.SameTypes.{same_return-is}
use Rattle.mh_leaf.specs.Outcome.{int_type}
use Rattle.mh_tree.specs.Rows.{counted_row, further, loop_params, turn_types, unless_empty}
use Rattle.mh_tree.specs.Meaning.{Done, bounded_by, switched}
use Rattle.mh_tree.specs.Sound.{Body, IsSound}
use Rattle.mh_tree.proofs.RowParts.{counted_row-parts}
use Rattle.mh_tree.proofs.Returning.{given-returns, returns-then}
use Rattle.mh_tree.proofs.SoundBranches.{first-typed}
use Rattle.mh_tree.proofs.SoundFinally.{types-split}
use Rattle.mh_tree.proofs.TypedLists.{types-front, types-get, types-join}

pub is_int : (classes : List Class) (v : Value) → has_type classes v int_type ≡ true → (z : ℤ) × (v ≡ value.Prim (num.I z))
is_int classes (value.Prim (num.I z)) h = (z, refl)
is_int classes v h = absurd cc

-- ---- switches

picked-returns : (classes : List Class) (z : ℤ) (pick : ℕ → Done) (other : Done) (ret : Option Ty) → ((k : ℕ) → Returns classes (pick k) ret) →
    Returns classes other ret → Returns classes (picked_by z pick other) ret
picked-returns classes (pos k) pick other ret h g = h k
picked-returns classes (negsuc k) pick other ret h g = g

pub switch-sound : (classes : List Class) (body : Body) (pick : ℕ → Body) (f : MethodTy) → IsSound classes body f → ((k : ℕ) → IsSound classes (pick k) f) →
    is_same_return (slice_get f.params 0) (Some int_type) ≡ true →
    IsSound classes (λ args n. found (slice_get args 0) (λ s. switched s (λ k. pick k args n) (body args n))) f
switch-sound classes body pick f sound picks first args n have =
    let v = types-get classes args f.params 0 int_type have (same_return-is (slice_get f.params 0) (Some int_type) first) in
    let z = is_int classes v.0 v.2 in
    let there : slice_get args 0 ≡ Some (value.Prim (num.I z.0)) = v.1 ∙ ap Some z.1 in
    subst (λ o. Returns classes (found o (λ s. switched s (λ k. pick k args n) (body args n))) f.ret) (sym there)
    (picked-returns classes z.0 (λ k. pick k args n) (body args n) f.ret (λ k. picks k args n have) (sound args n have))

-- ---- loops

-- turns that each give what the next one takes
returns-turned :
    (classes : List Class) (ret : Option Ty) (body : ℕ → Option Value → ℕ → Done) →
    ((j : ℕ) (w : Option Value) (k : ℕ) → j < most_turns → HaveTypes classes (option_to_list w) (option_to_list ret) → Returns classes (body j w k) ret) →
    (left i : ℕ) (v : Option Value) (n : ℕ) → i + left ≤ most_turns → HaveTypes classes (option_to_list v) (option_to_list ret) →
    Returns classes (turned body i left v n) ret
returns-turned classes ret body h zero i v n few have = given-returns classes v ret have
returns-turned classes ret body h (suc left) i v n few have =
    returns-then classes (body i v n) ret ret n (λ w k. turned body (suc i) left w k) (h i v n (omega arith) have)
    (λ w k given. returns-turned classes ret body h left (suc i) w k (omega arith) given)

bounded-returns : (classes : List Class) → AreClasses classes → (b : Bool) (r : Done) (ret : Option Ty) → (b ≡ true → Returns classes r ret) →
    Returns classes (cond b r (Threw (saying internal_error_class (codes "loop")) [])) ret
bounded-returns classes are true r ret h = h refl
bounded-returns classes are false r ret h = internal_error-below classes are

-- what goes on with the turns that the iterations gave
turns-returned :
    (classes : List Class) → AreClasses classes → (r : Option Value) (next : ℕ → Done) (ret : Option Ty) →
    HaveTypes classes (option_to_list r) (int_type ∷ []) → ((turns : ℕ) → turns ≤ most_turns → Returns classes (next turns) ret) →
    Returns classes (bounded_by r next) ret
turns-returned classes are None next ret have h = absurd have
turns-returned classes are (Some v) next ret have h =
    let z = is_int classes v have.0 in
    subst (λ x. Returns classes (bounded_by (Some x) next) ret) (sym z.1)
    (bounded-returns classes are (nat_le (turns_to z.0) most_turns) (next (turns_to z.0)) ret
    (λ few. h (turns_to z.0) (leb-true (turns_to z.0) most_turns few)))

-- the further arguments of a turn
further-typed : (classes : List Class) (args : List Value) (more others : List Ty) → HaveTypes classes args (unless_empty more others) →
    HaveTypes classes (take (length more) args) more
further-typed classes args [] others have = tt
further-typed classes args (t ∷ ts) others have =
    types-front classes args (t ∷ ts) [] (subst (HaveTypes classes args) (sym (append-nil (t ∷ ts))) have)

turn-first : (ret : Option Ty) (more : List Ty) → option_to_list ret ++ (int_type ∷ more) ≡ turn_types ret ++ more
turn-first None more = refl
turn-first (Some t) more = refl

-- what a turn takes: its own result if there is one, its number, and the further arguments
pub turn-typed :
    (classes : List Class) (n b : MethodTy) (args : List Value) (j : ℕ) (w : Option Value) → j < most_turns →
    begins_with_types b.params (turn_types b.ret) ≡ true → HaveTypes classes args (loop_params n b) →
    HaveTypes classes (option_to_list w) (option_to_list b.ret) →
    HaveTypes classes (option_to_list w ++ (value.Prim (num.I (pos j)) ∷ take (length (further b)) args)) b.params
turn-typed classes n b args j w low begins have given =
    let wide : j < 2 ^ 31 = omega (arith, low) in
    let number : has_type classes (value.Prim (num.I (pos j))) int_type ≡ true = lt-ltb j (2 ^ 31) wide in
    subst (HaveTypes classes (option_to_list w ++ (value.Prim (num.I (pos j)) ∷ take (length (further b)) args)))
    (turn-first b.ret (further b) ∙ types-split b.params (turn_types b.ret) begins)
    (types-join classes (option_to_list w) (value.Prim (num.I (pos j)) ∷ take (length (further b)) args) (option_to_list b.ret) (int_type ∷ further b) given
    (number, further-typed classes args (further b) n.params have))

pub counted-sound :
    (classes : List Class) → AreClasses classes → (count start turn : Body) (n : MethodTy) (n_weight : ℕ) (i : MethodTy) (i_weight : ℕ) (b : MethodTy)
    (b_weight : ℕ) (u : MethodTy) → IsSound classes count n → IsSound classes start i → IsSound classes turn b →
    counted_row n n_weight i i_weight b b_weight ≡ Ok u →
    IsSound classes (λ args m. and_then (count (take (length n.params) args) m) m (λ r k. bounded_by r (λ turns.
    and_then (start (take (length i.params) args) k) k (λ v l.
    turned (λ j w q. turn (option_to_list w ++ (value.Prim (num.I (pos j)) ∷ take (length (further b)) args)) q) 0 turns v l)))) u
counted-sound classes are count start turn n n_weight i i_weight b b_weight u count-sound start-sound turn-sound typed =
    let q = counted_row-parts n n_weight i i_weight b b_weight u typed in
    let params = loop_params n b in
    let turns_on : List Value → ℕ → Option Value → ℕ → Done =
    λ args j w q. turn (option_to_list w ++ (value.Prim (num.I (pos j)) ∷ take (length (further b)) args)) q in
    let goes_on : List Value → ℕ → ℕ → Done =
    λ args k turns. and_then (start (take (length i.params) args) k) k (λ v l. turned (turns_on args) 0 turns v l) in
    let run : Body = λ args m. and_then (count (take (length n.params) args) m) m (λ r k. bounded_by r (goes_on args k)) in
    let one_turn : (args : List Value) → HaveTypes classes args params → (j : ℕ) (w : Option Value) (k : ℕ) → j < most_turns →
    HaveTypes classes (option_to_list w) (option_to_list b.ret) → Returns classes (turns_on args j w k) b.ret =
    λ args have j w k low given.
    turn-sound (option_to_list w ++ (value.Prim (num.I (pos j)) ∷ take (length (further b)) args)) k (turn-typed classes n b args j w low q.1 have given) in
    subst (IsSound classes run) (sym q.5)
    (λ args m have.
    returns-then classes (count (take (length n.params) args) m) n.ret b.ret m (λ r k. bounded_by r (goes_on args k))
    (count-sound (take (length n.params) args) m (first-typed classes args params n.params q.3 have))
    (λ r k given.
    turns-returned classes are r (goes_on args k) b.ret
    (subst (λ ret. HaveTypes classes (option_to_list r) (option_to_list ret)) (same_return-is n.ret (Some int_type) q.0) given)
    (λ turns few.
    returns-then classes (start (take (length i.params) args) k) i.ret b.ret k (λ v l. turned (turns_on args) 0 turns v l)
    (start-sound (take (length i.params) args) k (first-typed classes args params i.params q.4 have))
    (λ v l first.
    returns-turned classes b.ret (turns_on args) (one_turn args have) turns 0 v l (omega (arith, few))
    (subst (λ ret. HaveTypes classes (option_to_list v) (option_to_list ret)) (same_return-is i.ret b.ret q.2) first)))))
