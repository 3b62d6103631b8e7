-- Adapters end as their types say, where their parts do.
use Rattle.std.proofs.Common.{◌≡◌, refl, sym, subst, ap, ◌∙◌, zero, suc, ℕ, ◌≤◌, true, List, [], ◌∷◌, ◌++◌, take, drop, length, Option, Some, None, is_some, Ok, nat_le, arith}
use Rattle.std.specs.Prelude.{slice_get, option_to_list}
use Rattle.std.proofs.lemmas.Option.{slice_get_within}
use Rattle.std.proofs.lemmas.Bool.Decides.{nat_tests}
use Rattle.mh_values.specs.declared.class.Class.{Class}
use Rattle.mh_values.specs.declared.types.Ty.{Ty}
use Rattle.mh_values.specs.declared.types.MethodTy.{MethodTy}
use Rattle.mh_values.specs.declared.value.Value.{Value}
use Rattle.mh_values.specs.Computation.{found, and_then, spliced}
use Rattle.mh_values.specs.HasType.{HaveTypes}
use Rattle.mh_values.specs.Returns.{Returns}
use Rattle.mh_values.proofs.SameTypes.{same_return-is, same_types-is, begins_with-rest}
use Rattle.mh_convert.specs.Conversion.{fit}
use Rattle.mh_convert.proofs.Typed.{fit-typed}
use Rattle.mh_tree.specs.Rows.{count_of, gives_at, folded, bind_row, drop_row, permute_row, filter_row, filterret_row, fold_row, collect_row}
use Rattle.mh_tree.specs.Meaning.{Done, fitted, picked, part_of}
use Rattle.mh_tree.specs.Sound.{Body, IsSound}
use Rattle.mh_tree.proofs.RowParts.{bind_row-parts, drop_row-parts, permute_row-parts, filter_row-parts, filterret_row-parts, fold_row-parts, collect_row-parts}
use Rattle.mh_tree.proofs.Returning.{returns-then}
use Rattle.mh_tree.proofs.TypedLists.{types-part, types-splice, types-picked, types-front, types-drop}

pub one-taken : (types : List Ty) (place : ℕ) (p : Ty) → slice_get types place ≡ Some p → take 1 (drop place types) ≡ p ∷ []
one-taken [] place p h = absurd cc
one-taken (t ∷ types) zero p h = let e : t ≡ p = cc in ap (λ v. v ∷ []) e
one-taken (t ∷ types) (suc place) p h = one-taken types place p h

pub at_most : (place most : ℕ) → nat_le place most ≡ true → place ≤ most
at_most place most h = grind (arith, nat_tests)

-- where a part's result serves at a place, it stands for what is taken there
pub gives_at-within : (ret : Option Ty) (place : ℕ) (params : List Ty) → gives_at ret place params ≡ true → place ≤ length params
gives_at-within None place params h = at_most place (length params) h
gives_at-within (Some r) place params h = omega (arith, slice_get_within params place r (same_return-is (slice_get params place) (Some r) h))

pub gives_at-taken : (ret : Option Ty) (place : ℕ) (params : List Ty) → gives_at ret place params ≡ true →
    take (count_of ret) (drop place params) ≡ option_to_list ret
gives_at-taken None place params h = refl
gives_at-taken (Some r) place params h = one-taken params place r (same_return-is (slice_get params place) (Some r) h)

-- a result that is there counts one
pub result-counts : (ret : Option Ty) → is_some ret ≡ true → count_of ret ≡ 1
result-counts None h = absurd cc
result-counts (Some r) h = refl

pub bind-sound : (classes : List Class) (body : Body) (t : MethodTy) (weight place : ℕ) (v : Value) (u : MethodTy) → IsSound classes body t →
    bind_row classes t weight place v ≡ Ok u →
    IsSound classes (λ args n. found (slice_get t.params place) (λ p. fitted (fit classes v p) (λ w. body (spliced place 0 (w ∷ []) args) n))) u
bind-sound classes body t weight place v u sound typed args n have =
    let q = bind_row-parts classes t weight place v u typed in
    let have' : HaveTypes classes args (spliced place 1 [] t.params) = subst (λ (m : MethodTy). HaveTypes classes args m.params) q.4 have in
    let low : place ≤ length t.params = omega (arith, slice_get_within t.params place q.0 q.2) in
    let one : HaveTypes classes (q.1 ∷ []) (take 1 (drop place t.params)) =
    subst (HaveTypes classes (q.1 ∷ [])) (sym (one-taken t.params place q.0 q.2)) (fit-typed classes v q.1 q.0 q.3, tt) in
    let old : HaveTypes classes (spliced place 0 (q.1 ∷ []) args) t.params = types-splice classes args (q.1 ∷ []) t.params [] place 1 low have' one in
    let run : Value → Done = λ w. body (spliced place 0 (w ∷ []) args) n in
    let done : Returns classes (run q.1) t.ret = sound (spliced place 0 (q.1 ∷ []) args) n old in
    let fits = subst (λ r. Returns classes (fitted r run) t.ret) (sym q.3) done in
    let there = subst (λ o. Returns classes (found o (λ p. fitted (fit classes v p) run)) t.ret) (sym q.2) fits in
    subst (λ (m : MethodTy). Returns classes (found (slice_get t.params place) (λ p. fitted (fit classes v p) run)) m.ret) (sym q.4) there

pub drop-sound : (classes : List Class) (body : Body) (t : MethodTy) (weight place : ℕ) (types : List Ty) (u : MethodTy) → IsSound classes body t →
    drop_row t weight place types ≡ Ok u → IsSound classes (λ args n. body (spliced place (length types) [] args) n) u
drop-sound classes body t weight place types u sound typed args n have =
    let q = drop_row-parts t weight place types u typed in
    let have' : HaveTypes classes args (spliced place 0 types t.params) = subst (λ (m : MethodTy). HaveTypes classes args m.params) q.1 have in
    let old = types-splice classes args [] t.params types place 0 (at_most place (length t.params) q.0) have' tt in
    subst (λ (m : MethodTy). Returns classes (body (spliced place (length types) [] args) n) m.ret) (sym q.1)
    (sound (spliced place (length types) [] args) n old)

pub permute-sound : (classes : List Class) (body : Body) (t : MethodTy) (weight : ℕ) (asked : MethodTy) (reorder : List ℕ) (u : MethodTy) →
    IsSound classes body t → permute_row t weight asked reorder ≡ Ok u → IsSound classes (λ args n. body (picked args reorder) n) u
permute-sound classes body t weight asked reorder u sound typed args n have =
    let q = permute_row-parts t weight asked reorder u typed in
    let have' : HaveTypes classes args asked.params = subst (λ (m : MethodTy). HaveTypes classes args m.params) q.2 have in
    let done = sound (picked args reorder) n (types-picked classes args asked.params reorder t.params have' q.0) in
    let ret : t.ret ≡ u.ret = sym (same_return-is asked.ret t.ret q.1) ∙ sym (ap (λ (m : MethodTy). m.ret) q.2) in
    subst (Returns classes (body (picked args reorder) n)) ret done

-- a part, and then the body with the part's result in place of its arguments
pub collect-sound : (classes : List Class) (body part : Body) (t : MethodTy) (weight place : ℕ) (f : MethodTy) (f_weight : ℕ) (u : MethodTy) →
    IsSound classes body t → IsSound classes part f → collect_row t weight place f f_weight ≡ Ok u →
    IsSound classes (λ args n. and_then (part (part_of place (length f.params) args) n) n (λ r k. body (spliced place (length f.params) (option_to_list r) args)
    k)) u
collect-sound classes body part t weight place f f_weight u sound part-sound typed args n have =
    let q = collect_row-parts t weight place f f_weight u typed in
    let low = gives_at-within f.ret place t.params q.0 in
    let taken = gives_at-taken f.ret place t.params q.0 in
    let have' : HaveTypes classes args (spliced place (count_of f.ret) f.params t.params) = subst (λ (m : MethodTy). HaveTypes classes args m.params) q.1 have
    in
    let run : Option Value → ℕ → Done = λ r k. body (spliced place (length f.params) (option_to_list r) args) k in
    let first = part-sound (part_of place (length f.params) args) n (types-part classes args t.params f.params place (count_of f.ret) low have') in
    let done = returns-then classes (part (part_of place (length f.params) args) n) f.ret t.ret n run first (λ r k given.
    sound (spliced place (length f.params) (option_to_list r) args) k
    (types-splice classes args (option_to_list r) t.params f.params place (count_of f.ret) low have' (subst (HaveTypes classes (option_to_list r)) (sym taken)
    given))) in
    subst (λ (m : MethodTy). Returns classes (and_then (part (part_of place (length f.params) args) n) n run) m.ret) (sym q.1) done

pub filter-sound : (classes : List Class) (body part : Body) (t : MethodTy) (weight place : ℕ) (f : MethodTy) (f_weight : ℕ) (u : MethodTy) →
    IsSound classes body t → IsSound classes part f → filter_row t weight place f f_weight ≡ Ok u →
    IsSound classes (λ args n. and_then (part (part_of place 1 args) n) n (λ r k. body (spliced place 1 (option_to_list r) args) k)) u
filter-sound classes body part t weight place f f_weight u sound part-sound typed args n have =
    let q = filter_row-parts t weight place f f_weight u typed in
    let low = gives_at-within f.ret place t.params q.2 in
    let one = result-counts f.ret q.1 in
    let taken : take 1 (drop place t.params) ≡ option_to_list f.ret = ap (λ c. take c (drop place t.params)) (sym one) ∙ gives_at-taken f.ret place t.params q.2
    in
    let have' : HaveTypes classes args (spliced place 1 f.params t.params) = subst (λ (m : MethodTy). HaveTypes classes args m.params) q.3 have in
    let run : Option Value → ℕ → Done = λ r k. body (spliced place 1 (option_to_list r) args) k in
    let own : HaveTypes classes (part_of place 1 args) f.params = subst (λ c. HaveTypes classes (part_of place c args) f.params) q.0
    (types-part classes args t.params f.params place 1 low have') in
    let first = part-sound (part_of place 1 args) n own in
    let done = returns-then classes (part (part_of place 1 args) n) f.ret t.ret n run first (λ r k given.
    let put = types-splice classes args (option_to_list r) t.params f.params place 1 low have' (subst (HaveTypes classes (option_to_list r)) (sym taken) given)
    in
    sound (spliced place 1 (option_to_list r) args) k (subst (λ c. HaveTypes classes (spliced place c (option_to_list r) args) t.params) q.0 put)) in
    subst (λ (m : MethodTy). Returns classes (and_then (part (part_of place 1 args) n) n run) m.ret) (sym q.3) done

pub filterret-sound : (classes : List Class) (body part : Body) (t : MethodTy) (weight : ℕ) (f : MethodTy) (f_weight : ℕ) (u : MethodTy) →
    IsSound classes body t → IsSound classes part f → filterret_row t weight f f_weight ≡ Ok u →
    IsSound classes (λ args n. and_then (body args n) n (λ r k. part (option_to_list r) k)) u
filterret-sound classes body part t weight f f_weight u sound part-sound typed args n have =
    let q = filterret_row-parts t weight f f_weight u typed in
    let have' : HaveTypes classes args t.params = subst (λ (m : MethodTy). HaveTypes classes args m.params) q.1 have in
    let run : Option Value → ℕ → Done = λ r k. part (option_to_list r) k in
    let done = returns-then classes (body args n) t.ret f.ret n run (sound args n have') (λ r k given.
    part-sound (option_to_list r) k (subst (HaveTypes classes (option_to_list r)) (sym (same_types-is f.params (option_to_list t.ret) q.0)) given)) in
    subst (λ (m : MethodTy). Returns classes (and_then (body args n) n run) m.ret) (sym q.1) done

pub fold-sound : (classes : List Class) (body part : Body) (t : MethodTy) (weight place : ℕ) (c : MethodTy) (c_weight : ℕ) (u : MethodTy) →
    IsSound classes body t → IsSound classes part c → fold_row t weight place c c_weight ≡ Ok u →
    IsSound classes (λ args n. and_then (part (part_of place (length c.params) args) n) n (λ r k. body (spliced place 0 (option_to_list r) args) k)) u
fold-sound classes body part t weight place c c_weight u sound part-sound typed args n have =
    let q = fold_row-parts t weight place c c_weight u typed in
    let low = gives_at-within c.ret place t.params q.0 in
    let taken = gives_at-taken c.ret place t.params q.0 in
    let have' : HaveTypes classes args (folded t place c) = subst (λ (m : MethodTy). HaveTypes classes args m.params) q.2 have in
    let rest = begins_with-rest (drop place (folded t place c)) c.params q.1 in
    let after : HaveTypes classes (drop place args) (c.params ++ rest.0) =
    subst (HaveTypes classes (drop place args)) rest.1 (types-drop classes args (folded t place c) place have') in
    let run : Option Value → ℕ → Done = λ r k. body (spliced place 0 (option_to_list r) args) k in
    let first = part-sound (part_of place (length c.params) args) n (types-front classes (drop place args) c.params rest.0 after) in
    let done = returns-then classes (part (part_of place (length c.params) args) n) c.ret t.ret n run first (λ r k given.
    sound (spliced place 0 (option_to_list r) args) k
    (types-splice classes args (option_to_list r) t.params [] place (count_of c.ret) low have' (subst (HaveTypes classes (option_to_list r)) (sym taken)
    given))) in
    subst (λ (m : MethodTy). Returns classes (and_then (part (part_of place (length c.params) args) n) n run) m.ret) (sym q.2) done
