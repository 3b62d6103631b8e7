-- Values that have the types of a list, taken apart and put together.
use Rattle.std.proofs.Common.{◌≡◌, refl, sym, subst, ap, ◌∙◌, ℕ, zero, suc, ◌+◌, ◌≤◌, true, List, [], ◌∷◌, ◌++◌, take, drop, length, length-take-le, Some, arith}
use Rattle.std.specs.Prelude.{slice_get, option_to_list}
use Rattle.std.proofs.lemmas.List.{take-append-drop}
use Rattle.std.proofs.lemmas.Bool.{and_parts}
use Rattle.mh_values.specs.declared.class.Class.{Class}
use Rattle.mh_values.specs.declared.types.Ty.{Ty}
use Rattle.mh_values.specs.declared.value.Value.{Value}
use Rattle.mh_values.specs.Computation.{spliced}
use Rattle.mh_values.specs.HasType.{has_type, HaveTypes}
use Rattle.mh_values.specs.Same.{is_same_return}
use Rattle.mh_values.proofs.SameTypes.{same_return-is}
use Rattle.mh_tree.specs.Meaning.{picked}
use Rattle.mh_tree.specs.Rows.{names_types}

pub types-length : (classes : List Class) (xs : List Value) (ts : List Ty) → HaveTypes classes xs ts → length xs ≡ length ts
types-length classes [] [] h = refl
types-length classes [] (t ∷ ts) h = absurd h
types-length classes (x ∷ xs) [] h = absurd h
types-length classes (x ∷ xs) (t ∷ ts) h = ap suc (types-length classes xs ts h.1)

pub types-join : (classes : List Class) (xs ys : List Value) (ts us : List Ty) → HaveTypes classes xs ts → HaveTypes classes ys us →
    HaveTypes classes (xs ++ ys) (ts ++ us)
types-join classes [] ys [] us h k = k
types-join classes [] ys (t ∷ ts) us h k = absurd h
types-join classes (x ∷ xs) ys [] us h k = absurd h
types-join classes (x ∷ xs) ys (t ∷ ts) us h k = (h.0, types-join classes xs ys ts us h.1 k)

pub types-front : (classes : List Class) (xs : List Value) (ts us : List Ty) → HaveTypes classes xs (ts ++ us) → HaveTypes classes (take (length ts) xs) ts
types-front classes xs [] us h = tt
types-front classes [] (t ∷ ts) us h = absurd h
types-front classes (x ∷ xs) (t ∷ ts) us h = (h.0, types-front classes xs ts us h.1)

pub types-back : (classes : List Class) (xs : List Value) (ts us : List Ty) → HaveTypes classes xs (ts ++ us) → HaveTypes classes (drop (length ts) xs) us
types-back classes xs [] us h = h
types-back classes [] (t ∷ ts) us h = absurd h
types-back classes (x ∷ xs) (t ∷ ts) us h = types-back classes xs ts us h.1

pub types-drop : (classes : List Class) (xs : List Value) (ts : List Ty) (n : ℕ) → HaveTypes classes xs ts → HaveTypes classes (drop n xs) (drop n ts)
types-drop classes xs ts zero h = h
types-drop classes [] [] (suc n) h = tt
types-drop classes [] (t ∷ ts) (suc n) h = absurd h
types-drop classes (x ∷ xs) [] (suc n) h = absurd h
types-drop classes (x ∷ xs) (t ∷ ts) (suc n) h = types-drop classes xs ts n h.1

-- the value at a place has the type there
pub types-get : (classes : List Class) (xs : List Value) (ts : List Ty) (i : ℕ) (t : Ty) → HaveTypes classes xs ts → slice_get ts i ≡ Some t →
    (v : Value) × (slice_get xs i ≡ Some v) × (has_type classes v t ≡ true)
types-get classes [] [] i t h is = absurd cc
types-get classes [] (u ∷ ts) i t h is = absurd h
types-get classes (x ∷ xs) [] i t h is = absurd h
types-get classes (x ∷ xs) (u ∷ ts) zero t h is = let e : u ≡ t = cc in (x, refl, subst (λ a. has_type classes x a ≡ true) e h.0)
types-get classes (x ∷ xs) (u ∷ ts) (suc i) t h is = types-get classes xs ts i t h.1 is

-- chosen arguments have the types that are wanted
pub types-picked : (classes : List Class) (args : List Value) (params : List Ty) (reorder : List ℕ) (types : List Ty) → HaveTypes classes args params →
    names_types params reorder types ≡ true → HaveTypes classes (picked args reorder) types
types-picked classes args params [] [] h named = tt
types-picked classes args params [] (t ∷ types) h named = absurd cc
types-picked classes args params (i ∷ reorder) [] h named = absurd cc
types-picked classes args params (i ∷ reorder) (t ∷ types) h named =
    let q = and_parts (is_same_return (slice_get params i) (Some t)) (names_types params reorder types) named in
    let v = types-get classes args params i t h (same_return-is (slice_get params i) (Some t) q.0) in
    types-join classes (option_to_list (slice_get args i)) (picked args reorder) (t ∷ []) types
    (subst (λ o. HaveTypes classes (option_to_list o) (t ∷ [])) (sym v.1) (v.2, tt)) (types-picked classes args params reorder types h q.1)

-- ---- splices

drop-none : {A : Type 0} → (a : ℕ) → drop {A = A} a [] ≡ []
drop-none zero = refl
drop-none (suc a) = refl

pub drop-more : {A : Type 0} → (a b : ℕ) (xs : List A) → drop b (drop a xs) ≡ drop (a + b) xs
drop-more zero b xs = ap (λ m. drop m xs) (omega arith)
drop-more (suc a) b [] = drop-none b ∙ sym (drop-none (suc a + b))
drop-more (suc a) b (x ∷ xs) =
    let e : suc (a + b) ≡ suc a + b = omega arith in
    drop-more a b xs ∙ ap (λ m. drop m (x ∷ xs)) e

-- the arguments of a part, where the new types stand in place of some of the old
pub types-part :
    (classes : List Class) (args : List Value) (tys new : List Ty) (place taken : ℕ) →
    place ≤ length tys →
    HaveTypes classes args (spliced place taken new tys) →
    HaveTypes classes (take (length new) (drop place args)) new
types-part classes args tys new place taken low h =
    let e : length (take place tys) ≡ place = length-take-le place tys low in
    let back = types-back classes args (take place tys) (new ++ drop (place + taken) tys) h in
    types-front classes (drop place args) new (drop (place + taken) tys)
    (subst (λ m. HaveTypes classes (drop m args) (new ++ drop (place + taken) tys)) e back)

-- the arguments of the old tree, with the values that are put in
pub types-splice :
    (classes : List Class) (args put : List Value) (tys new : List Ty) (place taken : ℕ) →
    place ≤ length tys →
    HaveTypes classes args (spliced place taken new tys) →
    HaveTypes classes put (take taken (drop place tys)) →
    HaveTypes classes (spliced place (length new) put args) tys
types-splice classes args put tys new place taken low h k =
    let e : length (take place tys) ≡ place = length-take-le place tys low in
    let rest = drop (place + taken) tys in
    let front : HaveTypes classes (take place args) (take place tys) =
    subst (λ m. HaveTypes classes (take m args) (take place tys)) e (types-front classes args (take place tys) (new ++ rest) h) in
    let back : HaveTypes classes (drop place args) (new ++ rest) =
    subst (λ m. HaveTypes classes (drop m args) (new ++ rest)) e (types-back classes args (take place tys) (new ++ rest) h) in
    let last : HaveTypes classes (drop (place + length new) args) rest =
    subst (λ d. HaveTypes classes d rest) (drop-more place (length new) args) (types-back classes (drop place args) new rest back) in
    let split : take place tys ++ (take taken (drop place tys) ++ rest) ≡ tys =
    ap (λ d. take place tys ++ (take taken (drop place tys) ++ d)) (sym (drop-more place taken tys))
    ∙ (ap (λ d. take place tys ++ d) (take-append-drop taken (drop place tys)) ∙ take-append-drop place tys) in
    subst (HaveTypes classes (spliced place (length new) put args)) split
    (types-join classes (take place args) (put ++ drop (place + length new) args) (take place tys) (take taken (drop place tys) ++ rest) front
    (types-join classes put (drop (place + length new) args) (take taken (drop place tys)) rest k last))
