-- Orders of arguments: an order that changes nothing, and one that undoes a Drop.
use Rattle.std.proofs.Common.{◌≡◌, refl, sym, subst, ap, ap₂, ◌∙◌, ℕ, zero, suc, ◌+◌, ◌-◌, ◌≤◌, add-one, List, [], ◌∷◌, ◌++◌, append_assoc, take, drop, length, length-take-le, Option, Some, None, arith}
use Rattle.std.specs.Prelude.{slice_get, option_to_list}
use Rattle.std.specs.List.{range_with_len}
use Rattle.std.proofs.lemmas.List.{take-append-drop, take_all, length-drop}
use Rattle.std.proofs.Math.Seq.{take-append_seam, drop-append_seam, drop-append-add}
use Rattle.mh_values.specs.declared.types.Ty.{Ty}
use Rattle.mh_values.specs.declared.types.MethodTy.{MethodTy}
use Rattle.mh_values.specs.declared.value.Value.{Value}
use Rattle.mh_values.specs.Computation.{spliced}
use Rattle.mh_leaf.specs.LeafTable.{LeafTable}
use Rattle.mh_tree.specs.Tree.{Tree}
use Rattle.mh_tree.specs.Tree as tree
use Rattle.mh_tree.specs.Typing.{arity}
use Rattle.mh_tree.specs.Meaning.{mean, picked}

-- the item at a place, and then those after it
opened : {A : Type 0} → (xs : List A) (a : ℕ) → drop a xs ≡ option_to_list (slice_get xs a) ++ drop (suc a) xs
opened [] zero = refl
opened [] (suc a) = refl
opened (x ∷ xs) zero = refl
opened (x ∷ xs) (suc a) = opened xs a

-- past the end there is nothing
past : {A : Type 0} → (xs : List A) (a : ℕ) → slice_get xs a ≡ None → drop a xs ≡ []
past [] zero is = refl
past [] (suc a) is = refl
past (x ∷ xs) zero is = absurd cc
past (x ∷ xs) (suc a) is = past xs a is

nothing : {A : Type 0} → (n : ℕ) → take {A = A} n [] ≡ []
nothing zero = refl
nothing (suc n) = refl

-- one item, if it is there, and as many as are wanted after it
one-more : {A : Type 0} → (o : Option A) (xs : List A) (n a : ℕ) → slice_get xs a ≡ o → option_to_list o ++ take n (drop (suc a) xs) ≡ take (suc n) (drop a xs)
one-more (Some x) xs n a is = ap (take (suc n)) (ap (λ o. option_to_list o ++ drop (suc a) xs) (sym is) ∙ sym (opened xs a))
one-more {A} None xs n a is =
    let next : drop (suc a) xs ≡ [] = sym (opened xs a ∙ ap (λ o. option_to_list o ++ drop (suc a) xs) is) ∙ past xs a is in
    ap (take n) next ∙ (nothing {A = A} n ∙ sym (ap (take (suc n)) (past xs a is)))

-- the items of a range are those from its start on, so many
pub picked-range : {A : Type 0} → (xs : List A) (n a : ℕ) → picked xs (range_with_len a n) ≡ take n (drop a xs)
picked-range xs zero a = refl
picked-range xs (suc n) a = ap (λ ys. option_to_list (slice_get xs a) ++ ys) (picked-range xs n (a + 1) ∙ ap (λ m. take n (drop m xs)) (add-one a)) ∙
    one-more (slice_get xs a) xs n a refl

-- picking by one order and then by another
pub picked-append : {A : Type 0} → (xs : List A) (is js : List ℕ) → picked xs (is ++ js) ≡ picked xs is ++ picked xs js
picked-append xs [] js = refl
picked-append xs (i ∷ is) js = ap (λ ys. option_to_list (slice_get xs i) ++ ys) (picked-append xs is js) ∙
    sym (append_assoc (option_to_list (slice_get xs i)) (picked xs is) (picked xs js))

-- the order that leaves each argument where it is
abbrev pub identity_order : ℕ → List ℕ
identity_order n = range_with_len 0 n

-- Permute by the identity order means its part
pub permute-identity : (table : LeafTable) (t : Tree) (asked : MethodTy) (args : List Value) (n : ℕ) → length args ≡ arity table t →
    mean table (tree.Permute t asked (identity_order (arity table t))) args n ≡ mean table t args n
permute-identity table t asked args n e =
    let enough : length args ≤ arity table t = omega (arith, e) in
    ap (λ xs. mean table t xs n) (picked-range args (arity table t) 0 ∙ take_all (arity table t) args enough)

-- what is put in at a place is gone once it is taken out there
pub spliced-back : {A : Type 0} → (place : ℕ) (put xs : List A) → place ≤ length xs → spliced place (length put) [] (spliced place 0 put xs) ≡ xs
spliced-back place put xs low =
    let front = take place xs in
    let rest = drop (place + 0) xs in
    let e : length front ≡ place = length-take-le place xs low in
    let before : take place (front ++ (put ++ rest)) ≡ front = subst (λ m. take m (front ++ (put ++ rest)) ≡ front) e (take-append_seam front (put ++ rest)) in
    let after : drop (place + length put) (front ++ (put ++ rest)) ≡ rest =
    subst (λ m. drop (m + length put) (front ++ (put ++ rest)) ≡ rest) e (drop-append-add front (put ++ rest) (length put) ∙ drop-append_seam put rest) in
    let same : place + 0 ≡ place = omega arith in
    ap₂ (λ ys zs. ys ++ zs) before after ∙ (ap (λ m. front ++ drop m xs) same ∙ take-append-drop place xs)

-- the order that passes each argument to its own place, and any of them to the parameters that a Drop put in
abbrev pub back_order : ℕ → List ℕ → ℕ → List ℕ
back_order place others n = range_with_len 0 place ++ (others ++ range_with_len place (n - place))

-- Drop, and then Permute back, means the part
pub drop-permuted : (table : LeafTable) (t : Tree) (asked : MethodTy) (place : ℕ) (types : List Ty) (others : List ℕ) (args : List Value) (n : ℕ) →
    place ≤ length args → length (picked args others) ≡ length types →
    mean table (tree.Permute (tree.Drop t place types) asked (back_order place others (length args))) args n ≡ mean table t args n
drop-permuted table t asked place types others args n low e =
    let put = picked args others in
    let rest : take (length args - place) (drop place args) ≡ drop (place + 0) args =
    let whole : length (drop place args) ≤ length args - place = omega (arith, length-drop place args) in
    let same : place ≡ place + 0 = omega arith in
    take_all (length args - place) (drop place args) whole ∙ ap (λ m. drop m args) same in
    let chosen : picked args (back_order place others (length args)) ≡ spliced place 0 put args =
    picked-append args (range_with_len 0 place) (others ++ range_with_len place (length args - place))
    ∙ ap₂ (λ ys zs. ys ++ zs) (picked-range args place 0)
    (picked-append args others (range_with_len place (length args - place)) ∙ ap (λ zs. put ++ zs) (picked-range args (length args - place) place ∙ rest)) in
    let taken : spliced place (length types) [] (spliced place 0 put args) ≡ args =
    ap (λ m. spliced place m [] (spliced place 0 put args)) (sym e) ∙ spliced-back place put args low in
    ap (λ xs. mean table t (spliced place (length types) [] xs) n) chosen ∙ ap (λ xs. mean table t xs n) taken
