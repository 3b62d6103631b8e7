-- The beginnings of a recipe, and of one that has a key more.
use Rattle.std.proofs.Common.{◌≡◌, refl, sym, ◌∙◌, ap, subst, true, List, [], ◌∷◌, ◌++◌, append-nil, map, ◌⊎◌, ⊎_elim}
use Rattle.std.proofs.lemmas.List.{map-append}
use Rattle.mh_edit.specs.declared.key.Key.{Key}
use Rattle.mh_link.specs.Made.{beginnings}
use Rattle.mh_attempt.proofs.asked.RecipeCounts.{is_one}
use Rattle.mh_attempt.proofs.asked.RecipeSets.{AreAmong, among-among, among-first, among-last, is-one, none-among, same-among}

-- there is at most one key
abbrev pub IsShort : List Key → Type 0
IsShort keys = (keys ≡ []) ⊎ ((k : Key) × (keys ≡ k ∷ []))

beginnings-snoc : (r : List Key) (k : Key) → beginnings (r ++ k ∷ []) ≡ beginnings r ++ (r ++ k ∷ []) ∷ []
beginnings-snoc [] k = refl
beginnings-snoc (x ∷ r) k =
    ap (λ fronts. (x ∷ []) ∷ map (λ front. x ∷ front) fronts) (beginnings-snoc r k)
    ∙ ap (λ fronts. (x ∷ []) ∷ fronts) (map-append (λ front. x ∷ front) (beginnings r) ((r ++ k ∷ []) ∷ []))

-- a recipe of at most one key
pub short-beginnings : (r : List Key) → IsShort r → AreAmong (beginnings r) (r ∷ [])
short-beginnings r short =
    ⊎_elim
    (λ (none : r ≡ []). subst (λ s. AreAmong (beginnings s) (s ∷ [])) (sym none) (none-among ([] ∷ [])))
    (λ (one : (k : Key) × (r ≡ k ∷ [])).
    subst (λ s. AreAmong (beginnings s) (s ∷ [])) (sym one.1) (same-among ((one.0 ∷ []) ∷ []) ((one.0 ∷ []) ∷ []) refl))
    short

-- of a recipe with at most one key more
pub more-beginnings : (r keys : List Key) → IsShort keys → AreAmong (beginnings (r ++ keys)) (beginnings r ++ (r ++ keys) ∷ [])
more-beginnings r keys short =
    ⊎_elim
    (λ (none : keys ≡ []).
    subst (λ ks. AreAmong (beginnings (r ++ ks)) (beginnings r ++ (r ++ ks) ∷ [])) (sym none)
    (among-among (beginnings (r ++ [])) (beginnings r) (beginnings r ++ (r ++ []) ∷ [])
    (same-among (beginnings (r ++ [])) (beginnings r) (ap beginnings (append-nil r))) (among-first (beginnings r) ((r ++ []) ∷ []))))
    (λ (one : (k : Key) × (keys ≡ k ∷ [])).
    subst (λ ks. AreAmong (beginnings (r ++ ks)) (beginnings r ++ (r ++ ks) ∷ [])) (sym one.1)
    (same-among (beginnings (r ++ one.0 ∷ [])) (beginnings r ++ (r ++ one.0 ∷ []) ∷ []) (beginnings-snoc r one.0)))
    short

-- the beginnings of a recipe are among those of one with at most one key more
pub fewer-beginnings : (r keys : List Key) → IsShort keys → AreAmong (beginnings r) (beginnings (r ++ keys))
fewer-beginnings r keys short =
    ⊎_elim
    (λ (none : keys ≡ []).
    subst (λ ks. AreAmong (beginnings r) (beginnings (r ++ ks))) (sym none)
    (same-among (beginnings r) (beginnings (r ++ [])) (ap beginnings (sym (append-nil r)))))
    (λ (one : (k : Key) × (keys ≡ k ∷ [])).
    subst (λ ks. AreAmong (beginnings r) (beginnings (r ++ ks))) (sym one.1)
    (among-among (beginnings r) (beginnings r ++ (r ++ one.0 ∷ []) ∷ []) (beginnings (r ++ one.0 ∷ []))
    (among-first (beginnings r) ((r ++ one.0 ∷ []) ∷ []))
    (same-among (beginnings r ++ (r ++ one.0 ∷ []) ∷ []) (beginnings (r ++ one.0 ∷ [])) (sym (beginnings-snoc r one.0)))))
    short

last-key : (x : Key) (xs : List Key) → (front : List Key) × (k : Key) × (x ∷ xs ≡ front ++ k ∷ [])
last-key x [] = ([], x, refl)
last-key x (y ∷ ys) = let rest = last-key y ys in (x ∷ rest.0, rest.1, ap (λ keys. x ∷ keys) rest.2)

-- a recipe that has a key is one of its beginnings
pub whole-beginning : (x : Key) (xs : List Key) → is_one (beginnings (x ∷ xs)) (x ∷ xs) ≡ true
whole-beginning x xs =
    let parts = last-key x xs in
    let r = parts.0 ++ parts.1 ∷ [] in
    subst (λ s. is_one (beginnings s) s ≡ true) (sym parts.2)
    (ap (λ fronts. is_one fronts r) (beginnings-snoc parts.0 parts.1) ∙ among-last (beginnings parts.0) (r ∷ []) r (is-one r []))
