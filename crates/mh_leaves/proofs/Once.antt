-- The place of an item that is there at most once, in a list and in a longer one.
use Rattle.std.proofs.Common.{◌≡◌, refl, sym, ap, ap₂, ◌∙◌, inl, inr, zero, suc, ℕ, ◌+◌, ◌<◌, ◌≤◌, Bool, true, false, ◌&&◌, ◌||◌, cond, List, [], ◌∷◌, ◌++◌, length, Option, None, Some, IfSome, slice_get, get_or, position, arith}
use Rattle.std.proofs.lemmas.Bool.{cases_Bool, false_from_ne_true}
use Rattle.std.proofs.lemmas.Iterator.Adapters.{position_from-zero}
use Rattle.std.proofs.lemmas.Option.{slice_get_read}
use Rattle.std.specs.List.{list_any, position_from}
use Rattle.std.specs.Option.{is_some, option_or}
use Rattle.mh_base.proofs.Positions.{position-push}
use Rattle.mh_base.proofs.Slices.{not_some, option_or-none}
use Rattle.mh_leaf.specs.declared.leaf.Leaf.{Leaf}
use Rattle.mh_leaves.specs.Index.{PassesOnce}

-- ---- places

position_from-within : {A : Type 0} (f : A → Bool) (n : ℕ) (xs : List A) (i : ℕ) → position_from f n xs ≡ Some i → (n ≤ i) × (i < n + length xs)
position_from-within f n [] i h = cc
position_from-within f n (x ∷ xs) i h =
    elim (cases_Bool (f x)) [
      | inl e ↦
          let here : Some n ≡ Some i = sym (ap (λ b. cond b (Some n) (position_from f (n + 1) xs)) e) ∙ h in
          let same : n ≡ i = cc in (omega arith, omega arith)
      | inr e ↦
          let later = position_from-within f (n + 1) xs i (sym (ap (λ b. cond b (Some n) (position_from f (n + 1) xs)) e) ∙ h) in
          (omega (arith, later.0), omega (arith, later.1))
    ]

pub position-within : {A : Type 0} (f : A → Bool) (xs : List A) (o : Option ℕ) → o ≡ position f xs → IfSome o (λ i. i < length xs)
position-within f xs None is = tt
position-within f xs (Some i) is = omega (arith, (position_from-within f 0 xs i (sym (position_from-zero f xs) ∙ sym is)).1)

position_from-any : {A : Type 0} (f : A → Bool) (n : ℕ) (xs : List A) → is_some (position_from f n xs) ≡ list_any f xs
position_from-any f n [] = refl
position_from-any f n (x ∷ xs) =
    elim (f x) as (λ b. is_some (cond b (Some n) (position_from f (n + 1) xs)) ≡ (b || list_any f xs)) [ true ↦ refl | false ↦ position_from-any f (n + 1) xs ]

-- a place is found where some item passes
pub position-any : {A : Type 0} (f : A → Bool) (xs : List A) → is_some (position f xs) ≡ list_any f xs
position-any f xs = ap is_some (position_from-zero f xs) ∙ position_from-any f 0 xs

-- ---- two tests

none-both : {A : Type 0} (f g : A → Bool) (n : ℕ) (xs : List A) → list_any f xs ≡ false → position_from (λ x. f x && g x) n xs ≡ None
none-both f g n [] h = refl
none-both f g n (x ∷ xs) h =
    let here : f x ≡ false = false_from_ne_true (f x) (λ e. cc (ap (λ b. b || list_any f xs) e)) in
    let later : list_any f xs ≡ false = sym (ap (λ b. b || list_any f xs) here) ∙ h in
    ap (λ b. cond (b && g x) (Some n) (position_from (λ y. f y && g y) (n + 1) xs)) here ∙ none-both f g (n + 1) xs later

-- the item that passes the one test decides
decided : (f g : Leaf → Bool) (n : ℕ) (xs : List Leaf) (k i : ℕ) (leaf : Leaf) → PassesOnce f xs → position_from f n xs ≡ Some i → i ≡ n + k →
    slice_get xs k ≡ Some leaf → position_from (λ x. f x && g x) n xs ≡ cond (g leaf) (Some i) None
decided f g n [] k i leaf once h at is = cc
decided f g n (x ∷ xs) zero i leaf once h at is =
    let same : x ≡ leaf = cc in
    elim (cases_Bool (f x)) [
      | inl e ↦
          let here : Some n ≡ Some i = sym (ap (λ b. cond b (Some n) (position_from f (n + 1) xs)) e) ∙ h in
          ap (λ b. cond (b && g x) (Some n) (position_from (λ y. f y && g y) (n + 1) xs)) e
          ∙ ap (cond (g x) (Some n)) (none-both f g (n + 1) xs (once.0 e))
          ∙ ap₂ (λ (o : Option ℕ) (l : Leaf). cond (g l) o None) here same
      | inr e ↦
          let later = position_from-within f (n + 1) xs i (sym (ap (λ b. cond b (Some n) (position_from f (n + 1) xs)) e) ∙ h) in
          absurd (omega (arith, later.0, at))
    ]
decided f g n (x ∷ xs) (suc k) i leaf once h at is =
    elim (cases_Bool (f x)) [
      | inl e ↦
          let here : Some n ≡ Some i = sym (ap (λ b. cond b (Some n) (position_from f (n + 1) xs)) e) ∙ h in
          let same : n ≡ i = cc in absurd (omega (arith, same, at))
      | inr e ↦
          let later : position_from f (n + 1) xs ≡ Some i = sym (ap (λ b. cond b (Some n) (position_from f (n + 1) xs)) e) ∙ h in
          ap (λ b. cond (b && g x) (Some n) (position_from (λ y. f y && g y) (n + 1) xs)) e
          ∙ decided f g (n + 1) xs k i leaf once.1 later (omega (arith, at)) is
    ]

pub position-decided : (f g : Leaf → Bool) (xs : List Leaf) (i : ℕ) (leaf : Leaf) → PassesOnce f xs → position f xs ≡ Some i → slice_get xs i ≡ Some leaf →
    position (λ x. f x && g x) xs ≡ cond (g leaf) (Some i) None
position-decided f g xs i leaf once h is =
    position_from-zero (λ x. f x && g x) xs ∙ decided f g 0 xs i i leaf once (sym (position_from-zero f xs) ∙ h) (omega arith) is

pub position-none : (f g : Leaf → Bool) (xs : List Leaf) → position f xs ≡ None → position (λ x. f x && g x) xs ≡ None
position-none f g xs h =
    position_from-zero (λ x. f x && g x) xs ∙ none-both f g 0 xs (sym (position-any f xs) ∙ ap is_some h)

-- ---- an item more

-- the place of an item that is new
pub position-new : {A : Type 0} (f : A → Bool) (xs : List A) (y : A) → (f y ≡ true → list_any f xs ≡ false) →
    position f (xs ++ y ∷ []) ≡ cond (f y) (Some (length xs)) (position f xs)
position-new f xs y new =
    position-push f xs y
    ∙ elim (cases_Bool (f y)) [
      | inl e ↦
          ap (λ o. option_or o (cond (f y) (Some (length xs)) None)) (not_some (position f xs) (position-any f xs ∙ new e))
          ∙ ap (λ b. cond b (Some (length xs)) None) e ∙ sym (ap (λ b. cond b (Some (length xs)) (position f xs)) e)
      | inr e ↦
          ap (λ b. option_or (position f xs) (cond b (Some (length xs)) None)) e ∙ option_or-none (position f xs)
          ∙ sym (ap (λ b. cond b (Some (length xs)) (position f xs)) e)
    ]

any-push : {A : Type 0} (f : A → Bool) (xs : List A) (y : A) → list_any f xs ≡ false → f y ≡ false → list_any f (xs ++ y ∷ []) ≡ false
any-push f [] y none not_y = ap (λ b. b || false) not_y
any-push f (x ∷ xs) y none not_y =
    elim (cases_Bool (f x)) [
      | inl e ↦ cc (ap (λ b. b || list_any f xs) e)
      | inr e ↦ ap (λ b. b || list_any f (xs ++ y ∷ [])) e ∙ any-push f xs y (sym (ap (λ b. b || list_any f xs) e) ∙ none) not_y
    ]

pub once-push : (f : Leaf → Bool) (xs : List Leaf) (y : Leaf) → PassesOnce f xs → (f y ≡ true → list_any f xs ≡ false) → PassesOnce f (xs ++ y ∷ [])
once-push f [] y once new = (λ h. refl, tt)
once-push f (x ∷ xs) y once new = (
  λ h. any-push f xs y (once.0 h) (false_from_ne_true (f y) (λ e. cc (new e, ap (λ b. b || list_any f xs) h))),
  once-push f xs y once.1 (λ h. elim (cases_Bool (f x)) [
    | inl e ↦ once.0 e
    | inr e ↦ sym (ap (λ b. b || list_any f xs) e) ∙ new h
  ]),
)

-- the place of the one item that passes the first test, where it passes both
pub position-called : (f g : Leaf → Bool) (xs : List Leaf) (i : ℕ) (leaf : Leaf) (b : Bool) → PassesOnce f xs → Some i ≡ position f xs → i < length xs →
    leaf ≡ get_or xs i leaf → g leaf ≡ b → position (λ x. f x && g x) xs ≡ cond b (Some i) None
position-called f g xs i leaf b once found within is test =
    position-decided f g xs i leaf once (sym found) (slice_get_read xs (length xs) i leaf refl within is) ∙ ap (λ t. cond t (Some i) None) test
