-- A class put at the end of a list of classes: superclasses and names.
use Rattle.std.proofs.Common.{◌≡◌, refl, sym, ap, subst, ◌∙◌, suc, ℕ, ◌+◌, ◌<◌, ◌⊎◌, inl, inr, true, false, if◌then◌else◌, List, [], ◌∷◌, ◌++◌, length, Option, None, Some, slice_get, arith, length-append}
use Rattle.std.proofs.lemmas.Slice.Eq.{bytes_eq-Decides}
use Rattle.std.specs.Option.{option_map_or, option_or}
use Rattle.std.specs.Str.{bytes_eq}
use Rattle.mh_base.proofs.Slices.{slice_get-front, slice_get-end, slice_get-push, option_or-none}
use Rattle.mh_values.specs.declared.class.Class.{Class}
use Rattle.mh_values.specs.declared.class.ClassId.{ClassId}
use Rattle.mh_values.specs.Class.{class_at, superclass_of}
use Rattle.mh_values.specs.ClassNumbers.{IsWithin}
use Rattle.mh_values.specs.Classes.{name_of, named_from, class_named, IsAscending, IsDistinct}

-- ---- superclasses

found_in : (o : Option Class) (b : ClassId) → option_map_or (λ class. class.superclass) o None ≡ Some b → (z : Class) × (o ≡ Some z) × (z.superclass ≡ Some b)
found_in None b h = cc
found_in (Some z) b h = (z, refl, h)

superclass_of-some : (classes : List Class) (a b : ClassId) → superclass_of classes a ≡ Some b → (z : Class) × (slice_get classes a.0 ≡ Some z)
    × (z.superclass ≡ Some b)
superclass_of-some classes a b h = found_in (slice_get classes a.0) b h

pub ascending-add : (xs : List Class) (y : Class) → IsAscending xs → IsWithin (length xs) y.superclass → IsAscending (xs ++ y ∷ [])
ascending-add xs y old within a b h =
    let f = superclass_of-some (xs ++ y ∷ []) a b h in
    elim (slice_get-push xs y a.0 f.0 f.1) [
      | inl w ↦ old a b (ap (λ o. option_map_or (λ class. class.superclass) o None) w ∙ f.2)
      | inr w ↦ subst (λ n. b.0 < n) (sym w.0) (within b (ap (λ (z : Class). z.superclass) w.1 ∙ f.2))
    ]

-- ---- names

named_from-add : (n : ℕ) (xs : List Class) (y : Class) (name : List ℕ) → named_from n (xs ++ y ∷ []) name ≡ option_or (named_from n xs name)
    (if bytes_eq y.name name then Some (class_at (n + length xs)) else None)
named_from-add n [] y name = ap (λ k. if bytes_eq y.name name then Some (class_at k) else None) (omega arith)
named_from-add n (x ∷ xs) y name =
    let later : named_from (n + 1) (xs ++ y ∷ []) name ≡ option_or (named_from (n + 1) xs name)
    (if bytes_eq y.name name then Some (class_at (n + suc (length xs))) else None) =
    named_from-add (n + 1) xs y name ∙ ap (λ k. option_or (named_from (n + 1) xs name) (if bytes_eq y.name name then Some (class_at k) else None)) (omega arith)
    in
    elim (bytes_eq x.name name) as (λ b. (if b then Some (class_at n) else named_from (n + 1) (xs ++ y ∷ []) name) ≡ option_or
    (if b then Some (class_at n) else named_from (n + 1) xs name) (if bytes_eq y.name name then Some (class_at (n + suc (length xs))) else None)) [
      | true ↦ refl
      | false ↦ later
    ]

pub class_named-add : (xs : List Class) (y : Class) (name : List ℕ) → class_named (xs ++ y ∷ []) name ≡ option_or (class_named xs name)
    (if bytes_eq y.name name then Some (class_at (length xs)) else None)
class_named-add xs y name = named_from-add 0 xs y name ∙ ap (λ k. option_or (class_named xs name) (if bytes_eq y.name name then Some (class_at k) else None))
    (omega arith)

class_named-kept : (xs : List Class) (y : Class) (name : List ℕ) (c : ClassId) → class_named xs name ≡ Some c → class_named (xs ++ y ∷ []) name ≡ Some c
class_named-kept xs y name c h = class_named-add xs y name ∙ ap (λ o. option_or o (if bytes_eq y.name name then Some (class_at (length xs)) else None)) h

pub class_named-new : (xs : List Class) (y : Class) (name : List ℕ) → class_named xs name ≡ None → y.name ≡ name →
    class_named (xs ++ y ∷ []) name ≡ Some (class_at (length xs))
class_named-new xs y name h same =
    class_named-add xs y name
    ∙ ap (λ o. option_or o (if bytes_eq y.name name then Some (class_at (length xs)) else None)) h
    ∙ ap (λ b. if b then Some (class_at (length xs)) else None) ((bytes_eq-Decides y.name name).1 same)

pub class_named-other : (xs : List Class) (y : Class) (name : List ℕ) → bytes_eq y.name name ≡ false → class_named (xs ++ y ∷ []) name ≡ class_named xs name
class_named-other xs y name other =
    class_named-add xs y name
    ∙ ap (λ b. option_or (class_named xs name) (if b then Some (class_at (length xs)) else None)) other
    ∙ option_or-none (class_named xs name)

name_of-old : (xs : List Class) (y : Class) (c : ClassId) → c.0 < length xs → name_of (xs ++ y ∷ []) c ≡ name_of xs c
name_of-old xs y c within = ap (λ o. option_map_or (λ class. class.name) o []) (slice_get-front xs (y ∷ []) c.0 within)

name_of-seam : (xs : List Class) (y : Class) (c : ClassId) → c.0 ≡ length xs → name_of (xs ++ y ∷ []) c ≡ y.name
name_of-seam xs y c here = ap (λ n. option_map_or (λ class. class.name) (slice_get (xs ++ y ∷ []) n) []) here ∙
    ap (λ o. option_map_or (λ class. class.name) o []) (slice_get-end xs y)

last_or_before : (c n : ℕ) → c < n + 1 → (c < n) ⊎ (c ≡ n)
last_or_before c n h = grind arith

pub distinct-add : (xs : List Class) (y : Class) → IsDistinct xs → class_named xs y.name ≡ None → IsDistinct (xs ++ y ∷ [])
distinct-add xs y old new c within =
    let fits : c.0 < length xs + 1 = omega (arith, length-append xs (y ∷ [])) in
    elim (last_or_before c.0 (length xs) fits) [
      | inl w ↦ ap (class_named (xs ++ y ∷ [])) (name_of-old xs y c w) ∙ class_named-kept xs y (name_of xs c) c (old c w)
      | inr w ↦ ap (class_named (xs ++ y ∷ [])) (name_of-seam xs y c w) ∙ class_named-new xs y y.name new refl ∙ ap (λ n. Some (class_at n)) (sym w)
    ]
