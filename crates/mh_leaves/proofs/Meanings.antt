-- What descriptors mean stays so when classes are put after the others.
use Rattle.std.proofs.Common.{◌≡◌, refl, ap, ◌∙◌, ℕ, ◌+◌, ◌-◌, ◌==◌, true, false, if◌then◌else◌, List, [], ◌∷◌, ◌++◌, length, take, drop, slice_get, Option, None, Some, Result, Ok, Err}
use Rattle.std.specs.Option.{option_map_or}
use Rattle.std.specs.Str.{bytes_eq}
use Rattle.mh_values.specs.declared.class.Class.{Class}
use Rattle.mh_values.specs.declared.class.ClassId.{ClassId}
use Rattle.mh_values.specs.declared.descriptor.DescriptorError.{DescriptorError}
use Rattle.mh_values.specs.declared.descriptor.DescriptorError.TheVariants as descriptor
use Rattle.mh_values.specs.declared.types.Comp.{Comp}
use Rattle.mh_values.specs.declared.types.Comp.TheVariants as comp
use Rattle.mh_values.specs.declared.types.MethodTy.{MethodTy}
use Rattle.mh_values.specs.declared.types.Ty.{Ty}
use Rattle.mh_values.specs.declared.types.Ty.TheVariants as ty
use Rattle.mh_values.specs.Array.{item_type}
use Rattle.mh_values.specs.Class.{class_at}
use Rattle.mh_values.specs.Classes.{named_from, class_named}
use Rattle.mh_values.specs.Descriptor.{pieces, found_then, primitive_meant, class_meant, element_meant, type_meant, types_meant, return_meant, last_of, method_of, method_meant, unless_bad, desc}
use Rattle.mh_values.specs.Grammar.{descriptor_fault}

-- ---- names

named_from-grown : (n : ℕ) (classes more : List Class) (name : List ℕ) (c : ClassId) → named_from n classes name ≡ Some c →
    named_from n (classes ++ more) name ≡ Some c
named_from-grown n [] more name c h = absurd cc
named_from-grown n (x ∷ xs) more name c h =
    elim (bytes_eq x.name name) as (λ b. (if b then Some (class_at n) else named_from (n + 1) xs name) ≡ Some c →
    (if b then Some (class_at n) else named_from (n + 1) (xs ++ more) name) ≡ Some c)
    [ true ↦ λ k. k | false ↦ λ k. named_from-grown (n + 1) xs more name c k ] h

pub class_named-grown : (classes more : List Class) (name : List ℕ) (c : ClassId) → class_named classes name ≡ Some c →
    class_named (classes ++ more) name ≡ Some c
class_named-grown classes more name c h = named_from-grown 0 classes more name c h

-- ---- one type

-- a meaning of two parts stays so where both do
found_then-grown : {A B : Type 0} (r s : Result A DescriptorError) (f g : A → Result B DescriptorError) (b : B) →
    ((a : A) → r ≡ Ok a → s ≡ Ok a) → ((a : A) → f a ≡ Ok b → g a ≡ Ok b) → found_then r f ≡ Ok b → found_then s g ≡ Ok b
found_then-grown (Ok a) s f g b first more h = ap (λ t. found_then t g) (first a refl) ∙ more a h
found_then-grown (Err e) s f g b first more h = absurd cc

known-grown : (o p : Option ClassId) (error : DescriptorError) (c : Comp) → ((class : ClassId) → o ≡ Some class → p ≡ Some class) →
    option_map_or (λ class. Ok (comp.Class class)) o (Err error) ≡ Ok c → option_map_or (λ class. Ok (comp.Class class)) p (Err error) ≡ Ok c
known-grown None p error c grown h = absurd cc
known-grown (Some class) p error c grown h = ap (λ q. option_map_or (λ d. Ok (comp.Class d)) q (Err error)) (grown class refl) ∙ h

class-grown : (classes more : List Class) (at : ℕ) (name : List ℕ) (c : Comp) → class_meant classes at name ≡ Ok c →
    class_meant (classes ++ more) at name ≡ Ok c
class-grown classes more at name c h =
    known-grown (class_named classes name) (class_named (classes ++ more) name) (descriptor.NoClass at (length name)) c (class_named-grown classes more name) h

element-grown : (classes more : List Class) (whole at : ℕ) (text : List ℕ) (c : Comp) → element_meant classes whole at text ≡ Ok c →
    element_meant (classes ++ more) whole at text ≡ Ok c
element-grown classes more whole at [] c h = h
element-grown classes more whole at (b ∷ bs) c h =
    elim (b == 76) as (λ t. (if t then class_meant classes (at + 1) (take (length bs - 1) bs) else primitive_meant whole b) ≡ Ok c →
    (if t then class_meant (classes ++ more) (at + 1) (take (length bs - 1) bs) else primitive_meant whole b) ≡ Ok c)
    [ true ↦ class-grown classes more (at + 1) (take (length bs - 1) bs) c | false ↦ λ k. k ] h

type-grown : (classes more : List Class) (at : ℕ) (text : List ℕ) (t : Ty) → type_meant classes at text ≡ Ok t → type_meant (classes ++ more) at text ≡ Ok t
type-grown classes more at [] t h = h
type-grown classes more at (b ∷ bs) t h =
    elim (b == 91) as (λ k. (if k then found_then (element_meant classes at (at + 1) bs) (λ c. Ok (ty.Array c))
    else found_then (element_meant classes at at (b ∷ bs)) (λ c. Ok (item_type c))) ≡ Ok t →
    (if k then found_then (element_meant (classes ++ more) at (at + 1) bs) (λ c. Ok (ty.Array c))
    else found_then (element_meant (classes ++ more) at at (b ∷ bs)) (λ c. Ok (item_type c))) ≡ Ok t) [
      | true ↦ found_then-grown _ _ _ _ t (element-grown classes more at (at + 1) bs) (λ c k. k)
      | false ↦ found_then-grown _ _ _ _ t (element-grown classes more at at (b ∷ bs)) (λ c k. k)
    ] h

-- ---- types in order

types-grown : (classes more : List Class) (at : ℕ) (texts : List (List ℕ)) (ts : List Ty) → types_meant classes at texts ≡ Ok ts →
    types_meant (classes ++ more) at texts ≡ Ok ts
types-grown classes more at [] ts h = h
types-grown classes more at (text ∷ texts) ts h =
    found_then-grown _ _ _ _ ts (type-grown classes more at text)
    (λ t. found_then-grown _ _ _ _ ts (types-grown classes more (at + length text) texts) (λ us k. k)) h

return-grown : (classes more : List Class) (at : ℕ) (text : List ℕ) (ret : Option Ty) → return_meant classes at text ≡ Ok ret →
    return_meant (classes ++ more) at text ≡ Ok ret
return-grown classes more at text ret h =
    elim (option_map_or (λ b. b == 86) (slice_get text 0) false) as (λ k. (if k then Ok None else found_then (type_meant classes at text) (λ t. Ok (Some t)))
    ≡ Ok ret → (if k then Ok None else found_then (type_meant (classes ++ more) at text) (λ t. Ok (Some t))) ≡ Ok ret)
    [ true ↦ λ k. k | false ↦ found_then-grown _ _ _ _ ret (type-grown classes more at text) (λ t k. k) ] h

method-grown : (classes more : List Class) (end : ℕ) (parts : List (List ℕ)) (t : MethodTy) → method_of classes end parts ≡ Ok t →
    method_of (classes ++ more) end parts ≡ Ok t
method-grown classes more end parts t h =
    found_then-grown _ _ _ _ t (types-grown classes more 1 (take (length parts - 2) parts))
    (λ params. found_then-grown _ _ _ _ t (return-grown classes more (end - length (last_of parts)) (last_of parts)) (λ ret k. k)) h

unless_bad-grown : {A : Type 0} (fault : Option ℕ) (r s : Result A DescriptorError) (a : A) → (r ≡ Ok a → s ≡ Ok a) → unless_bad fault r ≡ Ok a →
    unless_bad fault s ≡ Ok a
unless_bad-grown None r s a grown h = grown h
unless_bad-grown (Some at) r s a grown h = absurd cc

-- a method descriptor means the same type
pub desc-grown : (classes more : List Class) (text : List ℕ) (t : MethodTy) → desc classes text ≡ Ok t → desc (classes ++ more) text ≡ Ok t
desc-grown classes more text t h =
    unless_bad-grown (descriptor_fault text) (method_meant classes text) (method_meant (classes ++ more) text) t
    (method-grown classes more (length text) (pieces false (drop 1 text)) t) h
