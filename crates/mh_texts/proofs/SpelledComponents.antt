-- Component types: what is read is what the descriptor spells.
use Rattle.std.proofs.Common.{◌≡◌, refl, sym, ap, subst, ◌∙◌, zero, suc, ℕ, ◌-◌, ◌==◌, Bool, true, false, not, ◌&&◌, ◌||◌, List, [], ◌∷◌, ◌++◌, length, take, replicate, Option, None, Some, Result, Ok, Err, length-append, arith}
use Rattle.std.proofs.lemmas.Bool.{and_parts, and_from, or_parts, not-true, not_from_false}
use Rattle.std.specs.List.{list_all}
use Rattle.std.specs.Option.{option_map_or}
use Rattle.mh_values.specs.declared.class.Class.{Class}
use Rattle.mh_values.specs.declared.class.ClassId.{ClassId}
use Rattle.mh_values.specs.declared.descriptor.DescriptorError.{DescriptorError}
use Rattle.mh_values.specs.declared.descriptor.DescriptorError.TheVariants as descriptor
use Rattle.mh_values.specs.declared.types.Comp.{Comp}
use Rattle.mh_values.specs.declared.types.Comp.TheVariants as comp
use Rattle.mh_values.specs.declared.types.Ty.{Ty}
use Rattle.mh_values.specs.declared.types.Ty.TheVariants as ty
use Rattle.mh_values.specs.Array.{item_type}
use Rattle.mh_values.specs.Classes.{class_named, name_of}
use Rattle.mh_values.specs.Descriptor.{found_then, class_meant, type_meant, unless_bad, type_desc}
use Rattle.mh_values.specs.ReadAs.{IsTypeRead}
use Rattle.mh_values.specs.Spelling.{Element, letter, named, element_text, is_name_byte, IsElement, IsTypeText}
use Rattle.mh_values.proofs.Complete.{type_complete}
use Rattle.mh_values.proofs.PrimitiveLaws.{letter-apart}
use Rattle.mh_values.proofs.ReadBack.{letter-desc}
use Rattle.mh_values.proofs.ReadBy.{type_read}
use Rattle.mh_texts.specs.Literal.{component_of}
use Rattle.mh_texts.specs.Spells.{LacksByte, SpellsClass, SpellsComponent}
use Rattle.mh_base.proofs.Inversion.{some_is, none_is_not}
use Rattle.mh_base.proofs.Cuts.{front_of}

-- the meaning of a class's descriptor
class_descriptor : (classes : List Class) (name : List ℕ) → IsTypeText (76 ∷ (name ++ 59 ∷ [])) →
    type_desc classes (76 ∷ (name ++ 59 ∷ [])) ≡ option_map_or (λ c. Ok (ty.Class c)) (class_named classes name) (Err (descriptor.NoClass 1 (length name)))
class_descriptor classes name is =
    let long : length (name ++ 59 ∷ []) - 1 ≡ length name = omega (arith, length-append name (59 ∷ [])) in
    let inner : take (length (name ++ 59 ∷ []) - 1) (name ++ 59 ∷ []) ≡ name = ap (λ n. take n (name ++ 59 ∷ [])) long ∙ front_of name (59 ∷ []) in
    ap (λ o. unless_bad o (type_meant classes 0 (76 ∷ (name ++ 59 ∷ [])))) (type_complete (76 ∷ (name ++ 59 ∷ [])) is)
    ∙ ap (λ n. found_then (class_meant classes 1 n) (λ d. Ok (item_type d))) inner
    ∙ by_class (class_named classes name)
  where
    by_class : (o : Option ClassId) → found_then (option_map_or (λ d. Ok (comp.Class d)) o (Err (descriptor.NoClass 1 (length name)))) (λ d. Ok (item_type d)) ≡
        option_map_or (λ c. Ok (ty.Class c)) o (Err (descriptor.NoClass 1 (length name)))
    by_class None = refl
    by_class (Some c) = refl

found_class : (classes : List Class) (name : List ℕ) (o : Option ClassId) (c : ClassId) (at len : ℕ) → class_named classes name ≡ o →
    option_map_or (λ d. Ok (ty.Class d)) o (Err (descriptor.NoClass at len)) ≡ Ok (ty.Class c) → class_named classes name ≡ Some c
found_class classes name None c at len is told = absurd cc
found_class classes name (Some d) c at len is told = let same : d ≡ c = cc in is ∙ ap Some same

abbrev begins_class : List ℕ → Bool
begins_class [] = false
begins_class (b ∷ bs) = b == 76

-- a descriptor that begins as a class's does is one
class_by : (classes : List Class) (text name : List ℕ) (c : ClassId) (n : ℕ) (e : Element) → text ≡ 76 ∷ (name ++ 59 ∷ []) → IsTypeText text →
    text ≡ replicate n 91 ++ element_text e → IsElement e → type_desc classes text ≡ Ok (ty.Class c) → SpellsClass classes text c
class_by classes text name c zero (letter b) shape type is good told = absurd (omega (arith, ap length shape, ap length is, length-append name (59 ∷ [])))
class_by classes text name c zero (named found) shape type is good told =
    let meant : option_map_or (λ d. Ok (ty.Class d)) (class_named classes found) (Err (descriptor.NoClass 1 (length found))) ≡ Ok (ty.Class c) =
    sym (class_descriptor classes found (subst IsTypeText is type)) ∙ sym (ap (type_desc classes) is) ∙ told in
    record {
      name = found;
      is = is;
      some = good.0;
      good = good.1;
      named = found_class classes found (class_named classes found) c 1 (length found) refl meant;
    }
class_by classes text name c (suc n) e shape type is good told = let no : false ≡ true = ap begins_class (sym is ∙ shape) in absurd cc

component_by : (classes : List Class) (text : List ℕ) (c : Comp) (r : Result Ty DescriptorError) → type_desc classes text ≡ r → IsTypeRead classes text r →
    component_of r ≡ Some c → SpellsComponent classes text c
component_by classes text c (Ok (ty.Prim p)) meant read told = subst (SpellsComponent classes text) (some_is (comp.Prim p) c told) read.1
component_by classes text c (Ok (ty.Class d)) meant read told =
    let type = read.0.type in
    subst (SpellsComponent classes text) (some_is (comp.Class d) c told)
    (class_by classes text (name_of classes d) d type.dimensions type.element read.1 read.0 read.0.is read.0.spelled.1 meant)
component_by classes text c (Ok (ty.Array d)) meant read told = none_is_not c told
component_by classes text c (Err error) meant read told = none_is_not c told

pub component_spelled : (classes : List Class) (text : List ℕ) (c : Comp) → component_of (type_desc classes text) ≡ Some c → SpellsComponent classes text c
component_spelled classes text c told = component_by classes text c (type_desc classes text) refl (type_read classes text) told

pub component_read : (classes : List Class) (text : List ℕ) (c : Comp) → SpellsComponent classes text c → component_of (type_desc classes text) ≡ Some c
component_read classes text (comp.Prim p) is = ap (λ t. component_of (type_desc classes t)) is ∙ ap component_of (letter-desc classes p)
component_read classes text (comp.Class c) is =
    let type : IsTypeText (76 ∷ (is.name ++ 59 ∷ [])) =
    record { type = record { dimensions = 0; element = named is.name }; spelled = (omega arith, (is.some, is.good)); is = refl } in
    ap (λ t. component_of (type_desc classes t)) is.is
    ∙ ap component_of (class_descriptor classes is.name type)
    ∙ ap (λ o. component_of (option_map_or (λ d. Ok (ty.Class d)) o (Err (descriptor.NoClass 1 (length is.name))))) is.named

-- ---- no bracket stands in a component type

no_bracket_in_name : (name : List ℕ) → list_all is_name_byte name ≡ true → list_all (λ b. not (b == 91)) (name ++ 59 ∷ []) ≡ true
no_bracket_in_name [] good = refl
no_bracket_in_name (b ∷ bs) good =
    let parts = and_parts (is_name_byte b) (list_all is_name_byte bs) good in
    let others = or_parts (b == 59) (b == 46 || b == 91) (not-true _ parts.0) in
    and_from (not (b == 91)) (list_all (λ c. not (c == 91)) (bs ++ 59 ∷ [])) (not_from_false (b == 91) (or_parts (b == 46) (b == 91) others.1).1)
    (no_bracket_in_name bs parts.1)

pub no_bracket_in : (classes : List Class) (text : List ℕ) (c : Comp) → SpellsComponent classes text c → LacksByte 91 text
no_bracket_in classes text (comp.Prim p) is = ap (list_all (λ b. not (b == 91))) is ∙ ap (λ t. not t && true) (letter-apart p 91 refl)
no_bracket_in classes text (comp.Class c) is = ap (list_all (λ b. not (b == 91))) is.is ∙ no_bracket_in_name is.name is.good
