-- The printed component type of an array reads back.
use Rattle.std.proofs.Common.{◌≡◌, refl, sym, ap, subst, ◌∙◌, codes, ℕ, ◌-◌, ◌<◌, true, not, List, [], ◌∷◌, ◌++◌, length, take, None, Some, Ok, Err, length-append, arith}
use Rattle.std.proofs.lemmas.Bool.{and_parts, and_from, or_from}
use Rattle.std.specs.List.{list_all}
use Rattle.std.specs.Option.{option_map_or}
use Rattle.mh_values.specs.declared.class.Class.{Class}
use Rattle.mh_values.specs.declared.class.ClassId.{ClassId}
use Rattle.mh_values.specs.declared.descriptor.DescriptorError.TheVariants as descriptor
use Rattle.mh_values.specs.declared.types.Comp.{Comp}
use Rattle.mh_values.specs.declared.types.Comp.TheVariants as comp
use Rattle.mh_values.specs.declared.types.Ty.TheVariants as ty
use Rattle.mh_values.specs.Array.{item_type}
use Rattle.mh_values.specs.Classes.{AreClasses, name_of}
use Rattle.mh_values.specs.Descriptor.{found_then, class_meant, type_meant, unless_bad, type_desc}
use Rattle.mh_values.specs.Grammar.{type_fault}
use Rattle.mh_values.proofs.NamedType as named
use Rattle.mh_values.proofs.PrimitiveLaws.{letter-apart}
use Rattle.mh_values.proofs.ReadBack.{letter-desc}
use Rattle.mh_values.proofs.TypeSpelling.{is_name, is_name_byte}
use Rattle.mh_texts.specs.Literal.{component_of}
use Rattle.mh_texts.specs.Printed.{name_text, printed_component}
use Rattle.mh_texts.specs.Writable.{is_unescaped, IsPlainClass, IsWritableComponent}
use Rattle.mh_base.proofs.Cuts.{Lacks, Lacks-append, front_of}
use Rattle.mh_texts.proofs.NameTrip.{plain_byte, plain_lacks, class_text_is}

plain_is_name_byte : (name : List ℕ) → list_all is_unescaped name ≡ true → list_all is_name_byte name ≡ true
plain_is_name_byte [] plain = refl
plain_is_name_byte (b ∷ bs) plain =
    let parts = and_parts (is_unescaped b) (list_all is_unescaped bs) plain in
    let byte = plain_byte b parts.0 in
    and_from _ _ (and_from _ _ (ap not byte.no_end) (ap not (or_from _ _ byte.no_dot byte.no_bracket))) (plain_is_name_byte bs parts.1)

plain_is_name : (name : List ℕ) → 0 < length name → list_all is_unescaped name ≡ true → is_name name ≡ true
plain_is_name [] some plain = absurd (omega (arith, some))
plain_is_name (b ∷ bs) some plain = plain_is_name_byte (b ∷ bs) plain

named_type : (classes : List Class) (c : ClassId) → AreClasses classes → IsPlainClass classes c → type_desc classes (76 ∷ (name_of classes c ++ 59 ∷ [])) ≡ Ok
    (ty.Class c)
named_type classes c sound is =
    let name : List ℕ = name_of classes c in
    let good : type_fault (76 ∷ (name ++ 59 ∷ [])) ≡ None = named.named_type name (plain_is_name name is.named is.plain) in
    let long : length (name ++ 59 ∷ []) - 1 ≡ length name = omega (arith, length-append name (59 ∷ [])) in
    let inner : take (length (name ++ 59 ∷ []) - 1) (name ++ 59 ∷ []) ≡ name = ap (λ n. take n (name ++ 59 ∷ [])) long ∙ front_of name (59 ∷ []) in
    ap (λ o. unless_bad o (type_meant classes 0 (76 ∷ (name ++ 59 ∷ [])))) good
    ∙ ap (λ n. found_then (class_meant classes 1 n) (λ d. Ok (item_type d))) inner
    ∙ ap (λ o. found_then (option_map_or (λ d. Ok (comp.Class d)) o (Err (descriptor.NoClass 1 (length name)))) (λ d. Ok (item_type d)))
    (sound.ordered.distinct c is.listed)

pub component_trip : (classes : List Class) (c : Comp) → AreClasses classes → IsWritableComponent classes c →
    component_of (type_desc classes (printed_component classes c)) ≡ Some c
component_trip classes (comp.Prim p) sound is = ap component_of (letter-desc classes p)
component_trip classes (comp.Class c) sound is =
    ap (λ name. component_of (type_desc classes (76 ∷ (name ++ 59 ∷ [])))) (class_text_is classes c is) ∙ ap component_of (named_type classes c sound is)

pub no_bracket : (classes : List Class) (c : Comp) → IsWritableComponent classes c → Lacks 91 (printed_component classes c)
no_bracket classes (comp.Prim p) is = (letter-apart p 91 refl, tt)
no_bracket classes (comp.Class c) is =
    (refl, Lacks-append 91 (name_text classes c) (codes ";") (subst (Lacks 91) (sym (class_text_is classes c is)) (plain_lacks _ is.plain).brackets) (refl, tt))
