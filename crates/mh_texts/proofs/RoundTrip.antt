-- The printed literal of a value reads back, where it was not cut.
use Rattle.std.proofs.Common.{◌≡◌, refl, sym, ap, subst, ◌∙◌, codes, ℕ, ◌-◌, ◌≤◌, inl, inr, true, if◌then◌else◌, nat_le, List, [], ◌∷◌, ◌++◌, length, take, drop, map, None, Some, option_map, option_and_then, append_assoc, length-append, arith}
use Rattle.std.proofs.lemmas.Bool.{cases_Bool, le-leb}
use Rattle.std.proofs.lemmas.List.{length-map}
use Rattle.std.proofs.lemmas.List.{take-append-drop}
use Rattle.std.proofs.lemmas.Slice.Eq.{bytes_eq-Decides}
use Rattle.std.specs.Str.{bytes_eq}
use Rattle.mh_base.proofs.Inversion.{none_is_not}
use Rattle.mh_values.specs.declared.class.Class.{Class}
use Rattle.mh_values.specs.declared.types.Comp.{Comp}
use Rattle.mh_values.specs.declared.value.Cell.{Cell}
use Rattle.mh_values.specs.declared.value.Cell.TheVariants as cell
use Rattle.mh_values.specs.declared.value.Value.{Value}
use Rattle.mh_values.specs.declared.value.Value.TheVariants as value
use Rattle.mh_values.specs.Array.{value_of_item}
use Rattle.mh_values.specs.Classes.{AreClasses}
use Rattle.mh_values.specs.Descriptor.{type_desc}
use Rattle.mh_texts.specs.Literal.{component_of, item_of, listed, if_few, unclosed, array_of_literal, literal_of}
use Rattle.mh_texts.specs.LiteralText.{prim_text, boxed_text}
use Rattle.mh_texts.specs.Printed.{printed_component, items_text, value_text, shown_value}
use Rattle.mh_texts.specs.Writable.{IsWritableArray, IsWritable, bare_item, bare_value}
use Rattle.mh_texts.proofs.ItemTrip.{item_trip}
use Rattle.mh_base.proofs.Cuts.{cut_found, front_of, drop_front}
use Rattle.mh_texts.proofs.ArrayTrip.{listed_trip}
use Rattle.mh_texts.proofs.ComponentTrip.{component_trip, no_bracket}

-- ---- arrays

pub unclosed_trip : (inside : List ℕ) → unclosed (inside ++ 93 ∷ []) ≡ Some inside
unclosed_trip inside =
    let long : length (inside ++ 93 ∷ []) - 1 ≡ length inside = omega (arith, length-append inside (93 ∷ [])) in
    let last : bytes_eq (drop (length (inside ++ 93 ∷ []) - 1) (inside ++ 93 ∷ [])) (93 ∷ []) ≡ true =
    ap (λ n. bytes_eq (drop n (inside ++ 93 ∷ [])) (93 ∷ [])) long ∙ ap (λ r. bytes_eq r (93 ∷ [])) (drop_front inside (93 ∷ [])) in
    ap (λ t. if t then Some (take (length (inside ++ 93 ∷ []) - 1) (inside ++ 93 ∷ [])) else None) last
    ∙ ap (λ n. Some (take n (inside ++ 93 ∷ []))) long ∙ ap Some (front_of inside (93 ∷ []))

pub array_parts : (front items : List ℕ) → ((front ++ codes "[") ++ items) ++ codes "]" ≡ front ++ 91 ∷ (items ++ 93 ∷ [])
array_parts front items = append_assoc (front ++ codes "[") items (codes "]") ∙ append_assoc front (codes "[") (items ++ codes "]")

array_trip : (classes : List Class) (c : Comp) (items : List Cell) → AreClasses classes → IsWritableArray classes c items →
    array_of_literal classes (((printed_component classes c ++ codes "[") ++ items_text classes items) ++ codes "]") ≡ Some
    (value.Array c (map bare_item items))
array_trip classes c items sound is =
    let few : nat_le (length (map bare_item items)) 254 ≡ true = le-leb _ _ (subst (λ n. n ≤ 254) (sym (length-map items bare_item)) is.few) in
    ap (array_of_literal classes) (array_parts (printed_component classes c) (items_text classes items))
    ∙ ap (option_and_then (λ parts. option_and_then (λ d. option_and_then (λ inside. option_and_then (if_few d) (listed classes d inside)) (unclosed parts.1))
    (component_of (type_desc classes parts.0)))) (cut_found 91 (printed_component classes c) (items_text classes items ++ 93 ∷ [])
    (no_bracket classes c is.component))
    ∙ ap (option_and_then (λ d. option_and_then (λ inside. option_and_then (if_few d) (listed classes d inside))
    (unclosed (items_text classes items ++ 93 ∷ [])))) (component_trip classes c sound is.component)
    ∙ ap (option_and_then (λ inside. option_and_then (if_few c) (listed classes c inside))) (unclosed_trip (items_text classes items))
    ∙ ap (option_and_then (if_few c)) (listed_trip classes c sound items is.each is.typed)
    ∙ ap (λ t. if t then Some (value.Array c (map bare_item items)) else None) few

-- ---- values

-- what begins as an array is no item
no_item : (classes : List Class) (text : List ℕ) → item_of classes (97 ∷ 58 ∷ text) ≡ None
no_item classes text = refl

pub item_literal : (classes : List Class) (token : List ℕ) (item : Cell) → item_of classes token ≡ Some item →
    literal_of classes token ≡ Some (value_of_item item)
item_literal classes token item told =
    elim (cases_Bool (bytes_eq (take 2 token) (codes "a:"))) [
      | inl e ↦
          let array : token ≡ 97 ∷ 58 ∷ drop 2 token = sym (take-append-drop 2 token) ∙ ap (λ t. t ++ drop 2 token) ((bytes_eq-Decides _ _).0 e) in
          none_is_not item (sym (no_item classes (drop 2 token)) ∙ sym (ap (item_of classes) array) ∙ told)
      | inr e ↦ ap (λ t. if t then array_of_literal classes (drop 2 token) else option_map value_of_item (item_of classes token)) e
          ∙ ap (option_map value_of_item) told
    ]

-- the literal of a value is read as the value, with each exception as its class alone
pub value_trip : (classes : List Class) → AreClasses classes → (v : Value) → IsWritable classes v →
    literal_of classes (value_text classes v) ≡ Some (bare_value v)
value_trip classes sound (value.Prim n) is = item_literal classes (prim_text n) (cell.Prim n) (item_trip classes sound (cell.Prim n) is)
value_trip classes sound (value.Boxed n) is = item_literal classes (boxed_text n) (cell.Boxed n) (item_trip classes sound (cell.Boxed n) is)
value_trip classes sound (value.Text s) is = ap (option_map value_of_item) (item_trip classes sound (cell.Text s) is)
value_trip classes sound (value.Object c k) is = ap (option_map value_of_item) (item_trip classes sound (cell.Object c k) is)
value_trip classes sound (value.Thrown e) is = ap (option_map value_of_item) (item_trip classes sound (cell.Thrown e) is)
value_trip classes sound (value.Array c items) is = array_trip classes c items sound is
value_trip classes sound value.Null is = refl

-- what is printed of a value and was not cut is read as the value, with each exception as its class alone
pub round_trip : (classes : List Class) → AreClasses classes → (v : Value) → IsWritable classes v → length (value_text classes v) ≤ 1024 →
    literal_of classes (shown_value classes v) ≡ Some (bare_value v)
round_trip classes sound v is uncut =
    ap (λ t. literal_of classes (if t then value_text classes v else take 1024 (value_text classes v) ++ codes "...")) (le-leb _ _ uncut) ∙
    value_trip classes sound v is
