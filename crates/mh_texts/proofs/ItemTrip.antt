-- The printed literal of an item reads back, and has no comma.
use Rattle.std.proofs.Common.{◌≡◌, refl, sym, ap, subst, ◌∙◌, suc, codes, ℕ, ◌-◌, ◌^◌, ◌<◌, ◌==◌, ℤ, pos, negsuc, Bool, true, false, if◌then◌else◌, List, [], ◌∷◌, ◌++◌, None, Some, option_map, option_and_then, append_assoc, arith}
use Rattle.std.proofs.lemmas.Bool.{ne_eqb, ltb-true}
use Rattle.std.proofs.lemmas.Fmt.{decimal_is_IsNumeral}
use Rattle.std.proofs.lemmas.List.Concat.{flat_map-cons}
use Rattle.std.proofs.lemmas.Str.Parse.{digit_from_value}
use Rattle.std.specs.Fmt.{decimal, digits, signed_decimal}
use Rattle.std.specs.Str.Parse.{AllDigits}
use Rattle.mh_values.specs.declared.class.Class.{Class}
use Rattle.mh_values.specs.declared.value.Num.{Num}
use Rattle.mh_values.specs.declared.value.Num.TheVariants as num
use Rattle.mh_values.specs.declared.value.Cell.{Cell}
use Rattle.mh_values.specs.declared.value.Cell.TheVariants as cell
use Rattle.mh_values.specs.Classes.{AreClasses, class_named}
use Rattle.mh_values.specs.Exception.{bare}
use Rattle.mh_values.specs.Primitives.{primitive_of, is_within}
use Rattle.mh_texts.specs.Literal.{has_own_literal, if_object, object_of, if_exception, item_of}
use Rattle.mh_texts.specs.Number.{is_long, unsigned_of}
use Rattle.mh_texts.specs.LiteralText.{bool_text, mark_of, number_text}
use Rattle.mh_texts.specs.Printed.{name_text, item_text}
use Rattle.mh_texts.specs.Characters.{is_graphic}
use Rattle.mh_texts.specs.Escapes.{hex_value}
use Rattle.mh_texts.specs.Text.{escaped_char, escaped}
use Rattle.mh_texts.specs.Writable.{IsPlainClass, IsWritableItem, bare_item}
use Rattle.mh_base.proofs.Cuts.{Lacks, Lacks-append, cut_found}
use Rattle.mh_texts.proofs.Marks.{mark-low, mark-tagged, boxed-tagged}
use Rattle.mh_texts.proofs.NameTrip.{plain_lacks, class_text_is, class_found}
use Rattle.mh_texts.proofs.NumberTrip.{unsigned_trip, within_long, number_trip}
use Rattle.mh_texts.proofs.HexTrip.{AreHexDigits, digits-hex}
use Rattle.mh_texts.proofs.TextTrip.{text_trip, printed_by}

-- ---- reading back

number_parts : (classes : List Class) (name : List ℕ) (k : ℕ) → (name ++ codes "#") ++ decimal k ≡ name ++ 35 ∷ decimal k
number_parts classes name k = append_assoc name (35 ∷ []) (decimal k)

lacks_number : (classes : List Class) (c : _) → IsPlainClass classes c → Lacks 35 (name_text classes c)
lacks_number classes c is = subst (Lacks 35) (sym (class_text_is classes c is)) (plain_lacks _ is.plain).numbers

object_trip : (classes : List Class) (c : _) (k : ℕ) → AreClasses classes → IsPlainClass classes c → has_own_literal classes c ≡ false → k < 2 ^ 32 →
    object_of classes ((name_text classes c ++ codes "#") ++ decimal k) ≡ Some (cell.Object c k)
object_trip classes c k sound is own small =
    let found = class_found classes c sound is in
    ap (object_of classes) (number_parts classes (name_text classes c) k)
    ∙ ap (option_and_then (λ parts. option_and_then (λ d. option_and_then (λ n. if_object classes n d) (unsigned_of parts.1)) (class_named classes parts.0)))
    (cut_found 35 (name_text classes c) (decimal k) (lacks_number classes c is))
    ∙ ap (option_and_then (λ d. option_and_then (λ n. if_object classes n d) (unsigned_of (decimal k)))) found
    ∙ ap (option_and_then (λ n. if_object classes n c)) (unsigned_trip k small)
    ∙ ap (λ t. if t then None else Some (cell.Object c k)) own

-- what is printed of an item is read as the item, an exception as its class alone
pub item_trip : (classes : List Class) → AreClasses classes → (item : Cell) → IsWritableItem classes item →
    item_of classes (item_text classes item) ≡ Some (bare_item item)
item_trip classes sound (cell.Prim n) is = mark-tagged classes (primitive_of n) (number_text n) ∙ ap (option_map cell.Prim) (number_trip n is)
item_trip classes sound (cell.Boxed n) is = boxed-tagged classes (primitive_of n) (number_text n) ∙ ap (option_map cell.Boxed) (number_trip n is)
item_trip classes sound (cell.Text s) is = ap (option_map cell.Text) (text_trip s is.0 is.1)
item_trip classes sound (cell.Object c k) is = object_trip classes c k sound is.0 is.1 is.2
item_trip classes sound (cell.Thrown e) is =
    ap (option_and_then (if_exception classes)) (class_found classes e.class sound is.0)
    ∙ ap (λ t. if t then Some (cell.Thrown (bare e.class)) else None) is.1
item_trip classes sound cell.Null is = refl

-- ---- no commas

no_comma_in_digits : (ds : List ℕ) → AllDigits 10 ds → Lacks 44 ds
no_comma_in_digits [] digits = tt
no_comma_in_digits (d ∷ ds) digits = let range = digit_from_value d digits.0 in (ne_eqb d 44 (λ e. omega (arith, range.0, e)), no_comma_in_digits ds digits.1)

no_comma_in_decimal : (n : ℕ) → n < 2 ^ 64 → Lacks 44 (decimal n)
no_comma_in_decimal n small = no_comma_in_digits (decimal n) (decimal_is_IsNumeral n small).0.1

no_comma_in_signed : (z : ℤ) → is_long z ≡ true → Lacks 44 (signed_decimal z)
no_comma_in_signed (pos n) long = let small : n < 2 ^ 63 = ltb-true n (2 ^ 63) long in no_comma_in_decimal n (omega arith)
no_comma_in_signed (negsuc n) long = let small : n < 2 ^ 63 = ltb-true n (2 ^ 63) long in (refl, no_comma_in_decimal (suc n) (omega arith))

no_comma_in_bool : (b : Bool) → Lacks 44 (bool_text b)
no_comma_in_bool true = (refl, (refl, (refl, (refl, tt))))
no_comma_in_bool false = (refl, (refl, (refl, (refl, (refl, tt)))))

no_comma_in_number : (n : Num) → is_within n ≡ true → Lacks 44 (number_text n)
no_comma_in_number (num.Z b) is = no_comma_in_bool b
no_comma_in_number (num.B n) is = no_comma_in_signed n (within_long (num.B n) is)
no_comma_in_number (num.C n) is = no_comma_in_signed (pos n) (within_long (num.C n) is)
no_comma_in_number (num.S n) is = no_comma_in_signed n (within_long (num.S n) is)
no_comma_in_number (num.I n) is = no_comma_in_signed n (within_long (num.I n) is)
no_comma_in_number (num.J n) is = no_comma_in_signed n is

no_comma_in_hex : (ds : List ℕ) → AreHexDigits ds → Lacks 44 ds
no_comma_in_hex [] hex = tt
no_comma_in_hex (d ∷ ds) hex = (ne_eqb d 44 (λ e. let none : hex_value d ≡ None = ap hex_value e in cc (none, hex.0.0)), no_comma_in_hex ds hex.1)

no_comma_by : (c : ℕ) (space comma line backslash graphic : Bool) → (comma ≡ false → (c == 44) ≡ false) →
    Lacks 44 (printed_by c space comma line backslash graphic)
no_comma_by c true comma line backslash graphic other = (refl, (refl, tt))
no_comma_by c false true line backslash graphic other = (refl, (refl, tt))
no_comma_by c false false true backslash graphic other = (refl, (refl, tt))
no_comma_by c false false false true graphic other = (refl, (refl, tt))
no_comma_by c false false false false true other = (other refl, tt)
no_comma_by c false false false false false other =
    (refl, (refl, (refl, Lacks-append 44 (digits 16 false c) (codes "}") (no_comma_in_hex (digits 16 false c) (digits-hex c)) (refl, tt))))

no_comma_in_char : (c : ℕ) → Lacks 44 (escaped_char c)
no_comma_in_char c = no_comma_by c (c == 32) (c == 44) (c == 10) (c == 92) (is_graphic c) (λ h. h)

no_comma_in_text : (cs : List ℕ) → Lacks 44 (escaped cs)
no_comma_in_text [] = tt
no_comma_in_text (c ∷ cs) = subst (Lacks 44) (sym (flat_map-cons escaped_char c cs)) (Lacks-append 44 (escaped_char c) (escaped cs) (no_comma_in_char c)
    (no_comma_in_text cs))

no_comma_in_name : (classes : List Class) (c : _) → IsPlainClass classes c → Lacks 44 (name_text classes c)
no_comma_in_name classes c is = subst (Lacks 44) (sym (class_text_is classes c is)) (plain_lacks _ is.plain).commas

pub no_comma_in_item : (classes : List Class) (item : Cell) → IsWritableItem classes item → Lacks 44 (item_text classes item)
no_comma_in_item classes (cell.Prim n) is =
    (ne_eqb (mark_of (primitive_of n)) 44 (λ e. omega (arith, mark-low (primitive_of n), e)), (refl, no_comma_in_number n is))
no_comma_in_item classes (cell.Boxed n) is =
    (ne_eqb (mark_of (primitive_of n) - 32) 44 (λ e. omega (arith, mark-low (primitive_of n), e)), (refl, no_comma_in_number n is))
no_comma_in_item classes (cell.Text s) is = (refl, (refl, no_comma_in_text s))
no_comma_in_item classes (cell.Object c k) is = (
  refl,
  (
    refl,
    Lacks-append 44 (name_text classes c ++ codes "#") (decimal k) (Lacks-append 44 (name_text classes c) (codes "#")
        (no_comma_in_name classes c is.0) (refl, tt)) (no_comma_in_decimal k (omega (arith, is.2))),
  ),
)
no_comma_in_item classes (cell.Thrown e) is = (refl, (refl, no_comma_in_name classes e.class is.0))
no_comma_in_item classes cell.Null is = (refl, (refl, (refl, (refl, tt))))
