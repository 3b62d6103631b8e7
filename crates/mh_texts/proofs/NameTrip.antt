-- A class name without escapes is printed as it is, and is found where a literal is cut.
use Rattle.std.proofs.Common.{◌≡◌, refl, ap, ◌∙◌, ℕ, ◌≤◌, ◌==◌, true, false, List, [], ◌∷◌, ◌++◌, Some, arith}
use Rattle.std.proofs.lemmas.Bool.{and_parts, or_parts, not-true, ne_eqb, leb-true}
use Rattle.std.proofs.lemmas.List.Concat.{flat_map-cons}
use Rattle.std.specs.List.{list_all}
use Rattle.mh_base.proofs.Cuts.{Lacks}
use Rattle.mh_values.specs.declared.class.Class.{Class}
use Rattle.mh_values.specs.declared.class.ClassId.{ClassId}
use Rattle.mh_values.specs.Classes.{AreClasses, class_named, name_of}
use Rattle.mh_texts.specs.Printed.{name_text}
use Rattle.mh_texts.specs.Characters.{is_graphic}
use Rattle.mh_texts.specs.Text.{escaped_char, escaped}
use Rattle.mh_texts.specs.Writable.{is_unescaped, IsPlainClass}
use Rattle.mh_texts.proofs.TextTrip.{printed_by}

-- ---- plain names

pub record IsPlainByte (b : ℕ) : Type 0 where
  pub as_itself : escaped_char b ≡ b ∷ []
  pub no_comma : (b == 44) ≡ false
  pub no_number : (b == 35) ≡ false
  pub no_bracket : (b == 91) ≡ false
  pub no_end : (b == 59) ≡ false
  pub no_dot : (b == 46) ≡ false

pub plain_byte : (b : ℕ) → is_unescaped b ≡ true → IsPlainByte b
plain_byte b plain =
    let parts = and_parts (is_graphic b) _ plain in
    let low : 33 ≤ b = leb-true 33 b (and_parts _ _ parts.0).0 in
    let others = not-true _ parts.1 in
    let dot = or_parts _ _ others in
    let end = or_parts _ _ dot.0 in
    let bracket = or_parts _ _ end.0 in
    let number = or_parts _ _ bracket.0 in
    let comma = or_parts _ _ number.0 in
    record {
      as_itself =
          ap (λ t. printed_by b t (b == 44) (b == 10) (b == 92) (is_graphic b)) (ne_eqb b 32 (λ e. omega arith))
          ∙ ap (λ t. printed_by b false t (b == 10) (b == 92) (is_graphic b)) comma.1
          ∙ ap (λ t. printed_by b false false t (b == 92) (is_graphic b)) (ne_eqb b 10 (λ e. omega arith))
          ∙ ap (λ t. printed_by b false false false t (is_graphic b)) comma.0
          ∙ ap (λ t. printed_by b false false false false t) parts.0;
      no_comma = comma.1;
      no_number = number.1;
      no_bracket = bracket.1;
      no_end = end.1;
      no_dot = dot.1;
    }

pub plain_name : (name : List ℕ) → list_all is_unescaped name ≡ true → escaped name ≡ name
plain_name [] plain = refl
plain_name (b ∷ bs) plain =
    let parts = and_parts (is_unescaped b) (list_all is_unescaped bs) plain in
    flat_map-cons escaped_char b bs ∙ ap (λ t. t ++ escaped bs) (plain_byte b parts.0).as_itself ∙ ap (λ t. b ∷ t) (plain_name bs parts.1)

-- what a plain name lacks
pub record LacksAll (name : List ℕ) : Type 0 where
  pub commas : Lacks 44 name
  pub numbers : Lacks 35 name
  pub brackets : Lacks 91 name

pub plain_lacks : (name : List ℕ) → list_all is_unescaped name ≡ true → LacksAll name
plain_lacks [] plain = record { commas = tt; numbers = tt; brackets = tt }
plain_lacks (b ∷ bs) plain =
    let parts = and_parts (is_unescaped b) (list_all is_unescaped bs) plain in
    let byte = plain_byte b parts.0 in
    let more = plain_lacks bs parts.1 in
    record { commas = (byte.no_comma, more.commas); numbers = (byte.no_number, more.numbers); brackets = (byte.no_bracket, more.brackets) }

-- ---- plain classes

pub class_text_is : (classes : List Class) (c : ClassId) → IsPlainClass classes c → name_text classes c ≡ name_of classes c
class_text_is classes c is = plain_name (name_of classes c) is.plain

pub class_found : (classes : List Class) (c : ClassId) → AreClasses classes → IsPlainClass classes c → class_named classes (name_text classes c) ≡ Some c
class_found classes c sound is = ap (class_named classes) (class_text_is classes c is) ∙ sound.ordered.distinct c is.listed
