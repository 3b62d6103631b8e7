-- Literals in scripts: none is a register, and the value of an operand or of a message is that of its literal.
use Rattle.std.proofs.Common.{◌≡◌, refl, ap, subst, ◌∙◌, ℕ, ◌==◌, Bool, true, false, ◌&&◌, not, if◌then◌else◌, List, [], ◌∷◌, codes, length, take, drop, nat_le, None, Some, option_map}
use Rattle.std.proofs.lemmas.Bool.{eqb-true}
use Rattle.std.specs.List.{list_all}
use Rattle.std.specs.Str.{bytes_eq}
use Rattle.mh_base.proofs.Tests.{same_text}
use Rattle.mh_values.specs.declared.class.Class.{Class}
use Rattle.mh_values.specs.declared.value.Cell.TheVariants as cell
use Rattle.mh_values.specs.declared.value.Value.{Value}
use Rattle.mh_values.specs.declared.value.Value.TheVariants as value
use Rattle.mh_values.specs.Array.{value_of_item}
use Rattle.mh_texts.specs.Literal.{tagged, item_of, array_of_literal, literal_of}
use Rattle.mh_base.proofs.Inversion.{then_some}
use Rattle.mh_script.specs.Tokens.{is_of_register, is_register, if_operand, operand_literal, if_text, text_literal}

-- ---- no literal is a register

third_fails : (a b d : Bool) → (a && b && false && d) ≡ false
third_fails true true d = refl
third_fails true false d = refl
third_fails false b d = refl

last_fails : (a b c : Bool) → (a && b && c && false) ≡ false
last_fails true true true = refl
last_fails true true false = refl
last_fails true false c = refl
last_fails false b c = refl

with_colon : (letter b : ℕ) (text : List ℕ) → b ≡ 58 → is_register (letter ∷ b ∷ text) ≡ false
with_colon letter b text is =
    ap (λ c. is_register (letter ∷ c ∷ text)) is
    ∙ third_fails (nat_le 97 letter && nat_le letter 122) (nat_le (length (58 ∷ text)) 15) (not (bytes_eq (letter ∷ 58 ∷ text) (codes "null")))

the_null : (letter : ℕ) (text : List ℕ) → bytes_eq (letter ∷ text) (codes "null") ≡ true → is_register (letter ∷ text) ≡ false
the_null letter text is =
    ap (λ t. (nat_le 97 letter && nat_le letter 122) && nat_le (length text) 15 && list_all is_of_register text && not t) is
    ∙ last_fails (nat_le 97 letter && nat_le letter 122) (nat_le (length text) 15) (list_all is_of_register text)

item_no_register : (classes : List Class) (token : List ℕ) (v : Value) → option_map value_of_item (item_of classes token) ≡ Some v → is_register token ≡ false
item_no_register classes [] v h = refl
item_no_register classes (letter ∷ []) v h = absurd cc
item_no_register classes (letter ∷ b ∷ text) v h = cases (b == 58) (bytes_eq (letter ∷ b ∷ text) (codes "null")) refl refl h
  where
    cases : (c n : Bool) → (b == 58) ≡ c → bytes_eq (letter ∷ b ∷ text) (codes "null") ≡ n →
        option_map value_of_item (if c then tagged classes letter text else (if n then Some cell.Null else None)) ≡ Some v →
        is_register (letter ∷ b ∷ text) ≡ false
    cases true n is_colon is_null k = with_colon letter b text (eqb-true b 58 is_colon)
    cases false true is_colon is_null k = the_null letter (b ∷ text) is_null
    cases false false is_colon is_null k = absurd cc

array_no_register : (token : List ℕ) → take 2 token ≡ codes "a:" → is_register token ≡ false
array_no_register [] is = refl
array_no_register (letter ∷ []) is = absurd cc
array_no_register (letter ∷ b ∷ text) is = let colon : b ≡ 58 = cc in with_colon letter b text colon

pub literal-no_register : (classes : List Class) (token : List ℕ) (v : Value) → literal_of classes token ≡ Some v → is_register token ≡ false
literal-no_register classes token v h = cases (bytes_eq (take 2 token) (codes "a:")) refl h
  where
    cases : (b : Bool) → bytes_eq (take 2 token) (codes "a:") ≡ b →
        (if b then array_of_literal classes (drop 2 token) else option_map value_of_item (item_of classes token)) ≡ Some v → is_register token ≡ false
    cases true is k = array_no_register token (same_text (take 2 token) (codes "a:") is)
    cases false is k = item_no_register classes token v k

-- ---- the literals of scripts

operand_is : (w v : Value) → if_operand w ≡ Some v → (w ≡ v) × (if_operand v ≡ Some v)
operand_is (value.Boxed n) v h = let same : value.Boxed n ≡ v = cc in (same, subst (λ u. if_operand u ≡ Some u) same refl)
operand_is (value.Text t) v h = let same : value.Text t ≡ v = cc in (same, subst (λ u. if_operand u ≡ Some u) same refl)
operand_is value.Null v h = let same : value.Null ≡ v = cc in (same, subst (λ u. if_operand u ≡ Some u) same refl)
operand_is _ v h = absurd cc

-- the token of an operand
pub operand-read : (classes : List Class) (token : List ℕ) (v : Value) → operand_literal classes token ≡ Some v →
    (literal_of classes token ≡ Some v) × (if_operand v ≡ Some v)
operand-read classes token v h =
    let read = then_some if_operand (literal_of classes token) v h in
    let is = operand_is read.0 v read.2 in
    (read.1 ∙ ap Some is.0, is.1)

text_is : (w : Value) (text : List ℕ) → if_text w ≡ Some text → w ≡ value.Text text
text_is (value.Text t) text h = let same : t ≡ text = cc in ap value.Text same
text_is _ text h = absurd cc

-- the token of a message
pub text-read : (classes : List Class) (token text : List ℕ) → text_literal classes token ≡ Some text → literal_of classes token ≡ Some (value.Text text)
text-read classes token text h =
    let read = then_some if_text (literal_of classes token) text h in
    read.1 ∙ ap Some (text_is read.0 text read.2)
