-- Operands that were read are written as their tokens: registers, numbers, types, references.
use Rattle.std.proofs.Common.{◌≡◌, refl, sym, ap, ap₂, ◌∙◌, ℕ, ◌<◌, ◌^◌, ◌==◌, Bool, true, false, ◌&&◌, if◌then◌else◌, List, [], ◌∷◌, codes, length, map, nat_lt, nat_le, Option, None, Some, option_map, arith}
use Rattle.std.proofs.lemmas.Bool.{and_parts, eqb-true}
use Rattle.std.proofs.lemmas.List.Splits.{join_with_byte-slice_split, length-slice_split}
use Rattle.std.specs.Fmt.{decimal}
use Rattle.std.specs.List.{join_with_byte, slice_split}
use Rattle.std.specs.Option.{option_map_or}
use Rattle.std.specs.Str.{bytes_eq}
use Rattle.std.specs.Str.Parse.{digits_value, without_leading_plus}
use Rattle.mh_base.specs.Ascii.{comma}
use Rattle.mh_base.proofs.Inversion.{map_some, then_some, if_some}
use Rattle.mh_base.proofs.Tests.{same_text}
use Rattle.mh_script.specs.declared.operand.Register.TheVariants as register
use Rattle.mh_script.specs.declared.operand.MethodTypeOperand.TheVariants as of_method_type
use Rattle.mh_script.specs.declared.operand.TypeOperand.TheVariants as of_type
use Rattle.mh_script.specs.Lines.{type_operand, method_type_operand}
use Rattle.mh_script.specs.Numbers.{number_of, if_small, small_of, numbers_of, order_of}
use Rattle.mh_script.specs.Tokens.{is_register, argument_number, register_of}
use Rattle.mh_script.specs.Written.{register_text, type_operand_text, method_type_operand_text, order_text}

-- ---- what gives something

-- ---- numbers

pub number-text : (token : List ℕ) (n : ℕ) → number_of token ≡ Some n → decimal n ≡ token
number-text token n h =
    let m : ℕ = digits_value 10 (without_leading_plus token) in
    let made = if_some (nat_lt m (2 ^ 64) && bytes_eq (decimal m) token) m n h in
    ap decimal (sym made.1) ∙ same_text (decimal m) token (and_parts (nat_lt m (2 ^ 64)) (bytes_eq (decimal m) token) made.0).1

pub small-text : (token : List ℕ) (n : ℕ) → small_of token ≡ Some n → decimal n ≡ token
small-text token n h =
    let read = then_some if_small (number_of token) n h in
    ap decimal (sym (if_some (nat_le read.0 255) read.0 n read.2).1) ∙ number-text token read.0 read.1

numbers-text : (texts : List (List ℕ)) (ns : List ℕ) → numbers_of texts ≡ Some ns → map decimal ns ≡ texts
numbers-text [] ns h = let none : [] ≡ ns = cc in ap (map decimal) (sym none)
numbers-text (text ∷ texts) ns h =
    let first = then_some (λ n. option_map (λ ns. n ∷ ns) (numbers_of texts)) (small_of text) ns h in
    let more = map_some (λ ns. first.0 ∷ ns) (numbers_of texts) ns first.2 in
    ap (map decimal) (sym more.2) ∙ ap₂ (λ t ts. t ∷ ts) (small-text text first.0 first.1) (numbers-text texts more.0 more.1)

joined : (ns : List ℕ) (texts : List (List ℕ)) → map decimal ns ≡ texts → 0 < length texts → order_text ns ≡ join_with_byte comma texts
joined [] texts is some = let none : 0 ≡ length texts = ap length is in absurd (omega (arith, some, none))
joined (n ∷ ns) texts is some = ap (join_with_byte comma) is

pub order-text : (token : List ℕ) (ns : List ℕ) → order_of token ≡ Some ns → order_text ns ≡ token
order-text token ns h = cases (bytes_eq token (codes "-")) refl h
  where
    cases : (b : Bool) → bytes_eq token (codes "-") ≡ b →
        (if b then Some [] else numbers_of (slice_split (λ b. b == comma) token)) ≡ Some ns → order_text ns ≡ token
    cases true is k = let none : [] ≡ ns = cc in ap order_text (sym none) ∙ sym (same_text token (codes "-") is)
    cases false is k =
        let parts = slice_split (λ b. b == comma) token in
        let some : 0 < length parts = omega (arith, length-slice_split (λ b. b == comma) token) in
        joined ns parts (numbers-text parts ns k) some ∙ join_with_byte-slice_split comma token

-- ---- registers

argument-text : (token : List ℕ) (n : ℕ) → argument_number token ≡ Some n → register_text (register.Argument n) ≡ token
argument-text [] n h = absurd cc
argument-text (b ∷ digits) n h = cases (b == 97) refl h
  where
    cases : (t : Bool) → (b == 97) ≡ t → (if t then number_of digits else None) ≡ Some n → register_text (register.Argument n) ≡ b ∷ digits
    cases true is k = ap₂ (λ c cs. c ∷ cs) (sym (eqb-true b 97 is)) (number-text digits n k)
    cases false is k = absurd cc

-- a register is written as the token that it was read from
pub register-text : (token : List ℕ) → register_text (register_of token) ≡ token
register-text token = given (bytes_eq token (codes "type")) (bytes_eq token (codes "name")) refl refl
  where
    other : (o : Option ℕ) → argument_number token ≡ o → register_text (option_map_or register.Argument o (register.Assigned token)) ≡ token
    other (Some n) is = argument-text token n is
    other None is = refl

    given : (t n : Bool) → bytes_eq token (codes "type") ≡ t → bytes_eq token (codes "name") ≡ n →
        register_text (if t then register.SiteType else (if n then register.SiteName
        else option_map_or register.Argument (argument_number token) (register.Assigned token))) ≡ token
    given true n is_type is_name = sym (same_text token (codes "type") is_type)
    given false true is_type is_name = sym (same_text token (codes "name") is_name)
    given false false is_type is_name = other (argument_number token) refl

-- ---- types

pub type_operand-text : (token : List ℕ) → type_operand_text (type_operand token) ≡ token
type_operand-text token = cases (bytes_eq token (codes "V")) (is_register token) refl
  where
    cases : (v r : Bool) → bytes_eq token (codes "V") ≡ v →
        type_operand_text (if v then of_type.Void else (if r then of_type.Register (register_of token) else of_type.Descriptor token)) ≡ token
    cases true r is = sym (same_text token (codes "V") is)
    cases false true is = register-text token
    cases false false is = refl

pub method_type_operand-text : (token : List ℕ) → method_type_operand_text (method_type_operand token) ≡ token
method_type_operand-text token = cases (is_register token)
  where
    cases : (r : Bool) →
        method_type_operand_text (if r then of_method_type.Register (register_of token) else of_method_type.Descriptor token) ≡ token
    cases true = register-text token
    cases false = refl
