-- Numbers: what is read is what is written.
use Rattle.std.proofs.Common.{◌≡◌, sym, ◌∙◌, ap, subst, ℕ, ◌^◌, ◌<◌, Bool, true, ◌&&◌, if◌then◌else◌, List, None, Some, Result, Ok, Err, nat_lt, arith}
use Rattle.std.proofs.lemmas.Bool.{and_parts, ltb-true, lt-ltb}
use Rattle.std.proofs.lemmas.Fmt.{parse-decimal, IsAscii-decimal}
use Rattle.std.proofs.lemmas.Slice.Eq.{bytes_eq-Decides}
use Rattle.std.proofs.lemmas.Str.{IsUtf8-from_ascii}
use Rattle.std.specs.Fmt.{decimal}
use Rattle.std.specs.Str.{bytes_eq, IsUtf8}
use Rattle.std.specs.Str.Parse.{digits_value, without_leading_plus, ParsesUnsigned}
use Rattle.mh_base.proofs.Inversion.{if_none}
use Rattle.mh_script.specs.Numbers.{number_of}

-- where the digits are refused, no number is written so
pub number_of-refused : {E : Type 0} (text : List ℕ) (r : Result ℕ E) (e : E) → ParsesUnsigned 64 10 text r → r ≡ Err e → None ≡ number_of text
number_of-refused text r e parses refused =
    let n : ℕ = digits_value 10 (without_leading_plus text) in
    if_none (nat_lt n (2 ^ 64) && bytes_eq (decimal n) text) n (λ so.
    let parts = and_parts _ _ so in
    let small : n < 2 ^ 64 = ltb-true n (2 ^ 64) parts.0 in
    let read : r ≡ Ok n = parse-decimal 64 n text r small (omega arith) (sym ((bytes_eq-Decides _ _).0 parts.1)) parses in cc)

-- what is no text is no number
pub number_of-no_text : (text : List ℕ) → (IsUtf8 text → ⊥) → None ≡ number_of text
number_of-no_text text no_text =
    let n : ℕ = digits_value 10 (without_leading_plus text) in
    if_none (nat_lt n (2 ^ 64) && bytes_eq (decimal n) text) n (λ so.
    let parts = and_parts _ _ so in
    let small : n < 2 ^ 64 = ltb-true n (2 ^ 64) parts.0 in
    no_text (subst IsUtf8 ((bytes_eq-Decides _ _).0 parts.1) (IsUtf8-from_ascii _ (IsAscii-decimal n (omega arith)))))

-- a number that was parsed is the one that is written so, where its own text is the text
pub number_of-read : (text : List ℕ) (n : ℕ) (b : Bool) → digits_value 10 (without_leading_plus text) < 2 ^ 64 →
    n ≡ digits_value 10 (without_leading_plus text) → b ≡ bytes_eq (decimal n) text → number_of text ≡ (if b then Some n else None)
number_of-read text n b small is test =
    let fits : nat_lt (digits_value 10 (without_leading_plus text)) (2 ^ 64) ≡ true = lt-ltb _ _ small in
    ap (λ t. if t && bytes_eq (decimal (digits_value 10 (without_leading_plus text))) text then Some (digits_value 10 (without_leading_plus text)) else None)
    fits
    ∙ ap (λ m. if bytes_eq (decimal m) text then Some m else None) (sym is)
    ∙ ap (λ t. if t then Some n else None) (sym test)
