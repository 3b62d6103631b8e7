-- The plan that is made from a number, line by line: it is counted, and its calls are calls of sites.
use Rattle.std.proofs.Common.{◌≡◌, ◌∙◌, refl, ap, inl, inr, ◌⊎◌, ℕ, ◌+◌, ◌<◌, ◌^◌, ◌==◌, ◌&&◌, ◌||◌, Bool, true, false, not, List, [], ◌∷◌, ◌++◌, length, codes, Ok, get_or, arith}
use Rattle.std.specs.Prelude.{nat_lt, nat_le}
use Rattle.std.specs.Fmt.{decimal}
use Rattle.std.specs.List.{AllByRecursion, list_all}
use Rattle.std.proofs.lemmas.Bool.{eq-eqb, ne_eqb}
use Rattle.std.proofs.lemmas.List.Folds.{list_all-append}
use Rattle.std.proofs.lemmas.Bool.Decides.{nat_tests}
use Rattle.std.proofs.lemmas.Fmt.{decimal_digit, decimal_nonempty, first_decimal}
use Rattle.mh_base.specs.Lines.{is_full, is_plain, tokens_of}
use Rattle.mh_base.specs.Provided.{provided}
use Rattle.mh_base.proofs.Tests.{or_true}
use Rattle.mh_plan.specs.declared.kinds.PlanKind.TheVariants.{BadLine, TooMany}
use Rattle.mh_plan.specs.Plan.{call_counted, is_digit, is_number, line_counted, none_counted, tokens_counted}
use Rattle.mh_generated.specs.Plan.{called_site}
use Rattle.mh_generated.proofs.Digits.{IsDigit, are-digits, all-of}
use Rattle.mh_generated.proofs.Lines.{call_line, call-tokens}

-- ---- digits

-- tests that each item passes
all-pass : (p : ℕ → Bool) (xs : List ℕ) → AllByRecursion (λ b. p b ≡ true) xs → list_all p xs ≡ true
all-pass p [] h = refl
all-pass p (x ∷ xs) h = ap (λ t. t && list_all p xs) h.0 ∙ all-pass p xs h.1

digit-passes : (b : ℕ) → IsDigit b → is_digit b ≡ true
digit-passes b h = grind (arith, nat_tests)

plain-passes : (b : ℕ) → IsDigit b → (nat_le 0x20 b && nat_le b 0x7E) ≡ true
plain-passes b h = grind (arith, nat_tests)

-- digits of which the first is no zero, or is alone
number-of : (ds : List ℕ) → AllByRecursion IsDigit ds → 0 < length ds → (length ds ≡ 1) ⊎ (48 < get_or ds 0 0) → is_number ds ≡ true
number-of [] digits some front = absurd (omega arith)
number-of (b ∷ bs) digits some front =
    ap (λ t. t && (length bs == 0 || not (b == 48))) (all-pass is_digit (b ∷ bs) (all-of IsDigit (λ d. is_digit d ≡ true) digit-passes (b ∷ bs) digits))
    ∙ (elim front [
      | inl one ↦ let none : length bs ≡ 0 = omega arith in ap (λ t. t || not (b == 48)) (eq-eqb (length bs) 0 none)
      | inr high ↦ ap (λ t. length bs == 0 || not t) (ne_eqb b 48 (λ e. omega (arith, e, high))) ∙ or_true (length bs == 0)
    ])

-- the number of a site, as it is written
number-written : (n : ℕ) → n < 2 ^ 64 → is_number (decimal n) ≡ true
number-written n small = number-of (decimal n) (are-digits n small) (decimal_nonempty n small) (front (nat_lt n 10) refl)
  where
    front : (t : Bool) → nat_lt n 10 ≡ t → (length (decimal n) ≡ 1) ⊎ (48 < get_or (decimal n) 0 0)
    front true is = let low : n < 10 = grind (arith, nat_tests) in inl (ap length (decimal_digit n low))
    front false is = let high : 0 < n = grind (arith, nat_tests) in inr (first_decimal n high small)

-- ---- the line of a call

full : (n : ℕ) → n < 2 ^ 64 → is_full (decimal n) ≡ true
full n small = let some = decimal_nonempty n small in grind (arith, nat_tests)

full-argument : (n : ℕ) → is_full (codes "i:" ++ decimal n) ≡ true
full-argument n = let some : 0 < length (codes "i:" ++ decimal n) = omega arith in grind (arith, nat_tests)

plain-digits : (n : ℕ) → n < 2 ^ 64 → is_plain (decimal n) ≡ true
plain-digits n small =
    all-pass (λ b. nat_le 0x20 b && nat_le b 0x7E) (decimal n)
    (all-of IsDigit (λ b. (nat_le 0x20 b && nat_le b 0x7E) ≡ true) plain-passes (decimal n) (are-digits n small))

line-plain : (sites thread call : ℕ) → called_site sites thread call < 2 ^ 64 → call < 2 ^ 64 → is_plain (call_line sites thread call) ≡ true
line-plain sites thread call low small =
    let p : ℕ → Bool = λ b. nat_le 0x20 b && nat_le b 0x7E in
    let site = decimal (called_site sites thread call) in
    list_all-append p (codes "indy " ++ site ++ codes " i:") (decimal call)
    ∙ ap (λ t. t && is_plain (decimal call)) (list_all-append p (codes "indy " ++ site) (codes " i:") ∙
    ap (λ t. t && true) (list_all-append p (codes "indy ") site ∙ plain-digits (called_site sites thread call) low))
    ∙ plain-digits call small

-- one call more is counted
pub call-counted : (sites thread call threads calls : ℕ) → called_site sites thread call < 2 ^ 64 → call < 2 ^ 64 → 0 < threads → calls < 10000 →
    line_counted (record none_counted { threads = threads; calls = calls }) (call_line sites thread call)
    ≡ Ok (record none_counted { threads = threads; calls = calls + 1 })
call-counted sites thread call threads calls low small some few =
    let counts = record none_counted { threads = threads; calls = calls } in
    let next = record none_counted { threads = threads; calls = calls + 1 } in
    let site = decimal (called_site sites thread call) in
    let rest = codes "i:" ++ decimal call in
    let tokens : List (List ℕ) = codes "indy" ∷ site ∷ rest ∷ [] in
    let there : not (threads == 0) ≡ true = grind (arith, nat_tests) in
    let room : nat_lt calls 10000 ≡ true = grind (arith, nat_tests) in
    ap (λ t. provided t BadLine (tokens_counted counts (tokens_of (call_line sites thread call)))) (line-plain sites thread call low small)
    ∙ ap (tokens_counted counts) (call-tokens sites thread call low small)
    ∙ ap (λ t. provided (t && (is_full rest && true)) BadLine (call_counted counts tokens)) (full (called_site sites thread call) low)
    ∙ ap (λ t. provided (t && true) BadLine (call_counted counts tokens)) (full-argument call)
    ∙ ap (λ t. provided (t && not (threads == 0)) BadLine (provided (nat_lt calls 10000) TooMany (Ok next)))
    (number-written (called_site sites thread call) low)
    ∙ ap (λ t. provided t BadLine (provided (nat_lt calls 10000) TooMany (Ok next))) there
    ∙ ap (λ t. provided t TooMany (Ok next)) room
