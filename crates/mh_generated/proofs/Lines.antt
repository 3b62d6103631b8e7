-- The plan as lines, and the line of a call as tokens.
use Rattle.std.proofs.Common.{◌≡◌, ◌∙◌, ap, refl, ℕ, ◌<◌, ◌^◌, List, [], ◌∷◌, ◌++◌, ◌==◌, false, codes, append_assoc, arith}
use Rattle.std.specs.Fmt.{decimal}
use Rattle.std.specs.List.{AllByRecursion, flat_map}
use Rattle.mh_base.specs.Lines.{lines_of, tokens_of}
use Rattle.mh_generated.specs.Plan.{call_text, called_site}
use Rattle.mh_generated.proofs.Digits.{Lacks, all-append, are-digits, digits-lack, split-at, split-end}

-- the line of a call, without its end
abbrev pub call_line : ℕ → ℕ → ℕ → List ℕ
call_line sites thread call = codes "indy " ++ decimal (called_site sites thread call) ++ codes " i:" ++ decimal call

-- a line with its end
abbrev pub ended : List ℕ → List ℕ
ended line = line ++ 10 ∷ []

pub call_text-ended : (sites thread call : ℕ) → call_text sites thread call ≡ ended (call_line sites thread call)
unfolding call_text
call_text-ended sites thread call = refl

-- lines that were put one after the other are those of the text, with an empty one at the end
pub lines-of-ended : (lines : List (List ℕ)) → AllByRecursion (Lacks 10) lines → lines_of (flat_map ended lines) ≡ lines ++ [] ∷ []
lines-of-ended [] lack = refl
lines-of-ended (line ∷ lines) lack =
    ap lines_of (append_assoc line (10 ∷ []) (flat_map ended lines)) ∙ split-at 10 line (flat_map ended lines) lack.0
    ∙ ap (λ ls. line ∷ ls) (lines-of-ended lines lack.1)

-- the tokens of a call
pub call-tokens : (sites thread call : ℕ) → called_site sites thread call < 2 ^ 64 → call < 2 ^ 64 →
    tokens_of (call_line sites thread call) ≡ codes "indy" ∷ decimal (called_site sites thread call) ∷ (codes "i:" ++ decimal call) ∷ []
call-tokens sites thread call low small =
    let site = decimal (called_site sites thread call) in
    let rest = codes "i:" ++ decimal call in
    let no_space = digits-lack 32 (omega arith) site (are-digits (called_site sites thread call) low) in
    let last : Lacks 32 rest = (refl, (refl, digits-lack 32 (omega arith) (decimal call) (are-digits call small))) in
    let apart : call_line sites thread call ≡ codes "indy" ++ 32 ∷ (site ++ 32 ∷ rest) =
    append_assoc (codes "indy " ++ site) (codes " i:") (decimal call) ∙ append_assoc (codes "indy ") site (32 ∷ rest) in
    ap tokens_of apart ∙ split-at 32 (codes "indy") (site ++ 32 ∷ rest) (refl, (refl, (refl, (refl, tt))))
    ∙ ap (λ ts. codes "indy" ∷ ts) (split-at 32 site rest no_space ∙ ap (λ ts. site ∷ ts) (split-end 32 rest last))

-- no line has LF in it
pub call-lacks : (sites thread call : ℕ) → called_site sites thread call < 2 ^ 64 → call < 2 ^ 64 → Lacks 10 (call_line sites thread call)
call-lacks sites thread call low small =
    let P : ℕ → Type 0 = λ b. (b == 10) ≡ false in
    all-append P (codes "indy " ++ decimal (called_site sites thread call) ++ codes " i:") (decimal call)
    (all-append P (codes "indy " ++ decimal (called_site sites thread call)) (codes " i:")
    (all-append P (codes "indy ") (decimal (called_site sites thread call)) (refl, (refl, (refl, (refl, (refl, tt)))))
    (digits-lack 10 (omega arith) (decimal (called_site sites thread call)) (are-digits (called_site sites thread call) low)))
    (refl, (refl, (refl, tt))))
    (digits-lack 10 (omega arith) (decimal call) (are-digits call small))
