-- A line within a script that was read: what is written of it is read as it. Lines of a word and two tokens.
use Rattle.std.proofs.Common.{◌≡◌, refl, sym, ap, ap₂, subst, ◌∙◌, ℕ, Bool, true, false, if◌then◌else◌, List, [], ◌∷◌, codes, Option, None, Some, is_some, option_and_then, Ok}
use Rattle.std.specs.Str.{bytes_eq}
use Rattle.mh_base.specs.Provided.{provided_some}
use Rattle.mh_base.proofs.Tests.{same_text}
use Rattle.mh_values.specs.declared.class.Class.{Class}
use Rattle.mh_values.specs.declared.value.Value.TheVariants as value
use Rattle.mh_base.proofs.Inversion.{then_some, ok_is, if_some}
use Rattle.mh_texts.proofs.LiteralAgain.{literal_of-again}
use Rattle.mh_texts.specs.LiteralText.{literal_text}
use Rattle.mh_leaves.specs.Reference.{is_class_name}
use Rattle.mh_script.specs.declared.kinds.ScriptKind.{ScriptKind}
use Rattle.mh_script.specs.declared.kinds.ScriptKind.TheVariants.{BadLine, BadLiteral}
use Rattle.mh_script.specs.declared.line.Line.{Line}
use Rattle.mh_script.specs.declared.line.Line.TheVariants as line
use Rattle.mh_script.specs.declared.script.End.TheVariants as end
use Rattle.mh_script.specs.declared.script.Step.{Step}
use Rattle.mh_script.specs.declared.script.Step.TheVariants as step
use Rattle.mh_script.specs.Faults.{pair_fault, body_fault}
use Rattle.mh_script.specs.Kinds.{fault_unless, lower}
use Rattle.mh_script.specs.Lines.{pair_line, line_of}
use Rattle.mh_script.specs.Numbers.{number_of, if_fail, fail_of}
use Rattle.mh_script.specs.Tokens.{if_text, text_literal}
use Rattle.mh_script.specs.Written.{step_tokens, end_tokens}
use Rattle.mh_base.proofs.Conditions.{provided_some-parts}
use Rattle.mh_script.proofs.FaultlessOperations.{lower-none}
use Rattle.mh_base.proofs.LineTokens.{IsFullToken, AreFullTokens}
use Rattle.mh_script.proofs.GraphicTokens.{literal-token}
use Rattle.mh_script.proofs.LiteralTokens.{text-read}
use Rattle.mh_script.proofs.Operands.{number-text}
use Rattle.mh_script.proofs.OperationsAgain.{lower-of_none}

-- the tokens that are written of a line
abbrev pub line_tokens : List Class → Line → List (List ℕ)
line_tokens classes (line.Step s) = step_tokens classes s
line_tokens classes (line.End e) = end_tokens classes e

-- a line that may stand after these of its script: its own tokens have no fault there, and are read as it
pub record StandsAfter (classes : List Class) (steps : List Step) (l : Line) : Type 0 where
  pub said : line_of classes (line_tokens classes l) ≡ Ok l
  pub fault : body_fault classes steps (line_tokens classes l) ≡ None
  pub tokens : AreFullTokens (line_tokens classes l)

-- where the tokens of a line have this form
pub of_tokens : (classes : List Class) (steps : List Step) (tokens : List (List ℕ)) (l : Line) → line_tokens classes l ≡ tokens → AreFullTokens tokens →
    body_fault classes steps tokens ≡ None → line_of classes tokens ≡ Ok l → StandsAfter classes steps l
of_tokens classes steps tokens l same are none said = record {
  said = ap (line_of classes) same ∙ said;
  fault = ap (body_fault classes steps) same ∙ none;
  tokens = subst AreFullTokens (sym same) are;
}

-- ---- `failmod K R`, and `raise C s:TEXT`

fail-text : (classes : List Class) (a b : List ℕ) (s : Step) → fail_of a b ≡ Some s → step_tokens classes s ≡ codes "failmod" ∷ a ∷ b ∷ []
fail-text classes a b s h =
    let modulus = then_some (λ m. option_and_then (if_fail m) (number_of b)) (number_of a) s h in
    let remainder = then_some (if_fail modulus.0) (number_of b) s modulus.2 in
    let made = if_some _ (step.FailMod modulus.0 remainder.0) s remainder.2 in
    ap (step_tokens classes) (sym made.1)
    ∙ ap₂ (λ m r. codes "failmod" ∷ m ∷ r ∷ []) (number-text a modulus.0 modulus.1) (number-text b remainder.0 remainder.1)

fail-again : (classes : List Class) (steps : List Step) (word a b : List ℕ) (l : Line) → AreFullTokens (word ∷ a ∷ b ∷ []) →
    body_fault classes steps (word ∷ a ∷ b ∷ []) ≡ None → line_of classes (word ∷ a ∷ b ∷ []) ≡ Ok l → word ≡ codes "failmod" →
    provided_some (fail_of a b) BadLine (λ s. Ok (line.Step s)) ≡ Ok l → StandsAfter classes steps l
fail-again classes steps word a b l are none said is h =
    let made = provided_some-parts (fail_of a b) BadLine (λ s. Ok (line.Step s)) l h in
    of_tokens classes steps (word ∷ a ∷ b ∷ []) l (ap (line_tokens classes) (sym (ok_is (line.Step made.0) l made.2))
    ∙ fail-text classes a b made.0 made.1 ∙ ap (λ w. w ∷ a ∷ b ∷ []) (sym is)) are none said

raise-again : (classes : List Class) (steps : List Step) (a b : List ℕ) (l : Line) → AreFullTokens (codes "raise" ∷ a ∷ b ∷ []) →
    lower (fault_unless (is_class_name a) BadLine) (fault_unless (is_some (text_literal classes b)) BadLiteral) ≡ None →
    provided_some (text_literal classes b) BadLiteral (λ message. Ok (line.End (end.Raise a message))) ≡ Ok l → StandsAfter classes steps l
raise-again classes steps a b l are none h =
    let made = provided_some-parts (text_literal classes b) BadLiteral (λ message. Ok (line.End (end.Raise a message))) l h in
    let v = value.Text made.0 in
    let text : List ℕ = literal_text classes v in
    let read = text-read classes b made.0 made.1 in
    let again : text_literal classes text ≡ Some made.0 = ap (option_and_then if_text) (literal_of-again classes b v read) in
    of_tokens classes steps (codes "raise" ∷ a ∷ text ∷ []) l (ap (line_tokens classes) (sym (ok_is (line.End (end.Raise a made.0)) l made.2)))
    (are.0, (are.1.0, (literal-token classes b v read are.1.1.0, tt)))
    (lower-of_none (fault_unless (is_class_name a) BadLine) (fault_unless (is_some (text_literal classes text)) BadLiteral) (lower-none _ _ none).0
    (ap (λ o. fault_unless (is_some o) BadLiteral) again))
    (ap (λ o. provided_some o BadLiteral (λ message. Ok (line.End (end.Raise a message)))) again ∙ made.2)

pub pair-again : (classes : List Class) (steps : List Step) (word a b : List ℕ) (l : Line) → AreFullTokens (word ∷ a ∷ b ∷ []) →
    body_fault classes steps (word ∷ a ∷ b ∷ []) ≡ None → line_of classes (word ∷ a ∷ b ∷ []) ≡ Ok l → pair_fault classes word a b ≡ None →
    pair_line classes word a b ≡ Ok l → StandsAfter classes steps l
pair-again classes steps word a b l are none said fault h = cases (bytes_eq word (codes "failmod")) (bytes_eq word (codes "raise")) refl refl fault h
  where
    raised : Option ScriptKind
    raised = lower (fault_unless (is_class_name a) BadLine) (fault_unless (is_some (text_literal classes b)) BadLiteral)

    cases : (f r : Bool) → bytes_eq word (codes "failmod") ≡ f → bytes_eq word (codes "raise") ≡ r →
        (if f then fault_unless (is_some (fail_of a b)) BadLine else (if r then raised else Some BadLine)) ≡ None →
        (if f then provided_some (fail_of a b) BadLine (λ s. Ok (line.Step s))
        else provided_some (text_literal classes b) BadLiteral (λ message. Ok (line.End (end.Raise a message)))) ≡ Ok l → StandsAfter classes steps l
    cases true r fails raises e k = fail-again classes steps word a b l are none said (same_text word (codes "failmod") fails) k
    cases false true fails raises e k =
        raise-again classes steps a b l (subst IsFullToken (same_text word (codes "raise") raises) are.0, are.1) e k
    cases false false fails raises e k = absurd cc
