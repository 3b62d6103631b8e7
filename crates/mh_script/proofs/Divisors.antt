-- No line of a script that is read divides by 0.
use Rattle.std.proofs.Common.{◌≡◌, refl, subst, ℕ, Bool, true, false, ◌&&◌, List, [], ◌∷◌, length, Option, None, Some, Result, Ok, Err, nat_le, nat_lt, codes}
use Rattle.std.specs.Prelude.{◌==◌, if◌then◌else◌, option_and_then}
use Rattle.std.specs.Str.{bytes_eq}
use Rattle.std.proofs.lemmas.Bool.{and_parts, leb-true}
use Rattle.mh_values.specs.declared.class.Class.{Class}
use Rattle.mh_base.specs.Provided.{provided_some}
use Rattle.mh_base.proofs.Conditions.{provided_some-parts}
use Rattle.mh_base.proofs.Inversion.{then_some}
use Rattle.mh_script.specs.declared.kinds.ScriptKind.{ScriptKind}
use Rattle.mh_script.specs.declared.kinds.ScriptKind.TheVariants.{BadLine, BadLiteral}
use Rattle.mh_script.specs.declared.line.Line.{Line}
use Rattle.mh_script.specs.declared.line.Line.TheVariants as line
use Rattle.mh_script.specs.declared.script.End.{End}
use Rattle.mh_script.specs.declared.script.End.TheVariants as end
use Rattle.mh_script.specs.declared.script.Step.{Step}
use Rattle.mh_script.specs.declared.script.Step.TheVariants as step
use Rattle.mh_script.specs.Limits.{CanDivide}
use Rattle.mh_script.specs.Lines.{said_then, value_operand, let_line, ending_line, line_of, operation_of, pair_line}
use Rattle.mh_script.specs.Numbers.{fail_of, if_fail, number_of}
use Rattle.mh_script.specs.Tokens.{register_of, text_literal}

-- what goes on with what was said
pub said-parts : {A B : Type 0} (r : Result A ScriptKind) (next : A → Result B ScriptKind) (b : B) → said_then r next ≡ Ok b →
    (a : A) × (r ≡ Ok a) × (next a ≡ Ok b)
said-parts (Ok a) next b h = (a, refl, h)
said-parts (Err kind) next b h = absurd cc

same_step : (s t : Step) → ◌≡◌ {A = Result Line ScriptKind} (Ok (line.Step s)) (Ok (line.Step t)) → s ≡ t
same_step s t h = cc

no_step : (e : End) (s : Step) → ◌≡◌ {A = Result Line ScriptKind} (Ok (line.End e)) (Ok (line.Step s)) → ⊥
no_step e s h = absurd cc

-- a step that was read
divides-by : (t s : Step) → CanDivide t → ◌≡◌ {A = Result Line ScriptKind} (Ok (line.Step t)) (Ok (line.Step s)) → CanDivide s
divides-by t s can h = subst CanDivide (same_step t s h) can

fail-divides : (m r : ℕ) (s : Step) → if_fail m r ≡ Some s → CanDivide s
fail-divides m r s h = cases ((nat_le 1 m && nat_le m 1000000) && nat_lt r m) refl h
  where
    same : (t : Step) → ◌≡◌ {A = Option Step} (Some t) (Some s) → t ≡ s
    same t k = cc

    cases : (b : Bool) → ((nat_le 1 m && nat_le m 1000000) && nat_lt r m) ≡ b → (if b then Some (step.FailMod m r) else None) ≡ Some s → CanDivide s
    cases true is k =
        let big = leb-true 1 m (and_parts (nat_le 1 m) _ (and_parts _ (nat_lt r m) is).0).0 in subst CanDivide (same (step.FailMod m r) k) big
    cases false is k = absurd cc

pair-divides : (classes : List Class) (word first second : List ℕ) (s : Step) → pair_line classes word first second ≡ Ok (line.Step s) → CanDivide s
pair-divides classes word first second s h = cases (bytes_eq word (codes "failmod")) h
  where
    cases : (b : Bool) → (if b then provided_some (fail_of first second) BadLine (λ t. Ok (line.Step t))
        else provided_some (text_literal classes second) BadLiteral (λ message. Ok (line.End (end.Raise first message)))) ≡ Ok (line.Step s) → CanDivide s
    cases true k =
        let made = provided_some-parts (fail_of first second) BadLine (λ t. Ok (line.Step t)) (line.Step s) k in
        let modulus = then_some (λ m. option_and_then (if_fail m) (number_of second)) (number_of first) made.0 made.1 in
        let remainder = then_some (if_fail modulus.0) (number_of second) made.0 modulus.2 in
        divides-by made.0 s (fail-divides modulus.0 remainder.0 made.0 remainder.2) made.2
    cases false k =
        let made = provided_some-parts (text_literal classes second) BadLiteral (λ message. Ok (line.End (end.Raise first message))) (line.Step s) k in
        absurd (no_step (end.Raise first made.0) s made.2)

let-divides : (classes : List Class) (target word : List ℕ) (operands : List (List ℕ)) (s : Step) →
    let_line classes target word operands ≡ Ok (line.Step s) → CanDivide s
let-divides classes target word operands s h = cases (length operands == 0) h
  where
    cases : (b : Bool) → (if b then Ok (line.Step (step.Serial target))
        else said_then (operation_of classes word operands) (λ op. Ok (line.Step (step.Let target op)))) ≡ Ok (line.Step s) → CanDivide s
    cases true k = divides-by (step.Serial target) s tt k
    cases false k =
        let made = said-parts (operation_of classes word operands) (λ op. Ok (line.Step (step.Let target op))) (line.Step s) k in
        divides-by (step.Let target made.0) s tt made.2

ending-divides : (classes : List Class) (word operand : List ℕ) (s : Step) → ending_line classes word operand ≡ Ok (line.Step s) → CanDivide s
ending-divides classes word operand s h = cases (bytes_eq word (codes "return")) h
  where
    cases : (b : Bool) → (if b then Ok (line.End (end.Return (register_of operand)))
        else said_then (value_operand classes operand) (λ v. Ok (line.End (end.Value v)))) ≡ Ok (line.Step s) → CanDivide s
    cases true k = absurd (no_step (end.Return (register_of operand)) s k)
    cases false k =
        let made = said-parts (value_operand classes operand) (λ v. Ok (line.End (end.Value v))) (line.Step s) k in
        absurd (no_step (end.Value made.0) s made.2)

-- a line before the last one
pub line-divides : (classes : List Class) (tokens : List (List ℕ)) (s : Step) → line_of classes tokens ≡ Ok (line.Step s) → CanDivide s
line-divides classes [] s h = absurd cc
line-divides classes (a ∷ []) s h = absurd cc
line-divides classes (a ∷ b ∷ []) s h = ending-divides classes a b s h
line-divides classes (a ∷ b ∷ c ∷ rest) s h = cases (bytes_eq a (codes "let")) h
  where
    cases : (t : Bool) → (if t then let_line classes b c rest else pair_line classes a b c) ≡ Ok (line.Step s) → CanDivide s
    cases true k = let-divides classes b c rest s k
    cases false k = pair-divides classes a b c s k
