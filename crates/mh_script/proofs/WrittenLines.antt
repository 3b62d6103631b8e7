-- Any line within a script that was read: what is written of it is read as it.
use Rattle.std.proofs.Common.{◌≡◌, refl, sym, ap, ap₂, subst, ◌∙◌, ℕ, ◌==◌, Bool, true, false, if◌then◌else◌, List, [], ◌∷◌, codes, length, None, Some, Result, Ok, arith}
use Rattle.std.proofs.lemmas.Bool.{eqb-true, false_from_ne_true}
use Rattle.std.specs.Str.{bytes_eq}
use Rattle.mh_base.proofs.Inversion.{ok_is}
use Rattle.mh_base.proofs.Tests.{same_text}
use Rattle.mh_values.specs.declared.class.Class.{Class}
use Rattle.mh_script.specs.declared.kinds.ScriptKind.{ScriptKind}
use Rattle.mh_script.specs.declared.kinds.ScriptKind.TheVariants.{BadLine}
use Rattle.mh_script.specs.declared.line.Line.{Line}
use Rattle.mh_script.specs.declared.line.Line.TheVariants as line
use Rattle.mh_script.specs.declared.script.End.TheVariants as end
use Rattle.mh_script.specs.declared.script.Step.{Step}
use Rattle.mh_script.specs.declared.script.Step.TheVariants as step
use Rattle.mh_script.specs.Faults.{handle_fault, value_fault, operands_fault, let_fault, pair_fault, body_fault}
use Rattle.mh_script.specs.Kinds.{fault_unless}
use Rattle.mh_script.specs.Lines.{said_then, value_operand, operation_of, let_line, pair_line, line_of}
use Rattle.mh_script.specs.Tokens.{register_of, is_assignable}
use Rattle.mh_script.specs.Written.{value_operand_text}
use Rattle.mh_script.proofs.Divisors.{said-parts}
use Rattle.mh_script.proofs.FaultlessOperations.{lower-none, unless-none, no_fault}
use Rattle.mh_base.proofs.LineTokens.{IsFullToken, AreFullTokens}
use Rattle.mh_script.proofs.Operands.{register-text}
use Rattle.mh_script.proofs.OperationsAgain.{lower-of_none}
use Rattle.mh_script.proofs.WrittenOperations.{operation-again}
use Rattle.mh_script.proofs.WrittenValues.{value-again}
use Rattle.mh_script.proofs.StandingLines.{StandsAfter, line_tokens, of_tokens, pair-again}

has_one : {A : Type 0} (x : A) (xs : List A) → (length (x ∷ xs) == 0) ≡ false
has_one x xs = false_from_ne_true (length (x ∷ xs) == 0) (λ e. let none = eqb-true (length (x ∷ xs)) 0 e in omega (arith, none))

-- ---- `return H`, and `value V`

return-again : (classes : List Class) (steps : List Step) (word operand : List ℕ) (l : Line) → AreFullTokens (word ∷ operand ∷ []) →
    body_fault classes steps (word ∷ operand ∷ []) ≡ None → line_of classes (word ∷ operand ∷ []) ≡ Ok l → word ≡ codes "return" →
    ◌≡◌ {A = Result Line ScriptKind} (Ok (line.End (end.Return (register_of operand)))) (Ok l) → StandsAfter classes steps l
return-again classes steps word operand l are none said is h =
    of_tokens classes steps (word ∷ operand ∷ []) l (ap (line_tokens classes) (sym (ok_is (line.End (end.Return (register_of operand))) l h))
    ∙ ap₂ (λ w t. w ∷ t ∷ []) (sym is) (register-text operand)) are none said

value_line-again : (classes : List Class) (steps : List Step) (token : List ℕ) (l : Line) → AreFullTokens (codes "value" ∷ token ∷ []) →
    value_fault classes steps token ≡ None → said_then (value_operand classes token) (λ v. Ok (line.End (end.Value v))) ≡ Ok l →
    StandsAfter classes steps l
value_line-again classes steps token l are none h =
    let made = said-parts (value_operand classes token) (λ v. Ok (line.End (end.Value v))) l h in
    let again = value-again classes token made.0 made.1 in
    of_tokens classes steps (codes "value" ∷ value_operand_text classes made.0 ∷ []) l
    (ap (line_tokens classes) (sym (ok_is (line.End (end.Value made.0)) l made.2)))
    (are.0, (again.token are.1.0, tt))
    (again.faults steps none)
    (ap (λ r. said_then r (λ v. Ok (line.End (end.Value v)))) again.said ∙ made.2)

ending-again : (classes : List Class) (steps : List Step) (word operand : List ℕ) (l : Line) → AreFullTokens (word ∷ operand ∷ []) →
    body_fault classes steps (word ∷ operand ∷ []) ≡ None → line_of classes (word ∷ operand ∷ []) ≡ Ok l → StandsAfter classes steps l
ending-again classes steps word operand l are none said = cases (bytes_eq word (codes "return")) (bytes_eq word (codes "value")) refl refl none said
  where
    cases : (r v : Bool) → bytes_eq word (codes "return") ≡ r → bytes_eq word (codes "value") ≡ v →
        (if r then handle_fault steps operand else (if v then value_fault classes steps operand else Some BadLine)) ≡ None →
        (if r then Ok (line.End (end.Return (register_of operand)))
        else said_then (value_operand classes operand) (λ u. Ok (line.End (end.Value u)))) ≡ Ok l → StandsAfter classes steps l
    cases true v returns values fault h = return-again classes steps word operand l are none said (same_text word (codes "return") returns) h
    cases false true returns values fault h =
        value_line-again classes steps operand l (subst IsFullToken (same_text word (codes "value") values) are.0, are.1) fault h
    cases false false returns values fault h = absurd cc

-- ---- `let R OP`

-- a word without operands is `serial`
serial-only : (switches serial : Bool) → (if switches then Some BadLine else fault_unless serial BadLine) ≡ None → serial ≡ true
serial-only true serial h = absurd cc
serial-only false serial h = unless-none serial BadLine h

serial-again : (classes : List Class) (steps : List Step) (target word : List ℕ) (l : Line) → AreFullTokens (codes "let" ∷ target ∷ word ∷ []) →
    let_fault classes steps target word [] ≡ None → let_line classes target word [] ≡ Ok l → StandsAfter classes steps l
serial-again classes steps target word l are none said =
    let is : word ≡ codes "serial" = same_text word (codes "serial") (serial-only (bytes_eq word (codes "switch")) (bytes_eq word (codes "serial"))
    (lower-none _ _ none).1) in
    of_tokens classes steps (codes "let" ∷ target ∷ word ∷ []) l (ap (line_tokens classes) (sym (ok_is (line.Step (step.Serial target)) l said))
    ∙ ap (λ w. codes "let" ∷ target ∷ w ∷ []) (sym is)) are none said

let-again : (classes : List Class) (steps : List Step) (target word first : List ℕ) (rest : List (List ℕ)) (l : Line) →
    AreFullTokens (codes "let" ∷ target ∷ word ∷ first ∷ rest) → let_fault classes steps target word (first ∷ rest) ≡ None →
    let_line classes target word (first ∷ rest) ≡ Ok l → StandsAfter classes steps l
let-again classes steps target word first rest l are none said =
    let operation = operation_of classes word (first ∷ rest) in
    let serial : Result Line ScriptKind = Ok (line.Step (step.Serial target)) in
    let made = said-parts operation (λ op. Ok (line.Step (step.Let target op))) l
    (sym (ap (λ t. if t then serial else said_then operation (λ op. Ok (line.Step (step.Let target op)))) (has_one first rest)) ∙ said) in
    let again = operation-again classes word (first ∷ rest) made.0 made.1 in
    let parts = lower-none _ _ none in
    of_tokens classes steps (codes "let" ∷ target ∷ word ∷ again.written) l
    (ap (line_tokens classes) (sym (ok_is (line.Step (step.Let target made.0)) l made.2)) ∙ ap (λ ts. codes "let" ∷ target ∷ ts) again.are)
    (are.0, (are.1.0, (are.1.1.0, again.tokens are.1.1.1)))
    (lower-of_none (fault_unless (is_assignable target) BadLine) (operands_fault classes steps word again.written) parts.0 (again.faults steps parts.1))
    (ap (λ t. if t then serial else said_then (operation_of classes word again.written) (λ op. Ok (line.Step (step.Let target op)))) again.some
    ∙ ap (λ r. said_then r (λ op. Ok (line.Step (step.Let target op)))) again.said ∙ made.2)

-- ---- any line

pub line-again : (classes : List Class) (steps : List Step) (tokens : List (List ℕ)) (l : Line) → AreFullTokens tokens →
    body_fault classes steps tokens ≡ None → line_of classes tokens ≡ Ok l → StandsAfter classes steps l
line-again classes steps [] l are none said = absurd cc
line-again classes steps (word ∷ []) l are none said = absurd cc
line-again classes steps (word ∷ operand ∷ []) l are none said = ending-again classes steps word operand l are none said
line-again classes steps (word ∷ a ∷ b ∷ rest) l are none said = cases (bytes_eq word (codes "let")) refl rest are none said none said
  where
    alone : (ts : List (List ℕ)) → AreFullTokens (word ∷ a ∷ b ∷ ts) → body_fault classes steps (word ∷ a ∷ b ∷ ts) ≡ None →
        line_of classes (word ∷ a ∷ b ∷ ts) ≡ Ok l → (if length ts == 0 then pair_fault classes word a b else Some BadLine) ≡ None →
        pair_line classes word a b ≡ Ok l → StandsAfter classes steps l
    alone [] t n s fault h = pair-again classes steps word a b l t n s fault h
    alone (c ∷ cs) t n s fault h =
        no_fault BadLine (sym (ap (λ t. if t then pair_fault classes word a b else Some BadLine) (has_one c cs)) ∙ fault)

    assigned : (ts : List (List ℕ)) → AreFullTokens (codes "let" ∷ a ∷ b ∷ ts) → let_fault classes steps a b ts ≡ None → let_line classes a b ts ≡ Ok l →
        StandsAfter classes steps l
    assigned [] t fault h = serial-again classes steps a b l t fault h
    assigned (c ∷ cs) t fault h = let-again classes steps a b c cs l t fault h

    cases : (b' : Bool) → bytes_eq word (codes "let") ≡ b' → (ts : List (List ℕ)) → AreFullTokens (word ∷ a ∷ b ∷ ts) →
        body_fault classes steps (word ∷ a ∷ b ∷ ts) ≡ None → line_of classes (word ∷ a ∷ b ∷ ts) ≡ Ok l →
        (if b' then let_fault classes steps a b ts else (if length ts == 0 then pair_fault classes word a b else Some BadLine)) ≡ None →
        (if b' then let_line classes a b ts else pair_line classes word a b) ≡ Ok l → StandsAfter classes steps l
    cases true is ts t n s fault h = assigned ts (subst IsFullToken (same_text word (codes "let") is) t.0, t.1) fault h
    cases false is ts t n s fault h = alone ts t n s fault h
