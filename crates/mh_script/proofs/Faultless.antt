-- The tokens of a line that have no fault say something.
use Rattle.std.proofs.Common.{◌≡◌, refl, ℕ, ◌==◌, Bool, true, false, if◌then◌else◌, List, [], ◌∷◌, codes, length, Option, None, Some, is_some, Ok}
use Rattle.std.specs.Option.{option_map_or}
use Rattle.std.specs.Result.{is_ok}
use Rattle.std.specs.Str.{bytes_eq}
use Rattle.mh_values.specs.declared.class.Class.{Class}
use Rattle.mh_base.specs.Provided.{provided_some}
use Rattle.mh_script.specs.declared.form.One.{One}
use Rattle.mh_script.specs.declared.form.Two.{Two}
use Rattle.mh_script.specs.declared.form.Three.{Three}
use Rattle.mh_script.specs.declared.kinds.ScriptKind.TheVariants.{BadLine, BadLiteral}
use Rattle.mh_script.specs.declared.line.Line.TheVariants as line
use Rattle.mh_script.specs.declared.script.End.TheVariants as end
use Rattle.mh_script.specs.declared.script.Step.{Step}
use Rattle.mh_script.specs.declared.script.Step.TheVariants as step
use Rattle.mh_script.specs.Faults.{handle_fault, value_fault, fault_in, two_fault, three_fault, fixed_fault, switch_fault, let_fault, pair_fault, body_fault}
use Rattle.mh_script.specs.Forms.{one_form, two_form, three_form, one_place}
use Rattle.mh_script.specs.Kinds.{fault_unless, lower}
use Rattle.mh_script.specs.Lines.{said_then, value_operand, one_operation, two_operation, three_operation, fixed_operation, switch_operation, operation_of, let_line, pair_line, line_of}
use Rattle.mh_script.specs.Numbers.{fail_of}
use Rattle.mh_script.specs.Tokens.{register_of, text_literal}
use Rattle.mh_script.proofs.FaultlessOperations.{no_fault, lower-none, unless-none, some-then, ok-then, value-said, one-said, two-said, three-said, switch-said}

-- ---- words

one-choice : (classes : List Class) (steps : List Step) (o : Option One) (a : List ℕ) →
    option_map_or (λ form. fault_in classes steps (one_place form) a) o (Some BadLine) ≡ None →
    is_ok (provided_some o BadLine (λ form. one_operation form a)) ≡ true
one-choice classes steps (Some form) a h = one-said classes steps form a h
one-choice classes steps None a h = cc

two-choice : (classes : List Class) (steps : List Step) (o : Option Two) (a b : List ℕ) →
    option_map_or (λ form. two_fault classes steps form a b) o (Some BadLine) ≡ None →
    is_ok (provided_some o BadLine (λ form. two_operation classes form a b)) ≡ true
two-choice classes steps (Some form) a b h = two-said classes steps form a b h
two-choice classes steps None a b h = cc

three-choice : (classes : List Class) (steps : List Step) (o : Option Three) (a b c : List ℕ) →
    option_map_or (λ form. three_fault classes steps form a b c) o (Some BadLine) ≡ None →
    is_ok (provided_some o BadLine (λ form. three_operation classes form a b c)) ≡ true
three-choice classes steps (Some form) a b c h = three-said classes steps form a b c h
three-choice classes steps None a b c h = cc

-- an operation whose word takes a number of operands
fixed-said : (classes : List Class) (steps : List Step) (word a : List ℕ) (rest : List (List ℕ)) →
    fixed_fault classes steps word (a ∷ rest) ≡ None → is_ok (fixed_operation classes word (a ∷ rest)) ≡ true
fixed-said classes steps word a [] h = one-choice classes steps (one_form word) a h
fixed-said classes steps word a (b ∷ []) h = two-choice classes steps (two_form word) a b h
fixed-said classes steps word a (b ∷ c ∷ []) h = three-choice classes steps (three_form word) a b c h
fixed-said classes steps word a (b ∷ c ∷ d ∷ rest) h = no_fault BadLine h

-- ---- lines

let-said : (classes : List Class) (steps : List Step) (target word : List ℕ) (operands : List (List ℕ)) →
    let_fault classes steps target word operands ≡ None → is_ok (let_line classes target word operands) ≡ true
let-said classes steps target word [] h = refl
let-said classes steps target word (a ∷ rest) h = by-count (length (a ∷ rest) == 0)
  where
    by-word : (b : Bool) → (if b then switch_fault steps (a ∷ rest) else fixed_fault classes steps word (a ∷ rest)) ≡ None →
        is_ok (if b then switch_operation (a ∷ rest) else fixed_operation classes word (a ∷ rest)) ≡ true
    by-word true k = switch-said steps a rest k
    by-word false k = fixed-said classes steps word a rest k

    by-count : (none : Bool) →
        is_ok (if none then Ok (line.Step (step.Serial target))
        else said_then (operation_of classes word (a ∷ rest)) (λ op. Ok (line.Step (step.Let target op)))) ≡ true
    by-count true = refl
    by-count false =
        ok-then (operation_of classes word (a ∷ rest)) (λ op. Ok (line.Step (step.Let target op)))
        (by-word (bytes_eq word (codes "switch")) (lower-none _ _ h).1) (λ op. refl)

pair-choice : (fails raises : Bool) (step : Option Step) (class : Bool) (text : Option (List ℕ)) (first : List ℕ) →
    (if fails then fault_unless (is_some step) BadLine
    else (if raises then lower (fault_unless class BadLine) (fault_unless (is_some text) BadLiteral) else Some BadLine)) ≡ None →
    is_ok (if fails then provided_some step BadLine (λ s. Ok (line.Step s))
    else provided_some text BadLiteral (λ message. Ok (line.End (end.Raise first message)))) ≡ true
pair-choice true raises step class text first h = some-then step BadLine _ (unless-none _ BadLine h) (λ s. refl)
pair-choice false true step class text first h = some-then text BadLiteral _ (unless-none _ BadLiteral (lower-none _ _ h).1) (λ t. refl)
pair-choice false false step class text first h = cc

line-choice : (classes : List Class) (steps : List Step) (lets : Bool) (alone : Bool) (word a b : List ℕ) (rest : List (List ℕ)) →
    (if lets then let_fault classes steps a b rest else (if alone then pair_fault classes word a b else Some BadLine)) ≡ None →
    is_ok (if lets then let_line classes a b rest else pair_line classes word a b) ≡ true
line-choice classes steps true alone word a b rest h = let-said classes steps a b rest h
line-choice classes steps false true word a b rest h = pair-choice _ _ (fail_of a b) _ (text_literal classes b) a h
line-choice classes steps false false word a b rest h = cc

ending-choice : (classes : List Class) (steps : List Step) (returns values : Bool) (operand : List ℕ) →
    (if returns then handle_fault steps operand else (if values then value_fault classes steps operand else Some BadLine)) ≡ None →
    is_ok (if returns then Ok (line.End (end.Return (register_of operand)))
    else said_then (value_operand classes operand) (λ v. Ok (line.End (end.Value v)))) ≡ true
ending-choice classes steps true values operand h = refl
ending-choice classes steps false true operand h = ok-then (value_operand classes operand) _ (value-said classes steps operand h) (λ v. refl)
ending-choice classes steps false false operand h = cc

-- tokens without a fault say something
pub line-said : (classes : List Class) (steps : List Step) (tokens : List (List ℕ)) → body_fault classes steps tokens ≡ None →
    is_ok (line_of classes tokens) ≡ true
line-said classes steps [] h = cc
line-said classes steps (word ∷ []) h = cc
line-said classes steps (word ∷ operand ∷ []) h = ending-choice classes steps (bytes_eq word (codes "return")) (bytes_eq word (codes "value")) operand h
line-said classes steps (word ∷ a ∷ b ∷ rest) h = line-choice classes steps (bytes_eq word (codes "let")) (length rest == 0) word a b rest h
