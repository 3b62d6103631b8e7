-- Lines of other numbers of tokens than scripts have, and words that name no operation.
use Rattle.std.proofs.Common.{◌≡◌, ◌<◌, refl, ap, ℕ, List, [], ◌∷◌, length, Option, None, Some, Err, arith}
use Rattle.std.specs.Option.{option_map_or}
use Rattle.mh_values.specs.declared.class.Class.{Class}
use Rattle.mh_script.specs.declared.form.One.{One}
use Rattle.mh_script.specs.declared.form.Two.{Two}
use Rattle.mh_script.specs.declared.form.Three.{Three}
use Rattle.mh_script.specs.declared.kinds.ScriptKind.TheVariants.{BadLine}
use Rattle.mh_script.specs.declared.script.Step.{Step}
use Rattle.mh_script.specs.Faults.{fault_in, two_fault, three_fault, fixed_fault, body_fault}
use Rattle.mh_script.specs.Forms.{one_form, two_form, three_form, one_place}
use Rattle.mh_script.specs.Lines.{line_of}

-- more than three operands
pub fixed_fault-more : (classes : List Class) (steps : List Step) (word : List ℕ) (tokens : List (List ℕ)) → 3 < length tokens →
    fixed_fault classes steps word tokens ≡ Some BadLine
fixed_fault-more classes steps word [] more = absurd (omega (arith, more))
fixed_fault-more classes steps word (a ∷ []) more = absurd (omega (arith, more))
fixed_fault-more classes steps word (a ∷ b ∷ []) more = absurd (omega (arith, more))
fixed_fault-more classes steps word (a ∷ b ∷ c ∷ []) more = absurd (omega (arith, more))
fixed_fault-more classes steps word (a ∷ b ∷ c ∷ d ∷ rest) more = refl

-- a word that names no operation with one operand
pub fixed_fault-one : (classes : List Class) (steps : List Step) (word : List ℕ) (tokens : List (List ℕ)) → length tokens ≡ 1 → one_form word ≡ None →
    fixed_fault classes steps word tokens ≡ Some BadLine
fixed_fault-one classes steps word [] count none = absurd (omega (arith, count))
fixed_fault-one classes steps word (a ∷ []) count none =
    ap (λ (o : Option One). option_map_or (λ form. fault_in classes steps (one_place form) a) o (Some BadLine)) none
fixed_fault-one classes steps word (a ∷ b ∷ rest) count none = absurd (omega (arith, count))

-- a word that names none with two
pub fixed_fault-two : (classes : List Class) (steps : List Step) (word : List ℕ) (tokens : List (List ℕ)) → length tokens ≡ 2 → two_form word ≡ None →
    fixed_fault classes steps word tokens ≡ Some BadLine
fixed_fault-two classes steps word [] count none = absurd (omega (arith, count))
fixed_fault-two classes steps word (a ∷ []) count none = absurd (omega (arith, count))
fixed_fault-two classes steps word (a ∷ b ∷ []) count none =
    ap (λ (o : Option Two). option_map_or (λ form. two_fault classes steps form a b) o (Some BadLine)) none
fixed_fault-two classes steps word (a ∷ b ∷ c ∷ rest) count none = absurd (omega (arith, count))

-- a word that names none with three
pub fixed_fault-three : (classes : List Class) (steps : List Step) (word : List ℕ) (tokens : List (List ℕ)) → length tokens ≡ 3 → three_form word ≡ None →
    fixed_fault classes steps word tokens ≡ Some BadLine
fixed_fault-three classes steps word [] count none = absurd (omega (arith, count))
fixed_fault-three classes steps word (a ∷ []) count none = absurd (omega (arith, count))
fixed_fault-three classes steps word (a ∷ b ∷ []) count none = absurd (omega (arith, count))
fixed_fault-three classes steps word (a ∷ b ∷ c ∷ []) count none =
    ap (λ (o : Option Three). option_map_or (λ form. three_fault classes steps form a b c) o (Some BadLine)) none
fixed_fault-three classes steps word (a ∷ b ∷ c ∷ d ∷ rest) count none = absurd (omega (arith, count))

-- at most one token
pub body_fault-few : (classes : List Class) (steps : List Step) (tokens : List (List ℕ)) → length tokens < 2 → body_fault classes steps tokens ≡ Some BadLine
body_fault-few classes steps [] few = refl
body_fault-few classes steps (a ∷ []) few = refl
body_fault-few classes steps (a ∷ b ∷ rest) few = absurd (omega (arith, few))

-- the same of what a line says
pub line_of-few : (classes : List Class) (tokens : List (List ℕ)) → length tokens < 2 → line_of classes tokens ≡ Err BadLine
line_of-few classes [] few = refl
line_of-few classes (a ∷ []) few = refl
line_of-few classes (a ∷ b ∷ rest) few = absurd (omega (arith, few))
