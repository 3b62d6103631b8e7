use denote.Ref.{Bor}
use Rattle.std.proofs.Common.{◌≡◌, sym, ap, ◌∙◌, ℕ, ◌<◌, ◌≤◌, false, true, if◌then◌else◌, nat_le, List, [], ◌∷◌, length, map, Option, Some, arith}
use Rattle.std.proofs.lemmas.Bool.Decides.{nat_tests}
use Rattle.std.proofs.lemmas.List.{length-drop, length-map}
use Rattle.mh_script.specs.declared.kinds.ScriptKind.{ScriptKind}
use Rattle.mh_script.specs.declared.kinds.ScriptKind.TheVariants.{BadLine}
use Rattle.mh_script.specs.declared.script.Step.{Step}
use Rattle.mh_script.specs.Faults.{handles_fault, switch_fault}
use Rattle.mh_script.proofs.fault.switch_fault.Goals as goal

above : (n m : ℕ) → m < n → nat_le n m ≡ false
above n m more = grind (arith, nat_tests)

within : (n m : ℕ) → n ≤ m → nat_le n m ≡ true
within n m few = grind (arith, nat_tests)

-- there are too many tokens
many-cases : (steps : List Step) (tokens : List (Bor (List ℕ))) → 17 < length tokens → Some BadLine ≡ switch_fault steps (map (λ t. t.now) tokens)
many-cases steps [] many = absurd (omega (arith, many))
many-cases steps (f ∷ []) many = absurd (omega (arith, many))
many-cases steps (f ∷ c ∷ cs) many =
    let others = map (λ (t : Bor (List ℕ)). t.now) cs in
    let size = length-map cs (λ (t : Bor (List ℕ)). t.now) in
    sym (ap (λ b. if b then handles_fault steps (f.now ∷ c.now ∷ others) else Some BadLine) (above (length others) 15 (omega (arith, many, size))))

-- there are enough, and not too many
some-cases : (steps : List Step) (tokens : List (Bor (List ℕ))) (kind : Option ScriptKind) → 2 ≤ length tokens → length tokens ≤ 17 →
    kind ≡ handles_fault steps (map (λ t. t.now) tokens) → kind ≡ switch_fault steps (map (λ t. t.now) tokens)
some-cases steps [] kind some few is = absurd (omega (arith, some))
some-cases steps (f ∷ []) kind some few is = absurd (omega (arith, some))
some-cases steps (f ∷ c ∷ cs) kind some few is =
    let others = map (λ (t : Bor (List ℕ)). t.now) cs in
    let size = length-map cs (λ (t : Bor (List ℕ)). t.now) in
    is ∙ sym (ap (λ b. if b then handles_fault steps (f.now ∷ c.now ∷ others) else Some BadLine) (within (length others) 15 (omega (arith, few, size))))

pub returns-then-others-gt-MOST_OTHER_CASES : goal.returns-then-others-gt-MOST_OTHER_CASES
returns-then-others-gt-MOST_OTHER_CASES c =
    let many : 17 < length c.args.operands.now = omega (arith, length-drop {A = Bor (List ℕ)}) in
    many-cases c.args.steps.now c.args.operands.now many

pub returns : goal.returns
returns c =
    let some : 2 ≤ length c.args.operands.now = omega (arith, length-drop {A = Bor (List ℕ)}) in
    let few : length c.args.operands.now ≤ 17 = omega (arith, length-drop {A = Bor (List ℕ)}) in
    some-cases c.args.steps.now c.args.operands.now c.handles_fault.result some few c.handles_fault.ensures
