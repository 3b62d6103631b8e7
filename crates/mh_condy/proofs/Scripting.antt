-- The lines of a constant's script, and the registers after them.
use Rattle.std.proofs.Common.{◌≡◌, refl, ◌∙◌, ap, ap₂, ℕ, Bool, true, false, not, ◌||◌, if◌then◌else◌, List, [], ◌∷◌, Ok, Err, pos}
use Rattle.std.specs.Prelude.{◌%◌, ◌==◌, codes, ok_or, slice_get}
use Rattle.std.specs.List.{list_any}
use Rattle.std.specs.Str.{bytes_eq}
use Rattle.mh_values.specs.declared.class.Class.{Class}
use Rattle.mh_values.specs.declared.value.Exc.{Exc}
use Rattle.mh_values.specs.declared.value.Num.TheVariants as num
use Rattle.mh_values.specs.declared.value.Value.{Value}
use Rattle.mh_values.specs.declared.value.Value.TheVariants as values
use Rattle.mh_values.specs.Exception.{saying}
use Rattle.mh_script.specs.declared.operand.Register.TheVariants as register
use Rattle.mh_script.specs.declared.script.End.{End}
use Rattle.mh_script.specs.declared.script.Step.{Step}
use Rattle.mh_script.specs.declared.script.Step.TheVariants as step
use Rattle.mh_jobs.specs.Thrown.{OrThrown, ◌>>=◌, ◌>>◌, require, runtime_class}
use Rattle.mh_link.specs.ConstScripts.{ConstFrame, const_ended, const_ran, value_argument, value_held}
use Rattle.mh_link.specs.Operands.{no_argument}
use Rattle.mh_condy.specs.Lines.{argument_at, frame_after, is_assigned, lines_pass}
use Rattle.mh_condy.specs.Told.{Tells}
use Rattle.mh_condy.specs.declared.thrown.Failure.{Failure}
use Rattle.mh_condy.specs.declared.thrown.Failure.TheVariants.{NoMemory, Thrown}

-- lines assign registers, and change nothing else of a frame
pub frame-name : (steps : List Step) (frame : ConstFrame) → (frame_after steps frame).name ≡ frame.name
frame-name [] frame = refl
frame-name (step.Let name op ∷ steps) frame = frame-name steps frame
frame-name (step.Serial name ∷ steps) frame = frame-name steps (record frame { assigned = name ∷ frame.assigned })
frame-name (step.FailMod modulus remainder ∷ steps) frame = frame-name steps frame

pub frame-arguments : (steps : List Step) (frame : ConstFrame) → (frame_after steps frame).arguments ≡ frame.arguments
frame-arguments [] frame = refl
frame-arguments (step.Let name op ∷ steps) frame = frame-arguments steps frame
frame-arguments (step.Serial name ∷ steps) frame = frame-arguments steps (record frame { assigned = name ∷ frame.assigned })
frame-arguments (step.FailMod modulus remainder ∷ steps) frame = frame-arguments steps frame

pub frame-serial : (steps : List Step) (frame : ConstFrame) → (frame_after steps frame).serial ≡ frame.serial
frame-serial [] frame = refl
frame-serial (step.Let name op ∷ steps) frame = frame-serial steps frame
frame-serial (step.Serial name ∷ steps) frame = frame-serial steps (record frame { assigned = name ∷ frame.assigned })
frame-serial (step.FailMod modulus remainder ∷ steps) frame = frame-serial steps frame

abbrev has : List (List ℕ) → List ℕ → Bool
has registers name = list_any (λ a. bytes_eq a name) registers

turn : (a b c : Bool) → (b || (a || c)) ≡ ((a || b) || c)
turn true true c = refl
turn true false c = refl
turn false true c = refl
turn false false c = refl

-- a register is assigned if a line of the script does it, or it was before
pub frame-assigned : (steps : List Step) (frame : ConstFrame) (name : List ℕ) →
    has (frame_after steps frame).assigned name ≡ (is_assigned steps name || has frame.assigned name)
frame-assigned [] frame name = refl
frame-assigned (step.Let register op ∷ steps) frame name = frame-assigned steps frame name
frame-assigned (step.Serial register ∷ steps) frame name =
    frame-assigned steps (record frame { assigned = register ∷ frame.assigned }) name
    ∙ turn (bytes_eq register name) (is_assigned steps name) (has frame.assigned name)
frame-assigned (step.FailMod modulus remainder ∷ steps) frame name = frame-assigned steps frame name

abbrev failmod : Exc
failmod = saying runtime_class (codes "failmod")

-- lines pass, and then the last one ends; or the first that throws does
pub ran-lines : (classes : List Class) (steps : List Step) (end : End) (frame : ConstFrame) →
    const_ran classes steps end frame ≡ (lines_pass frame.serial steps >> const_ended classes end (frame_after steps frame))
ran-lines classes [] end frame = refl
ran-lines classes (step.Let name op ∷ steps) end frame = refl
ran-lines classes (step.Serial name ∷ steps) end frame = ran-lines classes steps end (record frame { assigned = name ∷ frame.assigned })
ran-lines classes (step.FailMod modulus remainder ∷ steps) end frame =
    cases (not (frame.serial % modulus == remainder)) (ran-lines classes steps end frame)
  where
    cases : (holds : Bool) →
        const_ran classes steps end frame ≡ (lines_pass frame.serial steps >> const_ended classes end (frame_after steps frame)) →
        ((require holds failmod >> Ok frame) >>= const_ran classes steps end)
        ≡ ((require holds failmod >> lines_pass frame.serial steps) >> const_ended classes end (frame_after steps frame))
    cases true rest = rest
    cases false rest = refl

module _ (classes : List Class) (steps : List Step) (end : End) (frame : ConstFrame) where
  -- the end of lines of which one throws
  pub ran-fails : (failure : Failure) → Tells (Err failure) (lines_pass frame.serial steps) → Tells (Err failure) (const_ran classes steps end frame)
  ran-fails NoMemory h = tt
  ran-fails (Thrown e) h =
      ran-lines classes steps end frame ∙ ap (λ (r : OrThrown (Unit {0})). r >> const_ended classes end (frame_after steps frame)) h

  -- and of lines that pass
  pub ran-ends : lines_pass frame.serial steps ≡ Ok tt → const_ran classes steps end frame ≡ const_ended classes end (frame_after steps frame)
  ran-ends h = ran-lines classes steps end frame ∙ ap (λ (r : OrThrown (Unit {0})). r >> const_ended classes end (frame_after steps frame)) h

-- ---- registers

module _ (steps : List Step) (start : ConstFrame) where
  pub held-name : value_held (frame_after steps start) register.SiteName ≡ Ok (values.Text start.name)
  held-name = ap (λ n. Ok (values.Text n)) (frame-name steps start)

  pub held-argument : (n : ℕ) → value_held (frame_after steps start) (register.Argument n) ≡ argument_at start.arguments n
  held-argument n = ap (λ xs. ok_or (slice_get xs n) no_argument >>= value_argument) (frame-arguments steps start)

  -- a register by whether a line has assigned it
  abbrev held_if : Bool → ℕ → OrThrown Value
  held_if holds serial = if holds then Ok (values.Boxed (num.J (pos serial))) else Err no_argument

  pub held-assigned : (name : List ℕ) (holds : Bool) → is_assigned steps name ≡ holds → start.assigned ≡ [] →
      value_held (frame_after steps start) (register.Assigned name) ≡ held_if holds start.serial
  held-assigned name holds is none =
      ap₂ held_if
      (frame-assigned steps start name
      ∙ (ap (λ rs. is_assigned steps name || has rs name) none ∙ (ap (λ b. b || false) is ∙ alone holds)))
      (frame-serial steps start)
    where
      alone : (b : Bool) → (b || false) ≡ b
      alone true = refl
      alone false = refl
