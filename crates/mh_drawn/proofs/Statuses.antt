-- The status of an answer is not that of a text that could not be written, and without memory nothing is written.
use Rattle.std.proofs.Common.{◌≡◌, refl, sym, ◌∙◌, subst, ℕ, inl, inr, List, [], append-nil, Option, None, Some, arith}
use Rattle.std.specs.Io.KnownBytes.{Appends, Keeps}
use Rattle.mh_outside.specs.Contents.{Contents}
use Rattle.mh_words.specs.Words.{Named}
use Rattle.mh_drawn.specs.declared.stop.Stop.{Stop}
use Rattle.mh_drawn.specs.declared.stop.Stop.TheVariants.{NoMemory, ReadFault, TooLong, Fault, Place, FormsFull, TypesFull, NoSite}
use Rattle.mh_drawn.specs.Answer.{AnswersRequest, IsAnswerTo}
use Rattle.mh_drawn.specs.Lines.{stop_line, stop_status}
use Rattle.mh_drawn.specs.Status.{no_memory, write_failed}
use Rattle.mh_drawn.specs.Words.{Asked}

of-stop : (stop : Stop) → stop_status stop ≡ write_failed → ⊥
of-stop NoMemory is = omega (arith, is)
of-stop (ReadFault at) is = omega (arith, is)
of-stop (TooLong at) is = omega (arith, is)
of-stop (Fault at line kind) is = omega (arith, is)
of-stop (Place at place kind) is = omega (arith, is)
of-stop FormsFull is = omega (arith, is)
of-stop TypesFull is = omega (arith, is)
of-stop (NoSite number count) is = omega (arith, is)

module _ (files : List ℕ → Contents) (before now : List ℕ → ℕ) (status : ℕ) (text : List ℕ) (failed : status ≡ write_failed) where
  of-request : (asked : Asked) (names : Named) → AnswersRequest asked names files before now status text → ⊥
  of-request asked names (inl shown) = omega (arith, shown.0, failed)
  of-request asked names (inr stopped) = of-stop stopped.0 (sym stopped.2.0 ∙ failed)

  pub of-answer : (words : List (List ℕ)) → IsAnswerTo words files before now status text → ⊥
  of-answer words (inl usage) = omega (arith, usage.1.0, failed)
  of-answer words (inr answers) = of-request answers.0 answers.1 answers.3

-- ---- no memory

without-memory : (stop : Stop) → stop_status stop ≡ no_memory → stop_line stop ≡ []
without-memory NoMemory is = refl
without-memory (ReadFault at) is = absurd (omega (arith, is))
without-memory (TooLong at) is = absurd (omega (arith, is))
without-memory (Fault at line kind) is = absurd (omega (arith, is))
without-memory (Place at place kind) is = absurd (omega (arith, is))
without-memory FormsFull is = absurd (omega (arith, is))
without-memory TypesFull is = absurd (omega (arith, is))
without-memory (NoSite number count) is = absurd (omega (arith, is))

module _ (files : List ℕ → Contents) (before now : List ℕ → ℕ) (status : ℕ) (text : List ℕ) (wanted : status ≡ no_memory) where
  no-request : (asked : Asked) (names : Named) → AnswersRequest asked names files before now status text → text ≡ []
  no-request asked names (inl shown) = absurd (omega (arith, shown.0, wanted))
  no-request asked names (inr stopped) = stopped.2.1 ∙ without-memory stopped.0 (sym stopped.2.0 ∙ wanted)

  no-text : (words : List (List ℕ)) → IsAnswerTo words files before now status text → text ≡ []
  no-text words (inl usage) = absurd (omega (arith, usage.1.0, wanted))
  no-text words (inr answers) = no-request answers.0 answers.1 answers.3

appends-nothing : (old new : Option (List ℕ)) → Appends old new [] → Keeps old new
appends-nothing None new appends = appends
appends-nothing (Some xs) None appends = appends
appends-nothing (Some xs) (Some ys) appends = appends ∙ append-nil xs

-- an answer at the status for want of memory writes nothing
pub nothing :
    (files : List ℕ → Contents) (before now : List ℕ → ℕ) (status : ℕ) (text : List ℕ) (words : List (List ℕ)) (old new : Option (List ℕ)) →
    IsAnswerTo words files before now status text → Appends old new text → status ≡ no_memory → Keeps old new
nothing files before now status text words old new answers appends wanted =
    appends-nothing old new (subst (Appends old new) (no-text files before now status text wanted words answers) appends)

pub keeps : (known : Option (List ℕ)) → Keeps known known
keeps None = tt
keeps (Some xs) = refl
