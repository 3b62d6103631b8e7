-- The lines of threads, which threads write beside each other.
use Rattle.std.specs.Prelude.{◌≡◌, ℕ, ◌++◌, List, Some, IfSome, drop, slice_get}
use Rattle.mh_values.specs.declared.class.Class.{Class}
use Rattle.mh_handle.specs.declared.answer.Answer.{Answer}
use Rattle.mh_report.specs.declared.sharing.Lines.{Lines}
use Rattle.mh_report.specs.Results.{results_said, thread_said}
use Rattle.mh_report.specs.Text.{thread_text, threads_text}

-- these are for the lines of the first threads, in their order
abbrev pub AreLinesOf : List (List Answer) → List Lines → Type 0
AreLinesOf threads lanes =
    (i : ℕ) (lane : Lines) → slice_get lanes i ≡ Some lane → (lane.number ≡ i) × (slice_get threads i ≡ Some lane.answers.now)

-- the lines are those of the thread, if they could be written
abbrev pub IsWritten : List Class → Lines → Lines → Type 0
IsWritten classes old new = IfSome new.text (λ text. text.items ≡ thread_text classes old.number (thread_said old.answers.now))

-- after the lines of this many threads: those of the others are left
abbrev pub AreWritten : List Class → List (List Answer) → List ℕ → ℕ → List ℕ → Type 0
AreWritten classes threads front count text =
    text ++ threads_text classes count (results_said (drop count threads)) ≡ front ++ threads_text classes 0 (results_said threads)
