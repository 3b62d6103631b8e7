-- Lines of threads that threads write beside each other.
use Rattle.std.proofs.Common.{
  ◌≡◌,
  sym,
  ◌∙◌,
  ap,
  subst,
  ℕ,
  ◌+◌,
  ◌<◌,
  List,
  [],
  ◌∷◌,
  ◌++◌,
  length,
  length-append,
  slice_get,
  Option,
  Some,
  Result,
  Ok,
  Err,
  inl,
  inr,
}
use Rattle.std.specs.Prelude.{IfSome, OnOk, slice_index_or}
use Rattle.std.specs.declared.alloc.Global.{Global}
use Rattle.std.specs.declared.vec.Vec.{Vec}
use Rattle.std.proofs.lemmas.Option.{slice_get-get_or, slice_get_within}
use Rattle.mh_base.specs.declared.memory.NoMemory.{NoMemory}
use Rattle.mh_base.proofs.Slices.{slice_get-push}
use Rattle.mh_values.specs.declared.class.Class.{Class}
use Rattle.mh_handle.specs.declared.answer.Answer.{Answer}
use Rattle.mh_report.specs.declared.sharing.Lines.{Lines}
use Rattle.mh_report.specs.Results.{results_said, thread_said}
use Rattle.mh_report.specs.Sharing.{AreLinesOf, AreWritten, IsWritten}
use Rattle.mh_report.specs.Text.{thread_text, threads_text}
use Rattle.mh_report.proofs.Running.{threads_text-more}

-- a lane for the lines of one thread more
pub lines-more : (threads : List (List Answer)) (lanes : List Lines) (lane : Lines) → AreLinesOf threads lanes → lane.number ≡ length lanes →
    slice_get threads (length lanes) ≡ Some lane.answers.now → AreLinesOf threads (lanes ++ lane ∷ [])
lines-more threads lanes lane are number answers = λ i other at.
    elim (slice_get-push lanes lane i other at) [
      | inl w ↦ are i other w
      | inr w ↦ subst (λ (l : Lines). (l.number ≡ i) × (slice_get threads i ≡ Some l.answers.now)) w.1
          (number ∙ sym w.0, ap (slice_get threads) w.0 ∙ answers)
    ]

-- the lines of one thread more are put at the end
pub written-more : (classes : List Class) (threads : List (List Answer)) (front : List ℕ) (before : List Lines) (lane : Lines) (n : ℕ) (old new : List ℕ)
    (lines : Vec ℕ Global) → AreLinesOf threads before → n < length before → IsWritten classes (slice_index_or before n lane) lane →
    lane.text ≡ Some lines → new ≡ old ++ lines.items → AreWritten classes threads front n old → AreWritten classes threads front (n + 1) new
written-more classes threads front before lane n old new lines are within written here new_is left =
    let first : Lines = slice_index_or before n lane in
    let is : (first.number ≡ n) × (slice_get threads n ≡ Some first.answers.now) = are n first (slice_get-get_or before n lane within) in
    let text : lines.items ≡ thread_text classes first.number (thread_said first.answers.now) =
    subst (λ (o : Option (Vec ℕ Global)). IfSome o (λ t. t.items ≡ thread_text classes first.number (thread_said first.answers.now))) here written in
    threads_text-more classes threads n first.answers.now old new (front ++ threads_text classes 0 (results_said threads))
    (slice_get_within threads n first.answers.now is.1) is.1
    (new_is ∙ ap (λ t. old ++ t) (text ∙ ap (λ k. thread_text classes k (thread_said first.answers.now)) is.0)) left

-- a lane more is joined
pub joined-push : (classes : List Class) (threads : List (List Answer)) (front : List ℕ) (before after : List Lines) (lane : Lines) (old new : List ℕ)
    (lines : Vec ℕ Global) (result : Result (Unit {0}) NoMemory) → AreLinesOf threads before → length after < length before →
    IsWritten classes (slice_index_or before (length after) lane) lane → lane.text ≡ Some lines → OnOk result (new ≡ old ++ lines.items) →
    AreWritten classes threads front (length after) old →
    OnOk result (AreLinesOf threads before × AreWritten classes threads front (length (after ++ lane ∷ [])) new)
joined-push classes threads front before after lane old new lines (Ok done) are within written here new_is left = (
  are,
  subst (λ n. AreWritten classes threads front n new) (sym (length-append after (lane ∷ [])))
      (written-more classes threads front before lane (length after) old new lines are within written here new_is left),
)
joined-push classes threads front before after lane old new lines (Err e) are within written here new_is left = tt
