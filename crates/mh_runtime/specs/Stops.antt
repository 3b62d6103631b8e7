-- What the calls of a thread gave, up to the one that stopped it; and which stop a run reports of its threads.
use Rattle.std.specs.Prelude.{◌≡◌, ◌≢◌, ℕ, suc, ◌+◌, ◌<◌, ◌⊎◌, List, [], ◌∷◌, length, take, Option, None, Some, Result, Ok, Err, slice_get}
use Rattle.std.specs.Result.{result_err}
use Rattle.mh_handle.specs.declared.answer.Answer.{Answer}
use Rattle.mh_attempt.specs.declared.error.WorkError.{WorkError}
use Rattle.mh_attempt.specs.declared.error.WorkError.TheVariants.{NoMemory, FormsFull, TypesFull}
use Rattle.mh_plan.specs.declared.call.Call.{Call}
use Rattle.mh_runtime.specs.declared.stops.Stop.{Stop}
use Rattle.mh_runtime.specs.declared.stops.ThreadRun.{ThreadRun}

-- ---- one thread

-- the calls that were answered: as many of the first calls as there are answers
abbrev pub answered : List Answer → List Call → List Call
answered answers calls = take (length answers) calls

-- the calls that were begun: the answered ones, and the one that stopped the thread, if one did
abbrev pub begun : List Answer → List Call → List Call
begun answers calls = take (length answers + 1) calls

-- a thread that did not stop has answered all calls; one that stopped has answered those before one of them
abbrev pub EndAt : List Call → List Answer → Option WorkError → Type 0
EndAt calls answers None = length answers ≡ length calls
EndAt calls answers (Some e) = length answers < length calls

-- what the calls of a thread gave, by their answers and how they ended
abbrev pub run_of : List Answer → Result (Unit {0}) WorkError → ThreadRun
run_of answers made = record { answers = answers; stop = result_err made }

-- how calls ended that stopped so, as a result without a value
abbrev pub ending : Option WorkError → Result (Unit {0}) WorkError
ending None = Ok tt
ending (Some e) = Err e

-- the answers of a thread that has run
abbrev pub answers_in : Option ThreadRun → List Answer
answers_in None = []
answers_in (Some run) = run.answers

-- why it stopped, if it did
abbrev pub end_in : Option ThreadRun → Option WorkError
end_in None = None
end_in (Some run) = run.stop

-- ---- all threads of a run

-- the stop of a thread that ended so
abbrev pub stop_at : ℕ → Option WorkError → Option Stop
stop_at thread None = None
stop_at thread (Some e) = Some (record { thread = thread; error = e })

-- Which of two stops is reported, if the thread of the lower one found no number for a form. It is the higher one if that thread had no memory, since the form
-- numbers that it has drawn are not known then. Otherwise it is the lower one.
abbrev pub reported_over : WorkError → Stop → Stop → Stop
reported_over NoMemory low high = high
reported_over (FormsFull drawn) low high = low
reported_over (TypesFull bucket) low high = low

-- the reported one of the stops of two threads, with these errors: the lower one, except in the case above
abbrev pub reported_of : WorkError → WorkError → Stop → Stop → Stop
reported_of NoMemory above low high = low
reported_of (FormsFull drawn) above low high = reported_over above low high
reported_of (TypesFull bucket) above low high = low

-- the reported stop once one thread more has ended: the one reported before, and that of the thread
abbrev pub stop_after : Option Stop → Option Stop → Option Stop
stop_after None own = own
stop_after (Some low) None = Some low
stop_after (Some low) (Some high) = Some (reported_of low.error high.error low high)

-- the reported stop after more threads have ended, from this thread on
abbrev pub stops_after : ℕ → Option Stop → List (Option WorkError) → Option Stop
stops_after thread reported [] = reported
stops_after thread reported (end ∷ ends) = stops_after (suc thread) (stop_after reported (stop_at thread end)) ends

-- the reported stop of all threads, by how each of them ended
abbrev pub stop_of : List (Option WorkError) → Option Stop
stop_of ends = stops_after 0 None ends

-- lack of memory outside the threads
abbrev pub outside : Stop
outside = record { thread = 0; error = NoMemory }

-- this thread has stopped with this error, and none below it has stopped
pub record IsFirst (ends : List (Option WorkError)) (thread : ℕ) (e : WorkError) : Type 0 where
  pub own : slice_get ends thread ≡ Some (Some e)
  pub below : (lower : ℕ) (f : WorkError) → lower < thread → slice_get ends lower ≢ Some (Some f)

-- no thread below this one has stopped for lack of memory
abbrev pub HadMemory : List (Option WorkError) → ℕ → Type 0
HadMemory ends thread = (lower : ℕ) → lower < thread → slice_get ends lower ≢ Some (Some NoMemory)

-- Of threads that ended in this way, this stop is that of the lowest one that stopped. If that one found no number for a form, and some thread had no memory,
-- it is that of the lowest thread without memory.
abbrev pub IsReported : List (Option WorkError) → Stop → Type 0
IsReported ends stop =
    (IsFirst ends stop.thread stop.error × ((drawn : ℕ) → stop.error ≡ FormsFull drawn → HadMemory ends (length ends)))
    ⊎ ((stop.error ≡ NoMemory) × (slice_get ends stop.thread ≡ Some (Some NoMemory)) × HadMemory ends stop.thread
    × ((low : ℕ) × (drawn : ℕ) × IsFirst ends low (FormsFull drawn)))

-- the result of a run, with the error alone of a stop
abbrev pub error_of : {A : Type 0} → Result A Stop → Result A WorkError
error_of (Ok a) = Ok a
error_of (Err stop) = Err stop.error
