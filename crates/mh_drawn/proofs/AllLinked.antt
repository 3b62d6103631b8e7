-- What is known of the call sites once all that is known of constants was recorded by the attempts at them.
use Rattle.std.proofs.Common.{ℕ, ◌≤◌, List, length}
use Rattle.mh_intern.specs.Views.{SeatView}
use Rattle.mh_handle.specs.Passes.{PassView}
use Rattle.mh_jobs.specs.Given.{Given}
use Rattle.mh_link.specs.Constants.{Serials, values_of}
use Rattle.mh_link.specs.Named.{run_of}
use Rattle.mh_condy.specs.Nodes.{found_in, serials_in}
use Rattle.mh_condy.specs.Passes as consts
use Rattle.mh_condy.specs.Passes.{IsPass}
use Rattle.mh_condy.specs.Trails.{HasPutAll, trail_of}
use Rattle.mh_attempt.specs.declared.error.WorkError.{WorkError}
use Rattle.mh_attempt.specs.declared.error.WorkError.TheVariants as work
use Rattle.mh_attempt.specs.Linkage.{LinkageView}
use Rattle.mh_drawn.specs.Linked.{AreConstantsOf, AreLinkages, HasLinked, HasStopped, HasStoppedAt, IsLinked, OfFirstSites, StopsAttempts, StopsLinking}
use Rattle.mh_drawn.proofs.Numbered.{all-numbered, gives-known, linkages-by}

module _ (given : Given) (constants : AreConstantsOf given) (forms : PassView) (types : SeatView) (q : consts.PassView) (is : IsPass (run_of given) q)
    (put : HasPutAll (trail_of q)) where
  abbrev table : Serials
  table = serials_in q.known

  -- where one of the attempts stopped
  stopped : (e : WorkError) (count : ℕ) → count ≤ length given.jobs → HasStoppedAt given count forms types q e →
      OfFirstSites given (λ g n. HasStopped g n forms types e)
  stopped e count few at = (
    count,
    table,
    few,
    all-numbered given constants count q at.0 is put,
    at.1 (values_of (run_of given) table) (gives-known given constants count q at.0 is put),
  )

  pub stops-linking : (e : WorkError) → StopsAttempts given forms types q e → StopsLinking given forms types e
  stops-linking work.NoMemory stops = tt
  stops-linking (work.FormsFull drawn) stops = stopped (work.FormsFull drawn) stops.0 stops.1 stops.2
  stops-linking (work.TypesFull bucket) stops = stopped (work.TypesFull bucket) stops.0 stops.1 stops.2

  -- where all were made
  pub all-linked : (linkages : List LinkageView) → HasLinked given (length given.jobs) forms types q →
      AreLinkages (found_in q.known) (length given.jobs) linkages → IsLinked given forms linkages
  all-linked linkages linked are = record {
    table = table;
    numbered = all-numbered given constants (length given.jobs) q linked.resolved is put;
    asked = (linked.asked_for (values_of (run_of given) table) (gives-known given constants (length given.jobs) q linked.resolved is put)).asked;
    each = linkages-by given constants (length given.jobs) q linked.resolved is put (length given.jobs) linkages are;
  }
