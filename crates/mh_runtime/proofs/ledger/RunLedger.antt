-- The ledger of a run, from what its parts tell: the table, and the attempts sorted by their serials.
use Rattle.std.proofs.Common.{◌≡◌, sym, ◌∙◌, ap, subst, List, Option, length}
use Rattle.std.specs.List.Sorted.{IsNonDecreasingBy, IsPermutation}
use Rattle.mh_jobs.specs.Given.{Given}
use Rattle.mh_plan.specs.declared.call.Call.{Call}
use Rattle.mh_plan.specs.Naming.{naming_of}
use Rattle.mh_report.specs.declared.attempt.Attempt.{Attempt}
use Rattle.mh_report.specs.declared.table.Recorded.{Recorded}
use Rattle.mh_report.specs.Recorded.{recorded, serials_of}
use Rattle.mh_report.specs.Results.{Serials}
use Rattle.mh_runtime.specs.Attempts.{AreRecorded}
use Rattle.mh_runtime.specs.Joined.{AreDone, AreJoined, AreUsed, ThreadPasses}
use Rattle.mh_runtime.specs.Ledger.{Ledger}
use Rattle.mh_runtime.specs.Passes.{LinkPass}
use Rattle.mh_runtime.proofs.ledger.Ledger.{ledger, own-table}
use Rattle.mh_runtime.proofs.ledger.Numbers.{sorted-in_order}
use Rattle.mh_runtime.proofs.ledger.RecordedSites.{serials-recorded}

pub run-ledger : (given : Given) (threads : List (List Call)) (all : List ThreadPasses) (joined : LinkPass) (ordered : List Attempt)
    (table : List (Option Recorded)) → AreUsed given threads all → AreDone threads all → AreJoined all joined →
    table ≡ recorded given joined.linked → length joined.linked ≡ length given.jobs → AreRecorded joined joined.linked →
    IsPermutation joined.attempts ordered → IsNonDecreasingBy (λ (a : Attempt). a.serial) ordered →
    Ledger (naming_of threads) (length given.jobs) (serials_of table) ordered
run-ledger given threads all joined ordered table used done is_joined is entries own same up =
    let serials : joined.linked ≡ serials_of table = sym (ap serials_of is ∙ serials-recorded given joined.linked) in
    subst (λ (t : Serials). Ledger (naming_of threads) (length given.jobs) t ordered) serials
    (ledger given threads all joined ordered (length given.jobs) joined.linked used done is_joined
    (sorted-in_order given threads all used joined ordered is_joined same up) (own-table (length given.jobs) joined entries own))
