-- A lane of a run may go to another thread, and threads may share what all of them use.
use denote.RattleType.{RattleType}
use denote.Ref.{NamedLft}
use denote.Param.Send.{AllSend, IsSend, IsSync, recorded_send, sendable, struct_send}
use denote.Struct.Declared.{shape}
use denote.Struct.Struct.{Struct}
use Rattle.std.proofs.Crossing.{crosses}
use Rattle.mh_cells.proofs.cells.Cells.TheSendSync as cells
use Rattle.mh_cells.proofs.known.Known.TheSendSync as known
use Rattle.mh_tickets.proofs.seat.TicketSeat.TheSendSync as seat
use Rattle.mh_handle.proofs.passes.Crossing.{answer-send, table-sync, pass-send as form_pass_send}
use Rattle.mh_intern.proofs.seat.TypeSeat.TheSendSync as types
use Rattle.mh_intern.proofs.table.TypeTable.TheSendSync as type_table
use Rattle.mh_leaves.proofs.leaves.Leaves.TheSendSync as leaves
use Rattle.mh_jobs.specs.declared.run.Run.{Ghosts}
use Rattle.mh_link.specs.Named.{run_of}
use Rattle.mh_condy.specs.declared.run.ConstRun.{Ghosts as ConstGhosts}
use Rattle.mh_condy.specs.contracts.pass.ConstPass as ConstPass
use Rattle.mh_condy.specs.contracts.table.ConstTable as ConstTable
use Rattle.mh_condy.proofs.Crossing as constants
use Rattle.mh_attempt.specs.contracts.constants.ConstantsOf as ConstantsOf
use Rattle.mh_attempt.proofs.linking.Crossing.{linkage-send, linkage-sync}
use Rattle.mh_attempt.proofs.error.WorkError.TheSendSync as error
use Rattle.mh_report.proofs.attempt.Attempt.TheSendSync as attempt
use Rattle.mh_base.proofs.seq.Seq.TheSendSync as seq
use Rattle.mh_base.specs.contracts.seq.Seq as Plan
use Rattle.mh_handle.specs.contracts.answer.Answer as Answer
use Rattle.mh_plan.specs.contracts.call.Call as Call
use Rattle.mh_plan.proofs.call.Call.TheSendSync as call
use Rattle.mh_jobs.proofs.jobs.Jobs.TheSendSync as jobs
use Rattle.mh_script.proofs.scripts.Scripts.TheSendSync as scripts
use Rattle.mh_tickets.proofs.tickets.Tickets.TheSendSync as tickets
use Rattle.mh_runtime.specs.contracts.known_sites.KnownSites as KnownSites
use Rattle.mh_runtime.specs.contracts.lane.Lane as Lane
use Rattle.mh_runtime.specs.contracts.linker.Linker as Linker
use Rattle.mh_runtime.specs.contracts.pass.Pass as Pass
use Rattle.mh_runtime.specs.contracts.site_linker.SiteLinker as SiteLinker
use Rattle.mh_runtime.specs.contracts.site_pass.SitePass as SitePass
use Rattle.mh_runtime.specs.contracts.stops.ThreadRun as ThreadRun

-- ---- the constants of a run

-- what names them
abbrev pub constants_of : (R : RattleType) (g : Ghosts R.Denot) → ConstGhosts (ConstantsOf.the_row R).Denot
constants_of R g = record { run = run_of g.given }

of-send : (R : RattleType) (g : Ghosts R.Denot) → IsSend R → IsSync R → IsSend (ConstantsOf.the_row R)
of-send R g send sync = search (crosses, sendable) depth 20

of-sync : (R : RattleType) (g : Ghosts R.Denot) → IsSend R → IsSync R → IsSync (ConstantsOf.the_row R)
of-sync R g send sync = search (crosses, sendable) depth 20

-- their table, which threads share
pub constants-sync : (t : NamedLft) (R : RattleType) (g : Ghosts R.Denot) → IsSend R → IsSync R →
    IsSync (ConstTable.the_row t (ConstantsOf.the_row R) (constants_of R g))
constants-sync t R g send sync =
    constants.table_sync t (ConstantsOf.the_row R) (constants_of R g) (of-send R g send sync) (of-sync R g send sync)

-- and a pass over it
constants-send : (s t : NamedLft) (R : RattleType) (g : Ghosts R.Denot) → IsSend R → IsSync R →
    IsSend (ConstPass.the_row s t (ConstantsOf.the_row R) (constants_of R g))
constants-send s t R g send sync =
    constants.pass_send t (ConstantsOf.the_row R) (constants_of R g) (of-send R g send sync) (of-sync R g send sync) s

-- ---- passes, by what was shown of their parts, since a search that goes down through them all runs out of steps

known-send : (s t : NamedLft) (R : RattleType) (g : Ghosts R.Denot) → IsSend R → IsSync R → IsSend (KnownSites.the_row s t R g)
known-send s t R g send sync =
    let l = linkage-send t R g send sync in
    let m = linkage-sync t R g send sync in
    search (known.the_send, crosses, sendable) depth 40

pub links-send : (s t : NamedLft) (R : RattleType) (g : Ghosts R.Denot) → IsSend R → IsSync R → IsSend (SitePass.the_row s t R g)
links-send s t R g send sync =
    let k = known-send s t R g send sync in
    let a = attempt.the_send in
    let e = seat.the_send in
    let c = constants-sync t R g send sync in
    let d = constants-send s t R g send sync in
    search (crosses, sendable) depth 20

-- a pass, for a thread that is given it; and as a field of what has one
pub pass-send : (s t : NamedLft) (R : RattleType) (g : Ghosts R.Denot) → IsSend R → IsSync R → IsSend (Pass.the_row s t R g)
pass-send s t R g send sync =
    let l = links-send s t R g send sync in
    let f = form_pass_send t in
    let h = types.the_send in
    search (crosses, sendable) depth 20

pass-field-send : (s t : NamedLft) (R : RattleType) (g : Ghosts R.Denot) → IsSend R → IsSync R → IsSend (Pass.the_field s t R g).row
pass-field-send s t R g send sync =
    let l = links-send s t R g send sync in
    let f = form_pass_send t in
    let h = types.the_send in
    search (crosses, sendable) depth 20

-- what the calls of a thread gave, as a field
run-field-send : IsSend ThreadRun.the_field.row
run-field-send =
    let a = seq.the_send Answer.the_row answer-send in
    let e = error.the_send in
    search (crosses, sendable) depth 20

-- ---- lanes

pub lane-send : (s t : NamedLft) (R : RattleType) (g : Ghosts R.Denot) → IsSend R → IsSync R → IsSend (Lane.the_row s t R g)
lane-send s t R g send sync =
    let lane = Lane.the_type s t R g in
    let fields = shape lane in
    let c = seq.the_sync Call.the_row call.the_sync in
    let ran = run-field-send in
    let parts : AllSend fields.fields =
    (pass-field-send s t R g send sync, (search (crosses, sendable) depth 20, (search (crosses, sendable) depth 20, tt))) in
    recorded_send (Struct fields) lane.D lane.to lane.to_one (struct_send fields parts)

-- ---- what threads share

sites-sync : (t : NamedLft) (R : RattleType) (g : Ghosts R.Denot) → IsSend R → IsSync R → IsSync (SiteLinker.the_row t R g)
sites-sync t R g send sync =
    let l = linkage-send t R g send sync in
    let m = linkage-sync t R g send sync in
    let j = jobs.the_sync in
    let p = scripts.the_sync in
    let k = tickets.the_sync in
    search (cells.the_sync, crosses, sendable) depth 40

-- a linker, which threads share
pub linker-sync : (t : NamedLft) (R : RattleType) (g : Ghosts R.Denot) → IsSend R → IsSync R → IsSync (Linker.the_row t R g)
linker-sync t R g send sync =
    let s = sites-sync t R g send sync in
    let l = leaves.the_sync in
    let y = type_table.the_sync in
    search (table-sync, crosses, sendable) depth 40

pub plan-sync : IsSync (Plan.the_row (Plan.the_row Call.the_row))
plan-sync = seq.the_sync (Plan.the_row Call.the_row) (seq.the_sync Call.the_row call.the_sync)
