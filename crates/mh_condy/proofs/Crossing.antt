-- A pass over dynamic constants may go to another thread, and threads may share the table.
use denote.RattleType.{RattleType}
use denote.Ref.{NamedLft}
use denote.Param.Send.{IsSend, IsSync, sendable}
use Rattle.std.proofs.Crossing.{crosses}
use Rattle.mh_cells.proofs.cells.Cells.TheSendSync as cells
use Rattle.mh_cells.proofs.known.Known.TheSendSync as known
use Rattle.mh_tickets.proofs.seat.TicketSeat.TheSendSync as seat
use Rattle.mh_tickets.proofs.tickets.Tickets.TheSendSync as tickets
use Rattle.mh_leaves.proofs.leaves.Leaves.TheSendSync as leaves
use Rattle.mh_script.proofs.scripts.Scripts.TheSendSync as scripts
use Rattle.mh_jobs.proofs.const_jobs.ConstJobs.TheSendSync as jobs
use Rattle.mh_jobs.proofs.constants.ConstJob.TheSendSync as job
use Rattle.mh_condy.specs.declared.run.ConstRun.{Ghosts}
use Rattle.mh_condy.specs.contracts.constant.Const as Const
use Rattle.mh_condy.specs.contracts.known.KnownConsts as KnownConsts
use Rattle.mh_condy.specs.contracts.pass.ConstPass as ConstPass
use Rattle.mh_condy.specs.contracts.table.ConstTable as ConstTable
use Rattle.mh_condy.proofs.pass.ConstAttempt.TheSendSync as attempt
use Rattle.mh_condy.proofs.value.ConstValue.TheSendSync as value

module _ (t : NamedLft) (J : RattleType) (g : Ghosts J.Denot) (send : IsSend J) (sync : IsSync J) where
  -- what is recorded of a constant
  const_send : IsSend (Const.the_row t J g)
  const_send = let j = job.the_sync in let v = value.the_field_send in search (crosses, sendable) depth 20

  const_sync : IsSync (Const.the_row t J g)
  const_sync = let j = job.the_sync in let v = value.the_field_sync in search (crosses, sendable) depth 20

  -- what threads share
  pub table_sync : IsSync (ConstTable.the_row t J g)
  table_sync =
      let c = const_send in
      let d = const_sync in
      let j = jobs.the_sync in
      let p = scripts.the_sync in
      let l = leaves.the_sync in
      let k = tickets.the_sync in
      search (cells.the_sync, crosses, sendable) depth 40

  -- what each thread has of its own
  module _ (s : NamedLft) where
    known_send : IsSend (KnownConsts.the_row s t J g)
    known_send = let c = const_send in let d = const_sync in search (known.the_send, crosses, sendable) depth 40

    pub pass_send : IsSend (ConstPass.the_row s t J g)
    pass_send = let k = known_send in let a = attempt.the_send in let e = seat.the_send in search (crosses, sendable) depth 20
