-- Threads may share answers, and a lane for the lines of a thread may go to another thread.
use denote.Ref.{NamedLft}
use denote.Param.Send.{AllSync, IsSend, IsSync, recorded_sync, sendable, struct_sync, view_sync}
use denote.Struct.Declared.{shape}
use denote.Struct.Struct.{Struct}
use Rattle.std.proofs.Crossing.{crosses}
use Rattle.mh_base.proofs.seq.Seq.TheSendSync as seq
use Rattle.mh_base.specs.contracts.seq.Seq as Seq
use Rattle.mh_values.proofs.classes.Classes.TheSendSync as classes
use Rattle.mh_values.proofs.value.Exc.TheSendSync as exc
use Rattle.mh_values.proofs.value.Value.TheSendSync as value
use Rattle.mh_form.specs.contracts.calls.Calls as Calls
use Rattle.mh_handle.specs.contracts.answer.Answer as Answer
use Rattle.mh_handle.specs.contracts.answer.Answer.TheInside as inside
use Rattle.mh_report.specs.contracts.sharing.Lines as Lines
use Rattle.mh_report.specs.contracts.sharing.Printing as Printing

-- of leaf calls Rattle shows nothing by itself, since they have snapshots of their arguments
calls-sync : IsSync Calls.the_row
calls-sync = search (crosses, sendable) depth 20

-- the fields of an answer, and so the answer
inside-sync : IsSync inside.the_row
inside-sync =
    let s = shape inside.the_type in
    let parts : AllSync s.fields = (search (value.the_sync, exc.the_sync, crosses, sendable) depth 40, (calls-sync, (search sendable, tt))) in
    recorded_sync (Struct s) inside.the_type.D inside.the_type.to inside.the_type.to_one (struct_sync s parts)

answer-sync : IsSync Answer.the_row
answer-sync = view_sync inside.the_row _ _ _ _ inside-sync

-- the answers of a thread, and of all threads
answers-sync : IsSync (Seq.the_row Answer.the_row)
answers-sync = seq.the_sync Answer.the_row answer-sync

threads-sync : IsSync (Seq.the_row (Seq.the_row Answer.the_row))
threads-sync = seq.the_sync (Seq.the_row Answer.the_row) answers-sync

pub lines-send : (ℓ : NamedLft) → IsSend (Lines.the_row ℓ)
lines-send ℓ = let a = answers-sync in search (crosses, sendable) depth 40

pub printing-sync : (ℓ : NamedLft) → IsSync (Printing.the_row ℓ)
printing-sync ℓ =
    let t = threads-sync in
    let c = classes.the_sync in
    search (crosses, sendable) depth 40
