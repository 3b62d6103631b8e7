-- A pass over a table of forms and an answer may go to another thread, and threads may share the table and its forms.
use denote.Ref.{NamedLft}
use denote.Param.Send.{AllSend, IsSend, IsSync, recorded_send, sendable, struct_send, view_send}
use denote.Struct.Declared.{shape}
use denote.Struct.Struct.{Struct}
use Rattle.std.proofs.Crossing.{crosses}
use Rattle.mh_values.proofs.value.Exc.TheSendSync as exc
use Rattle.mh_values.proofs.value.Value.TheSendSync as value
use Rattle.mh_form.specs.contracts.calls.Calls as Calls
use Rattle.mh_tickets.proofs.seat.TicketSeat.TheSendSync as tickets
use Rattle.mh_handle.proofs.form.Form.TheSendSync as form
use Rattle.mh_handle.proofs.table.FormTable.TheSendSync as table
use Rattle.mh_handle.proofs.walks.FormWalks.TheSendSync as walks
use Rattle.mh_handle.proofs.seen_forms.SeenForms.TheSendSync as seen
use Rattle.mh_handle.specs.contracts.answer.Answer as Answer
use Rattle.mh_handle.specs.contracts.answer.Answer.TheInside as inside
use Rattle.mh_handle.specs.contracts.form.Form as Form
use Rattle.mh_handle.specs.contracts.pass.FormPass as FormPass
use Rattle.mh_handle.specs.contracts.seat.FormSeat as FormSeat
use Rattle.mh_handle.specs.contracts.table.FormTable as FormTable

pub form-sync : IsSync Form.the_row
form-sync = form.the_sync

pub table-sync : IsSync FormTable.the_row
table-sync = table.the_sync

-- what Rattle shows of the seat's parts; of the seat itself it shows nothing, since the seat has a snapshot
seat-send : IsSend FormSeat.the_row
seat-send = let t = tickets.the_send in search (crosses, sendable) depth 20

-- by what was shown of each part, since a search that goes down through them all runs out of steps
pub pass-send : (ℓ : NamedLft) → IsSend (FormPass.the_row ℓ)
pass-send ℓ =
    let w = walks.the_send ℓ in
    let s = seen.the_send ℓ in
    let f = form.the_sync in
    let e = seat-send in
    search (crosses, sendable) depth 20

-- of leaf calls Rattle shows nothing by itself, since they have snapshots of their arguments
calls-send : IsSend Calls.the_row
calls-send = search (crosses, sendable) depth 20

-- the fields of an answer, and so the answer
inside-send : IsSend inside.the_row
inside-send =
    let s = shape inside.the_type in
    let parts : AllSend s.fields = (search (value.the_send, exc.the_send, crosses, sendable) depth 40, (calls-send, (search sendable, tt))) in
    recorded_send (Struct s) inside.the_type.D inside.the_type.to inside.the_type.to_one (struct_send s parts)

pub answer-send : IsSend Answer.the_row
answer-send = view_send inside.the_row _ _ _ _ inside-send
