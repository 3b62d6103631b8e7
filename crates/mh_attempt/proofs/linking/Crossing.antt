-- What an attempt recorded may go to another thread, and threads may share it.
use denote.RattleType.{RattleType}
use denote.Ref.{NamedLft}
use denote.Param.Send.{IsSend, IsSync, sendable}
use Rattle.std.proofs.Crossing.{crosses}
use Rattle.mh_base.proofs.shared.Shared.TheSendSync as shared
use Rattle.mh_values.proofs.class.ClassId.TheSendSync as class
use Rattle.mh_values.proofs.types.Comp.TheSendSync as comp
use Rattle.mh_values.proofs.types.MethodTy.TheSendSync as method_type
use Rattle.mh_values.proofs.value.Exc.TheSendSync as exception
use Rattle.mh_values.proofs.value.LeafId.TheSendSync as leaf
use Rattle.mh_pieces.proofs.piece.Pieces.TheSendSync as pieces
use Rattle.mh_convert.proofs.conv.Conv.TheSendSync as conversion
use Rattle.mh_convert.proofs.conv.RetConv.TheSendSync as return_conversion
use Rattle.mh_form.proofs.body.FormBody.TheSendSync as body
use Rattle.mh_form.proofs.slot.Slot.TheSendSync as slot
use Rattle.mh_form.proofs.field.Field.TheLaws.TheKnot.{crosses_both}
use Rattle.mh_form.specs.contracts.field.Bound as Bound
use Rattle.mh_handle.proofs.form.Form.TheSendSync as form
use Rattle.mh_handle.specs.contracts.handle.Handle as Handle
use Rattle.mh_jobs.proofs.job.Job.TheSendSync as job
use Rattle.mh_jobs.specs.declared.run.Run.{Ghosts}
use Rattle.mh_attempt.specs.contracts.linkage.Linkage as Linkage
use Rattle.mh_attempt.specs.contracts.linkage.Linked as Linked

-- ---- fields, which may be bodies with fields of their own

bound-send : (ℓ : NamedLft) → IsSend (Bound.the_field ℓ).row
bound-send ℓ =
    let a = slot.the_field_send in let b = slot.the_field_sync in
    let c = leaf.the_field_send in let d = leaf.the_field_sync in
    let e = class.the_field_send in let f = class.the_field_sync in
    let g = conversion.the_field_send in let h = conversion.the_field_sync in
    let i = return_conversion.the_field_send in let j = return_conversion.the_field_sync in
    let k = comp.the_field_send in let l = comp.the_field_sync in
    let m = pieces.the_send in let n = pieces.the_sync in
    let o = body.the_sync in
    search (crosses_both, crosses, sendable) depth 20

bound-sync : (ℓ : NamedLft) → IsSync (Bound.the_field ℓ).row
bound-sync ℓ =
    let a = slot.the_field_send in let b = slot.the_field_sync in
    let c = leaf.the_field_send in let d = leaf.the_field_sync in
    let e = class.the_field_send in let f = class.the_field_sync in
    let g = conversion.the_field_send in let h = conversion.the_field_sync in
    let i = return_conversion.the_field_send in let j = return_conversion.the_field_sync in
    let k = comp.the_field_send in let l = comp.the_field_sync in
    let m = pieces.the_send in let n = pieces.the_sync in
    let o = body.the_sync in
    search (crosses_both, crosses, sendable) depth 20

-- ---- handles, by what was shown of their parts, since a search that goes down through them all runs out of steps

handle-send : (ℓ : NamedLft) → IsSend (Handle.the_row ℓ)
handle-send ℓ =
    let t = method_type.the_send in let u = method_type.the_sync in
    let f = form.the_sync in
    let b = bound-send ℓ in
    search (shared.the_send, crosses, sendable) depth 20

handle-sync : (ℓ : NamedLft) → IsSync (Handle.the_row ℓ)
handle-sync ℓ =
    let t = method_type.the_send in let u = method_type.the_sync in
    let f = form.the_sync in
    let b = bound-sync ℓ in
    search (shared.the_sync, crosses, sendable) depth 20

-- ---- linkages

linked-send : (ℓ : NamedLft) → IsSend (Linked.the_field ℓ).row
linked-send ℓ =
    let h = handle-send ℓ in
    let e = exception.the_send in
    search (crosses, sendable) depth 20

linked-sync : (ℓ : NamedLft) → IsSync (Linked.the_field ℓ).row
linked-sync ℓ =
    let h = handle-sync ℓ in
    let e = exception.the_sync in
    search (crosses, sendable) depth 20

pub linkage-send : (ℓ : NamedLft) (R : RattleType) (g : Ghosts R.Denot) → IsSend R → IsSync R → IsSend (Linkage.the_row ℓ R g)
linkage-send ℓ R g send sync =
    let j = job.the_sync in
    let l = linked-send ℓ in
    search (crosses, sendable) depth 20

pub linkage-sync : (ℓ : NamedLft) (R : RattleType) (g : Ghosts R.Denot) → IsSend R → IsSync R → IsSync (Linkage.the_row ℓ R g)
linkage-sync ℓ R g send sync =
    let j = job.the_sync in
    let l = linked-sync ℓ in
    search (crosses, sendable) depth 20
