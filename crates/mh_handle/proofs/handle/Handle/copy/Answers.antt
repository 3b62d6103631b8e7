use Rattle.std.proofs.Common.{◌∙◌, ap, map, sym}
use Rattle.mh_form.specs.Run.{sense}
use Rattle.mh_intern.specs.Exchanges.{types_of}
use Rattle.mh_intern.specs.Views.{HoldView}
use Rattle.mh_handle.specs.Stands.{HandleView}
use Rattle.mh_handle.proofs.holding.UnformedHandles.{same-own, same-sides}
use Rattle.mh_handle.proofs.standing.Copying.{stands-copied}
use Rattle.mh_handle.proofs.handle.Handle.copy.Goals as goal

pub returns-clause-fields : goal.returns-clause-fields
returns-clause-fields c = λ table. rw (← c.self.view_is)
    (ap (map (sense table)) c.of.ensures.fields ∙ (c.in_ok-fields.ensures table ∙ ap (map (sense table)) c.as_slice.ensures.value))

pub returns-clause-stands : goal.returns-clause-stands
returns-clause-stands c = λ table t st.
    let same = c.in_ok-own.ensures.same ∙ ap (λ (h : HandleView). h.held) (sym c.self.view_is) in
    stands-copied table _ _ t (c.of.ensures.ty ∙ ap (λ (h : HoldView). h.entry.ty) (same-own _ _ _ _ same)) c.of.ensures.weight
    (c.of.ensures.sides ∙ ap types_of (same-sides _ _ _ _ same)) c.of.ensures.form
    (ap (map (sense table)) c.of.ensures.fields ∙ (c.in_ok-fields.ensures table ∙ ap (map (sense table)) c.as_slice.ensures.value))
    (rw (← c.self.view_is) at st)
