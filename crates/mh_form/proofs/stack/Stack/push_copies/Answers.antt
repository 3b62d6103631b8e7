use Rattle.std.proofs.Common.{◌≡◌, ◌≢◌, None, sym, ap, ◌∙◌}
use Rattle.std.specs.Prelude.{slice_get}
use Rattle.mh_base.proofs.Inversion.{map_some}
use Rattle.mh_form.specs.Run.{picked}
use Rattle.mh_form.specs.Stack.{StackView, with_slot}
use Rattle.mh_form.proofs.Picks.{copies-none, copies-next, whole-next}
use Rattle.mh_form.proofs.stack.Stack.push_copies.Goals as goal

pub push_copy_at-requires : goal.push_copy_at-requires
push_copy_at-requires c =
    let F = c.args.self.now.frame in
    let places = c.as_slice-place-items.result.now in
    let there : picked F places ≢ None = λ h. c.requires (ap (picked F) (sym c.as_slice-place-items.ensures) ∙ h) in
    λ none. there (copies-none F c.loop-place.self.frame (picked F places) places c.loop-place.place-index c.loop-place-test.true
    c.loop-place.invariant.whole c.loop-place.invariant.copies none)

pub loop-place-preserved : goal.loop-place-preserved
loop-place-preserved c =
    let F = c.args.self.now.frame in
    let G = c.loop-place.self.frame in
    let items = c.as_slice-place-items.result.now in
    let put = map_some (with_slot c.loop-place.self) (slice_get G _) _ c.in_ok-push_copy_at.ensures in
    let e = sym put.2 in
    let there : picked F items ≢ None = λ h. c.requires (ap (picked F) (sym c.as_slice-place-items.ensures) ∙ h) in
    record {
      whole = rw e (whole-next F G put.0 c.loop-place.invariant.whole);
      copies =
          rw e (copies-next F G (picked F items) items c.loop-place.place-index put.0 c.loop-place-test.true c.loop-place.invariant.whole
          c.loop-place.invariant.copies there put.1);
      same = e
          ∙ (ap (λ (m : StackView). with_slot m put.0) c.loop-place.invariant.same
          ∙ ap (λ f. record c.args.self.now { frame = f }) (sym (ap (λ (m : StackView). m.frame) e)));
    }
