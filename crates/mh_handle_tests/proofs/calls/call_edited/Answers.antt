use Rattle.mh_handle_tests.proofs.Callable.{callable_edited}
use Rattle.mh_handle_tests.proofs.calls.call_edited.Goals as goal

pub invoke_edited-requires : goal.invoke_edited-requires
invoke_edited-requires c = record {
  runs =
      callable_edited c.args.leaves.now c.args.handle.now c.args.args.now c.requires.stands c.requires.typed c.form.result.now c.new-more.result.items
      c.ty.result.now c.form.ensures c.new-more.ensures.items c.ty.ensures.ty;
}
