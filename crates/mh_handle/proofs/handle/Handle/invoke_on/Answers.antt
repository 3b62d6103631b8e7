use Rattle.std.proofs.Common.{rules, subst, length, map, IfOk}
use Rattle.mh_form.specs.Erasure.{erased}
use Rattle.mh_handle.specs.Answers.{IsAnswer, answer_in, typed_ran}
use Rattle.mh_handle.specs.Stands.{handle_run}
use Rattle.mh_handle.proofs.standing.Answering.{typed_run-stands}
use Rattle.mh_handle.proofs.handle.Handle.invoke_on.Goals as goal

pub returns-clause-tree : goal.returns-clause-tree
returns-clause-tree c t st =
    let table = c.args.leaves.now in
    let h = c.args.self.now in
    let run : IfOk c.end.result
    (λ e. IsAnswer (typed_ran table.classes h.ty.ret (handle_run table h (map erased c.args.args.now) c.args.n)) (length h.form.recipe)
    (answer_in e c.run_on.new.machine)) = search rules in
    subst (λ r. IfOk c.end.result (λ e. IsAnswer r (length h.form.recipe) (answer_in e c.run_on.new.machine)))
    (typed_run-stands table h t c.args.args.now c.args.n st c.requires.typed c.ranges.n.fits)
    run
