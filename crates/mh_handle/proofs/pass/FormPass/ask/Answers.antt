use Rattle.mh_handle.proofs.passes.Passing.{pass-asks}
use Rattle.mh_handle.proofs.pass.FormPass.ask.Goals as goal

pub add-requires : goal.add-requires
add-requires c = rw (← c.self.view_is) at c.requires.new

pub invariant_of-self : goal.invariant_of-self
invariant_of-self c =
    let here = rw (← c.self.view_is) at c.requires.learnt in
    pass-asks c.self.inside.walks _ c.self.inside.seen c.add.new.self c.self.inside.seat c.args.form.now here.0 c.add.result c.self.invariant here.1
    c.add.ensures.ok c.add.ensures.err
