use Rattle.mh_handle.proofs.passes.Edits.{edits-found}
use Rattle.mh_handle.proofs.passes.Learning.{lacks-found}
use Rattle.mh_handle.proofs.pass.FormPass.ask_shown.Goals as goal

pub returns-clause-asks : goal.returns-clause-asks
returns-clause-asks c =
    let found = rw c.in-Some.is at c.in_ok-found.ensures.found in
    edits-found c.args.recipe.now c.args.self.now c.find.new.self c.ask.new.self c.in-Some.found c.in_ok-found.ensures.learns c.requires.new
    c.in_ok-ask.ensures.ok found.2 (rw c.in-Some.is at c.in_ok-found.ensures.form)

pub returns-in_default-clause-asks : goal.returns-in_default-clause-asks
returns-in_default-clause-asks c =
    (c.in_ok-found.ensures.learns, lacks-found c.args.recipe.now c.find.new.self.learnt (rw c.in_default.is at c.in_ok-found.ensures.found))
