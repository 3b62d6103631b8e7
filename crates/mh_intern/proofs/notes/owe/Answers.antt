use Rattle.std.proofs.Common.{◌+◌, slice_set, sym, ◌∙◌}
use Rattle.mh_intern.proofs.Finding.{at_item}
use Rattle.mh_intern.proofs.notes.owe.Goals as goal

pub returns : goal.returns
returns c = λ n at.
    let same = c.index_mut.ensures.value ∙ at_item c.args.notes.now.items c.args.at c.index_mut.result.now n at in
    λ i. slice_set c.args.notes.now.items c.args.at record { entry = (same i).entry; counted = (same i).counted; owed = (same i).owed + 1 }
