use Rattle.std.proofs.Common.{◌≤◌, ◌-◌, slice_set, sym, ◌∙◌, subst}
use Rattle.mh_intern.specs.declared.notes.Note.{Note}
use Rattle.mh_intern.proofs.Finding.{at_item, item_at}
use Rattle.mh_intern.proofs.notes.repay.Goals as goal

pub overflow_sub-index_mut : goal.overflow_sub-index_mut
overflow_sub-index_mut c =
    subst (λ (z : Note). 1 ≤ z.owed) (sym c.index_mut.ensures.value)
    (c.requires.some _ (item_at c.args.notes.now.items c.args.at c.index_mut.result.now c.requires.at))

pub returns : goal.returns
returns c = λ n at.
    let same = c.index_mut.ensures.value ∙ at_item c.args.notes.now.items c.args.at c.index_mut.result.now n at in
    λ i. slice_set c.args.notes.now.items c.args.at record { entry = (same i).entry; counted = (same i).counted; owed = (same i).owed - 1 }
