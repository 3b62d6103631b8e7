use Rattle.mh_leaves.proofs.Numbering.{grown-further, number_at-kept}
use Rattle.mh_leaves.proofs.Finding.{leaf_at-grown, by_texts-grown}
use Rattle.mh_leaves.proofs.WrittenKeys.{leaf_at-same, leaf_at-more, by_texts-inserted, on_err}
use Rattle.mh_leaves.proofs.index.Index.add.Goals as goal

pub returns-in_err-name-clause-err : goal.returns-in_err-name-clause-err
returns-in_err-name-clause-err c =
    on_err c.from_residual.result (λ o a b. leaf_at-grown _ _ c.args.self.now.leaves o.0 a b c.args.self.now.by_texts c.in_err-name.ensures.grown)

pub returns-in_err-descriptor-clause-err : goal.returns-in_err-descriptor-clause-err
returns-in_err-descriptor-clause-err c =
    on_err c.from_residual-in_err-descriptor.result (λ o a b. leaf_at-grown _ _ c.args.self.now.leaves o.0 a b c.args.self.now.by_texts
    (grown-further _ _ _ c.in_ok-name.ensures.grown c.in_err-descriptor.ensures.grown))

pub invariant_of-self-2 : goal.invariant_of-self-2
invariant_of-self-2 c =
    let grown = grown-further _ _ _ c.in_ok-name.ensures.grown c.in_ok-descriptor.ensures.grown in
    let is_name = number_at-kept _ _ _ _ c.in_ok-descriptor.ensures.grown c.in_ok-name.ensures.number in
    record {
      numbered = c.in_ok-descriptor.ensures.numbered;
      by_texts = by_texts-inserted c.insert.result c.number_text-2.new.texts c.args.self.now.leaves c.insert.new.self _ _ _ _ _ _
          (by_texts-grown _ _ c.args.self.now.leaves c.args.self.now.by_texts grown) c.in_ok-descriptor.ensures.numbered is_name
          c.in_ok-descriptor.ensures.number c.insert.ensures.updates c.insert.ensures.err;
    }

pub returns-in_err-insert-clause-err : goal.returns-in_err-insert-clause-err
returns-in_err-insert-clause-err c =
    on_err c.from_residual-in_err-insert.result (λ o a b. leaf_at-same _ _ c.args.self.now.leaves c.insert.new.self o.0 a b c.args.self.now.by_texts
    (grown-further _ _ _ c.in_ok-name.ensures.grown c.in_ok-descriptor.ensures.grown) c.in_err-insert.ensures.err)

pub returns-clause-ok : goal.returns-clause-ok
returns-clause-ok c =
    λ o a b. leaf_at-more _ _ c.args.self.now.leaves c.insert.new.self _ _ _ _ _ _ c.args.self.now.by_texts
    (grown-further _ _ _ c.in_ok-name.ensures.grown c.in_ok-descriptor.ensures.grown) c.in_ok-descriptor.ensures.numbered.apart
    (number_at-kept _ _ _ _ c.in_ok-descriptor.ensures.grown c.in_ok-name.ensures.number) c.in_ok-descriptor.ensures.number
    c.in_ok-insert.ensures.updates.0 o.0 a b
