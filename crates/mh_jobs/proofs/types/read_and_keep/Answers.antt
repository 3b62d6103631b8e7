use Rattle.std.proofs.Common.{◌∙◌, subst, ℕ, List, Some}
use Rattle.mh_base.specs.TextMaps.{WritesText}
use Rattle.mh_jobs.proofs.ReadOnce.{types-more}
use Rattle.mh_jobs.proofs.types.read_and_keep.Goals as goal

pub returns-clause-types : goal.returns-clause-types
returns-clause-types c =
    let new = c.insert.new.self in
    let kept = c.in_ok-kept.kept in
    let put = subst (λ (k : List ℕ). WritesText c.args.types new k (Some kept)) c.in_ok-from_slice.ensures.items c.in_ok-insert.ensures.updates in
    types-more c.args.classes.now c.args.types new c.args.text.now kept c.requires put (c.in_ok-kept.ensures ∙ c.in_ok-ty.ensures)
