use Rattle.std.proofs.Common.{◌∙◌, sym}
use Rattle.mh_jobs.proofs.types.read_once.Goals as goal

pub returns-in_ok-ty-in-Some-clause-read : goal.returns-in_ok-ty-in-Some-clause-read
returns-in_ok-ty-in-Some-clause-read c =
    c.in_ok-ty-in-Some.ensures ∙ c.requires c.args.text.now c.in-Some.ty.now (sym c.in-Some.ensures.value)
