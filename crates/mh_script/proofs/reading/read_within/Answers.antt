use Rattle.std.proofs.Common.{◌≡◌, subst, Ok, List, map}
use Rattle.mh_script.specs.declared.script.Step.{Step}
use Rattle.mh_script.specs.Scripts.{body_line}
use Rattle.mh_script.proofs.Runnable.{body-runnable}
use Rattle.mh_script.proofs.reading.read_within.Goals as goal

pub with_line-requires : goal.with_line-requires
with_line-requires c =
    let classes = c.args.classes.now in
    let tokens = map (λ t. t.now) c.args.line.tokens.now in
    let next = c.args.line.following in
    let said = c.in_ok-said.said in
    body-runnable classes c.args.begun.steps tokens next said c.requires
    (subst (λ (steps : List Step). body_line classes steps tokens next ≡ Ok said) c.as_slice.ensures c.in_ok-said.ensures)
