use Rattle.std.proofs.Common.{◌∙◌, ap, ℕ}
use Rattle.mh_condy.specs.Recorded.{FindingView}
use Rattle.mh_condy.proofs.resolving.found.Goals as goal

pub returns : goal.returns
returns g c =
    let of : ℕ → FindingView = λ n. record { constant = n; serial = c.args.node.now.serial; value = c.args.node.now.value } in
    c.finding.ensures ∙ ap of (c.told.ensures.known.nodes.each c.args.c c.args.node.now c.requires).0
