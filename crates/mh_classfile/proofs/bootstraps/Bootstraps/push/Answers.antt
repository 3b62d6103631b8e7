use Rattle.std.proofs.Common.{◌∙◌, ◌∷◌, [], ap}
use Rattle.mh_classfile.specs.Rows.{Rows}
use Rattle.mh_classfile.proofs.Spans.{rows-kept}
use Rattle.mh_classfile.proofs.bootstraps.Bootstraps.push.Goals as goal

pub returns-clause-closed : goal.returns-clause-closed
returns-clause-closed c =
    rw c.in_ok-push.ensures.ok (rows-kept c.self.inside.arguments (c.args.argument ∷ []) c.self.inside.closed c.self.inside.spans c.self.invariant.within
    c.self.invariant.spans ∙ ap (λ (r : Rows). r.closed) c.self.view_is)
