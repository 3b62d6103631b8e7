use Rattle.std.proofs.Common.{ap, ◌∙◌, None, get_or}
use Rattle.mh_classfile.specs.Class.{Class}
use Rattle.mh_classfile.proofs.Constants.{at_index}
use Rattle.mh_classfile.proofs.view.ClassView.constant.Goals as goal

pub returns : goal.returns
returns c =
    c.constant.ensures ∙ at_index c.self.inside.pool c.args.i ∙ ap (λ (class : Class). get_or class.constants c.args.i None) c.self.view_is
