use Rattle.std.proofs.Common.{◌++◌, codes}
use Rattle.std.specs.Fmt.{decimal}
use Rattle.mh_shown.specs.KeyText.{others_text, shape_text}
use Rattle.mh_shown.proofs.Pushed.{pushed-both}
use Rattle.mh_shown.proofs.key.push_loop.Goals as goal

pub returns : goal.returns
returns c =
    pushed-both c.push_others.result c.args.text.now.items c.push_of_number.new.text.items c.push_others.new.text.items
    (codes "LoopRoot of " ++ shape_text c.args.shape.now ++ codes ", parts take " ++ decimal c.args.iterations) (others_text c.args.init c.args.body)
    c.in_ok-push_of_number.ensures c.push_others.ensures
