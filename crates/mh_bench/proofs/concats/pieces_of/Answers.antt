use Rattle.mh_tree.proofs.Concatenated.{recipe-typed}
use Rattle.mh_bench.proofs.concats.pieces_of.Goals as goal

pub returns-in-Ok : goal.returns-in-Ok
returns-in-Ok c =
    recipe-typed c.args.classes.now c.in_ok-recipe.recipe c.new-constants.result c.args.ty.now c.in-Ok.pieces c.in-Ok.ensures
