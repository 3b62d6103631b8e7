use Rattle.mh_astype.proofs.Calling.{kept-is}
use Rattle.mh_astype.proofs.use_as.convert_handle.Goals as goal

pub keep_form-requires-clause-keeps : goal.keep_form-requires-clause-keeps
keep_form-requires-clause-keeps g c =
    kept-is c.is_trivial.result c.classes.result.now c.args.w.now.leaves.now.classes c.ty.result.now c.args.target.ty c.args.ty c.if-is_trivial.true
    c.is_trivial.ensures c.classes.ensures c.ty.ensures.ty
