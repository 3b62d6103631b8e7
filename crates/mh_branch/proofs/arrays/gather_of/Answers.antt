use Rattle.std.proofs.Common.{sym, ap, ◌∙◌, [], ◌∷◌, Ok}
use Rattle.mh_tree.specs.declared.error.CheckError.TheVariants as check
use Rattle.mh_handle.proofs.holding.Trading.{trades-checked}
use Rattle.mh_branch.proofs.ArrayAnswers.{gather-answers, gather-fits-by, gather-gains, gather-makes, gather-shaped-by}
use Rattle.mh_branch.proofs.arrays.gather_of.Goals as goal

pub grown-requires-clause-fits : goal.grown-requires-clause-fits
grown-requires-clause-fits g c =
    gather-fits-by c.args.w.now.leaves.now c.args.target c.args.gathered c.in-Ok.by (c.requires.ruled ∙ ap Ok (sym c.in-Ok.ensures.ty)) c.in-Ok.ensures.adds
    c.in-Ok.ensures.shaped

pub grown-requires-clause-shaped : goal.grown-requires-clause-shaped
grown-requires-clause-shaped g c =
    gather-shaped-by c.args.w.now.leaves.now c.args.target c.args.gathered c.in-Ok.by (c.requires.ruled ∙ ap Ok (sym c.in-Ok.ensures.ty)) c.in-Ok.ensures.adds
    c.in-Ok.ensures.shaped

pub returns-in-Ok-clause-makes : goal.returns-in-Ok-clause-makes
returns-in-Ok-clause-makes g c a st =
    gather-makes c.args.w.now.leaves.now c.args.target c.args.gathered c.in-Ok.by (c.requires.ruled ∙ ap Ok (sym c.in-Ok.ensures.ty)) c.in-Ok.ensures.adds
    a c.args.w.now c.grown.new.w c.grown.result st c.grown.ensures.makes

pub returns-in-Ok-clause-gains : goal.returns-in-Ok-clause-gains
returns-in-Ok-clause-gains g c =
    gather-gains c.args.w.now.leaves.now c.args.target c.args.gathered c.in-Ok.by (c.requires.ruled ∙ ap Ok (sym c.in-Ok.ensures.ty)) c.in-Ok.ensures.adds
    c.grown.result c.grown.ensures.grows

pub returns-in-Ok-clause-stands : goal.returns-in-Ok-clause-stands
returns-in-Ok-clause-stands g c a st =
    gather-answers c.args.w.now.leaves.now c.args.target c.args.gathered c.in-Ok.by (c.requires.ruled ∙ ap Ok (sym c.in-Ok.ensures.ty)) c.in-Ok.ensures.adds
    c.grown.result a c.in-Ok.ensures.are c.grown.ensures.grows st

pub returns-in-Err-clause-types : goal.returns-in-Err-clause-types
returns-in-Err-clause-types g c =
    trades-checked (c.args.ty ∷ []) c.args.target.held c.args.w.now c.refuse.new.w check.NoMemory c.refuse.result c.refuse.ensures.error
    c.refuse.ensures.types
