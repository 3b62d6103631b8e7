use Rattle.std.proofs.Common.{sym, ap, ◌∙◌, [], ◌∷◌, arith, Ok}
use Rattle.mh_tree.specs.declared.error.CheckError.TheVariants as check
use Rattle.mh_tree.specs.Adapters.{adapter_tree}
use Rattle.mh_handle.proofs.holding.Trading.{trades-checked}
use Rattle.mh_adapt.specs.Parts.{adapter_fields, adapter_key}
use Rattle.mh_adapt.proofs.Adapters.{adapter-light, adapter-makes, adapter-stands, adapter-suited}
use Rattle.mh_adapt.proofs.NodeAnswers.{node-gains, node-stands}
use Rattle.mh_adapt.proofs.PartAnswers.{suited-fits, suited-shaped}
use Rattle.mh_adapt.proofs.adapting.adapt.Goals as goal

pub grown-requires-clause-fits : goal.grown-requires-clause-fits
grown-requires-clause-fits g c =
    suited-fits c.args.target (adapter_key c.args.adapter) c.in-Ok.by c.in-Ok.ensures.adds.key
    (adapter-suited c.args.w.now.leaves.now.classes c.args.target c.in-Ok.by.ty c.in-Ok.ensures.shaped c.args.adapter
    (c.requires.ruled ∙ ap Ok (sym c.in-Ok.ensures.ty)))

pub grown-requires-clause-shaped : goal.grown-requires-clause-shaped
grown-requires-clause-shaped g c =
    suited-shaped c.args.target (adapter_key c.args.adapter) c.in-Ok.by c.in-Ok.ensures.adds.key
    (adapter-suited c.args.w.now.leaves.now.classes c.args.target c.in-Ok.by.ty c.in-Ok.ensures.shaped c.args.adapter
    (c.requires.ruled ∙ ap Ok (sym c.in-Ok.ensures.ty)))

pub grown-requires-clause-light : goal.grown-requires-clause-light
grown-requires-clause-light g c =
    let light = adapter-light c.args.w.now.leaves.now.classes c.args.target c.args.ty c.args.adapter c.requires.ruled in
    let same = c.in-Ok.ensures.adds.weight in
    omega (arith, light, same)

pub returns-in-Ok-clause-gains : goal.returns-in-Ok-clause-gains
returns-in-Ok-clause-gains g c =
    node-gains c.args.target (adapter_key c.args.adapter) (adapter_fields c.args.w.now.leaves.now.classes c.args.adapter c.args.target.ty) c.in-Ok.by
    c.in-Ok.ensures.adds c.grown.result c.grown.ensures.grows

pub returns-in-Ok-clause-makes : goal.returns-in-Ok-clause-makes
returns-in-Ok-clause-makes g c a st =
    adapter-makes c.args.w.now.leaves.now c.args.target a st c.args.adapter c.in-Ok.by.key c.args.w.now c.grown.new.w c.grown.result
    c.in-Ok.ensures.adds.key c.grown.ensures.makes

pub returns-in-Ok-clause-stands : goal.returns-in-Ok-clause-stands
returns-in-Ok-clause-stands g c a st =
    let row = c.requires.ruled ∙ ap Ok (sym c.in-Ok.ensures.ty) in
    node-stands c.args.target (adapter_key c.args.adapter) (adapter_fields c.args.w.now.leaves.now.classes c.args.adapter c.args.target.ty) c.in-Ok.by
    c.in-Ok.ensures.adds c.args.w.now.leaves.now (adapter_tree c.args.adapter a) c.grown.result c.grown.ensures.grows (λ h grows.
    adapter-stands c.args.w.now.leaves.now c.args.target a st c.args.adapter h c.in-Ok.by.ty row
    (adapter-suited c.args.w.now.leaves.now.classes c.args.target c.in-Ok.by.ty c.in-Ok.ensures.shaped c.args.adapter row) grows)

pub returns-in-Err-clause-types : goal.returns-in-Err-clause-types
returns-in-Err-clause-types g c =
    trades-checked (c.args.ty ∷ []) c.args.target.held c.args.w.now c.refuse.new.w check.NoMemory c.refuse.result c.refuse.ensures.error
    c.refuse.ensures.types
