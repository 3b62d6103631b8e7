use Rattle.std.proofs.Common.{◌≡◌, subst, sym, true, ◌+◌, ◌≤◌, [], ◌∷◌, arith}
use Rattle.mh_values.specs.declared.types.MethodTy.{MethodTy}
use Rattle.mh_tree.specs.declared.error.CheckError.TheVariants as check
use Rattle.mh_edit.specs.declared.key.Key.{Key}
use Rattle.mh_edit.specs.Applied.{applied}
use Rattle.mh_edit.specs.Fit.{fits}
use Rattle.mh_handle.specs.Recipe.{ret_entry_of}
use Rattle.mh_handle.specs.Stands.{HasShape, handle_body}
use Rattle.mh_handle.proofs.holding.Trading.{trades-checked}
use Rattle.mh_astype.proofs.Using.{convert-fits, convert-shaped, light, makes-changed, used-few, used-grown, used-held, used-trades}
use Rattle.mh_astype.proofs.use_as.convert_by_edit.Goals as goal

pub grown-requires-clause-fits : goal.grown-requires-clause-fits
grown-requires-clause-fits g c =
    let P : Key → Type 0 = λ k. fits k (handle_body c.args.target) ≡ true in
    subst P (sym c.in-Ok.ensures.adds.key) (convert-fits c.args.rules c.args.w.now.leaves.now.classes c.args.target c.args.ty c.args.ty
    (ret_entry_of c.args.w.now.leaves.now.classes c.args.target.ty.ret c.args.ty.ret) c.in-Ok.ensures.shaped c.requires.row)

pub grown-requires-clause-shaped : goal.grown-requires-clause-shaped
grown-requires-clause-shaped g c =
    let P : Key → Type 0 = λ k. HasShape (applied k (handle_body c.args.target)) c.args.ty in
    let Q : MethodTy → Type 0 = λ m. HasShape (applied c.in-Ok.by.key (handle_body c.args.target)) m in
    subst Q (sym c.in-Ok.ensures.adds.ty)
    (subst P (sym c.in-Ok.ensures.adds.key) (convert-shaped c.args.rules c.args.w.now.leaves.now.classes c.args.target c.args.ty c.args.ty
    (ret_entry_of c.args.w.now.leaves.now.classes c.args.target.ty.ret c.args.ty.ret) c.in-Ok.ensures.shaped c.requires.row))

pub grown-requires-clause-light : goal.grown-requires-clause-light
grown-requires-clause-light g c =
    let most : 1 + c.args.target.weight ≤ 256 =
    light c.args.rules c.args.w.now.leaves.now.classes c.args.target.ty c.args.target.weight c.args.ty c.args.ty c.requires.row
    in
    omega (arith, c.in-Ok.ensures.adds.weight)

pub returns-in-Ok-clause-makes : goal.returns-in-Ok-clause-makes
returns-in-Ok-clause-makes g c =
    makes-changed c.args.w.now.leaves.now.classes c.args.ty c.args.target.ty c.args.target.form.recipe c.in-Ok.by.key c.args.w.now c.grown.new.w c.grown.result
    c.requires.changes c.in-Ok.ensures.adds.key c.grown.ensures.makes

pub returns-in-Ok-clause-used : goal.returns-in-Ok-clause-used
returns-in-Ok-clause-used g c =
    used-grown c.args.rules c.args.w.now.leaves.now.classes c.args.ty c.args.target c.in-Ok.by c.in-Ok.ensures.adds c.grown.result c.requires.changes
    c.grown.ensures.grows

pub grown-requires-clause-few : goal.grown-requires-clause-few
grown-requires-clause-few g c =
    used-few c.args.rules c.args.w.now.leaves.now.classes c.args.ty c.args.target c.in-Ok.by c.in-Ok.ensures.adds c.in-Ok.ensures.shaped

pub grown-requires-clause-held : goal.grown-requires-clause-held
grown-requires-clause-held g c =
    used-held c.args.rules c.args.w.now.leaves.now.classes c.args.ty c.args.target c.in-Ok.by c.in-Ok.ensures.adds c.args.w.now c.requires.held

pub returns-in-Ok-clause-types : goal.returns-in-Ok-clause-types
returns-in-Ok-clause-types g c =
    used-trades c.args.rules c.args.w.now.leaves.now.classes c.args.ty c.args.target c.in-Ok.by c.in-Ok.ensures.adds c.args.w.now c.grown.new.w c.grown.result
    c.grown.ensures.types

pub returns-in-Err-clause-types : goal.returns-in-Err-clause-types
returns-in-Err-clause-types g c =
    trades-checked (c.args.ty ∷ []) c.args.target.held c.args.w.now c.refuse.new.w check.NoMemory c.refuse.result c.refuse.ensures.error
    c.refuse.ensures.types
