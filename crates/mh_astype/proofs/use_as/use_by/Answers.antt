use Rattle.std.proofs.Common.{◌≡◌, sym, subst, ◌∙◌, false, Err, inl}
use Rattle.mh_values.specs.Same.{is_same_method_type}
use Rattle.mh_tree.specs.Check.{TellsRow}
use Rattle.mh_handle.proofs.obeying.Going.{unchanged-still}
use Rattle.mh_handle.proofs.obeying.Refusals.{check-obeys}
use Rattle.mh_handle.proofs.holding.Trading.{trades-checked}
use Rattle.mh_astype.proofs.Asking.{asked-stands, differs, found-row, row-of-other, same-recipe, trees-make, use-other, use-same, used-makes, used-obeys}
use Rattle.mh_astype.proofs.Calling.{types-are}
use Rattle.mh_astype.proofs.Trading.{trades-kept, trades-used}
use Rattle.mh_astype.proofs.Using.{makes-refused}
use Rattle.mh_astype.specs.Use.{used_types_by}
use Rattle.mh_astype.proofs.use_as.use_by.Goals as goal

pub returns-then-is_same_method_type-clause-makes : goal.returns-then-is_same_method_type-clause-makes
returns-then-is_same_method_type-clause-makes g c t st =
    inl (
      same-recipe c.args.rules c.args.w.now.leaves.now c.args.ty.now c.args.target t st
          (types-are c.is_same_method_type.result c.ty.result.now c.args.target.ty c.args.ty.now c.if-is_same_method_type.true c.is_same_method_type.ensures
          c.ty.ensures.ty),
      unchanged-still c.args.w.now,
    )

pub returns-then-is_same_method_type-clause-used : goal.returns-then-is_same_method_type-clause-used
returns-then-is_same_method_type-clause-used g c =
    use-same c.args.rules c.args.w.now.leaves.now.classes c.args.ty.now c.args.target
    (types-are c.is_same_method_type.result c.ty.result.now c.args.target.ty c.args.ty.now c.if-is_same_method_type.true c.is_same_method_type.ensures
    c.ty.ensures.ty)

pub returns-in-Err-clause-obeys : goal.returns-in-Err-clause-obeys
returns-in-Err-clause-obeys g c =
    let other : is_same_method_type c.args.target.ty c.args.ty.now ≡ false =
    differs c.is_same_method_type.result c.ty.result.now c.args.target.ty c.args.ty.now c.if-is_same_method_type.false c.is_same_method_type.ensures
    c.ty.ensures.ty
    in
    check-obeys c.args.w.now c.refuse.new.w c.in-Err.error c.refuse.result c.refuse.ensures.error _
    (subst (λ row. TellsRow (Err c.in-Err.error) row)
    (row-of-other c.args.rules c.args.w.now.leaves.now.classes c.args.target.ty c.args.target.weight c.args.ty.now other) c.in-Err.ensures.tells)

pub returns-in-Err-clause-makes : goal.returns-in-Err-clause-makes
returns-in-Err-clause-makes g c t st =
    let other : is_same_method_type c.args.target.ty c.args.ty.now ≡ false =
    differs c.is_same_method_type.result c.ty.result.now c.args.target.ty c.args.ty.now c.if-is_same_method_type.false c.is_same_method_type.ensures
    c.ty.ensures.ty
    in
    trees-make c.args.rules c.args.w.now.leaves.now c.args.ty.now c.args.target t st c.args.w.now c.refuse.new.w c.refuse.result other
    (makes-refused c.args.target.form.recipe _ c.args.w.now c.refuse.new.w c.in-Err.error c.refuse.result c.refuse.ensures.error
    c.refuse.ensures.unchanged)

pub convert_handle-requires-clause-row : goal.convert_handle-requires-clause-row
convert_handle-requires-clause-row g c =
    found-row c.args.rules c.args.w.now.leaves.now.classes c.args.target.ty c.args.target.weight c.args.ty.now c.in-Ok.asked c.in-Ok.ensures.tells

pub returns-in-Ok-clause-obeys : goal.returns-in-Ok-clause-obeys
returns-in-Ok-clause-obeys g c =
    let other : is_same_method_type c.args.target.ty c.args.ty.now ≡ false =
    differs c.is_same_method_type.result c.ty.result.now c.args.target.ty c.args.ty.now c.if-is_same_method_type.false c.is_same_method_type.ensures
    c.ty.ensures.ty
    in
    used-obeys c.args.rules _ c.args.w.now.leaves.now.classes c.in-Ok.asked c.args.target c.convert_handle.result
    (sym (row-of-other c.args.rules c.args.w.now.leaves.now.classes c.args.target.ty c.args.target.weight c.args.ty.now other) ∙ c.in-Ok.ensures.tells)
    c.convert_handle.ensures.accepted c.convert_handle.ensures.used

pub returns-in-Ok-clause-makes : goal.returns-in-Ok-clause-makes
returns-in-Ok-clause-makes g c t st =
    let other : is_same_method_type c.args.target.ty c.args.ty.now ≡ false =
    differs c.is_same_method_type.result c.ty.result.now c.args.target.ty c.args.ty.now c.if-is_same_method_type.false c.is_same_method_type.ensures
    c.ty.ensures.ty
    in
    used-makes c.args.rules c.args.w.now.leaves.now c.args.ty.now c.args.target t st c.in-Ok.asked c.args.w.now c.convert_handle.new.w
    c.convert_handle.result other
    c.in-Ok.ensures.tells
    c.convert_handle.ensures.makes

pub returns-in-Ok-clause-stands : goal.returns-in-Ok-clause-stands
returns-in-Ok-clause-stands g c t st =
    let other : is_same_method_type c.args.target.ty c.args.ty.now ≡ false =
    differs c.is_same_method_type.result c.ty.result.now c.args.target.ty c.args.ty.now c.if-is_same_method_type.false c.is_same_method_type.ensures
    c.ty.ensures.ty
    in
    asked-stands c.args.rules c.args.w.now.leaves.now c.args.ty.now c.in-Ok.asked c.args.target t c.convert_handle.result c.in-Ok.ensures.are other
    c.in-Ok.ensures.tells st
    c.convert_handle.ensures.used

pub returns-in-Ok-clause-used : goal.returns-in-Ok-clause-used
returns-in-Ok-clause-used g c =
    let other : is_same_method_type c.args.target.ty c.args.ty.now ≡ false =
    differs c.is_same_method_type.result c.ty.result.now c.args.target.ty c.args.ty.now c.if-is_same_method_type.false c.is_same_method_type.ensures
    c.ty.ensures.ty
    in
    use-other c.args.rules c.args.w.now.leaves.now.classes c.args.target.ty c.args.ty.now c.in-Ok.asked c.args.target c.convert_handle.result other
    c.in-Ok.ensures.tells
    c.convert_handle.ensures.used

pub returns-then-is_same_method_type-clause-types : goal.returns-then-is_same_method_type-clause-types
returns-then-is_same_method_type-clause-types g c =
    trades-kept (used_types_by c.args.rules c.args.w.now.leaves.now.classes c.args.target.ty c.args.target.weight c.args.ty.now) c.args.target c.args.w.now
    c.requires.held

pub returns-in-Err-clause-types : goal.returns-in-Err-clause-types
returns-in-Err-clause-types g c =
    trades-checked (used_types_by c.args.rules c.args.w.now.leaves.now.classes c.args.target.ty c.args.target.weight c.args.ty.now) c.args.target.held
    c.args.w.now
    c.refuse.new.w c.in-Err.error c.refuse.result c.refuse.ensures.error c.refuse.ensures.types

pub returns-in-Ok-clause-types : goal.returns-in-Ok-clause-types
returns-in-Ok-clause-types g c =
    let other : is_same_method_type c.args.target.ty c.args.ty.now ≡ false =
    differs c.is_same_method_type.result c.ty.result.now c.args.target.ty c.args.ty.now c.if-is_same_method_type.false c.is_same_method_type.ensures
    c.ty.ensures.ty
    in
    trades-used c.args.rules c.args.w.now.leaves.now.classes c.args.target.ty c.args.target.weight c.args.ty.now c.in-Ok.asked c.args.target.held
    c.args.w.now c.convert_handle.new.w
    c.convert_handle.result other c.in-Ok.ensures.tells c.convert_handle.ensures.types
