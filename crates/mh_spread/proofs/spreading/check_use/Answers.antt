use Rattle.std.proofs.Common.{◌≡◌, sym, ap, ◌∙◌, ◌+◌, true, false, cond, Ok}
use Rattle.mh_values.specs.Same.{is_same_method_type}
use Rattle.mh_values.proofs.SameTypes.{same_method_type-is}
use Rattle.mh_convert.specs.declared.conv.Rules.TheVariants as rules
use Rattle.mh_tree.specs.Rows.{TypeOrRefusal, astype_row}
use Rattle.mh_tree.proofs.RowParts.{convert_row-parts}
use Rattle.mh_spread.proofs.spreading.check_use.Goals as goal

pub returns-then-is_same_method_type : goal.returns-then-is_same_method_type
returns-then-is_same_method_type c =
    let same : is_same_method_type c.args.own.now c.args.asked.now ≡ true = sym c.is_same_method_type.ensures ∙ c.if-is_same_method_type.true in
    let row : TypeOrRefusal = astype_row c.args.classes.now c.args.own.now c.args.weight c.args.asked.now in (
      ap (λ b. cond b (Ok c.args.own.now) row) same ∙ ap Ok (same_method_type-is c.args.own.now c.args.asked.now same),
      sym (ap (λ b. cond b c.args.weight (1 + c.args.weight)) same),
    )

pub returns : goal.returns
returns c =
    let other : is_same_method_type c.args.own.now c.args.asked.now ≡ false = sym c.is_same_method_type.ensures ∙ c.if-is_same_method_type.false in
    let row : TypeOrRefusal = astype_row c.args.classes.now c.args.own.now c.args.weight c.args.asked.now in
    let given = convert_row-parts rules.AsType c.args.classes.now c.args.own.now c.args.weight c.args.asked.now c.in_ok-check_astype.field-0
    c.in_ok-check_astype.ensures in (
      ap (λ b. cond b (Ok c.args.own.now) row) other ∙ (c.in_ok-check_astype.ensures ∙ ap Ok given.2),
      sym (ap (λ b. cond b c.args.weight (1 + c.args.weight)) other),
    )
