use Rattle.std.proofs.Common.{◌≡◌, ◌≤◌, ◌+◌, length, ap, ◌∙◌, arith}
use Rattle.mh_made_class.proofs.Placing.{arguments-length, arguments_few}
use Rattle.mh_made_class.proofs.parts.push_argument_indexes.Goals as goal

pub returns-clause-few : goal.returns-clause-few
returns-clause-few c =
    let args = c.as_slice-args.result.now in
    let same : args ≡ c.placed.inside.site.now.args = c.as_slice-args.ensures in
    let count : length c.in_ok-place_arguments.field-0.items ≡ length args = ap length c.in_ok-place_arguments.ensures ∙
    arguments-length (c.placed.inside.first + 7) args in
    let most : c.loop-argument.argument-index ≤ length c.in_ok-place_arguments.field-0.items = omega (arith, c.loop-argument.auto.argument-index-end) in
    omega (arith, c.loop-argument.invariant.len, count, most, ap length same, arguments_few c.placed.inside.site.now.args, c.placed.invariant.fits)
