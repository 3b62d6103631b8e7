use Rattle.std.proofs.Common.{◌≡◌, length, sym}
use Rattle.mh_tree.proofs.Lengths.{can_all-lengths}
use Rattle.mh_tree.proofs.conversions.can_all.Goals as goal

pub returns-then-from-to : goal.returns-then-from-to
returns-then-from-to c =
    let other : length c.args.from.now ≡ length c.args.to.now → ⊥ = c.if-from-to.true in
    sym (can_all-lengths c.args.rules c.args.classes.now c.args.from.now c.args.to.now other)
