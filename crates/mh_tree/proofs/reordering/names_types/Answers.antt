use Rattle.std.proofs.Common.{◌≡◌, length, sym}
use Rattle.mh_tree.proofs.Lengths.{names_types-lengths}
use Rattle.mh_tree.proofs.reordering.names_types.Goals as goal

pub returns-then-reorder-types : goal.returns-then-reorder-types
returns-then-reorder-types c =
    let other : length c.args.reorder.now ≡ length c.args.types.now → ⊥ = c.if-reorder-types.true in
    sym (names_types-lengths c.args.params.now c.args.reorder.now c.args.types.now other)
