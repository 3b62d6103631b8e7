use Rattle.std.proofs.Common.{◌≡◌, ◌≤◌, ◌∙◌, sym, ap, arith}
use Rattle.mh_values.specs.Slots.{slots_of_all}
use Rattle.mh_leaves.proofs.Typed.{leaf-typed}
use Rattle.mh_leaves.proofs.manifest.add_leaf.Goals as goal

pub add_leaf-requires-clause-leaf : goal.add_leaf-requires-clause-leaf
add_leaf-requires-clause-leaf c =
    let same : slots_of_all c.as_slice.result.now ≡ slots_of_all c.args.leaf.ty.params = ap slots_of_all c.as_slice.ensures in
    let few : slots_of_all c.args.leaf.ty.params ≤ 254 = omega (arith, same, c.all_slots.ensures) in
    leaf-typed c.args.leaves.now.classes c.classes.result.now c.args.leaf c.requires.owner c.classes.ensures (sym c.is_well_typed.ensures ∙
    c.if-not-is_well_typed.false) few c.requires.described
