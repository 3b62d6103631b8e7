use Rattle.std.proofs.Common.{ap, refl, sym, ◌∙◌, subst, [], ◌∷◌}
use Rattle.mh_tree.specs.Tree as tree
use Rattle.mh_link.proofs.typing.Leaves.{leaf-typed}
use Rattle.mh_link.specs.Operations.{use_of}
use Rattle.mh_attempt.specs.Cases.{StandForEach}
use Rattle.mh_attempt.specs.Nodes.{AreAllOperands, AreOperands}
use Rattle.mh_attempt.specs.Operations.{MakesOf}
use Rattle.mh_attempt.proofs.nodes.MadeNodes.{for-asked, of-leaf, of-root}
use Rattle.mh_attempt.proofs.nodes.NodeOperands.{made-for}
use Rattle.mh_attempt.proofs.lines.parts.make_node.Goals as goal

pub returns-in-Leaf : goal.returns-in-Leaf
returns-in-Leaf g c m itself asked =
    let w = c.args.w.now in
    let new = c.leaf.new.w in
    let r = c.leaf.result in
    made-for w new r c.args.node _ m itself c.in-Leaf.is (λ is.
    let own = leaf-typed w.leaves.now c.in-Leaf.id is.0 in
    for-asked [] m _ itself _ w new r is.1.asked is.1.forms (of-leaf w new (tree.Leaf c.in-Leaf.id) own.0 r refl own.1 c.leaf.ensures.goes_on
    c.leaf.ensures.accepted c.leaf.ensures.makes c.leaf.ensures.stands c.leaf.ensures.types)) asked

pub returns-in-Constant : goal.returns-in-Constant
returns-in-Constant g c m itself asked =
    let w = c.args.w.now in
    let new = c.constant.new.w in
    let r = c.constant.result in
    made-for w new r c.args.node _ m itself c.in-Constant.is (λ is. for-asked [] m _ itself _ w new r is.asked is.forms
    (of-root w new (tree.Constant c.in-Constant.ty c.in-Constant.value) r refl c.constant.ensures.goes_on c.constant.ensures.obeys
    c.constant.ensures.makes c.constant.ensures.stands c.constant.ensures.types)) asked

pub returns-in-Identity : goal.returns-in-Identity
returns-in-Identity g c m itself asked =
    let w = c.args.w.now in
    let new = c.identity.new.w in
    let r = c.identity.result in
    made-for w new r c.args.node _ m itself c.in-Identity.is (λ is. for-asked [] m _ itself _ w new r is.asked is.forms
    (of-root w new (tree.Identity c.in-Identity.ty) r refl c.identity.ensures.goes_on c.identity.ensures.obeys
    c.identity.ensures.makes c.identity.ensures.stands c.identity.ensures.types)) asked

pub returns-in-Throw : goal.returns-in-Throw
returns-in-Throw g c m itself asked =
    let w = c.args.w.now in
    let new = c.throw.new.w in
    let r = c.throw.result in
    made-for w new r c.args.node _ m itself c.in-Throw.is (λ is. for-asked [] m _ itself _ w new r is.asked is.forms
    (of-root w new (tree.Throw c.in-Throw.ret c.in-Throw.class) r refl c.throw.ensures.goes_on c.throw.ensures.obeys
    c.throw.ensures.makes c.throw.ensures.stands c.throw.ensures.types)) asked

pub returns-in-One : goal.returns-in-One
returns-in-One g c m itself asked =
    let w = c.args.w.now in
    let new = c.make_of_one.new.w in
    let r = c.make_of_one.result in
    made-for w new r c.args.node _ m itself c.in-One.is (λ is. for-asked _ m _ itself _ w new r is.2.asked is.2.forms
    (c.make_of_one.ensures is.0 is.1)) asked

pub returns-in-Two : goal.returns-in-Two
returns-in-Two g c m itself asked =
    let w = c.args.w.now in
    let new = c.make_of_two.new.w in
    let r = c.make_of_two.result in
    made-for w new r c.args.node _ m itself c.in-Two.is (λ is. for-asked _ m _ itself _ w new r is.4.asked is.4.forms
    (c.make_of_two.ensures is.0 is.1 is.2 is.3)) asked

pub returns-in-Three : goal.returns-in-Three
returns-in-Three g c m itself asked =
    let w = c.args.w.now in
    let new = c.make_of_three.new.w in
    let r = c.make_of_three.result in
    made-for w new r c.args.node _ m itself c.in-Three.is (λ is. for-asked _ m _ itself _ w new r is.6.asked is.6.forms
    (c.make_of_three.ensures is.0 is.1 is.2 is.3 is.4 is.5)) asked

pub returns-in-Switch : goal.returns-in-Switch
returns-in-Switch g c m itself asked =
    let w = c.args.w.now in
    let new = c.make_switch.new.w in
    let r = c.make_switch.result in
    made-for w new r c.args.node _ m itself c.in-Switch.is (λ is. for-asked _ m _ itself _ w new r is.4.asked is.4.forms
    (subst (λ os. MakesOf (c.in-Switch.fallback ∷ os) (tree.Switch is.0 is.1) w new r) c.as_slice.ensures
    (c.make_switch.ensures is.0 is.1 is.2 (subst (λ os. StandForEach w.leaves.now os is.1) (sym c.as_slice.ensures) is.3)))) asked

pub returns-in-Spread : goal.returns-in-Spread
returns-in-Spread g c m itself asked =
    let w = c.args.w.now in
    let new = c.make_spread.new.w in
    let r = c.make_spread.result in
    made-for w new r c.args.node _ m itself c.in-Spread.is (λ is. for-asked _ m _ itself _ w new r is.2 is.3
    (c.make_spread.ensures is.0 is.1)) asked

pub returns-in-Use : goal.returns-in-Use
returns-in-Use g c m itself asked =
    let w = c.args.w.now in
    let new = c.convert_handle.new.w in
    let r = c.convert_handle.result in
    made-for w new r c.args.node _ m itself c.in-Use.is (λ is. for-asked _ m _ itself _ w new r
    (is.2 ∙ ap (use_of c.in-Use.rules w.leaves.now is.0) (sym c.get.ensures)) is.3 (c.convert_handle.ensures is.0 is.1)) asked

pub leaf-requires-clause-leaf : goal.leaf-requires-clause-leaf
leaf-requires-clause-leaf g c = subst (AreOperands c.args.w.now.leaves.now c.args.w.now.seat.now) c.in-Leaf.is c.requires.operands

pub make_of_one-requires-clause-target : goal.make_of_one-requires-clause-target
make_of_one-requires-clause-target g c = subst (AreOperands c.args.w.now.leaves.now c.args.w.now.seat.now) c.in-One.is c.requires.operands

pub make_of_two-requires-clause-target : goal.make_of_two-requires-clause-target
make_of_two-requires-clause-target g c = (subst (AreOperands c.args.w.now.leaves.now c.args.w.now.seat.now) c.in-Two.is c.requires.operands).0

pub make_of_two-requires-clause-part : goal.make_of_two-requires-clause-part
make_of_two-requires-clause-part g c = (subst (AreOperands c.args.w.now.leaves.now c.args.w.now.seat.now) c.in-Two.is c.requires.operands).1

pub make_of_three-requires-clause-first : goal.make_of_three-requires-clause-first
make_of_three-requires-clause-first g c = (subst (AreOperands c.args.w.now.leaves.now c.args.w.now.seat.now) c.in-Three.is c.requires.operands).0

pub make_of_three-requires-clause-second : goal.make_of_three-requires-clause-second
make_of_three-requires-clause-second g c = (subst (AreOperands c.args.w.now.leaves.now c.args.w.now.seat.now) c.in-Three.is c.requires.operands).1

pub make_of_three-requires-clause-third : goal.make_of_three-requires-clause-third
make_of_three-requires-clause-third g c = (subst (AreOperands c.args.w.now.leaves.now c.args.w.now.seat.now) c.in-Three.is c.requires.operands).2

pub make_spread-requires-clause-target : goal.make_spread-requires-clause-target
make_spread-requires-clause-target g c = subst (AreOperands c.args.w.now.leaves.now c.args.w.now.seat.now) c.in-Spread.is c.requires.operands

pub convert_handle-requires-clause-target : goal.convert_handle-requires-clause-target
convert_handle-requires-clause-target g c = subst (AreOperands c.args.w.now.leaves.now c.args.w.now.seat.now) c.in-Use.is c.requires.operands

pub make_switch-requires-clause-fallback : goal.make_switch-requires-clause-fallback
make_switch-requires-clause-fallback g c = (subst (AreOperands c.args.w.now.leaves.now c.args.w.now.seat.now) c.in-Switch.is c.requires.operands).0

pub make_switch-requires-clause-cases : goal.make_switch-requires-clause-cases
make_switch-requires-clause-cases g c =
    subst (AreAllOperands c.args.w.now.leaves.now c.args.w.now.seat.now) (sym c.as_slice.ensures)
    (subst (AreOperands c.args.w.now.leaves.now c.args.w.now.seat.now) c.in-Switch.is c.requires.operands).1
