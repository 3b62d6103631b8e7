use Rattle.std.proofs.Common.{◌≡◌, length, Some, arith}
use Rattle.mh_values.specs.Classes.{class_of, most_classes}
use Rattle.mh_values.proofs.Adding.{classes-add}
use Rattle.mh_values.proofs.classes.Classes.declare.Goals as goal

pub invariant_of-self-2 : goal.invariant_of-self-2
invariant_of-self-2 c =
    let room : length c.self.inside.registry ≡ most_classes → ⊥ = λ h. omega arith in
    classes-add c.self.inside.registry c.add.new.self (class_of c.args.name.now (Some c.args.parent)) c.self.invariant room c.in_ok-add.ensures.ok
    c.in_ok-add.ensures.ordered
