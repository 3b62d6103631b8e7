use Rattle.std.proofs.Common.{◌≡◌, ◌<◌, length, None, sym, subst, arith}
use Rattle.mh_values.specs.declared.class.ClassId.{ClassId}
use Rattle.mh_values.specs.Classes.{class_named}
use Rattle.mh_values.specs.ClassNumbers.{IsRegistry, IsWithin}
use Rattle.mh_values.proofs.Adding.{registry-add}
use Rattle.mh_values.proofs.registry.Registry.put.Goals as goal

added : (c : goal.In-Ok) → IsRegistry c.insert.new.self c.push.new.self.items
added c =
    let number : ClassId = record { 0 = c.len.result } in
    let new : class_named c.self.inside.list.items c.args.key.items ≡ None = cc (c.requires.key, c.requires.new, c.self.view_is) in
    let within : IsWithin (length c.self.inside.list.items) c.args.class.superclass =
    λ b is. subst (λ xs. b.0 < length xs) (sym c.self.view_is) (c.requires.below b is) in
    let here : number.0 ≡ length c.self.inside.list.items = omega arith in
    registry-add c.self.inside.numbers c.insert.new.self c.self.inside.list.items c.push.new.self.items c.args.class c.args.key.items number c.self.invariant
    c.in-Ok.ensures.updates new (sym c.requires.key) within here c.in_ok-push.ensures.items

pub invariant_of-self-in-Ok : goal.invariant_of-self-in-Ok
invariant_of-self-in-Ok c = added c

pub returns-clause-ordered : goal.returns-clause-ordered
returns-clause-ordered c = (added c).ordered
