use Rattle.std.proofs.Common.{refl}
use Rattle.std.proofs.Math.Seq.{take-add}
use Rattle.std.proofs.lemmas.List.{drop-drop}
use Rattle.mh_form.proofs.stack.Stack.begin.Goals as goal

pub returns : goal.returns
returns c =
    rw (
      ← c.self.view_is,
      take-add c.self.inside.base c.args.count c.self.inside.slots.items,
      drop-drop c.args.count c.self.inside.base c.self.inside.slots.items,
    )
    refl
