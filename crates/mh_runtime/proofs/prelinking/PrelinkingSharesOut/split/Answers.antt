use Rattle.std.proofs.Common.{◌+◌, refl, sym, ap₂, subst, length, IfOk}
use Rattle.mh_runtime.specs.declared.prelinking.Prelinked.{Prelinked}
use Rattle.mh_runtime.specs.Linkers.{SplitsPass}
use Rattle.mh_runtime.proofs.workers.WorkersJoined.{off-ready, off-reported}
use Rattle.mh_runtime.proofs.prelinking.PrelinkingSharesOut.split.Goals as goal

pub returns-clause-split_off : goal.returns-clause-split_off
returns-clause-split_off g c = λ passes off same.
    let old = c.args.state.now in
    let new : Prelinked _ = record { pass = c.split.new.pass; stop = old.stop } in
    off-reported g.J.Run.given c.args.self.now.linker.now c.args.self.now.constants.now (length c.args.self.now.plan.now) c.args.self.now.workers passes old
    off new c.split.result
    (subst (λ n. IfOk c.split.result (SplitsPass n old.pass new.pass)) (ap₂ (λ m n. m + n) c.len.ensures (sym same)) c.split.ensures.splits) refl

pub returns-clause-room : goal.returns-clause-room
returns-clause-room g c =
    off-ready g.J.Run.given c.args.self.now.linker.now c.args.self.now.constants.now (length c.args.self.now.plan.now) c.args.self.now.workers c.requires.0
    c.args.state.now c.requires.1 _ c.split.new.pass c.split.result c.split.ensures.other c.split.ensures.room c.split.ensures.splits
