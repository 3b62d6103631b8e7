use Rattle.std.proofs.Common.{ap, sym, subst}
use Rattle.mh_intern.specs.Callers.{LooksAt}
use Rattle.mh_intern.specs.Notes.{IsNoted, as_kept}
use Rattle.mh_intern.specs.Plays.{HMe}
use Rattle.mh_intern.proofs.Noting.{looks_kept}
use Rattle.mh_intern.proofs.Settling.{noted_joined}
use Rattle.mh_intern.proofs.caller.Caller.join.Goals as goal

pub returns-clause-looked : goal.returns-clause-looked
returns-clause-looked c =
    let notes = c.self.inside.notes.items in
    let l = c.look.ensures in
    let n = subst (λ (m : HMe). IsNoted m.0 notes) (sym c.join.ensures.1)
    (noted_joined c.self.inside.place.me.0 c.settled.result.me.0 notes c.self.invariant.1 c.settled.ensures.settled.noted) in
    subst (λ (m : HMe). LooksAt (as_kept m.0)) (sym l.same.1) (looks_kept c.join.new.seat.me.0 notes n l.agrees l.full l.most l.asked)
