use Rattle.std.proofs.Common.{◌≡◌, ◌≤◌, rules, ap, sym, ◌∙◌, subst, Result, Ok}
use Rattle.mh_intern.specs.declared.error.InternError.{InternError}
use Rattle.mh_intern.specs.declared.holding.Entry.{Entry}
use Rattle.mh_intern.specs.Callers.{CallerView, LooksAt}
use Rattle.mh_intern.specs.Interning.{Interned}
use Rattle.mh_intern.specs.Notes.{IsNoted, as_kept}
use Rattle.mh_intern.specs.Plays.{HMe}
use Rattle.mh_intern.proofs.Noting.{looks_kept}
use Rattle.mh_intern.proofs.Recording.{noted_asked, noted_recorded}
use Rattle.mh_intern.proofs.caller.Caller.ask.Goals as goal

pub invariant_of-self : goal.invariant_of-self
invariant_of-self c =
    let v = c.self.inside.place.me.0 in
    let w = c.serve-answer.new.caller.me.0 in
    let room = subst (λ (z : CallerView). 1 ≤ z.view.room) (sym c.self.view_is) c.requires.room.0 in
    let told : Interned c.args.request.ty v (Ok c.in-Ok.entry) w =
    subst (λ (r : Result Entry InternError). Interned c.args.request.ty v r w) c.in-Ok.is c.serve-answer.ensures.caller in (
      search rules,
      subst (λ (m : HMe). IsNoted m.0 c.note_one.new.notes.items) (sym c.look.ensures.same.1)
          (noted_recorded v c.self.inside.notes.items c.note_one.new.notes.items c.self.invariant.1 c.in-Ok.entry w room (ap (λ z. z.holds) told.2)
          (ap (λ z. z.kept) told.2) (ap (λ z. z.room) told.2) told.1 c.note_one.ensures),
    )

pub returns-in-Ok-clause-looked : goal.returns-in-Ok-clause-looked
returns-in-Ok-clause-looked c =
    let v = c.self.inside.place.me.0 in
    let w = c.serve-answer.new.caller.me.0 in
    let room = subst (λ (z : CallerView). 1 ≤ z.view.room) (sym c.self.view_is) c.requires.room.0 in
    let n = noted_asked v c.self.inside.notes.items c.self.invariant.1 c.args.request.ty _ w room c.serve-answer.ensures.caller in
    let l = c.look.ensures in
    subst (λ (m : HMe). LooksAt (as_kept m.0)) (sym l.same.1) (looks_kept w c.self.inside.notes.items n l.agrees l.full l.most l.asked)

pub returns-in_default-clause-looked : goal.returns-in_default-clause-looked
returns-in_default-clause-looked c =
    let v = c.self.inside.place.me.0 in
    let w = c.serve-answer.new.caller.me.0 in
    let room = subst (λ (z : CallerView). 1 ≤ z.view.room) (sym c.self.view_is) c.requires.room.0 in
    let n = noted_asked v c.self.inside.notes.items c.self.invariant.1 c.args.request.ty _ w room c.serve-answer.ensures.caller in
    let l = c.look.ensures in
    subst (λ (m : HMe). LooksAt (as_kept m.0)) (sym l.same.1) (looks_kept w c.self.inside.notes.items n l.agrees l.full l.most l.asked)
