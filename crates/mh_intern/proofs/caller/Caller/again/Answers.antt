use Rattle.std.proofs.Common.{◌≡◌, ◌≤◌, rules, refl, ap, sym, ◌∙◌, subst}
use Rattle.mh_intern.specs.declared.holding.Entry.{Entry}
use Rattle.mh_intern.specs.Callers.{Again, CallerView}
use Rattle.mh_intern.specs.Notes.{as_kept}
use Rattle.mh_intern.specs.Plays.{HMe}
use Rattle.mh_intern.proofs.Finding.{same_some}
use Rattle.mh_intern.proofs.Noting.{again_by, found_again, noted_found}
use Rattle.mh_intern.proofs.caller.Caller.again.Goals as goal

pub keep_asked-requires-clause-slot : goal.keep_asked-requires-clause-slot
keep_asked-requires-clause-slot c =
    (found_again c.self.inside.place.me.0 c.self.inside.notes.items c.self.invariant.1 c.in-Some.at c.args.ty.now c.index.result.now c.in_ok-entry.entry
    (search (rules, (sym c.type_at.ensures ∙ c.in-Some.is))) c.index.ensures c.in_ok-entry.ensures).1

pub keep_asked-requires-clause-held : goal.keep_asked-requires-clause-held
keep_asked-requires-clause-held c =
    (found_again c.self.inside.place.me.0 c.self.inside.notes.items c.self.invariant.1 c.in-Some.at c.args.ty.now c.index.result.now c.in_ok-entry.entry
    (search (rules, (sym c.type_at.ensures ∙ c.in-Some.is))) c.index.ensures c.in_ok-entry.ensures).2

pub invariant_of-self : goal.invariant_of-self
invariant_of-self c =
    let room = subst (λ (z : CallerView). 1 ≤ z.view.room) (sym c.self.view_is) c.requires.room in
    let moved = c.keep_asked.ensures.1 in (
      search rules,
      noted_found c.self.inside.place.me.0 c.self.inside.notes.items c.self.invariant.1 c.in-Some.at c.args.ty.now c.index.result.now c.in_ok-entry.entry
          c.keep_asked.new.seat.me.0 c.owe.new.notes.items (search (rules, (sym c.type_at.ensures ∙ c.in-Some.is))) c.index.ensures c.in_ok-entry.ensures room
          c.owe.ensures (ap (λ (z : HMe). z.0.holds) moved) (ap (λ (z : HMe). z.0.room) moved) (ap (λ (z : HMe). z.0.kept) moved),
    )

pub returns-clause-some : goal.returns-clause-some
returns-clause-some c = λ e given.
    let x : Entry = c.in_ok-entry.entry in
    let new : CallerView = record { table = c.keep_asked.new.seat.table_id; view = as_kept c.keep_asked.new.seat.me.0 } in
    subst (λ (z : Entry). Again c.args.ty.now z c.args.self.now new) (same_some x e given)
    (again_by c.self.inside.place.me.0 c.self.inside.notes.items c.self.invariant.1 c.in-Some.at c.args.ty.now c.index.result.now x c.args.self.now new
    c.keep_asked.new.seat.me.0 (search (rules, (sym c.type_at.ensures ∙ c.in-Some.is))) c.index.ensures c.in_ok-entry.ensures
    (sym (ap (λ (z : CallerView). z.view) c.self.view_is)) (c.keep_asked.ensures.0 ∙ ap (λ (z : CallerView). z.table) c.self.view_is) refl
    (ap (λ (z : HMe). z.0) c.keep_asked.ensures.1))
