use Rattle.std.proofs.Common.{◌≡◌, ◌≤◌, ◌<◌, rules, ap, sym, ◌∙◌, subst}
use Rattle.mh_intern.specs.Callers.{CallerView}
use Rattle.mh_intern.specs.Lists.{Agrees}
use Rattle.mh_intern.specs.Plays.{HMe}
use Rattle.mh_intern.proofs.Entries.{In}
use Rattle.mh_intern.proofs.Noting.{again_is, counts_one, in_counted, noted_again}
use Rattle.mh_intern.proofs.caller.Caller.dup.Goals as goal

pub keep_more-requires-clause-held : goal.keep_more-requires-clause-held
keep_more-requires-clause-held c =
    in_counted _ _ c.self.invariant.1 c.args.held.now (subst (λ (z : CallerView). In z.view.holds c.args.held.now) (sym c.self.view_is) c.requires.held)

pub invariant_of-self : goal.invariant_of-self
invariant_of-self c =
    let e = c.args.held.now in
    let kept = subst (λ (z : CallerView). In z.view.holds e) (sym c.self.view_is) c.requires.held in
    let agrees = subst (λ (z : CallerView). Agrees z.view.holds) (sym c.self.view_is) c.requires.agrees in
    let room = subst (λ (z : CallerView). 1 ≤ z.view.room) (sym c.self.view_is) c.requires.room in
    let moved = c.keep_more.ensures.1 in (
      search rules,
      noted_again c.self.inside.place.me.0 c.self.inside.notes.items c.self.invariant.1 c.in-Some.at e c.keep_more.new.seat.me.0 c.owe.new.notes.items
          (search (rules, (sym c.counted_at.ensures ∙ c.in-Some.is))) agrees kept room c.owe.ensures (ap (λ (z : HMe). z.0.holds) moved)
          (ap (λ (z : HMe). z.0.room) moved) (ap (λ (z : HMe). z.0.kept) moved),
    )

pub returns-in_ok-entry-in-Some-clause-same : goal.returns-in_ok-entry-in-Some-clause-same
returns-in_ok-entry-in-Some-clause-same c =
    let e = c.args.held.now in
    let kept = subst (λ (z : CallerView). In z.view.holds e) (sym c.self.view_is) c.requires.held in
    let agrees = subst (λ (z : CallerView). Agrees z.view.holds) (sym c.self.view_is) c.requires.agrees in
    c.in_ok-entry-in-Some.ensures
    ∙ again_is c.self.inside.place.me.0 c.self.inside.notes.items c.self.invariant.1 c.in-Some.at e c.index.result.now
    (search (rules, (sym c.counted_at.ensures ∙ c.in-Some.is))) agrees kept c.index.ensures

pub raise_held-requires-clause-held : goal.raise_held-requires-clause-held
raise_held-requires-clause-held c =
    in_counted _ _ c.self.invariant.1 c.args.held.now (subst (λ (z : CallerView). In z.view.holds c.args.held.now) (sym c.self.view_is) c.requires.held)

pub invariant_of-self-in-None : goal.invariant_of-self-in-None
invariant_of-self-in-None c =
    let room = subst (λ (z : CallerView). 1 ≤ z.view.room) (sym c.self.view_is) c.requires.room in
    let moved = c.raise_held.ensures.1 in (
      search rules,
      counts_one c.self.inside.place.me.0 c.self.inside.notes.items c.self.invariant.1 c.args.held.now c.raise_held.new.seat.me.0 room
          (ap (λ (z : HMe). z.0.holds) moved) (ap (λ (z : HMe). z.0.kept) moved) (ap (λ (z : HMe). z.0.room) moved),
    )
