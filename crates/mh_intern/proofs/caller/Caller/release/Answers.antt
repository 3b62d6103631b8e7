use Rattle.std.proofs.Common.{◌≡◌, ◌≤◌, ◌<◌, rules, ap, sym, ◌∙◌, subst}
use Rattle.mh_intern.specs.Callers.{CallerView}
use Rattle.mh_intern.specs.Lists.{Agrees}
use Rattle.mh_intern.specs.Notes.{IsNoted, as_kept}
use Rattle.mh_intern.specs.Plays.{HMe}
use Rattle.mh_intern.proofs.Entries.{In}
use Rattle.mh_intern.specs.Kinds.{held_less}
use Rattle.mh_intern.proofs.Noting.{agrees_counted, in_counted, kept_held_less, kept_one_less, noted_repaid, owes_at, unowed}
use Rattle.mh_intern.proofs.Recording.{noted_lowered}
use Rattle.mh_intern.proofs.caller.Caller.release.Goals as goal

pub repay-requires-clause-some : goal.repay-requires-clause-some
repay-requires-clause-some c =
    owes_at c.self.inside.place.me.0 c.self.inside.notes.items c.self.invariant.1 c.in-Some.at c.args.held.now.slot
    (search (rules, (sym c.owed_at.ensures ∙ c.in-Some.is)))

pub keep_less-requires-clause-held : goal.keep_less-requires-clause-held
keep_less-requires-clause-held c =
    in_counted _ _ c.self.invariant.1 c.args.held.now (subst (λ (z : CallerView). In z.view.holds c.args.held.now) (sym c.self.view_is) c.requires.held)

pub invariant_of-self : goal.invariant_of-self
invariant_of-self c =
    let e = c.args.held.now in
    let kept = subst (λ (z : CallerView). In z.view.holds e) (sym c.self.view_is) c.requires.held in
    let agrees = subst (λ (z : CallerView). Agrees z.view.holds) (sym c.self.view_is) c.requires.agrees in (
      search rules,
      subst (λ (z : HMe). IsNoted z.0 c.repay.new.notes.items) (sym c.keep_less.ensures.1)
          (noted_repaid c.self.inside.place.me.0 c.self.inside.notes.items c.self.invariant.1 c.in-Some.at e c.repay.new.notes.items
          (search (rules, (sym c.owed_at.ensures ∙ c.in-Some.is))) agrees kept c.repay.ensures),
    )

pub returns-in-Some : goal.returns-in-Some
returns-in-Some c =
    let e = c.args.held.now in
    let kept = subst (λ (z : CallerView). In z.view.holds e) (sym c.self.view_is) c.requires.held in
    let less = kept_one_less c.self.inside.place.me.0 c.self.inside.notes.items c.self.invariant.1 e kept in (
      c.keep_less.ensures.0 ∙ ap (λ (z : CallerView). z.table) c.self.view_is,
      ap (λ (z : HMe). as_kept z.0) c.keep_less.ensures.1 ∙ (less ∙ ap (λ (z : CallerView). held_less e z.view) c.self.view_is),
    )

pub lower-requires-clause-held : goal.lower-requires-clause-held
lower-requires-clause-held c =
    in_counted _ _ c.self.invariant.1 c.args.held.now (subst (λ (z : CallerView). In z.view.holds c.args.held.now) (sym c.self.view_is) c.requires.held)

pub invariant_of-self-in-None : goal.invariant_of-self-in-None
invariant_of-self-in-None c =
    let v = c.self.inside.place.me.0 in
    let notes = c.self.inside.notes.items in
    let e = c.args.held.now in
    let kept = subst (λ (z : CallerView). In z.view.holds e) (sym c.self.view_is) c.requires.held in
    let agrees = subst (λ (z : CallerView). Agrees z.view.holds) (sym c.self.view_is) c.requires.agrees in (
      search rules,
      subst (λ (z : HMe). IsNoted z.0 c.forget_one.new.notes.items) (sym c.lower.ensures.1)
          (noted_lowered v notes c.forget_one.new.notes.items c.self.invariant.1 e (agrees_counted v notes c.self.invariant.1 agrees) kept
          (unowed v notes c.self.invariant.1 e.slot (search (rules, (sym c.owed_at.ensures ∙ c.in-None.is)))) c.forget_one.ensures),
    )

pub returns-in-None : goal.returns-in-None
returns-in-None c =
    let e = c.args.held.now in
    let kept = subst (λ (z : CallerView). In z.view.holds e) (sym c.self.view_is) c.requires.held in
    let less = kept_held_less c.self.inside.place.me.0 c.self.inside.notes.items c.self.invariant.1 e kept in (
      c.lower.ensures.0 ∙ ap (λ (z : CallerView). z.table) c.self.view_is,
      ap (λ (z : HMe). as_kept z.0) c.lower.ensures.1 ∙ (less ∙ ap (λ (z : CallerView). held_less e z.view) c.self.view_is),
    )
