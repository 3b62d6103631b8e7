use Rattle.std.proofs.Common.{◌==◌, List, rules, sym, subst, ◌∙◌}
use Rattle.std.proofs.lemmas.Bool.{eqb-true}
use Rattle.std.proofs.lemmas.List.Quantifiers.{position-Some}
use Rattle.mh_intern.specs.declared.holding.Entry.{Entry}
use Rattle.mh_intern.specs.Lists.{Places}
use Rattle.mh_intern.proofs.Placing.{places_push, places_set, position_none}
use Rattle.mh_intern.proofs.list.put.Goals as goal

pub returns-in-Some : goal.returns-in-Some
returns-in-Some c =
    let p = position-Some (λ (e : Entry). e.slot == c.args.entry.slot) c.args.entries.now.items c.in-Some.at c.args.entry
    (search (rules, (sym c.place_of_slot.ensures ∙ c.in-Some.is))) in
    places_set c.args.entry c.args.entries.now.items c.in-Some.at c.args.entry p.0 (eqb-true _ _ p.1)

pub returns-in-None : goal.returns-in-None
returns-in-None c =
    subst (λ (l : List Entry). Places c.args.entry c.args.entries.now.items l) (sym c.push_reserved.ensures.items)
    (places_push c.args.entry c.args.entries.now.items (position_none (λ (e : Entry). e.slot == c.args.entry.slot) c.args.entries.now.items
    (search (rules, (sym c.place_of_slot.ensures ∙ c.in-None.is)))))
