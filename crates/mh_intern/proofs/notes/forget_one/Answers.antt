use Rattle.std.proofs.Common.{◌≡◌, ◌==◌, ◌&&◌, nat_lt, true, rules, sym, ◌∙◌, ap, subst}
use Rattle.std.proofs.lemmas.Bool.{and_parts, eqb-true, eq-eqb}
use mathlib.Core.Option.{some}
use lib.ListN.{get_elem?}
use Rattle.mh_intern.specs.declared.notes.Note.{Note}
use Rattle.mh_intern.proofs.Finding.{found, missing, some_more, no_more, and_false}
use Rattle.mh_intern.proofs.Recording.{forgets_set, forgets_none}
use Rattle.mh_intern.proofs.notes.forget_one.Goals as goal

pub overflow_sub-index_mut : goal.overflow_sub-index_mut
overflow_sub-index_mut c =
    let p = λ (n : Note). (n.entry.slot == c.args.slot) && nat_lt 0 n.counted in
    let m : Note = c.index_mut.result.now in
    let q = found p c.args.notes.now.items c.in-Some.at m (search (rules, (sym c.counted_at.ensures ∙ c.in-Some.is))) in
    let t = and_parts (m.entry.slot == c.args.slot) (nat_lt 0 m.counted) (subst (λ (z : Note). p z ≡ true) (sym c.index_mut.ensures.value) q.1) in
    some_more m.counted t.1

pub returns-in-Some : goal.returns-in-Some
returns-in-Some c =
    let p = λ (n : Note). (n.entry.slot == c.args.slot) && nat_lt 0 n.counted in
    let m : Note = c.index_mut.result.now in
    let q = found p c.args.notes.now.items c.in-Some.at m (search (rules, (sym c.counted_at.ensures ∙ c.in-Some.is))) in
    let t = and_parts (m.entry.slot == c.args.slot) (nat_lt 0 m.counted) (subst (λ (z : Note). p z ≡ true) (sym c.index_mut.ensures.value) q.1) in
    forgets_set c.args.slot c.args.notes.now.items c.in-Some.at m (q.0 ∙ ap some (sym c.index_mut.ensures.value)) (eqb-true m.entry.slot c.args.slot t.0)
    (some_more m.counted t.1)

pub returns-in_default : goal.returns-in_default
returns-in_default c =
    let p = λ (n : Note). (n.entry.slot == c.args.slot) && nat_lt 0 n.counted in
    let none = missing p c.args.notes.now.items (search (rules, (sym c.counted_at.ensures ∙ c.in_default.is))) in
    forgets_none c.args.slot c.args.notes.now.items
    (λ i n at is. no_more n.counted (and_false (n.entry.slot == c.args.slot) (nat_lt 0 n.counted) (eq-eqb n.entry.slot c.args.slot is) (none i n at)))
