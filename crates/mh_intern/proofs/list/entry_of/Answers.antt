use Rattle.std.proofs.Common.{◌≡◌, ◌<◌, rules, sym, subst, ◌∙◌, slice_index_or}
use Rattle.std.proofs.lemmas.List.Quantifiers.{position-Some}
use Rattle.mh_values.specs.Same.{is_same_method_type}
use Rattle.mh_values.proofs.SameTypes.{same_method_type-is}
use Rattle.mh_intern.specs.declared.holding.Entry.{Entry}
use Rattle.mh_intern.specs.Held.{has}
use Rattle.mh_intern.specs.Lists.{is_entry}
use Rattle.mh_intern.proofs.Entries.{entry-itself}
use Rattle.mh_intern.proofs.Placing.{counted_at, position_none}
use Rattle.mh_intern.proofs.list.entry_of.Goals as goal

pub returns-in_ok-share-in-Some : goal.returns-in_ok-share-in-Some
returns-in_ok-share-in-Some c =
    let es = c.args.entries.now in
    let ty = c.args.ty.now in
    let d : Entry = c.index-entries-at.result in
    let x : Entry = slice_index_or es c.in-Some.at d in
    let p = position-Some (λ (e : Entry). is_same_method_type e.ty ty) es c.in-Some.at d (sym c.place_of_type.ensures ∙ c.in-Some.is) in
    let same : c.in_ok-share-in-Some.field-0 ≡ x = search rules in
    subst (λ (z : Entry). (z.ty ≡ ty) × (0 < has z.slot z.ty es)) (sym same)
    (same_method_type-is x.ty ty p.1, counted_at (λ (y : Entry). is_entry y x) es c.in-Some.at d p.0 (entry-itself x))

pub returns-in-None : goal.returns-in-None
returns-in-None c =
    position_none (λ (e : Entry). is_same_method_type e.ty c.args.ty.now) c.args.entries.now (sym c.place_of_type.ensures ∙ c.in-None.is)
