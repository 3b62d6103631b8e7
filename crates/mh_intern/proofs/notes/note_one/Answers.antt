use Rattle.std.proofs.Common.{List, ◌+◌, arith, ◌≡◌, ◌==◌, ◌&&◌, true, rules, sym, ◌∙◌, ap, subst}
use mathlib.Core.Option.{some}
use lib.ListN.{get_elem?}
use Rattle.mh_intern.specs.declared.notes.Note.{Note}
use Rattle.mh_intern.specs.Lists.{is_entry}
use Rattle.mh_intern.specs.Notes.{Records}
use Rattle.mh_intern.proofs.Entries.{entry-is}
use Rattle.mh_intern.proofs.Finding.{at_item, either_way, found}
use Rattle.mh_intern.proofs.Recording.{records_same, records_set}
use Rattle.mh_intern.proofs.notes.note_one.Goals as goal

pub returns-in-Some : goal.returns-in-Some
returns-in-Some c =
    let e = c.args.entry.now in
    let m : Note = c.index_mut.result.now in
    let q = found (λ (n : Note). is_entry n.entry e) c.args.notes.now.items c.in-Some.at m (search (rules, (sym c.entry_at.ensures ∙ c.in-Some.is))) in
    let t : is_entry m.entry e ≡ true = subst (λ (z : Note). is_entry z.entry e ≡ true) (sym c.index_mut.ensures.value) q.1 in
    let at = q.0 ∙ ap some (sym c.index_mut.ensures.value) in
    let same = ap (λ (z : Note). z.counted) (c.index.ensures ∙ at_item c.args.notes.now.items c.in-Some.at c.index.result.now m at) in
    records_set e c.args.notes.now.items c.in-Some.at c.saturating_add.result m at (entry-is m.entry e t) (omega (arith, c.saturating_add.ensures, same))

pub returns-then-len-lt-MOST_NOTES : goal.returns-then-len-lt-MOST_NOTES
returns-then-len-lt-MOST_NOTES c =
    let e = c.args.entry.now in
    let old = c.args.notes.now.items in
    either_way c.add_note.result c.add_note.ensures.ok c.add_note.ensures.err (λ r. r)
    (λ same. subst (λ (l : List Note). Records e old l) (sym same) (records_same e old))
