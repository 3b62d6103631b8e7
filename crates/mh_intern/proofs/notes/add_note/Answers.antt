use Rattle.std.proofs.Common.{[], ◌∷◌, ◌++◌, ◌≡◌, List, rules, sym, subst}
use Rattle.mh_intern.specs.declared.notes.Note.{Note}
use Rattle.mh_intern.specs.Notes.{Records}
use Rattle.mh_intern.proofs.Recording.{records_push}
use Rattle.mh_intern.proofs.notes.add_note.Goals as goal

pub returns-clause-ok : goal.returns-clause-ok
returns-clause-ok c =
    let e = c.args.entry.now in
    let old = c.args.notes.now.items in
    let is : c.push_reserved.new.self.items ≡ old ++ record { entry = e; counted = 1; owed = 0 } ∷ [] = search rules in
    subst (λ (l : List Note). Records e old l) (sym is) (records_push e old)
