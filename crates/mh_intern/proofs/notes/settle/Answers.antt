use Rattle.std.proofs.Common.{rules, ◌≡◌, ◌+◌, ◌∙◌, ◌∷◌, drop, ap, sym, subst, arith}
use mathlib.Core.Option.{some}
use lib.ListN.{get_elem?}
use Rattle.mh_intern.specs.Plays.{HMe}
use Rattle.mh_intern.specs.declared.notes.Note.{Note}
use Rattle.mh_intern.specs.Notes.{IsNoted}
use Rattle.mh_intern.proofs.Finding.{item_at, drop_at}
use Rattle.mh_intern.proofs.Settling.{settled_none, CountsOn, counts_on}
use Rattle.mh_intern.proofs.notes.settle.Goals as goal
use Rattle.mh_intern.proofs.notes.settle.Goals.{then-note-gt0, else-note-gt0}

pub count_more-requires-clause-held : goal.count_more-requires-clause-held
count_more-requires-clause-held c =
    let m : Note = c.note-item.result in
    let i = c.loop-note.note-index in
    let at : get_elem? c.args.notes.now i ≡ some m = item_at c.args.notes.now i m (search rules) ∙ ap some (sym c.note-item.is) in
    (subst (IsNoted c.loop-note.seat.me.0) (drop_at c.args.notes.now i m at) c.loop-note.invariant.noted).covered 0 m (λ _. some m) c.if-note-gt0.true

pub loop-note-preserved : goal.loop-note-preserved
loop-note-preserved c =
    let m : Note = c.note-item.result in
    let i = c.loop-note.note-index in
    let first = c.args.seat.now.me.0 in
    let v = c.loop-note.seat.me.0 in
    let rest = drop (i + 1) c.args.notes.now in
    let at : get_elem? c.args.notes.now i ≡ some m = item_at c.args.notes.now i m (search rules) ∙ ap some (sym c.note-item.is) in
    let n : IsNoted v (m ∷ rest) = subst (IsNoted v) (drop_at c.args.notes.now i m at) c.loop-note.invariant.noted in
    elim c.if-note-gt0.branch [
      | then-note-gt0 w ↦
          let moved = w.count_more.ensures in
          let k = counts_on first v c.if-note-gt0.seat.me.0 m rest (ap (λ s. s.me.0) w.seat-is ∙ ap (λ (z : HMe). z.0) moved.1)
          (n, c.loop-note.invariant.room, c.loop-note.invariant.others) in
          record {
            table = ap (λ s. s.table_id) w.seat-is ∙ (moved.0 ∙ c.loop-note.invariant.table);
            free = ap (λ s. s.me.1) w.seat-is ∙ (ap (λ (z : HMe). z.1) moved.1 ∙ c.loop-note.invariant.free);
            noted = k.0;
            room = k.1;
            others = k.2;
          }
      | else-note-gt0 w ↦
          let same : c.if-note-gt0.seat.me.0 ≡ v = ap (λ s. s.me.0) w.seat-is in
          let k = subst (λ z. CountsOn first z rest) (sym same)
          (settled_none v m rest (let no = w.if-note-gt0.false in omega arith) n, c.loop-note.invariant.room, c.loop-note.invariant.others) in
          record {
            table = ap (λ s. s.table_id) w.seat-is ∙ c.loop-note.invariant.table;
            free = ap (λ s. s.me.1) w.seat-is ∙ c.loop-note.invariant.free;
            noted = k.0;
            room = k.1;
            others = k.2;
          }
    ]
