-- Runs of scripts: registers of which a line has assigned one.
use denote.Ref.{Bor}
use Rattle.std.proofs.Common.{◌≡◌, sym, ◌∙◌, ap, subst, ℕ, ◌<◌, ◌^◌, Bool, true, false, List, Option, Some, pos, to_z, w64}
use Rattle.std.specs.Prelude.{if◌then◌else◌}
use Rattle.std.specs.Str.{bytes_eq}
use Rattle.std.proofs.lemmas.Int.{to_z_pos}
use Rattle.mh_values.specs.declared.value.Num.TheVariants as num
use Rattle.mh_values.specs.declared.value.Value.TheVariants as values
use Rattle.mh_leaf.specs.LeafTable.{LeafTable}
use Rattle.mh_attempt.specs.declared.registers.Held.{Held}
use Rattle.mh_attempt.specs.declared.registers.Held.TheVariants as held
use Rattle.mh_attempt.specs.declared.registers.Registers.{Registers}
use Rattle.mh_link.specs.Linked.{assigning}
use Rattle.mh_link.specs.Operands.{Content, Frame, last_assigned, value}
use Rattle.mh_attempt.specs.Registers.{Hold, HoldSame, HoldsContent, HoldsLast, assigned_to, held_under}
use Rattle.mh_attempt.proofs.assigned.Assigning.{held-assigned}

-- ---- frames

last-where : (leaves : LeafTable) (p : Bool) (h : Held) (c : Content) (found : Option Held) (last : Option Content) → HoldsContent leaves h c →
    HoldsLast leaves found last → HoldsLast leaves (if p then Some h else found) (if p then Some c else last)
last-where leaves true h c found last holds rest = holds
last-where leaves false h c found last holds rest = rest

-- registers of which one is assigned stand for the frame where it is
pub assigned-hold : (leaves : LeafTable) (old new : Registers) (name : Bor (List ℕ)) (h : Held) (frame : Frame) (c : Content) → new.call ≡ old.call →
    new.serial ≡ old.serial → new.assigned.items ≡ assigned_to name h old.assigned.items → Hold leaves old frame → HoldsContent leaves h c →
    Hold leaves new (assigning name.now c frame)
assigned-hold leaves old new name h frame c call serial assigned hold holds = record {
  call = hold.call ∙ ap (λ b. b.now) (sym call);
  serial = hold.serial ∙ sym serial;
  arguments = rw call hold.arguments;
  assigned = record {
    under = λ other.
        subst (λ found. HoldsLast leaves found (last_assigned other (assigning name.now c frame).assigned))
        (sym (ap (held_under other) assigned ∙ held-assigned name h other old.assigned.items))
        (last-where leaves (bytes_eq name.now other) h c (held_under other old.assigned.items) (last_assigned other frame.assigned) holds
        (hold.assigned.under other));
  };
}

-- registers that hold the same stand for the same frame
pub same-hold : (leaves : LeafTable) (old new : Registers) (frame : Frame) → HoldSame old new → Hold leaves old frame → Hold leaves new frame
same-hold leaves old new frame same hold = record {
  call = hold.call ∙ ap (λ b. b.now) (sym same.call);
  serial = hold.serial ∙ sym same.serial;
  arguments = rw same.call hold.arguments;
  assigned = rw same.assigned hold.assigned;
}

-- the number of an attempt as what a register holds
abbrev pub numbered : ℕ → Content
numbered serial = value (values.Boxed (num.J (pos serial)))

-- the number that is held is that of the frame
pub number-held : (leaves : LeafTable) (registers : Registers) (frame : Frame) → Hold leaves registers frame → registers.serial < 2 ^ 63 →
    HoldsContent leaves (held.Number (to_z w64 registers.serial)) (numbered frame.serial)
number-held leaves registers frame hold low =
    ap numbered hold.serial ∙ ap (λ n. value (values.Boxed (num.J n))) (sym (to_z_pos w64 registers.serial low))
