-- Registers that hold the same under every name except one.
use denote.Ref.{Bor}
use Rattle.std.proofs.Common.{◌≡◌, refl, sym, ◌∙◌, ap, subst, ℕ, Bool, true, false, List, Option, Some}
use Rattle.std.specs.Prelude.{if◌then◌else◌}
use Rattle.std.specs.Str.{bytes_eq}
use Rattle.mh_leaf.specs.LeafTable.{LeafTable}
use Rattle.mh_attempt.specs.declared.registers.Held.{Held}
use Rattle.mh_attempt.specs.declared.registers.Registers.{Registers}
use Rattle.mh_link.specs.Linked.{assigning}
use Rattle.mh_link.specs.Operands.{Content, Frame, last_assigned}
use Rattle.mh_attempt.specs.Registers.{Hold, HoldOthers, HoldsContent, HoldsLast, assigned_to, held_under}
use Rattle.mh_attempt.proofs.assigned.Assigning.{held-assigned}

-- nothing changed
pub others-same : (name : List ℕ) (old new : Registers) → new.call ≡ old.call → new.serial ≡ old.serial → new.assigned.items ≡ old.assigned.items →
    HoldOthers name old new
others-same name old new call serial same =
    record { call = call; serial = serial; under = λ other apart. ap (held_under other) same }

-- this name was assigned
pub others-assigned : (name : Bor (List ℕ)) (h : Held) (old new : Registers) → new.call ≡ old.call → new.serial ≡ old.serial →
    new.assigned.items ≡ assigned_to name h old.assigned.items → HoldOthers name.now old new
others-assigned name h old new call serial is = record {
  call = call;
  serial = serial;
  under = λ other apart.
      ap (held_under other) is
      ∙ (held-assigned name h other old.assigned.items ∙ ap (λ b. if b then Some h else held_under other old.assigned.items) apart);
}

last-over : (leaves : LeafTable) (p : Bool) (h : Held) (c : Content) (found before : Option Held) (last : Option Content) → HoldsContent leaves h c →
    (p ≡ false → found ≡ before) → HoldsLast leaves before last → HoldsLast leaves (if p then Some h else found) (if p then Some c else last)
last-over leaves true h c found before last holds same rest = holds
last-over leaves false h c found before last holds same rest = subst (λ o. HoldsLast leaves o last) (sym (same refl)) rest

-- the name is assigned then: the registers stand for the frame where it is, whatever it had
pub over-hold : (leaves : LeafTable) (old mid new : Registers) (name : Bor (List ℕ)) (h : Held) (frame : Frame) (c : Content) → HoldOthers name.now old mid →
    new.call ≡ mid.call → new.serial ≡ mid.serial → new.assigned.items ≡ assigned_to name h mid.assigned.items → Hold leaves old frame →
    HoldsContent leaves h c → Hold leaves new (assigning name.now c frame)
over-hold leaves old mid new name h frame c others call serial assigned hold holds =
    let called = call ∙ others.call in
    record {
      call = hold.call ∙ ap (λ b. b.now) (sym called);
      serial = hold.serial ∙ sym (serial ∙ others.serial);
      arguments = rw called hold.arguments;
      assigned = record {
        under = λ other.
            subst (λ found. HoldsLast leaves found (last_assigned other (assigning name.now c frame).assigned))
            (sym (ap (held_under other) assigned ∙ held-assigned name h other mid.assigned.items))
            (last-over leaves (bytes_eq name.now other) h c (held_under other mid.assigned.items) (held_under other old.assigned.items)
            (last_assigned other frame.assigned) holds (others.under other) (hold.assigned.under other));
      };
    }
