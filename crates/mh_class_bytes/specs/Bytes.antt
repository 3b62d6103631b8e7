-- Big-endian numbers and runs of bytes at a place (JVMS 4).
use Rattle.std.specs.Prelude.{◌≡◌, ℕ, ◌+◌, ◌≤◌, List, length, take, drop, nat_lt, Result, Ok, Err, if◌then◌else◌}
use Rattle.byteorder.specs.Endian.{big_number}
use Rattle.mh_class_bytes.specs.Position.{Position}
use Rattle.mh_class_bytes.specs.declared.cursor.Short.{Short}

-- a value with the position after it, or the place where it does not fit
abbrev pub Found : Type 0 → Type 0
Found X = Result (X × Position) Short

-- the position n bytes on
abbrev pub skip : ℕ → Position → Position
skip n p = record { bytes = p.bytes; at = p.at + n }

-- the next n bytes, if n bytes are left
abbrev pub bytes_at : ℕ → Position → Found (List ℕ)
bytes_at n p = if nat_lt (length p.bytes) (p.at + n) then Err (record { at = p.at }) else Ok (take n (drop p.at p.bytes), skip n p)

-- the number in the next n bytes, the highest byte first
abbrev pub number_at : ℕ → Position → Found ℕ
number_at n p = if nat_lt (length p.bytes) (p.at + n) then Err (record { at = p.at }) else Ok (big_number n (drop p.at p.bytes), skip n p)

-- a cursor never goes back, and stays on its bytes
pub record MovesOn (old new : Position) : Type 0 where
  pub bytes : new.bytes ≡ old.bytes
  pub onward : old.at ≤ new.at

-- what was found at the old position was answered, seen by a view; after a refusal the cursor is where it was
abbrev pub Taken : {X Y : Type 0} → (X → Y) → Position → Result X Short → Position → Found Y → Type 0
Taken view old (Ok x) new found = found ≡ Ok (view x, new)
Taken view old (Err e) new found = (found ≡ Err e) × (new ≡ old)

-- a call on a cursor answered what is at its old position, and only moved the cursor on
pub record Takes {X Y : Type 0} (view : X → Y) (old : Position) (result : Result X Short) (new : Position) (found : Found Y) : Type 0 where
  pub taken : Taken view old result new found
  pub moves : MovesOn old new
