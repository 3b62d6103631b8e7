-- The next entry of the pool.
use Rattle.std.proofs.Common.{◌≡◌, ℕ, ◌+◌, ◌≤◌, ◌<◌, eqb, List, ◌++◌, length, Ok, Err, refl}
use Rattle.std.proofs.lemmas.Bool.{lt-leb, le-leb}
use Rattle.mh_class_bytes.specs.Position.{Position}
use Rattle.mh_class_bytes.specs.declared.fault.Fault.{Fault}
use Rattle.mh_class_bytes.specs.Format.{reads}
use Rattle.mh_class_pool.specs.declared.entry.Entry.{Entry}
use Rattle.mh_class_pool.specs.declared.fault.ClassKind.{ClassKind}
use Rattle.mh_class_pool.specs.Entries.{Slot, entry, is_full, indexes_of, next_slots}

pub step : (count : ℕ) (slots : List Slot) (p q : Position) (e : Entry) → length slots < count →
    reads (entry (eqb (length slots + 1) count) (is_full slots)) p ≡ Ok (e, q) →
    reads (next_slots count slots) p ≡ Ok (slots ++ indexes_of p.at e, q)
step count slots p q e lt h = rw (lt-leb count (length slots) lt, h) refl

pub step-err : (count : ℕ) (slots : List Slot) (p : Position) (f : Fault ClassKind) → length slots < count →
    reads (entry (eqb (length slots + 1) count) (is_full slots)) p ≡ Err f → reads (next_slots count slots) p ≡ Err f
step-err count slots p f lt h = rw (lt-leb count (length slots) lt, h) refl

pub idle : (count : ℕ) (slots : List Slot) (p : Position) → count ≤ length slots → reads (next_slots count slots) p ≡ Ok (slots, p)
idle count slots p le = rw (le-leb count (length slots) le) refl
