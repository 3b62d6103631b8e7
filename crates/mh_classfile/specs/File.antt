-- Class files (JVMS SE 17, 4.1): which bytes are one, by the part of chapter 4 that is looked at, and the class that they are. Flags, the spelling of
-- names, the descriptors of fields and methods, other attributes and exception entries are passed over, and code is not verified (4.8 to 4.10).
use Rattle.std.specs.Prelude.{◌≡◌, ℕ, nat_lt, nat_le, ◌==◌, ◌&&◌, List, [], length, Option, Some, Ok, Err, unwrap_or, ◌⊎◌}
use Rattle.mh_class_bytes.specs.Position.{Position}
use Rattle.mh_class_bytes.specs.declared.fault.Fault.{Fault}
use Rattle.mh_class_bytes.specs.Format.{number, here, check, verdict, done, ◌>>=◌, Spells, Checked, reads, and_then}
use Rattle.mh_class_pool.specs.declared.entry.Entry.TheVariants as entries
use Rattle.mh_class_pool.specs.declared.fault.ClassKind.{ClassKind}
use Rattle.mh_class_pool.specs.declared.fault.ClassKind.TheVariants.{Truncated, BadMagic, BadVersion, BadIndex, BadBootstraps, Trailing}
use Rattle.mh_class_pool.specs.Entries.{ClassPart, Slot, pool_of}
use Rattle.mh_class_pool.specs.References.{Verdict, holds, each, good_references}
use Rattle.mh_classfile.specs.declared.site.Site.{Site}
use Rattle.mh_classfile.specs.Members.{class_names, members}
use Rattle.mh_classfile.specs.Bootstraps.{class_attributes}
use Rattle.mh_classfile.specs.Rows.{Row}
use Rattle.mh_classfile.specs.Class.{Class, class_of}

-- what a class file begins with
abbrev pub magic_number : ℕ
magic_number = 0xCAFEBABE

-- the major version of the oldest class files, of JDK 1.1 (table 4.1-A)
abbrev pub oldest_major : ℕ
oldest_major = 45

-- the major version of the newest class files that are read, of Java SE 21
abbrev pub newest_major : ℕ
newest_major = 65

-- magic, minor version, a major version from the oldest to the newest, and the count of the pool, which is not 0
unfoldable pub header : ClassPart ℕ
header = do
  at ← here
  magic ← number Truncated 4
  is_magic ← check (magic == magic_number) at BadMagic
  minor ← number Truncated 2
  at_major ← here
  major ← number Truncated 2
  is_known ← check (nat_le oldest_major major && nat_le major newest_major) at_major BadVersion
  at_count ← here
  count ← number Truncated 2
  some ← check (nat_lt 0 count) at_count BadIndex
  done count

-- an entry that names a bootstrap method names one that is there (4.4.10); the fault stands at its tag
unfoldable pub has_bootstrap : ℕ → Slot → Verdict
has_bootstrap count (Some (at, entries.InvokeDynamic bootstrap name)) = holds (nat_lt bootstrap count) at BadBootstraps
has_bootstrap count (Some (at, entries.Dynamic bootstrap name)) = holds (nat_lt bootstrap count) at BadBootstraps
has_bootstrap count _ = Ok tt

-- the bootstrap methods of a class; none if it has no such attribute
abbrev pub rows_or_none : Option (List Row) → List Row
rows_or_none found = unwrap_or found []

-- the end of a class file of this many bytes; its entries name bootstrap methods that exist
abbrev pub class_end : List Slot → List Site → List Row → ℕ → ClassPart Class
class_end pool sites rows total = do
  at ← here
  ended ← check (at == total) at Trailing
  known ← verdict (each (has_bootstrap (length rows)) pool)
  done (class_of pool sites rows)

-- a class file of this many bytes, after its members
abbrev pub class_rest : List Slot → List Site → ℕ → ClassPart Class
class_rest pool sites total = do
  found ← class_attributes pool
  class_end pool sites (rows_or_none found) total

-- a class file of this many bytes, after its pool, with at most this many call sites
abbrev pub class_body : List Slot → ℕ → ℕ → ClassPart Class
class_body pool room total = do
  names ← class_names pool
  sites ← members pool room
  class_rest pool sites total

-- a class file of this many bytes, with at most this many call sites
unfoldable pub class_file : ℕ → ℕ → ClassPart Class
class_file room total = do
  count ← header
  pool ← pool_of count
  good ← verdict (good_references pool)
  class_body pool room total

-- the class that is read at a position, or the first condition that does not hold
abbrev pub class_read : ClassPart Class → Position → Checked ClassKind Class
class_read format at = and_then (reads format at) (λ x. Ok x.0)

-- the bytes are a class file of this class, with at most this many call sites
abbrev pub IsClassFile : ℕ → List ℕ → Class → Type 0
IsClassFile room bytes c = Spells (class_file room (length bytes)) 0 bytes c

-- the class, or the first condition in reading order that does not hold
abbrev pub class_or_fault : ℕ → List ℕ → Checked ClassKind Class
class_or_fault room bytes = class_read (class_file room (length bytes)) (record { bytes = bytes; at = 0 })

-- exactly one of two: the class that the bytes are, or the first fault if they are none
abbrev pub IsEither : ℕ → List ℕ → Type 0
IsEither room bytes =
    ((c : Class) × IsClassFile room bytes c × ((d : Class) → IsClassFile room bytes d → d ≡ c))
    ⊎ ((f : Fault ClassKind) × (class_or_fault room bytes ≡ Err f) × ((c : Class) → ¬ IsClassFile room bytes c))
