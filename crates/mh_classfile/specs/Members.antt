-- Fields, methods and their attributes (JVMS 4.5, 4.6, 4.7.3).
use Rattle.std.specs.Prelude.{ℕ, ◌+◌, nat_lt, ◌&&◌, not, List, [], Bool, true, false}
use Rattle.std.specs.Str.{bytes_eq}
use Rattle.mh_class_bytes.specs.Position.{Position}
use Rattle.mh_class_bytes.specs.Format.{number, run, here, check, verdict, choose, part, done, ◌>>=◌, repeated, Reading, reads, and_then, cut, filled}
use Rattle.mh_class_pool.specs.declared.entry.Kind.{Kind}
use Rattle.mh_class_pool.specs.declared.entry.Kind.TheVariants as kinds
use Rattle.mh_classfile.specs.declared.site.Method.{Method}
use Rattle.mh_classfile.specs.declared.site.Site.{Site}
use Rattle.mh_class_pool.specs.declared.fault.ClassKind.{ClassKind}
use Rattle.mh_class_pool.specs.declared.fault.ClassKind.TheVariants.{Truncated, BadCode}
use Rattle.mh_class_pool.specs.Entries.{ClassPart, Slot, text}
use Rattle.mh_class_pool.specs.References.{names, names_or_none}
use Rattle.mh_classfile.specs.AttributeNames.{code_name}
use Rattle.mh_classfile.specs.Code.{passed, code_sites}

-- what the bytes between a place and the position say, all of which must be read
abbrev pub between : {A : Type 0} → ℕ → ClassKind → ClassPart A → Position → Reading ClassKind A
between begin left contents end = and_then (reads contents (cut end.at (record { bytes = end.bytes; at = begin }))) (filled left end)

-- this many of one part; nothing of them is kept
abbrev pub rows : ClassPart (Unit {0}) → ℕ → ClassPart (Unit {0})
rows one n = repeated (λ _. one) n tt

-- an index that names an entry of a kind
unfoldable pub named_index : ClassKind → List Slot → Kind → ClassPart ℕ
named_index short pool kind = do
  at ← here
  index ← number short 2
  is_kind ← verdict (names pool kind index at)
  done index

-- the contents of an attribute that is passed over by its length
unfoldable pub passed_contents : ClassKind → ClassPart (Unit {0})
passed_contents short = do
  len ← number short 4
  contents ← run short len
  done tt

-- an attribute that is passed over
unfoldable pub attribute : ClassKind → List Slot → ClassPart (Unit {0})
attribute short pool = do
  name ← named_index short pool kinds.Utf8
  passed_contents short

-- this many attributes, which are passed over
abbrev pub attributes : ClassKind → List Slot → ℕ → ClassPart (Unit {0})
attributes short pool n = rows (attribute short pool) n

-- attributes that are passed over, after their number
abbrev pub counted_attributes : ClassKind → List Slot → ClassPart (Unit {0})
counted_attributes short pool = do
  count ← number short 2
  attributes short pool count

-- the code of a method: its length, from 1 to 65,535, and that many bytes
unfoldable pub code_bytes : List Slot → Method → ℕ → List Site → ClassPart (List Site)
code_bytes pool method room so_far = do
  at ← here
  len ← number BadCode 4
  right ← check (nat_lt 0 len && nat_lt len 65536) at BadCode
  start ← here
  part BadCode len BadCode (code_sites pool method room start (start + len) so_far)

-- after the code: the exception entries, of 8 bytes each, and the attributes of the code
unfoldable pub code_tail : List Slot → ClassPart (Unit {0})
code_tail pool = do
  exceptions ← number BadCode 2
  handlers ← rows (passed 8) exceptions
  counted_attributes BadCode pool

-- the contents of a Code attribute; the call sites are found after those before it
unfoldable pub code_contents : List Slot → Method → ℕ → List Site → ClassPart (List Site)
code_contents pool method room so_far = do
  max_stack ← number BadCode 2
  max_locals ← number BadCode 2
  sites ← code_bytes pool method room so_far
  tail ← code_tail pool
  done sites

-- a Code attribute after its name
unfoldable pub code_attribute : List Slot → Method → ℕ → List Site → ClassPart (List Site)
code_attribute pool method room so_far = do
  len ← number Truncated 4
  part Truncated len BadCode (code_contents pool method room so_far)

-- an attribute of a method: Code is read, the first time, and the others are passed over (4.7); with whether Code was there
unfoldable pub method_attribute : List Slot → Method → ℕ → Bool × List Site → ClassPart (Bool × List Site)
method_attribute pool method room so_far = do
  at ← here
  name ← named_index Truncated pool kinds.Utf8
  choose (bytes_eq (text pool name) code_name)
      (do
        once ← check (not so_far.0) at BadCode
        sites ← code_attribute pool method room so_far.1
        done (true, sites))
      (do
        skipped ← passed_contents Truncated
        done so_far)

-- flags, and the names of a member: its own and its descriptor
unfoldable pub member : List Slot → ClassPart Method
member pool = do
  flags ← number Truncated 2
  name ← named_index Truncated pool kinds.Utf8
  descriptor ← named_index Truncated pool kinds.Utf8
  done (record { name = name; descriptor = descriptor })

-- a field
unfoldable pub field : List Slot → ClassPart (Unit {0})
field pool = do
  names ← member pool
  counted_attributes Truncated pool

-- a method; its call sites are found after those before it
unfoldable pub method : List Slot → ℕ → List Site → ClassPart (List Site)
method pool room so_far = do
  names ← member pool
  count ← number Truncated 2
  all ← repeated (method_attribute pool names room) count (false, so_far)
  done all.1

-- the fields and the methods of a class, with the call sites
unfoldable pub members : List Slot → ℕ → ClassPart (List Site)
members pool room = do
  fields ← number Truncated 2
  skipped ← rows (field pool) fields
  methods ← number Truncated 2
  repeated (method pool room) methods []

-- an interface of a class
unfoldable pub interface : List Slot → ClassPart (Unit {0})
interface pool = do
  index ← named_index Truncated pool kinds.Class
  done tt

-- the superclass of a class, which may be none, and its interfaces
abbrev pub supertypes : List Slot → ClassPart (Unit {0})
supertypes pool = do
  at ← here
  super ← number Truncated 2
  is_class ← verdict (names_or_none pool kinds.Class super at)
  interfaces ← number Truncated 2
  rows (interface pool) interfaces

-- the flags of a class, its name and its supertypes
unfoldable pub class_names : List Slot → ClassPart (Unit {0})
class_names pool = do
  flags ← number Truncated 2
  this ← named_index Truncated pool kinds.Class
  supertypes pool
