-- Entries of the constant pool (JVMS 4.4).
use Rattle.std.specs.Prelude.{◌≡◌, ℕ, ◌+◌, ◌==◌, nat_le, List, [], ◌∷◌, ◌++◌, length, Bool, true, false, ◌&&◌, ◌||◌, not, Option, Some, None, ◌<◌, ◌≤◌, ◌^◌, nat_lt, slice_index_or, if◌then◌else◌}
use Rattle.std.specs.List.{count_by}
use Rattle.mh_class_bytes.specs.Mutf8.{sound_len}
use Rattle.mh_class_bytes.specs.Format.{Format, number, run, here, check, refuse, choose, done, ◌>>=◌, repeated}
use Rattle.mh_class_pool.specs.declared.entry.Entry.{Entry}
use Rattle.mh_class_pool.specs.declared.entry.Entry.TheVariants.{Utf8, Integer, Float, Long, Double, Class, Str, Fieldref, Methodref, InterfaceMethodref, NameAndType, MethodHandle, MethodType, Dynamic, InvokeDynamic, Module, Package}
use Rattle.mh_class_pool.specs.declared.entry.Kind.{Kind}
use Rattle.mh_class_pool.specs.declared.entry.Kind.TheVariants as kinds
use Rattle.mh_class_pool.specs.declared.fault.ClassKind.{ClassKind}
use Rattle.mh_class_pool.specs.declared.fault.ClassKind.TheVariants.{Truncated, BadTag, BadText, BadIndex, TooManyConstants}
use Rattle.mh_class_pool.specs.Tags.{CONSTANT_Utf8, CONSTANT_Integer, CONSTANT_Float, CONSTANT_Long, CONSTANT_Double, CONSTANT_Class, CONSTANT_String, CONSTANT_Fieldref, CONSTANT_Methodref, CONSTANT_InterfaceMethodref, CONSTANT_NameAndType, CONSTANT_MethodHandle, CONSTANT_MethodType, CONSTANT_Dynamic, CONSTANT_InvokeDynamic, CONSTANT_Module, CONSTANT_Package}

-- the format of a part of a class file
abbrev pub ClassPart : Type 0 → Type 1
ClassPart A = Format ClassKind A

-- a length, and that many bytes
unfoldable pub utf8_bytes : ClassPart (List ℕ)
utf8_bytes = do
  len ← number Truncated 2
  run Truncated len

-- a text, in modified UTF-8
unfoldable pub utf8 : ClassPart Entry
utf8 = do
  at ← here
  text ← utf8_bytes
  sound ← check (sound_len text == length text) ((at + 2) + sound_len text) BadText
  done (Utf8 text)

-- a number by its tag
unfoldable pub numeric : ℕ → ClassPart Entry
numeric tag = do
  first ← number Truncated 4
  choose (tag == CONSTANT_Integer) (done (Integer first))
      (choose (tag == CONSTANT_Float) (done Float)
      (do
        second ← number Truncated 4
        done (if tag == CONSTANT_Long then Long first second else Double)))

-- one index: a class, a string, a method type, a module or a package, by its tag
unfoldable pub named : ℕ → ClassPart Entry
named tag = do
  name ← number Truncated 2
  done (if tag == CONSTANT_Class then Class name
      else (if tag == CONSTANT_String then Str name
      else (if tag == CONSTANT_MethodType then MethodType name
      else (if tag == CONSTANT_Module then Module name
      else Package name))))

-- two indexes: a member, a name and type, or a dynamic one, by its tag
unfoldable pub paired : ℕ → ClassPart Entry
paired tag = do
  first ← number Truncated 2
  second ← number Truncated 2
  done (if tag == CONSTANT_Fieldref then Fieldref first second
      else (if tag == CONSTANT_Methodref then Methodref first second
      else (if tag == CONSTANT_InterfaceMethodref then InterfaceMethodref first second
      else (if tag == CONSTANT_NameAndType then NameAndType first second
      else (if tag == CONSTANT_Dynamic then Dynamic first second
      else InvokeDynamic first second)))))

-- a kind of method handle, and what it refers to (4.4.8)
unfoldable pub handle : ClassPart Entry
handle = do
  kind ← number Truncated 1
  reference ← number Truncated 2
  done (MethodHandle kind reference)

-- the contents of an entry after its tag, which stands at a place
unfoldable pub contents : ℕ → ℕ → ClassPart Entry
contents tag at =
    choose (nat_le CONSTANT_Integer tag && nat_le tag CONSTANT_Double) (numeric tag)
    (choose (tag == CONSTANT_Class || tag == CONSTANT_String || tag == CONSTANT_MethodType || tag == CONSTANT_Module || tag == CONSTANT_Package) (named tag)
    (choose ((nat_le CONSTANT_Fieldref tag && nat_le tag CONSTANT_NameAndType) || tag == CONSTANT_Dynamic || tag == CONSTANT_InvokeDynamic) (paired tag)
    (choose (tag == CONSTANT_MethodHandle) handle
    (refuse at BadTag))))

-- the tags of entries that take two indexes
abbrev pub is_wide_tag : ℕ → Bool
is_wide_tag tag = tag == CONSTANT_Long || tag == CONSTANT_Double

-- the next entry; the last index has no room for one that takes two indexes, and a pool with the most Dynamic entries has none for another
unfoldable pub entry : Bool → Bool → ClassPart Entry
entry is_last is_full = do
  at ← here
  tag ← number Truncated 1
  fits ← check (not (is_last && is_wide_tag tag)) at BadIndex
  few ← check (not (is_full && tag == CONSTANT_Dynamic)) at TooManyConstants
  choose (tag == CONSTANT_Utf8) utf8 (contents tag at)

-- a Long or a Double, which takes two indexes (4.4.5)
abbrev pub is_wide : Entry → Bool
is_wide (Long high low) = true
is_wide Double = true
is_wide _ = false

-- a constant that is computed (4.4.10)
abbrev pub is_dynamic : Entry → Bool
is_dynamic (Dynamic bootstrap name) = true
is_dynamic _ = false

-- what a bootstrap method may be given: a loadable constant (4.4, 4.7.23)
abbrev pub is_argument : Entry → Bool
is_argument (Integer n) = true
is_argument Float = true
is_argument (Long high low) = true
is_argument Double = true
is_argument (Class name) = true
is_argument (Str name) = true
is_argument (MethodHandle kind reference) = true
is_argument (MethodType name) = true
is_argument (Dynamic bootstrap name) = true
is_argument _ = false

-- an entry is of a kind
abbrev pub is_kind : Kind → Entry → Bool
is_kind kinds.Utf8 (Utf8 text) = true
is_kind kinds.Class (Class name) = true
is_kind kinds.Fieldref (Fieldref class name) = true
is_kind kinds.Methodref (Methodref class name) = true
is_kind kinds.InterfaceMethodref (InterfaceMethodref class name) = true
is_kind kinds.AnyMethodref (Methodref class name) = true
is_kind kinds.AnyMethodref (InterfaceMethodref class name) = true
is_kind kinds.NameAndType (NameAndType name descriptor) = true
is_kind kinds.MethodHandle (MethodHandle kind reference) = true
is_kind kinds.InvokeDynamic (InvokeDynamic bootstrap name) = true
is_kind kinds.Argument e = is_argument e
is_kind _ _ = false

-- ---- the constant pool, by index

-- what an index of the pool names: the place of an entry's tag and the entry, or nothing that is usable
abbrev pub Slot : Type 0
Slot = Option (ℕ × Entry)

-- the indexes that an entry takes: a second one, which is not usable, if it is wide
abbrev pub indexes_of : ℕ → Entry → List Slot
indexes_of at e = if is_wide e then Some (at, e) ∷ None ∷ [] else Some (at, e) ∷ []

-- an index, if a Dynamic entry stands there
abbrev pub if_dynamic : ℕ → Entry → List ℕ
if_dynamic i e = if is_dynamic e then i ∷ [] else []

-- the same, by what the index names
abbrev pub dynamic_at : ℕ → Slot → List ℕ
dynamic_at i None = []
dynamic_at i (Some s) = if_dynamic i s.1

-- the indexes of the Dynamic entries among slots, which stand from an index on
unfoldable pub dynamics_from : ℕ → List Slot → List ℕ
dynamics_from i [] = []
dynamics_from i (s ∷ slots) = dynamic_at i s ++ dynamics_from (i + 1) slots

-- the indexes of the Dynamic entries of a pool, in order
abbrev pub dynamics : List Slot → List ℕ
dynamics pool = dynamics_from 0 pool

-- how many Dynamic entries stand before an index
abbrev pub dynamics_before : List Slot → ℕ → ℕ
dynamics_before pool index = count_by (λ i. nat_lt i index) (dynamics pool)

-- the most Dynamic entries that a class file may have: a limit of this project
abbrev pub most_dynamics : ℕ
most_dynamics = 256

-- a pool has the most Dynamic entries that it may have
abbrev pub is_full : List Slot → Bool
is_full pool = nat_le most_dynamics (length (dynamics pool))

-- the next entry, if an index below the count is left for it
abbrev pub next_slots : ℕ → List Slot → ClassPart (List Slot)
next_slots count so_far = choose (nat_le count (length so_far)) (done so_far) (do
  at ← here
  e ← entry (length so_far + 1 == count) (is_full so_far)
  done (so_far ++ indexes_of at e))

-- the pool of a count; index 0 is not usable, and each entry takes an index or two
abbrev pub pool_of : ℕ → ClassPart (List Slot)
pool_of count = repeated (next_slots count) count (None ∷ [])

-- what an index names; nothing past the end
abbrev pub slot : List Slot → ℕ → Slot
slot pool i = slice_index_or pool i None

-- the text of an entry; none of another one
abbrev pub text_of : Slot → List ℕ
text_of (Some (at, Utf8 text)) = text
text_of _ = []

-- the text at an index
abbrev pub text : List Slot → ℕ → List ℕ
text pool i = text_of (slot pool i)

-- what is kept beside the slots of a pool: the indexes of the Dynamic entries
pub record AreKept (slots : List Slot) (kept : List ℕ) : Type 0 where
  pub dynamics : kept ≡ dynamics slots
  pub few : length kept < length slots
  pub small : length slots ≤ 2 ^ 16
