-- References between entries of the pool, looked at in order of index once all entries are read (JVMS 4.4).
use Rattle.std.specs.Prelude.{◌≡◌, ℕ, nat_le, ◌==◌, ◌&&◌, ◌||◌, List, [], ◌∷◌, Some, None, Ok, Err, Bool, true, false, is_none, slice_index_or, if◌then◌else◌}
use Rattle.mh_values.specs.Grammar.{descriptor_fault}
use Rattle.mh_class_bytes.specs.Format.{Checked, fault}
use Rattle.mh_class_pool.specs.declared.entry.Entry.{Entry}
use Rattle.mh_class_pool.specs.declared.entry.Entry.TheVariants as entries
use Rattle.mh_class_pool.specs.declared.entry.Kind.{Kind}
use Rattle.mh_class_pool.specs.declared.entry.Kind.TheVariants as kinds
use Rattle.mh_class_pool.specs.declared.fault.ClassKind.{ClassKind}
use Rattle.mh_class_pool.specs.declared.fault.ClassKind.TheVariants.{BadIndex, WrongKind, BadDescriptor}
use Rattle.mh_class_pool.specs.ReferenceKinds.{REF_getField, REF_putStatic, REF_invokeVirtual, REF_newInvokeSpecial, REF_invokeInterface}
use Rattle.mh_class_pool.specs.Entries.{Slot, slot, is_kind}

-- nothing, or what is wrong
abbrev pub Verdict : Type 0
Verdict = Checked ClassKind (Unit {0})

infixl 10 ◌>>=◌
-- one verdict after the other: the first fault decides
abbrev pub ◌>>=◌ : Verdict → (Unit {0} → Verdict) → Verdict
(Ok x) >>= f = f x
(Err e) >>= f = Err e

-- a condition, with the fault if it does not hold
abbrev pub holds : Bool → ℕ → ClassKind → Verdict
holds b at kind = if b then Ok tt else fault at kind

-- what an index names is an entry of a kind
abbrev pub is_usable : Kind → ℕ → Slot → Verdict
is_usable kind at None = fault at BadIndex
is_usable kind at (Some s) = holds (is_kind kind s.1) at WrongKind

-- the index names an entry of the kind; the fault stands at a place
abbrev pub names : List Slot → Kind → ℕ → ℕ → Verdict
names pool kind index at = is_usable kind at (slot pool index)

-- the index is 0, or names an entry of the kind
abbrev pub names_or_none : List Slot → Kind → ℕ → ℕ → Verdict
names_or_none pool kind index at = if index == 0 then Ok tt else names pool kind index at

-- what a method handle of a kind refers to (4.4.8): a field, a method, or a method of either sort
abbrev pub referred : ℕ → Kind
referred kind =
    if nat_le kind REF_putStatic then kinds.Fieldref
    else (if kind == REF_invokeVirtual || kind == REF_newInvokeSpecial then kinds.Methodref
    else (if kind == REF_invokeInterface then kinds.InterfaceMethodref
    else kinds.AnyMethodref))

-- the references of a member: its class, its name and type (4.4.2)
abbrev pub good_member : List Slot → ℕ → ℕ → ℕ → Verdict
good_member pool at class name = do
  first ← names pool kinds.Class class at
  names pool kinds.NameAndType name at

-- the references of a name and type: two texts (4.4.6)
abbrev pub good_name : List Slot → ℕ → ℕ → ℕ → Verdict
good_name pool at name descriptor = do
  first ← names pool kinds.Utf8 name at
  names pool kinds.Utf8 descriptor at

-- the reference of a method handle: its kind is one of the nine, and decides what it names
abbrev pub good_handle : List Slot → ℕ → ℕ → ℕ → Verdict
good_handle pool at kind reference = do
  known ← holds (nat_le REF_getField kind && nat_le kind REF_invokeInterface) at WrongKind
  names pool (referred kind) reference at

-- the references of an entry itself; the fault stands at its tag
unfoldable pub own_references : List Slot → ℕ → Entry → Verdict
own_references pool at (entries.Class name) = names pool kinds.Utf8 name at
own_references pool at (entries.Str name) = names pool kinds.Utf8 name at
own_references pool at (entries.MethodType name) = names pool kinds.Utf8 name at
own_references pool at (entries.Module name) = names pool kinds.Utf8 name at
own_references pool at (entries.Package name) = names pool kinds.Utf8 name at
own_references pool at (entries.Fieldref class name) = good_member pool at class name
own_references pool at (entries.Methodref class name) = good_member pool at class name
own_references pool at (entries.InterfaceMethodref class name) = good_member pool at class name
own_references pool at (entries.NameAndType name descriptor) = good_name pool at name descriptor
own_references pool at (entries.MethodHandle kind reference) = good_handle pool at kind reference
own_references pool at (entries.Dynamic bootstrap name) = names pool kinds.NameAndType name at
own_references pool at (entries.InvokeDynamic bootstrap name) = names pool kinds.NameAndType name at
own_references pool at _ = Ok tt

-- a text is a method descriptor (4.3.3); the fault stands at the text's tag
abbrev pub is_descriptor : Slot → Verdict
is_descriptor (Some (at, entries.Utf8 text)) = holds (is_none (descriptor_fault text)) at BadDescriptor
is_descriptor _ = Ok tt

-- the descriptor of a name and type, once its own references are good
unfoldable pub good_method_name : List Slot → Slot → Verdict
good_method_name pool (Some (at, entries.NameAndType name descriptor)) = do
  own ← good_name pool at name descriptor
  is_descriptor (slot pool descriptor)
good_method_name pool _ = Ok tt

-- the descriptor that an entry must have: of a method type (4.4.9), of a method (4.4.2), or of a call site (4.4.10)
unfoldable pub good_descriptor : List Slot → Entry → Verdict
good_descriptor pool (entries.MethodType name) = is_descriptor (slot pool name)
good_descriptor pool (entries.Methodref class name) = good_method_name pool (slot pool name)
good_descriptor pool (entries.InterfaceMethodref class name) = good_method_name pool (slot pool name)
good_descriptor pool (entries.InvokeDynamic bootstrap name) = good_method_name pool (slot pool name)
good_descriptor pool _ = Ok tt

-- what is asked of an index: its entry's own references, and then its descriptor
unfoldable pub good_slot : List Slot → Slot → Verdict
good_slot pool None = Ok tt
good_slot pool (Some (at, e)) = do
  own ← own_references pool at e
  good_descriptor pool e

-- each of a list passes; the first that does not decides
unfoldable pub each : {X : Type 0} → (X → Verdict) → List X → Verdict
each f [] = Ok tt
each f (x ∷ xs) = do
  first ← f x
  each f xs

-- the references of the pool
abbrev pub good_references : List Slot → Verdict
good_references pool = each (good_slot pool) pool

-- the texts that are marked were found to be method descriptors
pub record AreDescriptors (pool : List Slot) (marked : List Bool) : Type 0 where
  pub each : (k : ℕ) → slice_index_or marked k false ≡ true → is_descriptor (slot pool k) ≡ Ok tt
