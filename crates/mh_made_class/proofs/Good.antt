-- Entries whose references are good.
use Rattle.std.proofs.Common.{◌≡◌, ℕ, true, List, None, Some, Ok, is_none, refl, ap, ◌∙◌}
use Rattle.mh_values.specs.Grammar.{descriptor_fault}
use Rattle.mh_class_pool.specs.declared.entry.Entry.{Entry}
use Rattle.mh_class_pool.specs.declared.entry.Entry.TheVariants as entries
use Rattle.mh_class_pool.specs.declared.entry.Kind.{Kind}
use Rattle.mh_class_pool.specs.declared.entry.Kind.TheVariants as kinds
use Rattle.mh_class_pool.specs.declared.fault.ClassKind.TheVariants.{WrongKind, BadDescriptor}
use Rattle.mh_class_pool.specs.Entries.{Slot, slot, is_kind}
use Rattle.mh_class_pool.specs.References.{Verdict, ◌>>=◌, holds, is_usable, names, good_name, good_member, own_references, is_descriptor, good_method_name, good_descriptor, good_slot}
use Rattle.mh_made_class.proofs.Lookups.{At}

-- an entry's references are good, wherever it stands
abbrev pub IsGood : List Slot → Entry → Type 0
IsGood pool e = (at : ℕ) → good_slot pool (Some (at, e)) ≡ Ok tt

both : (v w : Verdict) → v ≡ Ok tt → w ≡ Ok tt → (v >>= (λ _. w)) ≡ Ok tt
both v w e h = ap (λ u. u >>= (λ _. w)) e ∙ h

-- An index names the entry that stands there.
pub named_at : (pool : List Slot) (kind : Kind) (i at : ℕ) (e : Entry) → At pool i e → is_kind kind e ≡ true → names pool kind i at ≡ Ok tt
named_at pool kind i at e s k = ap (is_usable kind at) s.1 ∙ ap (λ b. holds b at WrongKind) k

names_texts : (pool : List Slot) (a b at : ℕ) (name descriptor : List ℕ) → At pool a (entries.Utf8 name) → At pool b (entries.Utf8 descriptor) →
    good_name pool at a b ≡ Ok tt
names_texts pool a b at name descriptor s t =
    both (names pool kinds.Utf8 a at) (names pool kinds.Utf8 b at) (named_at pool kinds.Utf8 a at (entries.Utf8 name) s refl)
    (named_at pool kinds.Utf8 b at (entries.Utf8 descriptor) t refl)

descriptor_at : (pool : List Slot) (b : ℕ) (descriptor : List ℕ) → At pool b (entries.Utf8 descriptor) → descriptor_fault descriptor ≡ None →
    is_descriptor (slot pool b) ≡ Ok tt
descriptor_at pool b descriptor s e = ap is_descriptor s.1 ∙ ap (λ f. holds (is_none f) s.0 BadDescriptor) e

-- the name and type of a method or of a call site
method_name_at : (pool : List Slot) (n a b : ℕ) (name descriptor : List ℕ) → At pool n (entries.NameAndType a b) → At pool a (entries.Utf8 name) →
    At pool b (entries.Utf8 descriptor) → descriptor_fault descriptor ≡ None
    → good_method_name pool (slot pool n) ≡ Ok tt
unfolding good_method_name
method_name_at pool n a b name descriptor s first second e =
    ap (good_method_name pool) s.1
    ∙ both (good_name pool s.0 a b) (is_descriptor (slot pool b)) (names_texts pool a b s.0 name descriptor first second)
    (descriptor_at pool b descriptor second e)

pub good_text : (pool : List Slot) (text : List ℕ) → IsGood pool (entries.Utf8 text)
unfolding good_slot own_references good_descriptor
good_text pool text at = refl

pub good_integer : (pool : List Slot) (n : ℕ) → IsGood pool (entries.Integer n)
unfolding good_slot own_references good_descriptor
good_integer pool n at = refl

pub good_long : (pool : List Slot) (high low : ℕ) → IsGood pool (entries.Long high low)
unfolding good_slot own_references good_descriptor
good_long pool high low at = refl

pub good_class : (pool : List Slot) (n : ℕ) (name : List ℕ) → At pool n (entries.Utf8 name) → IsGood pool (entries.Class n)
unfolding good_slot own_references good_descriptor
good_class pool n name s at = both (names pool kinds.Utf8 n at) (Ok tt) (named_at pool kinds.Utf8 n at (entries.Utf8 name) s refl) refl

pub good_string : (pool : List Slot) (n : ℕ) (text : List ℕ) → At pool n (entries.Utf8 text) → IsGood pool (entries.Str n)
unfolding good_slot own_references good_descriptor
good_string pool n text s at = both (names pool kinds.Utf8 n at) (Ok tt) (named_at pool kinds.Utf8 n at (entries.Utf8 text) s refl) refl

pub good_name_and_type : (pool : List Slot) (a b : ℕ) (name descriptor : List ℕ) → At pool a (entries.Utf8 name) → At pool b (entries.Utf8 descriptor) →
    IsGood pool (entries.NameAndType a b)
unfolding good_slot own_references good_descriptor
good_name_and_type pool a b name descriptor first second at = both (good_name pool at a b) (Ok tt) (names_texts pool a b at name descriptor first second) refl

pub good_method : (pool : List Slot) (c d n a b : ℕ) (name descriptor : List ℕ) → At pool c (entries.Class d) → At pool n (entries.NameAndType a b) →
    At pool a (entries.Utf8 name) → At pool b (entries.Utf8 descriptor) → descriptor_fault descriptor ≡ None
    → IsGood pool (entries.Methodref c n)
unfolding good_slot own_references good_descriptor
good_method pool c d n a b name descriptor class s first second e at =
    both (good_member pool at c n) (good_method_name pool (slot pool n))
    (both (names pool kinds.Class c at) (names pool kinds.NameAndType n at) (named_at pool kinds.Class c at (entries.Class d) class refl)
    (named_at pool kinds.NameAndType n at (entries.NameAndType a b) s refl))
    (method_name_at pool n a b name descriptor s first second e)

pub good_handle_of_method : (pool : List Slot) (m c n : ℕ) → At pool m (entries.Methodref c n) → IsGood pool (entries.MethodHandle 6 m)
unfolding good_slot own_references good_descriptor
good_handle_of_method pool m c n s at = both (names pool kinds.AnyMethodref m at) (Ok tt) (named_at pool kinds.AnyMethodref m at (entries.Methodref c n) s refl)
    refl

pub good_call : (pool : List Slot) (number n a b : ℕ) (name descriptor : List ℕ) → At pool n (entries.NameAndType a b) → At pool a (entries.Utf8 name) →
    At pool b (entries.Utf8 descriptor) → descriptor_fault descriptor ≡ None
    → IsGood pool (entries.InvokeDynamic number n)
unfolding good_slot own_references good_descriptor
good_call pool number n a b name descriptor s first second e at =
    both (names pool kinds.NameAndType n at) (good_method_name pool (slot pool n)) (named_at pool kinds.NameAndType n at (entries.NameAndType a b) s refl)
    (method_name_at pool n a b name descriptor s first second e)
