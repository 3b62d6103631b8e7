-- The parts of what a line means, each after the conditions before it.
use Rattle.std.proofs.Common.{◌≡◌, ℕ, ◌==◌, Bool, true, not, ◌&&◌, List, length, codes, is_some, nat_le, if◌then◌else◌, Result, Ok, Err}
use Rattle.std.specs.Str.{bytes_eq}
use Rattle.mh_base.specs.Lines.{is_plain, is_passed, tokens_of}
use Rattle.mh_values.specs.declared.class.ClassId.{ClassId}
use Rattle.mh_values.specs.Classes.{class_named}
use Rattle.mh_values.specs.Descriptor.{desc}
use Rattle.mh_values.specs.Slots.{slots_of_all}
use Rattle.mh_leaf.specs.declared.leaf.Kind.{Kind}
use Rattle.mh_leaf.specs.declared.leaf.Leaf.{Leaf}
use Rattle.mh_leaf.specs.LeafTable.{LeafTable}
use Rattle.mh_leaf.specs.Outcome.{is_well_typed}
use Rattle.mh_leaves.specs.declared.manifest.ManifestKind.{ManifestKind}
use Rattle.mh_leaves.specs.declared.manifest.ManifestKind.TheVariants.{BadLine, Twice, UnknownClass, BadDescriptor, BadKind, TooMany}
use Rattle.mh_leaves.specs.Manifest.{kind_among, type_if_read, is_repeated, leaf_added, leaf_of_line, owned_leaf, is_leaf_text, leaf_line, class_added, class_line, three_tokens, tokens_meaning, line_meaning}
use Rattle.mh_base.specs.Provided.{provided, provided_some}
use Rattle.mh_leaves.specs.Reference.{Texts, is_class_name}
use Rattle.mh_leaves.specs.Registered.{with_leaf, most_leaves}
use Rattle.mh_base.proofs.Conditions.{passes}

-- what a line may mean
abbrev pub Answer : Type 0
Answer = Result LeafTable ManifestKind

-- an answer other than a fault of this kind
abbrev pub IsOther : Answer → ManifestKind → Type 0
IsOther r kind = Err kind ≡ r → ⊥

-- ---- classes

-- of a class with a new name
abbrev pub below : LeafTable → List ℕ → List ℕ → Answer
below table name superclass = provided_some (class_named table.classes superclass) UnknownClass (class_added table name)

-- what holds where a class's line is no line or its class there already
pub record ClassLine (table : LeafTable) (name superclass : List ℕ) (r : Answer) : Type 0 where
  pub names : (is_class_name name && is_class_name superclass) ≡ true
  pub new : not (is_some (class_named table.classes name)) ≡ true
  pub rest : below table name superclass ≡ r

pub class_line-parts : (table : LeafTable) (name superclass : List ℕ) (r : Answer) → IsOther r BadLine → IsOther r Twice →
    class_line table name superclass ≡ r → ClassLine table name superclass r
class_line-parts table name superclass r bad twice h =
    let new = not (is_some (class_named table.classes name)) in
    let rest = below table name superclass in
    let names = passes (is_class_name name && is_class_name superclass) BadLine (provided new Twice rest) r bad h in
    let once = passes new Twice rest r twice names.1 in
    record { names = names.0; new = once.0; rest = once.1 }

pub three_tokens-parts : (table : LeafTable) (word name superclass : List ℕ) (r : Answer) → IsOther r BadLine →
    three_tokens table word name superclass ≡ r → (bytes_eq word (codes "class") ≡ true) × (class_line table name superclass ≡ r)
three_tokens-parts table word name superclass r bad h = passes (bytes_eq word (codes "class")) BadLine (class_line table name superclass) r bad h

-- ---- leaves

-- of a leaf of an owner that is known
abbrev pub with_owner : LeafTable → Bool → Texts → List ℕ → ClassId → Answer
with_owner table is_virtual texts word owner =
    provided_some (kind_among table.classes word) UnknownClass (λ kind. owned_leaf table is_virtual texts owner kind)

-- of a leaf whose texts are new
abbrev pub with_texts : LeafTable → Bool → Texts → List ℕ → Answer
with_texts table is_virtual texts word = provided_some (class_named table.classes texts.owner) UnknownClass (with_owner table is_virtual texts word)

-- what holds where a leaf's line is one and the leaf is not there
pub record LeafLine (table : LeafTable) (is_virtual : Bool) (texts : Texts) (word : List ℕ) (r : Answer) : Type 0 where
  pub text : is_leaf_text texts word ≡ true
  pub new : not (is_repeated table texts) ≡ true
  pub rest : with_texts table is_virtual texts word ≡ r

pub leaf_line-parts : (table : LeafTable) (is_virtual : Bool) (texts : Texts) (word : List ℕ) (r : Answer) → IsOther r BadLine → IsOther r Twice →
    leaf_line table is_virtual texts word ≡ r → LeafLine table is_virtual texts word r
leaf_line-parts table is_virtual texts word r bad twice h =
    let new = not (is_repeated table texts) in
    let rest = with_texts table is_virtual texts word in
    let text = passes (is_leaf_text texts word) BadLine (provided new Twice rest) r bad h in
    let once = passes new Twice rest r twice text.1 in
    record { text = text.0; new = once.0; rest = once.1 }

-- of a leaf whose classes are known
abbrev pub typed : LeafTable → Bool → Texts → ClassId → Kind → Answer
typed table is_virtual texts owner kind =
    provided_some (type_if_read (desc table.classes texts.descriptor)) BadDescriptor (λ t. leaf_added table (leaf_of_line is_virtual texts owner kind t))

-- what holds where a leaf's slots, its kind and the room for it are no fault
pub record LeafAdded (table : LeafTable) (leaf : Leaf) (r : Answer) : Type 0 where
  pub few : nat_le (slots_of_all leaf.ty.params) 254 ≡ true
  pub typed : is_well_typed table.classes leaf ≡ true
  pub room : not (length table.leaves == most_leaves) ≡ true
  pub is : Ok (with_leaf table leaf) ≡ r

pub leaf_added-parts : (table : LeafTable) (leaf : Leaf) (r : Answer) → IsOther r BadDescriptor → IsOther r BadKind → IsOther r TooMany →
    leaf_added table leaf ≡ r → LeafAdded table leaf r
leaf_added-parts table leaf r bad no_kind many h =
    let room = not (length table.leaves == most_leaves) in
    let last : Answer = provided room TooMany (Ok (with_leaf table leaf)) in
    let few = passes (nat_le (slots_of_all leaf.ty.params) 254) BadDescriptor (provided (is_well_typed table.classes leaf) BadKind last) r bad h in
    let kind = passes (is_well_typed table.classes leaf) BadKind last r no_kind few.1 in
    let here = passes room TooMany (Ok (with_leaf table leaf)) r many kind.1 in
    record { few = few.0; typed = kind.0; room = here.0; is = here.1 }

-- ---- lines

-- a line that is taken, or has another fault than being none, is plain
pub line_plain : (table : LeafTable) (line : List ℕ) (r : Answer) → IsOther r BadLine → line_meaning table line ≡ r →
    (is_plain line ≡ true) × ((if is_passed line then Ok table else tokens_meaning table (tokens_of line)) ≡ r)
line_plain table line r bad h =
    passes (is_plain line) BadLine (if is_passed line then Ok table else tokens_meaning table (tokens_of line)) r bad h
