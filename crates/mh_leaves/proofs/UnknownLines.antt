-- A line that is refused for a class that is not there is one of a class or of a leaf, and names such a class.
use Rattle.std.proofs.Common.{◌≡◌, sym, subst, inl, inr, ℕ, ◌==◌, Bool, true, false, not, List, [], ◌∷◌, length, codes, None, Ok, Err}
use Rattle.std.proofs.lemmas.Slice.Eq.{bytes_eq-Decides}
use Rattle.mh_values.specs.declared.class.Class.{Class}
use Rattle.mh_values.specs.declared.class.ClassId.{ClassId}
use Rattle.mh_values.specs.Classes.{class_named, most_classes}
use Rattle.mh_values.specs.Descriptor.{desc}
use Rattle.mh_leaf.specs.declared.leaf.Kind.{Kind}
use Rattle.mh_leaf.specs.declared.leaf.Leaf.{Leaf}
use Rattle.mh_leaf.specs.LeafTable.{LeafTable}
use Rattle.mh_leaves.specs.declared.manifest.ManifestKind.TheVariants.{BadLine, UnknownClass, BadDescriptor, TooMany}
use Rattle.mh_leaves.specs.Manifest.{kind_among, type_if_read, has_known_classes, leaf_of_line, leaf_added, owned_leaf, leaf_line, class_added, class_line, three_tokens, is_virtual_word, five_tokens, tokens_meaning}
use Rattle.mh_leaves.specs.Reference.{Texts}
use Rattle.mh_leaves.specs.Unknown.{LeafNamesUnknown, as_owner, NamesUnknown, of_class, of_static, of_virtual}
use Rattle.mh_leaves.specs.Written.{leaf_word}
use Rattle.mh_leaves.specs.Registered.{with_class, with_leaf}
use Rattle.mh_base.proofs.Conditions.{passes, passes_some, either, either_some}
use Rattle.mh_leaves.proofs.LineParts.{Answer, class_line-parts, three_tokens-parts, with_owner, leaf_line-parts, typed, leaf_added-parts}
use Rattle.mh_leaves.proofs.UnknownNames.{unknown_type, unknown_thrown, kind_word_of}
use Rattle.mh_leaves.proofs.Words.{leaf_word_is}

-- ---- leaves

leaf_added-other : (table : LeafTable) (leaf : Leaf) → leaf_added table leaf ≡ Err UnknownClass → ⊥
leaf_added-other table leaf h =
    let parts = leaf_added-parts table leaf (Err UnknownClass) (λ e. cc) (λ e. cc) (λ e. cc) h in
    let is : Ok (with_leaf table leaf) ≡ Err UnknownClass = parts.is in cc

typed-other : (table : LeafTable) (is_virtual : Bool) (texts : Texts) (owner : ClassId) (kind : Kind) →
    typed table is_virtual texts owner kind ≡ Err UnknownClass → ⊥
typed-other table is_virtual texts owner kind h =
    let leaf = leaf_of_line is_virtual texts owner kind in
    let read = passes_some (type_if_read (desc table.classes texts.descriptor)) BadDescriptor (λ t. leaf_added table (leaf t)) (Err UnknownClass) (λ e. cc) h in
    leaf_added-other table (leaf read.0) read.2

unknown_owned : (table : LeafTable) (is_virtual : Bool) (texts : Texts) (word : List ℕ) (owner : ClassId) (kind : Kind) →
    owned_leaf table is_virtual texts owner kind ≡ Err UnknownClass → LeafNamesUnknown table.classes texts.owner texts.descriptor word
unknown_owned table is_virtual texts word owner kind h =
    elim (either (has_known_classes table.classes texts.descriptor) UnknownClass (typed table is_virtual texts owner kind) (Err UnknownClass) h) [
      | inl unknown ↦ unknown_type table.classes texts.owner texts.descriptor word unknown
      | inr more ↦ absurd (typed-other table is_virtual texts owner kind more)
    ]

unknown_leaf : (table : LeafTable) (is_virtual : Bool) (texts : Texts) (word : List ℕ) → leaf_line table is_virtual texts word ≡ Err UnknownClass →
    LeafNamesUnknown table.classes texts.owner texts.descriptor word
unknown_leaf table is_virtual texts word h =
    let line = leaf_line-parts table is_virtual texts word (Err UnknownClass) (λ e. cc) (λ e. cc) h in
    let rest = with_owner table is_virtual texts word in
    elim (either_some (class_named table.classes texts.owner) UnknownClass rest (Err UnknownClass) line.rest) [
      | inl none ↦ as_owner none
      | inr owned ↦ elim (either_some (kind_among table.classes word) UnknownClass (λ kind. owned_leaf table is_virtual texts owned.0 kind) (Err UnknownClass)
          owned.2) [
            | inl none ↦ unknown_thrown table.classes texts.owner texts.descriptor word (kind_word_of texts word line.text) none
            | inr more ↦ unknown_owned table is_virtual texts word owned.0 more.0 more.2
          ]
    ]

of_word : (classes : List Class) (is_virtual : Bool) (owner name descriptor kind : List ℕ) → LeafNamesUnknown classes owner descriptor kind →
    NamesUnknown classes (leaf_word is_virtual ∷ owner ∷ name ∷ descriptor ∷ kind ∷ [])
of_word classes true owner name descriptor kind h = of_virtual owner name descriptor kind h
of_word classes false owner name descriptor kind h = of_static owner name descriptor kind h

-- ---- lines

unknown_five : (table : LeafTable) (word : List ℕ) (texts : Texts) (kind : List ℕ) → five_tokens table word texts kind ≡ Err UnknownClass →
    NamesUnknown table.classes (word ∷ texts.owner ∷ texts.name ∷ texts.descriptor ∷ kind ∷ [])
unknown_five table word texts kind h =
    let way = passes_some (is_virtual_word word) BadLine (λ is_virtual. leaf_line table is_virtual texts kind) (Err UnknownClass) (λ e. cc) h in
    subst (λ w. NamesUnknown table.classes (w ∷ texts.owner ∷ texts.name ∷ texts.descriptor ∷ kind ∷ [])) (sym (leaf_word_is word way.0 way.1))
    (of_word table.classes way.0 texts.owner texts.name texts.descriptor kind (unknown_leaf table way.0 texts kind way.2))

class_added-other : (table : LeafTable) (name : List ℕ) (superclass : ClassId) → class_added table name superclass ≡ Err UnknownClass → ⊥
class_added-other table name superclass h =
    let added : Answer = Ok (with_class table name superclass) in
    let room = passes (not (length table.classes == most_classes)) TooMany added (Err UnknownClass) (λ e. cc) h in
    let is : Ok (with_class table name superclass) ≡ Err UnknownClass = room.1 in cc

unknown_class : (table : LeafTable) (name superclass : List ℕ) → class_line table name superclass ≡ Err UnknownClass →
    class_named table.classes superclass ≡ None
unknown_class table name superclass h =
    let line = class_line-parts table name superclass (Err UnknownClass) (λ e. cc) (λ e. cc) h in
    elim (either_some (class_named table.classes superclass) UnknownClass (class_added table name) (Err UnknownClass) line.rest) [
      | inl none ↦ none
      | inr more ↦ absurd (class_added-other table name more.0 more.2)
    ]

unknown_three : (table : LeafTable) (word name superclass : List ℕ) → three_tokens table word name superclass ≡ Err UnknownClass →
    NamesUnknown table.classes (word ∷ name ∷ superclass ∷ [])
unknown_three table word name superclass h =
    let front = three_tokens-parts table word name superclass (Err UnknownClass) (λ e. cc) h in
    subst (λ w. NamesUnknown table.classes (w ∷ name ∷ superclass ∷ [])) (sym ((bytes_eq-Decides word (codes "class")).0 front.0))
    (of_class name superclass (unknown_class table name superclass front.1))

pub unknown_tokens : (table : LeafTable) (tokens : List (List ℕ)) → tokens_meaning table tokens ≡ Err UnknownClass → NamesUnknown table.classes tokens
unknown_tokens table [] h = absurd cc
unknown_tokens table (a ∷ []) h = absurd cc
unknown_tokens table (a ∷ b ∷ []) h = absurd cc
unknown_tokens table (a ∷ b ∷ c ∷ []) h = unknown_three table a b c h
unknown_tokens table (a ∷ b ∷ c ∷ d ∷ []) h = absurd cc
unknown_tokens table (a ∷ b ∷ c ∷ d ∷ e ∷ []) h = unknown_five table a (record { owner = b; name = c; descriptor = d }) e h
unknown_tokens table (a ∷ b ∷ c ∷ d ∷ e ∷ f ∷ rest) h = absurd cc
