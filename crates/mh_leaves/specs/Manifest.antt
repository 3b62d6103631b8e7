-- What the lines of a manifest mean.
use Rattle.std.specs.Prelude.{ℕ, ◌==◌, List, [], ◌∷◌, codes, Bool, true, false, not, ◌&&◌, ◌||◌, if◌then◌else◌, Option, None, Some, Result, Ok, Err, length, drop, is_some, option_map, option_and_then, nat_eq, nat_le}
use Rattle.std.specs.Option.{option_map_or, option_or}
use Rattle.std.specs.List.{list_all, list_any, slice_split, starts_with}
use Rattle.std.specs.Str.{bytes_eq}
use Rattle.mh_base.specs.Ascii.{capital_L, semicolon}
use Rattle.mh_base.specs.Lines.{lines_of, tokens_of, cut_at, is_passed, is_plain, built_from}
use Rattle.mh_base.specs.declared.lines.LineFault.{LineFault}
use Rattle.mh_values.specs.declared.class.Class.{Class}
use Rattle.mh_values.specs.declared.class.ClassId.{ClassId}
use Rattle.mh_values.specs.declared.types.MethodTy.{MethodTy}
use Rattle.mh_values.specs.Classes.{class_named, most_classes}
use Rattle.mh_values.specs.Descriptor.{desc}
use Rattle.mh_values.specs.Grammar.{descriptor_fault}
use Rattle.mh_values.specs.Slots.{slots_of_all}
use Rattle.mh_leaf.specs.declared.leaf.Kind.{Kind}
use Rattle.mh_leaf.specs.declared.leaf.Kind.TheVariants as kind
use Rattle.mh_leaf.specs.declared.leaf.Leaf.{Leaf}
use Rattle.mh_leaf.specs.LeafTable.{LeafTable}
use Rattle.mh_leaf.specs.Outcome.{is_well_typed}
use Rattle.mh_leaves.specs.declared.manifest.ManifestKind.{ManifestKind}
use Rattle.mh_leaves.specs.declared.manifest.ManifestKind.TheVariants.{BadLine, Twice, UnknownClass, BadDescriptor, BadKind, TooMany}
use Rattle.mh_leaves.specs.Find.{has_texts}
use Rattle.mh_leaves.specs.Kinds.{word_kind}
use Rattle.mh_base.specs.Provided.{provided, provided_some}
use Rattle.mh_leaves.specs.Reference.{Texts, is_class_name, is_method_name}
use Rattle.mh_leaves.specs.Registered.{nothing_registered, with_class, with_leaf, most_leaves, handle_type}

-- the name of a kind of fault
abbrev pub kind_word : ManifestKind → List ℕ
kind_word BadLine = codes "BadLine"
kind_word Twice = codes "Twice"
kind_word UnknownClass = codes "UnknownClass"
kind_word BadDescriptor = codes "BadDescriptor"
kind_word BadKind = codes "BadKind"
kind_word TooMany = codes "TooMany"

-- ---- classes

-- a class with a new name, below a declared class
abbrev pub class_added : LeafTable → List ℕ → ClassId → Result LeafTable ManifestKind
class_added table name superclass = provided (not (length table.classes == most_classes)) TooMany (Ok (with_class table name superclass))

-- `class NAME SUPER`
abbrev pub class_line : LeafTable → List ℕ → List ℕ → Result LeafTable ManifestKind
class_line table name superclass =
    provided (is_class_name name && is_class_name superclass) BadLine
    (provided (not (is_some (class_named table.classes name))) Twice
    (provided_some (class_named table.classes superclass) UnknownClass (class_added table name)))

-- ---- kinds of leaves

-- the class name of `throw:CLASS`
abbrev pub thrown_name : List ℕ → Option (List ℕ)
thrown_name word = if starts_with nat_eq word (codes "throw:") && is_class_name (drop 6 word) then Some (drop 6 word) else None

-- whether a word is that of a kind
abbrev pub is_kind_word : List ℕ → Bool
is_kind_word word = is_some (word_kind word) || is_some (thrown_name word)

-- the kind that throws an exception of a class of this name
abbrev pub throw_kind : List Class → List ℕ → Option Kind
throw_kind classes word = option_and_then (λ name. option_map kind.Throw (class_named classes name)) (thrown_name word)

-- the kind of a word, whose class must be declared
abbrev pub kind_among : List Class → List ℕ → Option Kind
kind_among classes word = option_or (word_kind word) (throw_kind classes word)

-- ---- descriptors

-- whether the class that a piece of a descriptor names is declared, if it names one: after its first `L`
abbrev pub knows_name : List Class → List ℕ → Bool
knows_name classes piece = option_map_or (λ parts. is_some (class_named classes parts.1)) (cut_at capital_L piece) true

-- whether the classes that a descriptor names are declared: each name ends with `;`
abbrev pub knows_names : List Class → List ℕ → Bool
knows_names classes descriptor = list_all (knows_name classes) (slice_split (λ b. b == semicolon) descriptor)

-- each class that a text names is declared, if the text is a descriptor
abbrev pub has_known_classes : List Class → List ℕ → Bool
has_known_classes classes descriptor = is_some (descriptor_fault descriptor) || knows_names classes descriptor

-- the type of a descriptor, if all its types can be read
abbrev pub type_if_read : {E : Type 0} → Result MethodTy E → Option MethodTy
type_if_read (Ok t) = Some t
type_if_read (Err e) = None

-- ---- leaves

-- whether some leaf has these three texts
abbrev pub is_repeated : LeafTable → Texts → Bool
is_repeated table texts = option_map_or (λ owner. list_any (has_texts owner texts.name texts.descriptor) table.leaves) (class_named table.classes texts.owner)
    false

-- a leaf, if its handle's type has at most 254 slots and its kind allows the type
abbrev pub leaf_added : LeafTable → Leaf → Result LeafTable ManifestKind
leaf_added table leaf =
    provided (nat_le (slots_of_all leaf.ty.params) 254) BadDescriptor
    (provided (is_well_typed table.classes leaf) BadKind
    (provided (not (length table.leaves == most_leaves)) TooMany
    (Ok (with_leaf table leaf))))

-- the leaf of an owner and a kind with these texts and a type, which lacks the receiver
abbrev pub leaf_of_line : Bool → Texts → ClassId → Kind → MethodTy → Leaf
leaf_of_line is_virtual texts owner kind t = record {
  owner = owner;
  name = texts.name;
  descriptor = texts.descriptor;
  is_virtual = is_virtual;
  ty = handle_type is_virtual owner t;
  kind = kind;
}

-- a leaf of an owner and a kind
abbrev pub owned_leaf : LeafTable → Bool → Texts → ClassId → Kind → Result LeafTable ManifestKind
owned_leaf table is_virtual texts owner kind =
    provided (has_known_classes table.classes texts.descriptor) UnknownClass
    (provided_some (type_if_read (desc table.classes texts.descriptor)) BadDescriptor (λ t. leaf_added table (leaf_of_line is_virtual texts owner kind t)))

-- the texts of a leaf's line are of the right form
abbrev pub is_leaf_text : Texts → List ℕ → Bool
is_leaf_text texts word = is_class_name texts.owner && is_method_name texts.name && not (length texts.descriptor == 0) && is_kind_word word

-- `static OWNER NAME DESC KIND`, or `virtual OWNER NAME DESC KIND`
abbrev pub leaf_line : LeafTable → Bool → Texts → List ℕ → Result LeafTable ManifestKind
leaf_line table is_virtual texts word =
    provided (is_leaf_text texts word) BadLine
    (provided (not (is_repeated table texts)) Twice
    (provided_some (class_named table.classes texts.owner) UnknownClass (λ owner.
    provided_some (kind_among table.classes word) UnknownClass (λ kind. owned_leaf table is_virtual texts owner kind))))

-- ---- lines

-- a line of three tokens
abbrev pub three_tokens : LeafTable → List ℕ → List ℕ → List ℕ → Result LeafTable ManifestKind
three_tokens table word name superclass = provided (bytes_eq word (codes "class")) BadLine (class_line table name superclass)

-- whether a leaf of such a line has a receiver
abbrev pub is_virtual_word : List ℕ → Option Bool
is_virtual_word word =
    if bytes_eq word (codes "static") then Some false else (if bytes_eq word (codes "virtual") then Some true else None)

-- a line of five tokens
abbrev pub five_tokens : LeafTable → List ℕ → Texts → List ℕ → Result LeafTable ManifestKind
five_tokens table word texts kind = provided_some (is_virtual_word word) BadLine (λ is_virtual. leaf_line table is_virtual texts kind)

-- the tokens of a line
abbrev pub tokens_meaning : LeafTable → List (List ℕ) → Result LeafTable ManifestKind
tokens_meaning table (word ∷ name ∷ superclass ∷ []) = three_tokens table word name superclass
tokens_meaning table (word ∷ owner ∷ name ∷ descriptor ∷ kind ∷ []) =
    five_tokens table word (record { owner = owner; name = name; descriptor = descriptor }) kind
tokens_meaning table _ = Err BadLine

-- what is registered after a line, or what is wrong with the line
abbrev pub line_meaning : LeafTable → List ℕ → Result LeafTable ManifestKind
line_meaning table line = provided (is_plain line) BadLine (if is_passed line then Ok table else tokens_meaning table (tokens_of line))

-- what a manifest registers, or its first faulty line
abbrev pub manifest : List ℕ → Result LeafTable (LineFault ManifestKind)
manifest bytes = built_from line_meaning 1 nothing_registered (lines_of bytes)
