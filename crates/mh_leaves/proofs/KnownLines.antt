-- A line that names a class that is not there is refused for that, or for a kind of fault that comes before.
use Rattle.std.proofs.Common.{◌≡◌, refl, sym, ap, subst, ◌∙◌, ℕ, Bool, true, false, not, ◌&&◌, List, ◌++◌, codes, Option, None, Some, Result, Ok, Err, is_some, Contains, if◌then◌else◌}
use Rattle.std.proofs.lemmas.Bool.{or_from}
use Rattle.std.proofs.lemmas.List.Folds.{list_all_at}
use Rattle.std.specs.List.{list_all}
use Rattle.std.specs.Option.{option_map, option_and_then}
use Rattle.mh_values.specs.declared.class.Class.{Class}
use Rattle.mh_values.specs.Classes.{class_named}
use Rattle.mh_values.specs.Grammar.{descriptor_fault}
use Rattle.mh_values.specs.Spelling.{IsMethodDescriptor}
use Rattle.mh_values.proofs.Complete.{descriptor_complete}
use Rattle.mh_leaf.specs.declared.leaf.Kind.TheVariants as kind
use Rattle.mh_leaf.specs.LeafTable.{LeafTable}
use Rattle.mh_leaves.specs.declared.manifest.ManifestKind.{ManifestKind}
use Rattle.mh_leaves.specs.declared.manifest.ManifestKind.TheVariants.{BadLine, Twice, UnknownClass, BadDescriptor, BadKind, TooMany}
use Rattle.mh_leaves.specs.Manifest.{kind_among, knows_names, has_known_classes, leaf_line, is_leaf_text, class_added, class_line, tokens_meaning}
use Rattle.mh_leaves.specs.Names.{descriptor_names}
use Rattle.mh_base.specs.Provided.{provided, provided_some}
use Rattle.mh_leaves.specs.Reference.{Texts, is_class_name}
use Rattle.mh_leaves.specs.Unknown.{LeafNamesUnknown, as_owner, as_thrown, in_types, NamesUnknown, of_class, of_static, of_virtual}
use Rattle.mh_leaves.proofs.KnownNames.{names_known}

-- an answer that is the fault of a class that is not there, or of what comes before
abbrev pub IsEarly : Result LeafTable ManifestKind → Type 0
IsEarly (Ok table) = ⊥
IsEarly (Err BadLine) = Unit {0}
IsEarly (Err Twice) = Unit {0}
IsEarly (Err UnknownClass) = Unit {0}
IsEarly (Err BadDescriptor) = ⊥
IsEarly (Err BadKind) = ⊥
IsEarly (Err TooMany) = ⊥

early : (b : Bool) (kind : ManifestKind) (next : Result LeafTable ManifestKind) → IsEarly (Err kind) → IsEarly next → IsEarly (provided b kind next)
early true kind next here later = later
early false kind next here later = here

early_some : {A : Type 0} (o : Option A) (kind : ManifestKind) (next : A → Result LeafTable ManifestKind) → IsEarly (Err kind) →
    ((a : A) → IsEarly (next a)) → IsEarly (provided_some o kind next)
early_some None kind next here later = here
early_some (Some a) kind next here later = later a

early_false : (b : Bool) (next : Result LeafTable ManifestKind) → b ≡ false → IsEarly (provided b UnknownClass next)
early_false b next is = subst (λ t. IsEarly (provided t UnknownClass next)) (sym is) tt

early_none : {A : Type 0} (o : Option A) (next : A → Result LeafTable ManifestKind) → o ≡ None → IsEarly (provided_some o UnknownClass next)
early_none o next is = subst (λ p. IsEarly (provided_some p UnknownClass next)) (sym is) tt

-- ---- descriptors

some_fails : {A : Type 0} (test : A → Bool) (xs : List A) (x : A) → Contains xs x → test x ≡ false → list_all test xs ≡ false
some_fails test xs x has fails = list_all_at test xs has.0 x has.1 (ap test has.2 ∙ fails)

type_unknown : (classes : List Class) (text : List ℕ) (d : IsMethodDescriptor text) (name : List ℕ) → Contains (descriptor_names d) name →
    class_named classes name ≡ None → has_known_classes classes text ≡ false
type_unknown classes text d name has unknown =
    or_from (is_some (descriptor_fault text)) (knows_names classes text) (ap is_some (descriptor_complete text d))
    (names_known classes text d ∙ some_fails (λ n. is_some (class_named classes n)) (descriptor_names d) name has (ap is_some unknown))

-- ---- kinds

throw_unknown : (classes : List Class) (name : List ℕ) → class_named classes name ≡ None → kind_among classes (codes "throw:" ++ name) ≡ None
throw_unknown classes name unknown =
    elim (is_class_name name) as (λ b. option_and_then (λ n. option_map kind.Throw (class_named classes n)) (if b then Some name else None) ≡ None)
    [ true ↦ ap (option_map kind.Throw) unknown | false ↦ refl ]

-- ---- lines

early_leaf : (table : LeafTable) (is_virtual : Bool) (texts : Texts) (word : List ℕ) → LeafNamesUnknown table.classes texts.owner texts.descriptor word →
    IsEarly (leaf_line table is_virtual texts word)
early_leaf table is_virtual texts word (as_owner none) =
    early (is_leaf_text texts word) BadLine _ tt (early _ Twice _ tt (early_none (class_named table.classes texts.owner) _ none))
early_leaf table is_virtual texts word (as_thrown name is none) =
    early (is_leaf_text texts word) BadLine _ tt (early _ Twice _ tt (early_some (class_named table.classes texts.owner) UnknownClass _ tt (λ owner.
    early_none (kind_among table.classes word) _ (ap (kind_among table.classes) is ∙ throw_unknown table.classes name none))))
early_leaf table is_virtual texts word (in_types d name has none) =
    early (is_leaf_text texts word) BadLine _ tt (early _ Twice _ tt (early_some (class_named table.classes texts.owner) UnknownClass _ tt (λ owner.
    early_some (kind_among table.classes word) UnknownClass _ tt (λ kind.
    early_false (has_known_classes table.classes texts.descriptor) _ (type_unknown table.classes texts.descriptor d name has none)))))

early_class : (table : LeafTable) (name superclass : List ℕ) → class_named table.classes superclass ≡ None → IsEarly (class_line table name superclass)
early_class table name superclass none =
    early (is_class_name name && is_class_name superclass) BadLine _ tt (early (not (is_some (class_named table.classes name))) Twice _ tt
    (early_none (class_named table.classes superclass) (class_added table name) none))

pub early_tokens : (table : LeafTable) (tokens : List (List ℕ)) → NamesUnknown table.classes tokens → IsEarly (tokens_meaning table tokens)
early_tokens table tokens (of_class name superclass none) = early_class table name superclass none
early_tokens table tokens (of_static owner name descriptor kind unknown) =
    early_leaf table false (record { owner = owner; name = name; descriptor = descriptor }) kind unknown
early_tokens table tokens (of_virtual owner name descriptor kind unknown) =
    early_leaf table true (record { owner = owner; name = name; descriptor = descriptor }) kind unknown
