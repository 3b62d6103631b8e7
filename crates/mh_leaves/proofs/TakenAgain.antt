-- The line of a class or of a leaf, once more after what it was read after.
use Rattle.std.proofs.Common.{◌≡◌, refl, sym, ap, ◌∙◌, ◌==◌, Bool, true, false, not, List, [], ◌∷◌, ◌++◌, length, codes, is_some, Some, Ok}
use Rattle.std.specs.List.{list_any}
use Rattle.std.specs.Option.{option_map_or}
use Rattle.mh_values.specs.declared.class.Class.{Class}
use Rattle.mh_values.specs.Classes.{class_named, class_of}
use Rattle.mh_leaf.specs.declared.leaf.Leaf.{Leaf}
use Rattle.mh_leaf.specs.LeafTable.{LeafTable}
use Rattle.mh_leaf.specs.Outcome.{is_well_typed}
use Rattle.mh_leaves.specs.declared.manifest.ManifestKind.TheVariants.{BadLine, Twice, UnknownClass, BadDescriptor, BadKind, TooMany}
use Rattle.mh_leaves.specs.Find.{has_texts}
use Rattle.mh_leaves.specs.Manifest.{type_if_read, is_repeated, leaf_of_line, leaf_added, owned_leaf, leaf_line, class_added, is_virtual_word, tokens_meaning}
use Rattle.mh_base.specs.Provided.{provided, provided_some}
use Rattle.mh_leaves.specs.Reference.{Texts}
use Rattle.mh_leaves.specs.Registered.{with_class, with_leaf, most_leaves}
use Rattle.mh_leaves.specs.Written.{leaf_word}
use Rattle.mh_leaves.proofs.LineParts.{Answer, below, with_texts, with_owner, typed}
use Rattle.mh_leaves.proofs.MadeOf.{IsDeclared, IsNext}

-- ---- classes

pub class-again : (before : List Class) (class : Class) → (d : IsDeclared before class) →
    tokens_meaning (record { classes = before; leaves = [] }) (codes "class" ∷ class.name ∷ d.above ∷ [])
    ≡ Ok (record { classes = before ++ class ∷ []; leaves = [] })
class-again before class d =
    let table : LeafTable = record { classes = before; leaves = [] } in
    let new = not (is_some (class_named before class.name)) in
    let rest : Answer = below table class.name d.above in
    let added : Answer = Ok (with_class table class.name d.superclass) in
    ap (λ b. provided b BadLine (provided new Twice rest)) d.names
    ∙ ap (λ b. provided b Twice rest) d.new
    ∙ ap (λ o. provided_some o UnknownClass (class_added table class.name)) d.found
    ∙ ap (λ b. provided b TooMany added) d.room
    ∙ ap (λ o. Ok (record { classes = before ++ class_of class.name o ∷ []; leaves = [] })) (sym d.is)

-- ---- leaves

way_is : (is_virtual : Bool) → is_virtual_word (leaf_word is_virtual) ≡ Some is_virtual
way_is true = refl
way_is false = refl

added-again : (classes : List Class) (before : List Leaf) (leaf : Leaf) → IsNext classes before leaf →
    leaf_added (record { classes = classes; leaves = before }) leaf ≡ Ok (record { classes = classes; leaves = before ++ leaf ∷ [] })
added-again classes before leaf is =
    let table : LeafTable = record { classes = classes; leaves = before } in
    let added : Answer = Ok (with_leaf table leaf) in
    let room : Answer = provided (not (length before == most_leaves)) TooMany added in
    ap (λ b. provided b BadDescriptor (provided (is_well_typed classes leaf) BadKind room)) is.made.few
    ∙ ap (λ b. provided b BadKind room) is.made.typed
    ∙ ap (λ b. provided b TooMany added) is.room

typed-again : (classes : List Class) (before : List Leaf) (leaf : Leaf) → (is : IsNext classes before leaf) →
    typed (record { classes = classes; leaves = before }) leaf.is_virtual
    (record { owner = is.made.owner; name = leaf.name; descriptor = leaf.descriptor }) leaf.owner leaf.kind
    ≡ Ok (record { classes = classes; leaves = before ++ leaf ∷ [] })
typed-again classes before leaf is =
    let table : LeafTable = record { classes = classes; leaves = before } in
    let texts : Texts = record { owner = is.made.owner; name = leaf.name; descriptor = leaf.descriptor } in
    let t = is.made.described.0 in
    ap (λ r. provided_some (type_if_read r) BadDescriptor (λ u. leaf_added table (leaf_of_line leaf.is_virtual texts leaf.owner leaf.kind u)))
    is.made.described.1
    ∙ ap (λ u. leaf_added table (record leaf { ty = u })) (sym is.made.described.2)
    ∙ added-again classes before leaf is

once-again : (classes : List Class) (before : List Leaf) (leaf : Leaf) → (is : IsNext classes before leaf) →
    not (is_repeated (record { classes = classes; leaves = before })
    (record { owner = is.made.owner; name = leaf.name; descriptor = leaf.descriptor })) ≡ true
once-again classes before leaf is =
    ap (λ o. not (option_map_or (λ owner. list_any (has_texts owner leaf.name leaf.descriptor) before) o false)) is.made.owned ∙ ap not is.new

pub leaf-again : (classes : List Class) (before : List Leaf) (leaf : Leaf) → (is : IsNext classes before leaf) →
    tokens_meaning (record { classes = classes; leaves = before })
    (leaf_word leaf.is_virtual ∷ is.made.owner ∷ leaf.name ∷ leaf.descriptor ∷ is.made.word ∷ [])
    ≡ Ok (record { classes = classes; leaves = before ++ leaf ∷ [] })
leaf-again classes before leaf is =
    let table : LeafTable = record { classes = classes; leaves = before } in
    let texts : Texts = record { owner = is.made.owner; name = leaf.name; descriptor = leaf.descriptor } in
    let word = is.made.word in
    let way = leaf.is_virtual in
    let new = not (is_repeated table texts) in
    let rest : Answer = with_texts table way texts word in
    ap (λ o. provided_some o BadLine (λ v. leaf_line table v texts word)) (way_is way)
    ∙ ap (λ b. provided b BadLine (provided new Twice rest)) is.made.text
    ∙ ap (λ b. provided b Twice rest) (once-again classes before leaf is)
    ∙ ap (λ o. provided_some o UnknownClass (with_owner table way texts word)) is.made.owned
    ∙ ap (λ o. provided_some o UnknownClass (λ kind. owned_leaf table way texts leaf.owner kind)) is.made.kind
    ∙ ap (λ b. provided b UnknownClass (typed table way texts leaf.owner leaf.kind)) is.made.known
    ∙ typed-again classes before leaf is
