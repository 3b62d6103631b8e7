-- The text of what a manifest registers is read as that again.
use Rattle.std.proofs.Common.{◌≡◌, refl, sym, ap, ap₂, ◌∙◌, ℕ, ◌+◌, Bool, true, false, List, [], ◌∷◌, ◌++◌, drop, length, flat_map, codes, append_assoc, append-nil, Result, Ok, Err, if◌then◌else◌, IfOk}
use Rattle.std.specs.List.{join_with_byte}
use Rattle.std.specs.Option.{option_map_or}
use Rattle.mh_base.specs.Lines.{is_passed, line_text, lines_of, tokens_of, built_from}
use Rattle.mh_values.specs.declared.class.Class.{Class}
use Rattle.mh_values.specs.Class.{builtin_classes}
use Rattle.mh_values.specs.Classes.{name_of}
use Rattle.mh_leaf.specs.declared.leaf.Leaf.{Leaf}
use Rattle.mh_leaf.specs.LeafTable.{LeafTable}
use Rattle.mh_leaves.specs.declared.manifest.ManifestKind.TheVariants.{BadLine}
use Rattle.mh_leaves.specs.declared.manifest.ManifestError.{ManifestError}
use Rattle.mh_leaves.specs.Fault.{TellsManifest}
use Rattle.mh_leaves.specs.Manifest.{tokens_meaning, line_meaning, manifest}
use Rattle.mh_base.specs.Provided.{provided}
use Rattle.mh_leaves.specs.Written.{leaf_word, class_tokens, leaf_tokens, manifest_text}
use Rattle.mh_base.proofs.LineTokens.{IsToken, AreTokens, tokens_joined, plain_joined, read_on}
use Rattle.mh_leaves.proofs.MadeOf.{IsDeclared, AreDeclared, IsMade, IsNext, AreMade}
use Rattle.mh_leaves.proofs.Meanings.{class_named-grown}
use Rattle.mh_values.proofs.NamedClass.{named_is}
use Rattle.mh_leaves.proofs.ReadLines.{manifest-read}
use Rattle.mh_leaves.proofs.TakenLines.{IsRead}
use Rattle.mh_leaves.proofs.TakenAgain.{class-again, leaf-again}
use Rattle.mh_leaves.proofs.Words.{kind_is}

-- ---- a line of tokens

-- a line of these tokens means what they mean
line_again : (table : LeafTable) (word : List ℕ) (rest : List (List ℕ)) → AreTokens (word ∷ rest) → is_passed (join_with_byte 32 (word ∷ rest)) ≡ false →
    line_meaning table (join_with_byte 32 (word ∷ rest)) ≡ tokens_meaning table (word ∷ rest)
line_again table word rest are not_passed =
    let line = join_with_byte 32 (word ∷ rest) in
    ap (λ b. provided b BadLine (if is_passed line then Ok table else tokens_meaning table (tokens_of line))) (plain_joined word rest are)
    ∙ ap (λ b. if b then Ok table else tokens_meaning table (tokens_of line)) not_passed
    ∙ ap (tokens_meaning table) (tokens_joined word rest are)

-- a text that begins with a line of tokens is read on after it
text_again : (n : ℕ) (table next : LeafTable) (word : List ℕ) (rest : List (List ℕ)) (text : List ℕ) → AreTokens (word ∷ rest) →
    is_passed (join_with_byte 32 (word ∷ rest)) ≡ false → tokens_meaning table (word ∷ rest) ≡ Ok next →
    built_from line_meaning n table (lines_of (line_text (word ∷ rest) ++ text)) ≡ built_from line_meaning (n + 1) next (lines_of text)
text_again n table next word rest text are not_passed is =
    read_on line_meaning n table next word rest text are (line_again table word rest are not_passed ∙ is)

-- ---- classes

class_word : IsToken (codes "class")
class_word = record { plain = refl; one = (refl, (refl, (refl, (refl, (refl, tt))))) }

-- the tokens of a class's line are those that were read
class_tokens-are : (before more : List Class) (class : Class) → (d : IsDeclared before class) →
    class_tokens (before ++ more) class ≡ codes "class" ∷ class.name ∷ d.above ∷ []
class_tokens-are before more class d =
    ap (λ above. codes "class" ∷ class.name ∷ above ∷ [])
    (ap (λ o. option_map_or (name_of (before ++ more)) o []) d.is
    ∙ named_is (before ++ more) d.above d.superclass (class_named-grown before more d.above d.superclass d.found))

class_text-again : (n : ℕ) (all before more : List Class) (class : Class) (text : List ℕ) → all ≡ before ++ more → IsDeclared before class →
    built_from line_meaning n (record { classes = before; leaves = [] }) (lines_of (line_text (class_tokens all class) ++ text))
    ≡ built_from line_meaning (n + 1) (record { classes = before ++ class ∷ []; leaves = [] }) (lines_of text)
class_text-again n all before more class text whole d =
    ap (λ ts. built_from line_meaning n (record { classes = before; leaves = [] }) (lines_of (line_text ts ++ text)))
    (ap (λ cs. class_tokens cs class) whole ∙ class_tokens-are before more class d)
    ∙ text_again n (record { classes = before; leaves = [] }) (record { classes = before ++ class ∷ []; leaves = [] }) (codes "class")
    (class.name ∷ d.above ∷ []) text (class_word, d.tokens) refl (class-again before class d)

-- the lines of classes are read, and what stands after them from there on
classes_again : (n : ℕ) (all before rest : List Class) (text : List ℕ) → all ≡ before ++ rest → AreDeclared before rest →
    (m : ℕ) × (built_from line_meaning n (record { classes = before; leaves = [] })
    (lines_of (flat_map (λ class. line_text (class_tokens all class)) rest ++ text))
    ≡ built_from line_meaning m (record { classes = all; leaves = [] }) (lines_of text))
classes_again n all before [] text whole are =
    (n, ap (λ cs. built_from line_meaning n (record { classes = cs; leaves = [] }) (lines_of text)) (sym (whole ∙ append-nil before)))
classes_again n all before (class ∷ rest) text whole are =
    let line = line_text (class_tokens all class) in
    let lines = flat_map (λ c. line_text (class_tokens all c)) rest in
    let more = classes_again (n + 1) all (before ++ class ∷ []) rest text (whole ∙ sym (append_assoc before (class ∷ []) rest)) are.1 in (
      more.0,
      ap (λ t. built_from line_meaning n (record { classes = before; leaves = [] }) (lines_of t)) (append_assoc line lines text)
          ∙ class_text-again n all before (class ∷ rest) class (lines ++ text) whole are.0
          ∙ more.1,
    )

-- ---- leaves

word_is : (is_virtual : Bool) → IsToken (leaf_word is_virtual)
word_is true = record { plain = refl; one = (refl, (refl, (refl, (refl, (refl, (refl, (refl, tt))))))) }
word_is false = record { plain = refl; one = (refl, (refl, (refl, (refl, (refl, (refl, tt)))))) }

word_read : (is_virtual : Bool) (token : List ℕ) (rest : List (List ℕ)) → is_passed (join_with_byte 32 (leaf_word is_virtual ∷ token ∷ rest)) ≡ false
word_read true token rest = refl
word_read false token rest = refl

-- the tokens of a leaf's line are those that were read
leaf_tokens-are : (classes : List Class) (leaf : Leaf) → (d : IsMade classes leaf) →
    leaf_tokens classes leaf ≡ leaf_word leaf.is_virtual ∷ d.owner ∷ leaf.name ∷ leaf.descriptor ∷ d.word ∷ []
leaf_tokens-are classes leaf d =
    ap₂ (λ owner word. leaf_word leaf.is_virtual ∷ owner ∷ leaf.name ∷ leaf.descriptor ∷ word ∷ []) (named_is classes d.owner leaf.owner d.owned)
    (kind_is classes d.word leaf.kind d.kind)

leaf_text-again : (n : ℕ) (classes : List Class) (before : List Leaf) (leaf : Leaf) (text : List ℕ) → IsNext classes before leaf →
    built_from line_meaning n (record { classes = classes; leaves = before }) (lines_of (line_text (leaf_tokens classes leaf) ++ text))
    ≡ built_from line_meaning (n + 1) (record { classes = classes; leaves = before ++ leaf ∷ [] }) (lines_of text)
leaf_text-again n classes before leaf text is =
    let d = is.made in
    let rest = d.owner ∷ leaf.name ∷ leaf.descriptor ∷ d.word ∷ [] in
    ap (λ ts. built_from line_meaning n (record { classes = classes; leaves = before }) (lines_of (line_text ts ++ text))) (leaf_tokens-are classes leaf d)
    ∙ text_again n (record { classes = classes; leaves = before }) (record { classes = classes; leaves = before ++ leaf ∷ [] }) (leaf_word leaf.is_virtual)
    rest text (word_is leaf.is_virtual, d.tokens) (word_read leaf.is_virtual d.owner (leaf.name ∷ leaf.descriptor ∷ d.word ∷ []))
    (leaf-again classes before leaf is)

-- the lines of leaves are read
leaves_again : (n : ℕ) (classes : List Class) (before rest : List Leaf) → AreMade classes before rest →
    built_from line_meaning n (record { classes = classes; leaves = before }) (lines_of (flat_map (λ leaf. line_text (leaf_tokens classes leaf)) rest))
    ≡ Ok (record { classes = classes; leaves = before ++ rest })
leaves_again n classes before [] are = ap (λ ls. Ok (record { classes = classes; leaves = ls })) (sym (append-nil before))
leaves_again n classes before (leaf ∷ rest) are =
    leaf_text-again n classes before leaf (flat_map (λ l. line_text (leaf_tokens classes l)) rest) are.0
    ∙ leaves_again (n + 1) classes (before ++ leaf ∷ []) rest are.1
    ∙ ap (λ ls. Ok (record { classes = classes; leaves = ls })) (append_assoc before (leaf ∷ []) rest)

-- ---- a manifest

pub written_again : (table : LeafTable) → IsRead table → manifest (manifest_text table) ≡ Ok table
written_again table is =
    let leaves = flat_map (λ leaf. line_text (leaf_tokens table.classes leaf)) table.leaves in
    let front = classes_again 1 table.classes builtin_classes is.declared leaves is.classes is.are_declared in
    let declared : drop (length builtin_classes) table.classes ≡ is.declared = ap (drop (length builtin_classes)) is.classes in
    ap (λ cs. manifest (flat_map (λ class. line_text (class_tokens table.classes class)) cs ++ leaves)) declared
    ∙ front.1
    ∙ leaves_again front.0 table.classes [] table.leaves is.are_made

-- what is written of what a manifest registers
pub manifest_again : (bytes : List ℕ) (table : LeafTable) → manifest bytes ≡ Ok table → manifest (manifest_text table) ≡ Ok table
manifest_again bytes table h = written_again table (manifest-read table (lines_of bytes) h)

-- the same of an answer that tells it
pub told_again : (bytes : List ℕ) (r : Result LeafTable ManifestError) → TellsManifest r (manifest bytes) →
    IfOk r (λ table. manifest (manifest_text table) ≡ Ok table)
told_again bytes (Ok table) h = manifest_again bytes table h
told_again bytes (Err error) h = tt
