-- What was read as the text of a manifest: the classes in their order, and then the leaves in theirs.
use Rattle.std.specs.Prelude.{ℕ, Bool, true, false, List, [], ◌∷◌, ◌++◌, codes, drop, flat_map, length}
use Rattle.std.specs.Option.{option_map_or}
use Rattle.mh_base.specs.Lines.{line_text}
use Rattle.mh_values.specs.declared.class.Class.{Class}
use Rattle.mh_values.specs.Class.{builtin_classes}
use Rattle.mh_values.specs.Classes.{name_of}
use Rattle.mh_leaf.specs.declared.leaf.Kind.{Kind}
use Rattle.mh_leaf.specs.declared.leaf.Kind.TheVariants as kind
use Rattle.mh_leaf.specs.declared.leaf.Leaf.{Leaf}
use Rattle.mh_leaf.specs.LeafTable.{LeafTable}

-- the word of a kind of leaf: of a kind of a word alone that of its row in `word_kinds` (`rows_told` of proofs/Words)
abbrev pub kind_text : List Class → Kind → List ℕ
kind_text classes kind.Iadd = codes "iadd"
kind_text classes kind.Isub = codes "isub"
kind_text classes kind.Imul = codes "imul"
kind_text classes kind.Idiv = codes "idiv"
kind_text classes kind.Ladd = codes "ladd"
kind_text classes kind.Ieq = codes "ieq"
kind_text classes kind.Ilt = codes "ilt"
kind_text classes kind.Not = codes "not"
kind_text classes kind.Concat = codes "concat"
kind_text classes kind.Length = codes "length"
kind_text classes kind.Same = codes "same"
kind_text classes kind.First = codes "first"
kind_text classes kind.Pick = codes "pick"
kind_text classes kind.Tick = codes "tick"
kind_text classes kind.Note = codes "note"
kind_text classes (kind.Throw class) = codes "throw:" ++ name_of classes class

-- the first word of a leaf's line, by whether the leaf has a receiver
abbrev pub leaf_word : Bool → List ℕ
leaf_word true = codes "virtual"
leaf_word false = codes "static"

-- the tokens of a class's line: `class NAME SUPER`
abbrev pub class_tokens : List Class → Class → List (List ℕ)
class_tokens classes class = codes "class" ∷ class.name ∷ option_map_or (name_of classes) class.superclass [] ∷ []

-- the tokens of a leaf's line: `static OWNER NAME DESC KIND`, or `virtual OWNER NAME DESC KIND`
abbrev pub leaf_tokens : List Class → Leaf → List (List ℕ)
leaf_tokens classes leaf = leaf_word leaf.is_virtual ∷ name_of classes leaf.owner ∷ leaf.name ∷ leaf.descriptor ∷ kind_text classes leaf.kind ∷ []

-- the classes that a manifest declares: those after the ones that are built in
abbrev pub declared_classes : LeafTable → List Class
declared_classes table = drop (length builtin_classes) table.classes

-- the text of a manifest: a line for each class that it declares, and then a line for each leaf
abbrev pub manifest_text : LeafTable → List ℕ
manifest_text table =
    flat_map (λ class. line_text (class_tokens table.classes class)) (declared_classes table)
    ++ flat_map (λ leaf. line_text (leaf_tokens table.classes leaf)) table.leaves
