-- The words of the kinds of leaves, as a manifest writes them.
use Rattle.std.specs.Prelude.{ℕ, List, [], ◌∷◌, codes, map, Option, None, Some, if◌then◌else◌}
use Rattle.std.specs.Str.{bytes_eq}
use denote.Ref.{Bor}
use Rattle.mh_leaf.specs.declared.leaf.Kind.{Kind}
use Rattle.mh_leaf.specs.declared.leaf.Kind.TheVariants as kind

-- the kinds of a word alone, each after its word
abbrev pub word_kinds : List (List ℕ × Kind)
word_kinds =
    (codes "iadd", kind.Iadd)
    ∷ (codes "isub", kind.Isub)
    ∷ (codes "imul", kind.Imul)
    ∷ (codes "idiv", kind.Idiv)
    ∷ (codes "ladd", kind.Ladd)
    ∷ (codes "ieq", kind.Ieq)
    ∷ (codes "ilt", kind.Ilt)
    ∷ (codes "not", kind.Not)
    ∷ (codes "concat", kind.Concat)
    ∷ (codes "length", kind.Length)
    ∷ (codes "same", kind.Same)
    ∷ (codes "first", kind.First)
    ∷ (codes "pick", kind.Pick)
    ∷ (codes "tick", kind.Tick)
    ∷ (codes "note", kind.Note)
    ∷ []

-- the kind of a word among rows: that of the first row with the word
abbrev pub kind_of_row : List (List ℕ × Kind) → List ℕ → Option Kind
kind_of_row [] word = None
kind_of_row (row ∷ rows) word = if bytes_eq word row.0 then Some row.1 else kind_of_row rows word

-- the kind of a word alone
abbrev pub word_kind : List ℕ → Option Kind
word_kind word = kind_of_row word_kinds word

-- rows whose words are borrowed
abbrev pub rows_of : List (Bor (List ℕ) × Kind) → List (List ℕ × Kind)
rows_of rows = map (λ row. (row.0.now, row.1)) rows
