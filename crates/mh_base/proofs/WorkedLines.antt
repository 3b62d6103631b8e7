-- Lines of tokens, by computation.
use Rattle.std.specs.Prelude.{◌≡◌, refl, true, false, [], ◌∷◌, codes}
use Rattle.mh_base.specs.Lines.{is_full, line_text, lines_of, tokens_of}

written : line_text (codes "class" ∷ codes "A" ∷ []) ≡ codes "class A\n"
written = refl

none-written : line_text [] ≡ codes "\n"
none-written = refl

-- its end begins a line more
read : lines_of (codes "class A\n") ≡ codes "class A" ∷ [] ∷ []
read = refl

-- between two spaces stands a token that is empty
parted : tokens_of (codes "a  b") ≡ codes "a" ∷ [] ∷ codes "b" ∷ []
parted = refl

empty : is_full [] ≡ false
empty = refl

not_empty : is_full (codes "a") ≡ true
not_empty = refl
