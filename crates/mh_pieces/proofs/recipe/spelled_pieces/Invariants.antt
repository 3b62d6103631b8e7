use Rattle.std.proofs.Common.{◌≡◌, ◌++◌, drop}
use Rattle.mh_pieces.specs.Recipe.{pieces_after, spelled_pieces}
use Rattle.mh_pieces.proofs.recipe.spelled_pieces.Given as goal

-- the pieces so far and those of what is left are all
abbrev pub invariant-loop-character : goal.invariant-loop-character
invariant-loop-character l =
    spelled_pieces l.classes l.recipe l.fn.types l.fn.constants ≡ l.pieces ++ pieces_after l.classes l.run (drop l.character-index l.recipe) l.params l.values
