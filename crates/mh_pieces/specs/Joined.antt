-- What pieces join to.
use Rattle.std.specs.Prelude.{List, [], ◌∷◌, ◌++◌, ℕ, drop, flat_map, length, Option, None, Some, if◌then◌else◌}
use Rattle.mh_values.specs.declared.class.Class.{Class}
use Rattle.mh_values.specs.declared.types.Ty.{Ty}
use Rattle.mh_values.specs.declared.value.Outcome.{Outcome}
use Rattle.mh_values.specs.declared.value.Value.{Value}
use Rattle.mh_values.specs.ValueLimits.{is_short_text}
use Rattle.mh_leaf.specs.Outcome.{text}
use Rattle.mh_pieces.specs.declared.piece.Piece.{Piece}
use Rattle.mh_pieces.specs.declared.piece.Piece.TheVariants as piece
use Rattle.mh_pieces.specs.ValueText.{text_of}

-- the type of the argument that a piece takes, if it takes one
abbrev pub types_of_piece : Piece → List Ty
types_of_piece (piece.Lit s) = []
types_of_piece (piece.Arg t) = t ∷ []

-- the types of the arguments that pieces take, in order
abbrev pub arg_types : List Piece → List Ty
arg_types pieces = flat_map types_of_piece pieces

-- the text of an argument; if none is left, there is none
abbrev pub next_text : List Class → List Value → List ℕ
next_text classes [] = []
next_text classes (v ∷ vs) = text_of classes v

-- the text of a piece: its own, or that of the first of the arguments that are left
abbrev pub piece_text : List Class → Piece → List Value → List ℕ
piece_text classes (piece.Lit s) args = s
piece_text classes (piece.Arg t) args = next_text classes args

-- what is left after a piece: of arguments, or of their places
abbrev pub args_after : {A : Type 0} → Piece → List A → List A
args_after (piece.Lit s) args = args
args_after (piece.Arg t) args = drop 1 args

-- the texts of pieces, one after the other (JLS SE 17, 15.18.1)
abbrev pub joined_text : List Class → List Piece → List Value → List ℕ
joined_text classes [] args = []
joined_text classes (p ∷ ps) args = piece_text classes p args ++ joined_text classes ps (args_after p args)

-- what pieces join to: that text, if it is not too long for a value
abbrev pub joined : List Class → List Piece → List Value → Outcome
joined classes pieces args = text (joined_text classes pieces args)

-- the number of characters of a text that is not too long for a value
abbrev pub short_length : List ℕ → Option ℕ
short_length s = if is_short_text s then Some (length s) else None
