-- What pieces join to if their arguments are in slots.
use Rattle.std.specs.Prelude.{ℕ, List, [], ◌∷◌, ◌++◌, slice_get, Option, None, Some, option_map}
use Rattle.mh_values.specs.declared.class.Class.{Class}
use Rattle.mh_values.specs.declared.types.Ty.{Ty}
use Rattle.mh_pieces.specs.declared.piece.Piece.{Piece}
use Rattle.mh_pieces.specs.declared.piece.Piece.TheVariants as piece
use Rattle.mh_pieces.specs.Joined.{args_after}
use Rattle.mh_pieces.specs.ValueText.{text_of}
use Rattle.mh_form.specs.declared.slot.Slot.{Slot}
use Rattle.mh_form.specs.Erasure.{typed_slot}

-- the text of the value that the slot at the first of these places stands for
abbrev pub next_text_at : List Class → List Slot → Ty → List ℕ → Option (List ℕ)
next_text_at classes slots t [] = None
next_text_at classes slots t (p ∷ ps) = option_map (text_of classes) (typed_slot classes t (slice_get slots p))

-- the text of a piece: its own, or that of its argument, which is at the first of these places
abbrev pub piece_text_at : List Class → List Slot → Piece → List ℕ → Option (List ℕ)
piece_text_at classes slots (piece.Lit s) places = Some s
piece_text_at classes slots (piece.Arg t) places = next_text_at classes slots t places

-- one text after another, if there are both
abbrev pub text_and_more : Option (List ℕ) → Option (List ℕ) → Option (List ℕ)
text_and_more (Some s) (Some rest) = Some (s ++ rest)
text_and_more _ _ = None

-- the texts of pieces, one after the other, with the slots at these places as their arguments
abbrev pub joined_text_at : List Class → List Slot → List Piece → List ℕ → Option (List ℕ)
joined_text_at classes slots [] places = Some []
joined_text_at classes slots (q ∷ qs) places =
    text_and_more (piece_text_at classes slots q places) (joined_text_at classes slots qs (args_after q places))
