-- What pieces join to, piece by piece, and whether that is too long.
use Rattle.std.proofs.Common.{◌≡◌, refl, sym, ap, ◌∙◌, ℕ, ◌+◌, ◌<◌, ◌≤◌, Bool, true, false, cond, List, [], ◌++◌, codes, length, drop, get_or, None, Some, append_assoc, length-append, le-leb, arith}
use Rattle.std.proofs.lemmas.Bool.{lt-leb}
use Rattle.std.proofs.lemmas.List.{at_drop_more, at_drop_all}
use Rattle.mh_values.specs.declared.class.Class.{Class}
use Rattle.mh_values.specs.declared.value.Value.{Value}
use Rattle.mh_values.specs.declared.value.Value.TheVariants as value
use Rattle.mh_values.specs.declared.value.Outcome.{Outcome}
use Rattle.mh_values.specs.declared.value.Outcome.TheVariants.{Throw}
use Rattle.mh_values.specs.Class.{internal_error_class}
use Rattle.mh_values.specs.Exception.{saying}
use Rattle.mh_values.specs.ValueLimits.{most_characters, is_short_text}
use Rattle.mh_leaf.specs.Outcome.{returned, text}
use Rattle.mh_pieces.specs.declared.piece.Piece.{Piece}
use Rattle.mh_pieces.specs.Joined.{piece_text, args_after, joined_text, short_length}

-- the next piece
pub joined_next : (classes : List Class) (pieces : List Piece) (i : ℕ) (p : Piece) (args : List Value) → i < length pieces → p ≡ get_or pieces i p →
    joined_text classes (drop i pieces) args ≡ piece_text classes p args ++ joined_text classes (drop (i + 1) pieces) (args_after p args)
joined_next classes pieces i p args within is =
    at_drop_more (λ ps. joined_text classes ps args) pieces i p within
    ∙ ap (λ q. piece_text classes q args ++ joined_text classes (drop (i + 1) pieces) (args_after q args)) (sym is)

-- behind the last one
pub joined_end : (classes : List Class) (pieces : List Piece) (i : ℕ) (args : List Value) → length pieces ≤ i → joined_text classes (drop i pieces) args ≡ []
joined_end classes pieces i args behind = at_drop_all (λ ps. joined_text classes ps args) pieces i behind

-- one piece more is written
pub written_next : (classes : List Class) (pieces : List Piece) (i : ℕ) (p : Piece) (args left : List Value) (chars more whole : List ℕ) →
    i < length pieces → p ≡ get_or pieces i p → more ≡ chars ++ piece_text classes p args → left ≡ args_after p args →
    chars ++ joined_text classes (drop i pieces) args ≡ whole → more ++ joined_text classes (drop (i + 1) pieces) left ≡ whole
written_next classes pieces i p args left chars more whole within is put rest so_far =
    ap (λ x. x ++ joined_text classes (drop (i + 1) pieces) left) put
    ∙ (append_assoc chars (piece_text classes p args) (joined_text classes (drop (i + 1) pieces) left)
    ∙ (ap (λ vs. chars ++ (piece_text classes p args ++ joined_text classes (drop (i + 1) pieces) vs)) rest
    ∙ (ap (λ x. chars ++ x) (sym (joined_next classes pieces i p args within is)) ∙ so_far)))

-- the length with one piece more
pub length_next : (classes : List Class) (pieces : List Piece) (i : ℕ) (p : Piece) (args left : List Value) → i < length pieces → p ≡ get_or pieces i p →
    left ≡ args_after p args →
    length (joined_text classes (drop i pieces) args) ≡ length (piece_text classes p args) + length (joined_text classes (drop (i + 1) pieces) left)
length_next classes pieces i p args left within is rest =
    ap (λ (x : List ℕ). length x) (joined_next classes pieces i p args within is)
    ∙ (length-append (piece_text classes p args) (joined_text classes (drop (i + 1) pieces) (args_after p args))
    ∙ ap (λ vs. length (piece_text classes p args) + length (joined_text classes (drop (i + 1) pieces) vs)) (sym rest))

pub length_end : (classes : List Class) (pieces : List Piece) (i : ℕ) (args : List Value) → length pieces ≤ i →
    length (joined_text classes (drop i pieces) args) ≡ 0
length_end classes pieces i args behind = ap (λ (x : List ℕ). length x) (joined_end classes pieces i args behind)

-- a text that is too long has no short length
pub no_short_length : (s : List ℕ) → most_characters < length s → None ≡ short_length s
no_short_length s long = ap (λ b. cond b (Some (length s)) None) (sym (lt-leb (length s) most_characters long))

-- any other has its length
pub some_short_length : (s : List ℕ) (n : ℕ) → length s ≡ n → n ≤ most_characters → Some n ≡ short_length s
some_short_length s n is short =
    ap Some (sym is) ∙ ap (λ b. cond b (Some (length s)) None) (sym (le-leb (length s) most_characters (omega arith)))

-- ---- outcomes

chosen_long : (b : Bool) (s : List ℕ) (o e : Outcome) → None ≡ cond b (Some (length s)) None → cond b o e ≡ e
chosen_long true s o e none = cc
chosen_long false s o e none = refl

chosen_short : (b : Bool) (s : List ℕ) (n : ℕ) (o e : Outcome) → Some n ≡ cond b (Some (length s)) None → cond b o e ≡ o
chosen_short true s n o e some = refl
chosen_short false s n o e some = cc

pub long_text : (s : List ℕ) → None ≡ short_length s → text s ≡ Throw (saying internal_error_class (codes "string too long"))
long_text s none = chosen_long (is_short_text s) s (returned (value.Text s)) (Throw (saying internal_error_class (codes "string too long"))) none

pub short_text : (s : List ℕ) (n : ℕ) → Some n ≡ short_length s → text s ≡ returned (value.Text s)
short_text s n some = chosen_short (is_short_text s) s n (returned (value.Text s)) (Throw (saying internal_error_class (codes "string too long"))) some
