-- What a recipe of a string concatenation means (`java.lang.invoke.StringConcatFactory.makeConcatWithConstants`, Java SE 17).
use Rattle.std.specs.Prelude.{◌≡◌, ℕ, ◌==◌, nat_le, Bool, false, not, List, [], ◌∷◌, ◌++◌, codes, count_by, drop, length, Option, None, Some, Result, Ok, Err, if◌then◌else◌}
use Rattle.mh_values.specs.declared.class.Class.{Class}
use Rattle.mh_values.specs.declared.types.MethodTy.{MethodTy}
use Rattle.mh_values.specs.declared.types.Ty.{Ty}
use Rattle.mh_values.specs.declared.value.Exc.{Exc}
use Rattle.mh_values.specs.declared.value.Value.{Value}
use Rattle.mh_values.specs.Class.{string_concat_class}
use Rattle.mh_values.specs.Exception.{saying}
use Rattle.mh_values.specs.HasType.{is_type_below}
use Rattle.mh_values.specs.Slots.{slots_of_all}
use Rattle.mh_leaf.specs.Outcome.{string_type}
use Rattle.mh_pieces.specs.declared.piece.Piece.{Piece}
use Rattle.mh_pieces.specs.declared.piece.Piece.TheVariants as piece
use Rattle.mh_pieces.specs.declared.recipe.RecipeError.{RecipeError}
use Rattle.mh_pieces.specs.declared.recipe.RecipeError.TheVariants as recipe_error
use Rattle.mh_pieces.specs.ValueText.{text_of}

-- U+0001, which stands for the next argument
abbrev pub argument_tag : ℕ
argument_tag = 1

-- U+0002, which stands for the next constant
abbrev pub constant_tag : ℕ
constant_tag = 2

-- the most slots that the parameters of a concatenation take
abbrev pub most_concat_slots : ℕ
most_concat_slots = 200

-- ---- pieces

-- the piece of a literal text; an empty one has none
abbrev pub lit_of : List ℕ → List Piece
lit_of [] = []
lit_of (c ∷ cs) = piece.Lit (c ∷ cs) ∷ []

-- the piece of the next argument, by the parameter types that are left
abbrev pub arg_of : List Ty → List Piece
arg_of [] = []
arg_of (t ∷ ts) = piece.Arg t ∷ []

-- the piece of the next constant; its characters are text, even the tags
abbrev pub constant_of : List Class → List Value → List Piece
constant_of classes [] = []
constant_of classes (v ∷ vs) = lit_of (text_of classes v)

-- the pieces of what is left of a recipe, after literal characters that are not yet a piece, by the parameter types and constants that are left
abbrev pub pieces_after : List Class → List ℕ → List ℕ → List Ty → List Value → List Piece
pieces_after classes run [] types constants = lit_of run
pieces_after classes run (c ∷ cs) types constants =
    if c == argument_tag then lit_of run ++ (arg_of types ++ pieces_after classes [] cs (drop 1 types) constants)
    else (if c == constant_tag then lit_of run ++ (constant_of classes constants ++ pieces_after classes [] cs types (drop 1 constants))
    else pieces_after classes (run ++ c ∷ []) cs types constants)

-- the pieces of a whole recipe
abbrev pub spelled_pieces : List Class → List ℕ → List Ty → List Value → List Piece
spelled_pieces classes recipe types constants = pieces_after classes [] recipe types constants

-- ---- refusals

-- how often a character is in a recipe
abbrev pub tags_in : ℕ → List ℕ → ℕ
tags_in tag recipe = count_by (λ c. c == tag) recipe

-- whether a method type returns what a text can be; void is no such type
abbrev pub returns_text : List Class → Option Ty → Bool
returns_text classes None = false
returns_text classes (Some t) = is_type_below classes string_type t

-- The first thing that is wrong, in this order: too many slots, another number of arguments than of parameters, a return type that no text has, another number
-- of constants than was given.
abbrev pub refusal_of : List Class → List ℕ → List Value → MethodTy → Option (List ℕ)
refusal_of classes recipe constants t =
    if not (nat_le (slots_of_all t.params) most_concat_slots) then Some (codes "slots")
    else (if not (tags_in argument_tag recipe == length t.params) then Some (codes "arguments")
    else (if not (returns_text classes t.ret) then Some (codes "return")
    else (if not (tags_in constant_tag recipe == length constants) then Some (codes "constants") else None)))

-- the pieces, or the exception of what is wrong
abbrev pub unless_wrong : Option (List ℕ) → List Piece → Result (List Piece) Exc
unless_wrong None pieces = Ok pieces
unless_wrong (Some message) pieces = Err (saying string_concat_class message)

-- the pieces of a recipe with these constants, for a call site of a method type
abbrev pub pieces_of : List Class → List ℕ → List Value → MethodTy → Result (List Piece) Exc
pieces_of classes recipe constants t = unless_wrong (refusal_of classes recipe constants t) (spelled_pieces classes recipe t.params constants)

-- what a reader of recipes answers: the pieces of the recipe, or the exception that it has in place of pieces; about lack of memory nothing is said
abbrev pub TellsPieces : Result (List Piece) RecipeError → Result (List Piece) Exc → Type 0
TellsPieces (Ok pieces) meaning = meaning ≡ Ok pieces
TellsPieces (Err recipe_error.NoMemory) meaning = Unit {0}
TellsPieces (Err (recipe_error.Refused e)) meaning = meaning ≡ Err e
