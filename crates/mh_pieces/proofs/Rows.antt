-- Recipes and joined texts, by computation.
use Rattle.std.proofs.Common.{◌≡◌, refl, ℕ, pos, negsuc, true, false, List, [], ◌∷◌, ◌++◌, codes, nat_le, replicate, None, Some, Result, Ok, Err}
use Rattle.std.specs.Fmt.{digits}
use Rattle.mh_values.specs.declared.class.Class.{Class}
use Rattle.mh_values.specs.declared.types.Comp.TheVariants as comp
use Rattle.mh_values.specs.declared.types.MethodTy.{MethodTy}
use Rattle.mh_values.specs.declared.types.Primitive.TheVariants as primitive
use Rattle.mh_values.specs.declared.types.Ty.{Ty}
use Rattle.mh_values.specs.declared.types.Ty.TheVariants as ty
use Rattle.mh_values.specs.declared.value.Exc.{Exc}
use Rattle.mh_values.specs.declared.value.Num.TheVariants as num
use Rattle.mh_values.specs.declared.value.Outcome.TheVariants.{Throw}
use Rattle.mh_values.specs.declared.value.Value.TheVariants as value
use Rattle.mh_values.specs.Class.{builtin_classes, class_at, class_below, internal_error_class, object_class, string_class, string_concat_class, throwable_class}
use Rattle.mh_values.specs.Exception.{bare, saying}
use Rattle.mh_values.specs.Slots.{slots_of_all}
use Rattle.mh_leaf.specs.Outcome.{returned, int_type, string_type}
use Rattle.mh_pieces.specs.declared.piece.Piece.{Piece}
use Rattle.mh_pieces.specs.declared.piece.Piece.TheVariants as piece
use Rattle.mh_pieces.specs.Joined.{joined}
use Rattle.mh_pieces.specs.Recipe.{most_concat_slots, pieces_of}
use Rattle.mh_pieces.specs.ValueText.{text_of}

-- the built-in classes, and one of a package
abbrev classes : List Class
classes = builtin_classes ++ class_below (codes "demo/P") 0 ∷ []

-- ---- a whole recipe: three arguments, a constant, and text between them

abbrev site : MethodTy
site = record { params = ty.Prim primitive.Z ∷ ty.Prim primitive.J ∷ ty.Class object_class ∷ []; ret = Some string_type }

abbrev pieces : List Piece
pieces =
    piece.Arg (ty.Prim primitive.Z) ∷ piece.Lit (codes "-") ∷ piece.Arg (ty.Prim primitive.J) ∷ piece.Lit (codes "-") ∷ piece.Arg (ty.Class object_class)
    ∷ piece.Lit (codes "7") ∷ []

recipe_read : pieces_of classes (1 ∷ 45 ∷ 1 ∷ 45 ∷ 1 ∷ 2 ∷ []) (value.Boxed (num.I (pos 7)) ∷ []) site ≡ Ok pieces
unfolding digits
recipe_read = refl

recipe_joined : joined classes pieces (value.Prim (num.Z true) ∷ value.Prim (num.J (negsuc 4)) ∷ value.Null ∷ []) ≡
    returned (value.Text (codes "true--5-null7"))
unfolding digits
recipe_joined = refl

-- ---- recipes

-- a method type that returns a text
abbrev taking : List Ty → MethodTy
taking params = record { params = params; ret = Some string_type }

empty_recipe : pieces_of classes [] [] (taking []) ≡ Ok []
empty_recipe = refl

runs_are_whole : pieces_of classes (97 ∷ 98 ∷ 1 ∷ 1 ∷ 99 ∷ 100 ∷ []) [] (taking (int_type ∷ string_type ∷ [])) ≡ Ok
    (piece.Lit (codes "ab") ∷ piece.Arg int_type ∷ piece.Arg string_type ∷ piece.Lit (codes "cd") ∷ [])
runs_are_whole = refl

-- a constant is no part of the characters beside it, an empty one is no piece, and the tags in one are text
constants_are_apart : pieces_of classes (97 ∷ 2 ∷ 2 ∷ 98 ∷ 2 ∷ []) (value.Text (codes "x") ∷ value.Text [] ∷ value.Text (1 ∷ 2 ∷ []) ∷ []) (taking []) ≡ Ok
    (piece.Lit (codes "a") ∷ piece.Lit (codes "x") ∷ piece.Lit (codes "b") ∷ piece.Lit (1 ∷ 2 ∷ []) ∷ [])
constants_are_apart = refl

-- ---- refusals

abbrev refused : List ℕ → Result (List Piece) Exc
refused message = Err (saying string_concat_class message)

-- a return type that no text has
abbrev returning_int : List Ty → MethodTy
returning_int params = record { params = params; ret = Some int_type }

slots_refused : pieces_of classes (replicate 201 1) [] (taking (replicate 201 int_type)) ≡ refused (codes "slots")
slots_refused = refl

slots_of_longs_refused : pieces_of classes (replicate 101 1) [] (taking (replicate 101 (ty.Prim primitive.J))) ≡ refused (codes "slots")
slots_of_longs_refused = refl

arguments_refused : pieces_of classes (1 ∷ []) [] site ≡ refused (codes "arguments")
arguments_refused = refl

return_refused : pieces_of classes (1 ∷ []) [] (returning_int (int_type ∷ [])) ≡ refused (codes "return")
return_refused = refl

void_refused : pieces_of classes [] [] (record { params = []; ret = None }) ≡ refused (codes "return")
void_refused = refl

constants_refused : pieces_of classes (2 ∷ []) [] (taking []) ≡ refused (codes "constants")
constants_refused = refl

-- slots come before arguments, these before the return, and that before the constants
slots_first : pieces_of classes [] [] (taking (replicate 201 int_type)) ≡ refused (codes "slots")
slots_first = refl

arguments_before_return : pieces_of classes [] [] (returning_int (int_type ∷ [])) ≡ refused (codes "arguments")
arguments_before_return = refl

arguments_before_constants : pieces_of classes (2 ∷ []) [] (taking (int_type ∷ [])) ≡ refused (codes "arguments")
arguments_before_constants = refl

return_before_constants : pieces_of classes (2 ∷ []) [] (returning_int []) ≡ refused (codes "return")
return_before_constants = refl

-- two hundred slots are allowed
most_slots : nat_le (slots_of_all (replicate 100 (ty.Prim primitive.J))) most_concat_slots ≡ true
most_slots = refl

-- and so is a return type above String
object_returned : pieces_of classes (1 ∷ []) [] (record { params = ty.Prim primitive.J ∷ []; ret = Some (ty.Class object_class) }) ≡ Ok
    (piece.Arg (ty.Prim primitive.J) ∷ [])
object_returned = refl

-- ---- texts of values

char_text : text_of classes (value.Prim (num.C 65)) ≡ codes "A"
char_text = refl

half_text : text_of classes (value.Boxed (num.C 0xD800)) ≡ 0xFFFD ∷ []
half_text = refl

last_half_text : text_of classes (value.Prim (num.C 0xDFFF)) ≡ 0xFFFD ∷ []
last_half_text = refl

after_halves_text : text_of classes (value.Prim (num.C 0xE000)) ≡ 0xE000 ∷ []
after_halves_text = refl

least_byte_text : text_of classes (value.Prim (num.B (negsuc 127))) ≡ codes "-128"
unfolding digits
least_byte_text = refl

false_text : text_of classes (value.Boxed (num.Z false)) ≡ codes "false"
false_text = refl

object_shown : text_of classes (value.Object (class_at 28) 255) ≡ codes "demo.P@ff"
unfolding digits
object_shown = refl

exception_shown : text_of classes (value.Thrown (saying throwable_class (codes "m"))) ≡ codes "java.lang.Throwable: m"
exception_shown = refl

bare_exception_shown : text_of classes (value.Thrown (bare throwable_class)) ≡ codes "java.lang.Throwable"
bare_exception_shown = refl

int_array_shown : text_of classes (value.Array (comp.Prim primitive.I) []) ≡ codes "[I@0"
int_array_shown = refl

text_array_shown : text_of classes (value.Array (comp.Class string_class) []) ≡ codes "[Ljava.lang.String;@0"
text_array_shown = refl

-- ---- the limit

longest_text : joined classes (piece.Lit (replicate 4095 97) ∷ piece.Arg string_type ∷ []) (value.Text (0x1F600 ∷ []) ∷ []) ≡ returned
    (value.Text (replicate 4095 97 ++ 0x1F600 ∷ []))
longest_text = refl

too_long_text : joined classes (piece.Lit (replicate 4096 97) ∷ piece.Lit (codes "b") ∷ []) [] ≡ Throw (saying internal_error_class (codes "string too long"))
too_long_text = refl
