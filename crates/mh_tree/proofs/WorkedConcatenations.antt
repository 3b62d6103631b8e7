-- Worked examples of concatenations: what the checker computes of the definitions.
use Rattle.std.specs.Prelude.{◌≡◌, refl, pos, List, [], ◌∷◌, codes, replicate, Option, Some, None, Ok, Err}
use Rattle.std.specs.Fmt.{digits}
use Rattle.mh_values.specs.declared.types.Ty.{Ty}
use Rattle.mh_values.specs.declared.value.Value.TheVariants as value
use Rattle.mh_values.specs.Class.{internal_error_class}
use Rattle.mh_values.specs.Computation.{Gave, Threw}
use Rattle.mh_values.specs.Exception.{saying}
use Rattle.mh_leaf.specs.Outcome.{int_type, long_type, string_type}
use Rattle.mh_pieces.specs.declared.piece.Piece.{Piece}
use Rattle.mh_pieces.specs.declared.piece.Piece.TheVariants as piece
use Rattle.mh_tree.specs.Tree.{Tree, weight}
use Rattle.mh_tree.specs.Tree as tree
use Rattle.mh_tree.specs.Rows.{illegal}
use Rattle.mh_tree.specs.Typing.{held, type_of}
use Rattle.mh_tree.specs.Meaning.{mean}
use Rattle.mh_tree.proofs.Host.{host, object, of, leaf, called, int}

-- `x=` before an int
abbrev labelled : List Piece
labelled = piece.Lit (codes "x=") ∷ piece.Arg int_type ∷ []

abbrev concatenated : List Ty → Option Ty → Tree
concatenated params ret = tree.Concat (of params ret) labelled

a_concatenation_has_its_type : type_of host (concatenated (int_type ∷ []) (Some string_type)) ≡ Ok (of (int_type ∷ []) (Some string_type))
a_concatenation_has_its_type = refl

it_may_return_an_object : type_of host (concatenated (int_type ∷ []) (Some object)) ≡ Ok (of (int_type ∷ []) (Some object))
it_may_return_an_object = refl

pieces_take_all_parameters : type_of host (concatenated (int_type ∷ int_type ∷ []) (Some string_type)) ≡ Err (illegal (codes "concat"))
pieces_take_all_parameters = refl

pieces_take_parameters_of_their_types : type_of host (concatenated (long_type ∷ []) (Some string_type)) ≡ Err (illegal (codes "concat"))
pieces_take_parameters_of_their_types = refl

a_text_is_no_int : type_of host (concatenated (int_type ∷ []) (Some int_type)) ≡ Err (illegal (codes "concat"))
a_text_is_no_int = refl

a_concatenation_is_not_void : type_of host (concatenated (int_type ∷ []) None) ≡ Err (illegal (codes "concat"))
a_concatenation_is_not_void = refl

two_hundred_slots_are_allowed :
    type_of host (tree.Concat (of (replicate 100 long_type) (Some string_type)) (replicate 100 (piece.Arg long_type)))
    ≡ Ok (of (replicate 100 long_type) (Some string_type))
two_hundred_slots_are_allowed = refl

more_are_not :
    type_of host (tree.Concat (of (int_type ∷ replicate 100 long_type) (Some string_type)) (piece.Arg int_type ∷ replicate 100 (piece.Arg long_type)))
    ≡ Err (illegal (codes "concat"))
more_are_not = refl

a_concatenation_weighs_one : weight (concatenated (int_type ∷ []) (Some string_type)) ≡ 1
a_concatenation_weighs_one = refl

a_concatenation_holds_its_own_type_alone :
    held host (concatenated (int_type ∷ []) (Some string_type)) ≡ of (int_type ∷ []) (Some string_type) ∷ []
a_concatenation_holds_its_own_type_alone = refl

arguments_are_joined :
    mean host (concatenated (int_type ∷ []) (Some string_type)) (int (pos 7) ∷ []) 0 ≡ Gave (Some (value.Text (codes "x=7"))) []
unfolding digits
arguments_are_joined = refl

a_text_that_is_too_long_is_thrown :
    mean host (tree.Concat (of [] (Some string_type)) (piece.Lit (replicate 4097 97) ∷ [])) [] 0
    ≡ Threw (saying internal_error_class (codes "string too long")) []
a_text_that_is_too_long_is_thrown = refl

-- the leaf runs first, and its call is listed
what_a_leaf_gave_is_joined :
    mean host (tree.FilterArg (concatenated (int_type ∷ []) (Some string_type)) 0 (leaf 4)) (int (pos 7) ∷ []) 0
    ≡ Gave (Some (value.Text (codes "x=7"))) (called 4 (int (pos 7) ∷ []) ∷ [])
unfolding digits
what_a_leaf_gave_is_joined = refl
