-- Worked examples of explicit conversions: what the checker computes of the definitions.
use Rattle.std.specs.Prelude.{◌≡◌, refl, pos, negsuc, true, false, [], ◌∷◌, codes, Option, Some, None, Ok, Err}
use Rattle.mh_values.specs.declared.types.Primitive.TheVariants as primitive
use Rattle.mh_values.specs.declared.value.Num.TheVariants as num
use Rattle.mh_values.specs.declared.value.Value.{Value}
use Rattle.mh_values.specs.declared.value.Value.TheVariants as value
use Rattle.mh_values.specs.Class.{class_cast_class, wrong_method_type_class}
use Rattle.mh_values.specs.Computation.{Ran, Gave, Threw}
use Rattle.mh_values.specs.Exception.{bare, saying}
use Rattle.mh_convert.specs.Conversion.{narrowed, recast}
use Rattle.mh_leaf.specs.Outcome.{boolean_type, int_type, long_type, string_type}
use Rattle.mh_tree.specs.Tree.{Tree, weight}
use Rattle.mh_tree.specs.Tree as tree
use Rattle.mh_tree.specs.Typing.{type_of}
use Rattle.mh_tree.specs.Meaning.{mean}
use Rattle.mh_tree.proofs.Host.{host, object, number, ints, of, leaf, called, int, long}

-- ---- numbers

an_int_keeps_the_low_bits_of_a_long : narrowed (pos 4294967301) primitive.I ≡ num.I (pos 5)
an_int_keeps_the_low_bits_of_a_long = refl

they_may_make_it_negative : narrowed (pos 9223372036854775807) primitive.I ≡ num.I (negsuc 0)
they_may_make_it_negative = refl

a_byte_has_a_sign : narrowed (pos 200) primitive.B ≡ num.B (negsuc 55)
a_byte_has_a_sign = refl

a_char_has_none : narrowed (negsuc 0) primitive.C ≡ num.C 65535
a_char_has_none = refl

a_short_has_the_bits_of_a_char : recast (num.C 65535) primitive.S ≡ num.S (negsuc 0)
a_short_has_the_bits_of_a_char = refl

true_is_one : recast (num.Z true) primitive.J ≡ num.J (pos 1)
true_is_one = refl

two_is_false : recast (num.I (pos 2)) primitive.Z ≡ num.Z false
two_is_false = refl

minus_one_is_true : recast (num.B (negsuc 0)) primitive.Z ≡ num.Z true
minus_one_is_true = refl

-- ---- calls

a_long_at_an_int_is_narrowed :
    mean host (tree.Explicit (leaf 4) (of (long_type ∷ []) (Some int_type))) (long (pos 4294967301) ∷ []) 0
    ≡ Gave (Some (int (pos 5))) (called 4 (int (pos 5) ∷ []) ∷ [])
a_long_at_an_int_is_narrowed = refl

-- `same` on an object
abbrev on_object : Value → Ran (Option Value)
on_object v = mean host (tree.Explicit (leaf 4) (of (object ∷ []) (Some int_type))) (v ∷ []) 0

null_at_an_int_is_zero : on_object value.Null ≡ Gave (Some (int (pos 0))) (called 4 (int (pos 0) ∷ []) ∷ [])
null_at_an_int_is_zero = refl

a_boxed_long_at_an_int_is_narrowed :
    on_object (value.Boxed (num.J (pos 4294967301))) ≡ Gave (Some (int (pos 5))) (called 4 (int (pos 5) ∷ []) ∷ [])
a_boxed_long_at_an_int_is_narrowed = refl

a_boxed_boolean_at_an_int_is_one : on_object (value.Boxed (num.Z true)) ≡ Gave (Some (int (pos 1))) (called 4 (int (pos 1) ∷ []) ∷ [])
a_boxed_boolean_at_an_int_is_one = refl

a_text_at_an_int_is_no_number : on_object (value.Text (codes "x")) ≡ Threw (bare class_cast_class) []
a_text_at_an_int_is_no_number = refl

a_result_is_narrowed_too :
    mean host (tree.Explicit (leaf 4) (of (int_type ∷ []) (Some boolean_type))) (int (pos 3) ∷ []) 0
    ≡ Gave (Some (value.Prim (num.Z true))) (called 4 (int (pos 3) ∷ []) ∷ [])
a_result_is_narrowed_too = refl

no_result_is_zero :
    mean host (tree.Explicit (leaf 7) (of [] (Some long_type))) [] 0 ≡ Gave (Some (long (pos 0))) (called 7 [] ∷ [])
no_result_is_zero = refl

-- ---- types

a_number_may_become_an_int : type_of host (tree.Explicit (leaf 4) (of (number ∷ []) (Some int_type))) ≡ Ok (of (number ∷ []) (Some int_type))
a_number_may_become_an_int = refl

a_number_may_become_a_boolean : type_of host (tree.Explicit (leaf 9) (of (number ∷ []) None)) ≡ Ok (of (number ∷ []) None)
a_number_may_become_a_boolean = refl

a_text_may_not :
    type_of host (tree.Explicit (leaf 4) (of (string_type ∷ []) (Some int_type)))
    ≡ Err (saying wrong_method_type_class (codes "have (I)I want (Ljava/lang/String;)I"))
a_text_may_not = refl

nor_may_an_array :
    type_of host (tree.Explicit (leaf 4) (of (ints ∷ []) (Some int_type)))
    ≡ Err (saying wrong_method_type_class (codes "have (I)I want ([I)I"))
nor_may_an_array = refl

an_int_may_not_become_a_text :
    type_of host (tree.Explicit (leaf 4) (of (int_type ∷ []) (Some string_type)))
    ≡ Err (saying wrong_method_type_class (codes "have (I)I want (I)Ljava/lang/String;"))
an_int_may_not_become_a_text = refl

the_numbers_of_parameters_must_agree :
    type_of host (tree.Explicit (leaf 4) (of [] (Some int_type))) ≡ Err (saying wrong_method_type_class (codes "have (I)I want ()I"))
the_numbers_of_parameters_must_agree = refl

an_explicit_conversion_weighs_one_more : weight (tree.Explicit (leaf 4) (of (long_type ∷ []) (Some int_type))) ≡ 2
an_explicit_conversion_weighs_one_more = refl
