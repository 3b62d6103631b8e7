-- Worked examples of arrays, branches, exceptions and conversions: what the checker computes of the definitions.
use Rattle.std.specs.Prelude.{◌≡◌, refl, pos, [], ◌∷◌, codes, replicate, Option, Some, None, Err}
use Rattle.std.specs.Int.{int_wrap}
use Rattle.mh_values.specs.declared.types.Primitive.TheVariants as primitive
use Rattle.mh_values.specs.declared.types.Comp.TheVariants as comp
use Rattle.mh_values.specs.declared.types.Ty.TheVariants as ty
use Rattle.mh_values.specs.declared.value.Num.TheVariants as num
use Rattle.mh_values.specs.declared.value.Cell.TheVariants as cell
use Rattle.mh_values.specs.declared.value.Value.{Value}
use Rattle.mh_values.specs.declared.value.Value.TheVariants as value
use Rattle.mh_values.specs.Class.{object_class, arithmetic_class, class_cast_class, null_pointer_class, internal_error_class, wrong_method_type_class}
use Rattle.mh_values.specs.Computation.{Ran, Gave, Threw}
use Rattle.mh_values.specs.Exception.{bare, saying}
use Rattle.mh_leaf.specs.Outcome.{int_type, long_type}
use Rattle.mh_tree.specs.Tree.{Tree}
use Rattle.mh_tree.specs.Tree as tree
use Rattle.mh_tree.specs.Rows.{illegal}
use Rattle.mh_tree.specs.Typing.{type_of}
use Rattle.mh_tree.specs.Meaning.{mean, exact, generic}
use Rattle.mh_tree.proofs.Host.{host, host_class, runtime_class, object, number, ints, of, leaf, called, int, long, boxed_int}

-- `add` with its arguments in an array
abbrev spreading : Tree
spreading = tree.Spread (leaf 0) (Some ints) 2

two_items_are_spread :
    mean host spreading (value.Array (comp.Prim primitive.I) (cell.Prim (num.I (pos 1)) ∷ cell.Prim (num.I (pos 2)) ∷ []) ∷ []) 0
    ≡ Gave (Some (int (pos 3))) (called 0 (int (pos 1) ∷ int (pos 2) ∷ []) ∷ [])
unfolding int_wrap
two_items_are_spread = refl

three_items_are_too_many :
    mean host spreading (value.Array (comp.Prim primitive.I) (replicate 3 (cell.Prim (num.I (pos 1)))) ∷ []) 0
    ≡ Threw (illegal (codes "spread")) []
three_items_are_too_many = refl

null_has_no_two_items : mean host spreading (value.Null ∷ []) 0 ≡ Threw (bare null_pointer_class) []
null_has_no_two_items = refl

null_may_be_spread_to_nothing :
    mean host (tree.Spread (leaf 7) (Some ints) 0) (value.Null ∷ []) 0 ≡ Gave None (called 7 [] ∷ [])
null_may_be_spread_to_nothing = refl

arguments_are_gathered :
    mean host (tree.Gather (leaf 13) (Some ints) 2) (int (pos 1) ∷ int (pos 2) ∷ []) 0
    ≡ (let two = value.Array (comp.Prim primitive.I) (cell.Prim (num.I (pos 1)) ∷ cell.Prim (num.I (pos 2)) ∷ []) in
    Gave (Some two) (called 13 (two ∷ []) ∷ []))
arguments_are_gathered = refl

an_array_is_no_item_of_an_array :
    mean host (tree.Gather (leaf 15) (Some (ty.Array (comp.Class object_class))) 2) (value.Null ∷ value.Array (comp.Prim primitive.I) [] ∷ []) 0
    ≡ Threw (saying internal_error_class (codes "nested array")) []
an_array_is_no_item_of_an_array = refl

-- `less`, then `add` or `sub`
abbrev guarding : Tree
guarding = tree.Guard (leaf 11) (leaf 0) (leaf 1)

a_test_that_is_true_takes_the_target :
    mean host guarding (int (pos 1) ∷ int (pos 2) ∷ []) 0
    ≡ Gave (Some (int (pos 3))) (called 11 (int (pos 1) ∷ int (pos 2) ∷ []) ∷ called 0 (int (pos 1) ∷ int (pos 2) ∷ []) ∷ [])
unfolding int_wrap
a_test_that_is_true_takes_the_target = refl

a_test_that_is_false_takes_the_fallback :
    mean host guarding (int (pos 2) ∷ int (pos 1) ∷ []) 0
    ≡ Gave (Some (int (pos 1))) (called 11 (int (pos 2) ∷ int (pos 1) ∷ []) ∷ called 1 (int (pos 2) ∷ int (pos 1) ∷ []) ∷ [])
unfolding int_wrap
a_test_that_is_false_takes_the_fallback = refl

a_handler_counts_the_calls_before_it :
    mean host (tree.Catch (leaf 2) arithmetic_class (leaf 12)) (int (pos 1) ∷ int (pos 0) ∷ []) 0
    ≡ Gave (Some (int (pos 1)))
    (called 2 (int (pos 1) ∷ int (pos 0) ∷ [])
    ∷ called 12 (value.Thrown (saying arithmetic_class (codes "/ by zero")) ∷ int (pos 1) ∷ []) ∷ [])
a_handler_counts_the_calls_before_it = refl

an_exception_below_the_class_is_caught :
    mean host (tree.Catch (leaf 2) runtime_class (leaf 12)) (int (pos 1) ∷ int (pos 0) ∷ []) 0
    ≡ Gave (Some (int (pos 1)))
    (called 2 (int (pos 1) ∷ int (pos 0) ∷ [])
    ∷ called 12 (value.Thrown (saying arithmetic_class (codes "/ by zero")) ∷ int (pos 1) ∷ []) ∷ [])
an_exception_below_the_class_is_caught = refl

an_exception_of_another_class_passes :
    mean host (tree.Catch (leaf 2) class_cast_class (leaf 12)) (int (pos 1) ∷ int (pos 0) ∷ []) 0
    ≡ Threw (saying arithmetic_class (codes "/ by zero")) (called 2 (int (pos 1) ∷ int (pos 0) ∷ []) ∷ [])
an_exception_of_another_class_passes = refl

an_exception_is_thrown :
    mean host (tree.Throw (Some int_type) runtime_class) (value.Thrown (bare arithmetic_class) ∷ []) 0 ≡ Threw (bare arithmetic_class) []
an_exception_is_thrown = refl

null_thrown_is_a_null_pointer :
    mean host (tree.Throw (Some int_type) runtime_class) (value.Null ∷ []) 0 ≡ Threw (bare null_pointer_class) []
null_thrown_is_a_null_pointer = refl

an_object_is_nothing_to_throw : type_of host (tree.Throw (Some int_type) host_class) ≡ Err (illegal (codes "throw"))
an_object_is_nothing_to_throw = refl

-- `wide` on an object
abbrev widening : Value → Ran (Option Value)
widening v = generic host (leaf 5) (of (object ∷ int_type ∷ []) (Some long_type)) (v ∷ int (pos 0) ∷ []) 0

a_boxed_int_at_a_long_is_widened : widening (boxed_int (pos 5)) ≡ Gave (Some (long (pos 5))) (called 5 (long (pos 5) ∷ int (pos 0) ∷ []) ∷ [])
a_boxed_int_at_a_long_is_widened = refl

a_boxed_long_at_a_long_is_unboxed :
    widening (value.Boxed (num.J (pos 5))) ≡ Gave (Some (long (pos 5))) (called 5 (long (pos 5) ∷ int (pos 0) ∷ []) ∷ [])
a_boxed_long_at_a_long_is_unboxed = refl

a_text_at_a_long_is_no_number : widening (value.Text (codes "x")) ≡ Threw (bare class_cast_class) []
a_text_at_a_long_is_no_number = refl

null_at_a_long_is_a_null_pointer : widening value.Null ≡ Threw (bare null_pointer_class) []
null_at_a_long_is_a_null_pointer = refl

a_number_is_no_boolean :
    generic host (leaf 9) (of (number ∷ []) None) (value.Boxed (num.J (pos 1)) ∷ []) 0
    ≡ Threw (saying wrong_method_type_class (codes "have (Z)V want (Ljava/lang/Number;)V")) []
a_number_is_no_boolean = refl

an_exact_call_wants_the_very_type :
    exact host (leaf 0) (of (int_type ∷ long_type ∷ []) (Some int_type)) (int (pos 1) ∷ long (pos 2) ∷ []) 0
    ≡ Threw (saying wrong_method_type_class (codes "have (II)I want (IJ)I")) []
an_exact_call_wants_the_very_type = refl

an_int_returned_as_a_long_is_widened :
    mean host (tree.AsType (leaf 4) (of (int_type ∷ []) (Some long_type))) (int (pos 5) ∷ []) 0
    ≡ Gave (Some (long (pos 5))) (called 4 (int (pos 5) ∷ []) ∷ [])
an_int_returned_as_a_long_is_widened = refl
