-- Worked examples of leaves and adapters: what the checker computes of the definitions.
use Rattle.std.specs.Prelude.{◌≡◌, refl, pos, negsuc, [], ◌∷◌, ◌++◌, codes, replicate, Some, None, Ok, Err}
use Rattle.std.specs.Int.{int_wrap}
use Rattle.mh_values.specs.declared.value.Value.TheVariants as value
use Rattle.mh_values.specs.Class.{arithmetic_class, null_pointer_class}
use Rattle.mh_values.specs.Computation.{Gave, Threw}
use Rattle.mh_values.specs.Exception.{bare, saying}
use Rattle.mh_leaf.specs.Outcome.{int_type, long_type}
use Rattle.mh_tree.specs.Tree.{Tree}
use Rattle.mh_tree.specs.Tree as tree
use Rattle.mh_tree.specs.Rows.{illegal}
use Rattle.mh_tree.specs.Typing.{type_of, held}
use Rattle.mh_tree.specs.Meaning.{mean}
use Rattle.mh_tree.proofs.Host.{host, of, leaf, called, int, boxed_int}

-- `sub` with both arguments filtered by `tick`
abbrev ticking : Tree
ticking = tree.FilterArg (tree.FilterArg (leaf 1) 1 (leaf 3)) 0 (leaf 3)

the_outer_filter_runs_first :
    mean host ticking (int (pos 7) ∷ int (pos 7) ∷ []) 0
    ≡ Gave (Some (int (negsuc 0))) (called 3 (int (pos 7) ∷ []) ∷ called 3 (int (pos 7) ∷ []) ∷ called 1 (int (pos 0) ∷ int (pos 1) ∷ []) ∷ [])
unfolding int_wrap
the_outer_filter_runs_first = refl

the_types_of_filters_are_held :
    held host ticking
    ≡ of (int_type ∷ int_type ∷ []) (Some int_type) ∷ of (int_type ∷ []) (Some int_type) ∷ of (int_type ∷ []) (Some int_type) ∷ []
the_types_of_filters_are_held = refl

a_sum_wraps_to_32_bits :
    mean host (leaf 0) (int (pos 2147483647) ∷ int (pos 1) ∷ []) 0
    ≡ Gave (Some (int (negsuc 2147483647))) (called 0 (int (pos 2147483647) ∷ int (pos 1) ∷ []) ∷ [])
unfolding int_wrap
a_sum_wraps_to_32_bits = refl

the_least_int_by_minus_one_is_itself :
    mean host (leaf 2) (int (negsuc 2147483647) ∷ int (negsuc 0) ∷ []) 0
    ≡ Gave (Some (int (negsuc 2147483647))) (called 2 (int (negsuc 2147483647) ∷ int (negsuc 0) ∷ []) ∷ [])
unfolding int_wrap
the_least_int_by_minus_one_is_itself = refl

a_leaf_that_throws_is_called :
    mean host (leaf 2) (int (pos 1) ∷ int (pos 0) ∷ []) 0
    ≡ Threw (saying arithmetic_class (codes "/ by zero")) (called 2 (int (pos 1) ∷ int (pos 0) ∷ []) ∷ [])
a_leaf_that_throws_is_called = refl

a_virtual_leaf_does_not_run_on_null : mean host (leaf 16) (value.Null ∷ []) 0 ≡ Threw (bare null_pointer_class) []
a_virtual_leaf_does_not_run_on_null = refl

a_bound_boxed_int_is_unboxed :
    mean host (tree.Bind (leaf 1) 1 (boxed_int (pos 10))) (int (pos 1) ∷ []) 0
    ≡ Gave (Some (int (negsuc 8))) (called 1 (int (pos 1) ∷ int (pos 10) ∷ []) ∷ [])
unfolding int_wrap
a_bound_boxed_int_is_unboxed = refl

null_cannot_be_bound_to_an_int : type_of host (tree.Bind (leaf 1) 1 value.Null) ≡ Err (saying null_pointer_class (codes "bind"))
null_cannot_be_bound_to_an_int = refl

dropped_arguments_are_left_out :
    mean host (tree.Drop (leaf 0) 0 (int_type ∷ [])) (int (pos 9) ∷ int (pos 1) ∷ int (pos 2) ∷ []) 0
    ≡ Gave (Some (int (pos 3))) (called 0 (int (pos 1) ∷ int (pos 2) ∷ []) ∷ [])
unfolding int_wrap
dropped_arguments_are_left_out = refl

-- `nothing` with 127 longs, which take 254 slots
abbrev longs : Tree
longs = tree.Drop (leaf 7) 0 (replicate 127 long_type)

at_254_slots_there_is_a_type : type_of host longs ≡ Ok (of (replicate 127 long_type) None)
at_254_slots_there_is_a_type = refl

at_255_slots_there_is_none : type_of host (tree.Drop (leaf 7) 0 (replicate 127 long_type ++ int_type ∷ [])) ≡ Err (illegal (codes "drop"))
at_255_slots_there_is_none = refl

permuted_arguments_are_chosen_by_the_order :
    mean host (tree.Permute (leaf 1) (of (int_type ∷ int_type ∷ int_type ∷ []) (Some int_type)) (2 ∷ 0 ∷ [])) (int (pos 1) ∷ int (pos 2) ∷ int (pos 3) ∷ []) 0
    ≡ Gave (Some (int (pos 2))) (called 1 (int (pos 3) ∷ int (pos 1) ∷ []) ∷ [])
unfolding int_wrap
permuted_arguments_are_chosen_by_the_order = refl

one_argument_may_be_passed_twice :
    mean host (tree.Permute (leaf 0) (of (int_type ∷ []) (Some int_type)) (0 ∷ 0 ∷ [])) (int (pos 5) ∷ []) 0
    ≡ Gave (Some (int (pos 10))) (called 0 (int (pos 5) ∷ int (pos 5) ∷ []) ∷ [])
unfolding int_wrap
one_argument_may_be_passed_twice = refl

an_order_too_short_is_refused :
    type_of host (tree.Permute (leaf 1) (of (int_type ∷ int_type ∷ int_type ∷ []) (Some int_type)) (2 ∷ []))
    ≡ Err (illegal (codes "permute"))
an_order_too_short_is_refused = refl

a_fold_puts_its_result_in_front :
    mean host (tree.Fold (leaf 1) 0 (leaf 3)) (int (pos 5) ∷ []) 0
    ≡ Gave (Some (int (negsuc 4))) (called 3 (int (pos 5) ∷ []) ∷ called 1 (int (pos 0) ∷ int (pos 5) ∷ []) ∷ [])
unfolding int_wrap
a_fold_puts_its_result_in_front = refl

a_void_filter_may_stand_at_the_end :
    mean host (tree.Collect (leaf 0) 2 (leaf 7)) (int (pos 1) ∷ int (pos 2) ∷ []) 0
    ≡ Gave (Some (int (pos 3))) (called 7 [] ∷ called 0 (int (pos 1) ∷ int (pos 2) ∷ []) ∷ [])
unfolding int_wrap
a_void_filter_may_stand_at_the_end = refl

a_filter_after_the_end_is_refused : type_of host (tree.Collect (leaf 0) 3 (leaf 7)) ≡ Err (illegal (codes "collect"))
a_filter_after_the_end_is_refused = refl
