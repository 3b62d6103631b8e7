-- Worked examples of cleanups, switches and loops: what the checker computes of the definitions.
use Rattle.std.specs.Prelude.{◌≡◌, refl, ℕ, pos, negsuc, zero, suc, [], ◌∷◌, codes, replicate, Some, None, Ok, Err}
use Rattle.std.specs.Int.{int_wrap}
use Rattle.mh_values.specs.declared.types.Ty.TheVariants as ty
use Rattle.mh_values.specs.declared.value.Value.TheVariants as value
use Rattle.mh_values.specs.Class.{arithmetic_class, internal_error_class, throwable_class}
use Rattle.mh_values.specs.Computation.{Gave, Threw}
use Rattle.mh_values.specs.Exception.{bare, saying}
use Rattle.mh_leaf.specs.Outcome.{int_type}
use Rattle.mh_tree.specs.Tree.{Tree, cases_of, weight}
use Rattle.mh_tree.specs.Tree as tree
use Rattle.mh_tree.specs.Rows.{illegal}
use Rattle.mh_tree.specs.Typing.{held, type_of}
use Rattle.mh_tree.specs.Meaning.{mean}
use Rattle.mh_tree.proofs.Host.{host, runtime_class, of, leaf, called, int, boxed_int}

-- ---- cleanups

-- `div`, and in any case `fin`
abbrev trying : Tree
trying = tree.TryFinally (leaf 2) (leaf 17)

a_cleanup_runs_on_null_and_the_result :
    mean host trying (int (pos 7) ∷ int (pos 2) ∷ []) 0
    ≡ Gave (Some (int (pos 1))) (called 2 (int (pos 7) ∷ int (pos 2) ∷ []) ∷ called 17 (value.Null ∷ int (pos 3) ∷ []) ∷ [])
a_cleanup_runs_on_null_and_the_result = refl

an_exception_is_thrown_after_its_cleanup :
    mean host trying (int (pos 1) ∷ int (pos 0) ∷ []) 0
    ≡ Threw (saying arithmetic_class (codes "/ by zero"))
    (called 2 (int (pos 1) ∷ int (pos 0) ∷ [])
    ∷ called 17 (value.Thrown (saying arithmetic_class (codes "/ by zero")) ∷ int (pos 0) ∷ []) ∷ [])
an_exception_is_thrown_after_its_cleanup = refl

-- what takes a Throwable and an int, and divides 1 by 0
abbrev failing : Tree
failing = tree.Drop (tree.Bind (tree.Bind (leaf 2) 1 (boxed_int (pos 0))) 0 (boxed_int (pos 1))) 0 (ty.Class throwable_class ∷ int_type ∷ [])

a_cleanup_may_throw_another_exception :
    mean host (tree.TryFinally (tree.Throw (Some int_type) runtime_class) failing) (value.Thrown (bare runtime_class) ∷ []) 0
    ≡ Threw (saying arithmetic_class (codes "/ by zero")) (called 2 (int (pos 1) ∷ int (pos 0) ∷ []) ∷ [])
a_cleanup_may_throw_another_exception = refl

it_has_the_type_of_its_target : type_of host trying ≡ Ok (of (int_type ∷ int_type ∷ []) (Some int_type))
it_has_the_type_of_its_target = refl

a_cleanup_takes_a_throwable_first : type_of host (tree.TryFinally (leaf 2) (leaf 12)) ≡ Err (illegal (codes "tryfinally"))
a_cleanup_takes_a_throwable_first = refl

a_cleanup_returns_what_the_target_returns : type_of host (tree.TryFinally (leaf 7) (leaf 17)) ≡ Err (illegal (codes "tryfinally"))
a_cleanup_returns_what_the_target_returns = refl

a_cleanup_without_parameters_is_refused : type_of host (tree.TryFinally (leaf 7) (leaf 7)) ≡ Err (illegal (codes "tryfinally"))
a_cleanup_without_parameters_is_refused = refl

-- ---- switches

-- `add`, `sub`, or else `div`
abbrev switching : Tree
switching = tree.Switch (leaf 2) (cases_of (leaf 0 ∷ leaf 1 ∷ []))

the_first_case_has_the_number_0 :
    mean host switching (int (pos 0) ∷ int (pos 5) ∷ []) 0 ≡ Gave (Some (int (pos 5))) (called 0 (int (pos 0) ∷ int (pos 5) ∷ []) ∷ [])
unfolding int_wrap
the_first_case_has_the_number_0 = refl

the_second_has_the_number_1 :
    mean host switching (int (pos 1) ∷ int (pos 5) ∷ []) 0 ≡ Gave (Some (int (negsuc 3))) (called 1 (int (pos 1) ∷ int (pos 5) ∷ []) ∷ [])
unfolding int_wrap
the_second_has_the_number_1 = refl

a_number_without_a_case_takes_the_fallback :
    mean host switching (int (pos 9) ∷ int (pos 3) ∷ []) 0 ≡ Gave (Some (int (pos 3))) (called 2 (int (pos 9) ∷ int (pos 3) ∷ []) ∷ [])
a_number_without_a_case_takes_the_fallback = refl

so_does_the_number_of_cases :
    mean host switching (int (pos 2) ∷ int (pos 1) ∷ []) 0 ≡ Gave (Some (int (pos 2))) (called 2 (int (pos 2) ∷ int (pos 1) ∷ []) ∷ [])
so_does_the_number_of_cases = refl

so_does_a_negative_number :
    mean host switching (int (negsuc 0) ∷ int (pos 1) ∷ []) 0 ≡ Gave (Some (int (negsuc 0))) (called 2 (int (negsuc 0) ∷ int (pos 1) ∷ []) ∷ [])
so_does_a_negative_number = refl

abbrev with_cases : ℕ → Tree
with_cases n = tree.Switch (leaf 2) (cases_of (replicate n (leaf 0)))

a_switch_without_cases_is_refused : type_of host (with_cases 0) ≡ Err (illegal (codes "switch"))
a_switch_without_cases_is_refused = refl

sixteen_cases_are_allowed : type_of host (with_cases 16) ≡ Ok (of (int_type ∷ int_type ∷ []) (Some int_type))
sixteen_cases_are_allowed = refl

seventeen_are_not : type_of host (with_cases 17) ≡ Err (illegal (codes "switch"))
seventeen_are_not = refl

each_case_has_the_type_of_the_fallback : type_of host (tree.Switch (leaf 2) (cases_of (leaf 0 ∷ leaf 4 ∷ []))) ≡ Err (illegal (codes "switch"))
each_case_has_the_type_of_the_fallback = refl

a_switch_is_over_an_int : type_of host (tree.Switch (leaf 8) (cases_of (leaf 8 ∷ []))) ≡ Err (illegal (codes "switch"))
a_switch_is_over_an_int = refl

a_switch_weighs_one_more : weight (with_cases 16) ≡ 18
a_switch_weighs_one_more = refl

-- ---- loops

-- the sum of the numbers below `same`
abbrev looping : Tree
looping = tree.Counted (leaf 4) (tree.Constant (Some int_type) (boxed_int (pos 0))) (leaf 0)

five_turns :
    mean host looping (int (pos 5) ∷ []) 0
    ≡ Gave (Some (int (pos 10)))
    (called 4 (int (pos 5) ∷ [])
    ∷ called 0 (int (pos 0) ∷ int (pos 0) ∷ []) ∷ called 0 (int (pos 0) ∷ int (pos 1) ∷ []) ∷ called 0 (int (pos 1) ∷ int (pos 2) ∷ [])
    ∷ called 0 (int (pos 3) ∷ int (pos 3) ∷ []) ∷ called 0 (int (pos 6) ∷ int (pos 4) ∷ []) ∷ [])
unfolding int_wrap
five_turns = refl

no_turn_before_a_negative_end : mean host looping (int (negsuc 2) ∷ []) 0 ≡ Gave (Some (int (pos 0))) (called 4 (int (negsuc 2) ∷ []) ∷ [])
no_turn_before_a_negative_end = refl

sixty_five_turns_are_too_many :
    mean host looping (int (pos 65) ∷ []) 0 ≡ Threw (saying internal_error_class (codes "loop")) (called 4 (int (pos 65) ∷ []) ∷ [])
sixty_five_turns_are_too_many = refl

it_takes_what_its_iterations_take : type_of host looping ≡ Ok (of (int_type ∷ []) (Some int_type))
it_takes_what_its_iterations_take = refl

the_start_gives_what_the_body_takes : type_of host (tree.Counted (leaf 4) (leaf 7) (leaf 0)) ≡ Err (illegal (codes "counted"))
the_start_gives_what_the_body_takes = refl

iterations_give_an_int : type_of host (tree.Counted (leaf 5) (leaf 4) (leaf 0)) ≡ Err (illegal (codes "counted"))
iterations_give_an_int = refl

-- a body without a result takes the number alone
a_loop_may_be_void :
    mean host (tree.Counted (leaf 4) (leaf 7) (tree.Drop (leaf 7) 0 (int_type ∷ []))) (int (pos 2) ∷ []) 0
    ≡ Gave None (called 4 (int (pos 2) ∷ []) ∷ called 7 [] ∷ called 7 [] ∷ called 7 [] ∷ [])
a_loop_may_be_void = refl

-- `same` on its own result, so often
abbrev doubled : ℕ → Tree
doubled zero = leaf 4
doubled (suc n) = tree.FilterRet (doubled n) (doubled n)

-- `add` in so many permutations
abbrev added : ℕ → Tree
added zero = leaf 0
added (suc n) = tree.Permute (added n) (of (int_type ∷ int_type ∷ []) (Some int_type)) (0 ∷ 1 ∷ [])

a_loop_of_weight_256_is_allowed : type_of host (tree.Counted (doubled 6) (leaf 4) (added 1)) ≡ Ok (of (int_type ∷ []) (Some int_type))
a_loop_of_weight_256_is_allowed = refl

a_loop_of_weight_257_is_not :
    type_of host (tree.Counted (doubled 6) (leaf 4) (added 2)) ≡ Err (saying internal_error_class (codes "weight"))
a_loop_of_weight_257_is_not = refl

loops_do_not_nest : type_of host (tree.FilterRet looping looping) ≡ Err (saying internal_error_class (codes "weight"))
loops_do_not_nest = refl

-- ---- held types

its_parts_hold_their_types :
    held host trying
    ≡ of (int_type ∷ int_type ∷ []) (Some int_type) ∷ of (int_type ∷ int_type ∷ []) (Some int_type)
    ∷ of (ty.Class throwable_class ∷ int_type ∷ []) (Some int_type) ∷ []
its_parts_hold_their_types = refl
