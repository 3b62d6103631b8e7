-- Worked examples of the most leaf calls: what the checker computes of the definitions.
use Rattle.std.specs.Prelude.{◌≡◌, refl, ℕ, pos, zero, suc, [], ◌∷◌, length, Some, Ok}
use Rattle.std.specs.Int.{int_wrap}
use Rattle.mh_leaf.specs.Outcome.{int_type}
use Rattle.mh_tree.specs.Tree.{Tree, cases_of, weight}
use Rattle.mh_tree.specs.Tree as tree
use Rattle.mh_tree.specs.Typing.{type_of}
use Rattle.mh_tree.specs.Meaning.{mean}
use Rattle.mh_tree.specs.MostCalls.{calls_made, most_calls, most_leaf_calls}
use Rattle.mh_tree.proofs.Host.{host, of, leaf, int}

-- `add`, and `same` on its result, so often
abbrev chained : ℕ → Tree
chained zero = leaf 0
chained (suc n) = tree.FilterRet (chained n) (leaf 4)

-- a loop of 64 leaf calls a turn
abbrev full : Tree
full = tree.Counted (leaf 4) (leaf 4) (chained 63)

a_part_that_runs_after_another_adds_its_calls : most_calls (chained 3) ≡ 4
a_part_that_runs_after_another_adds_its_calls = refl

the_larger_branch_counts : most_calls (tree.Guard (leaf 6) (chained 3) (leaf 4)) ≡ 5
the_larger_branch_counts = refl

the_largest_case_counts : most_calls (tree.Switch (leaf 0) (cases_of (leaf 0 ∷ chained 3 ∷ leaf 0 ∷ []))) ≡ 4
the_largest_case_counts = refl

an_identity_makes_none : most_calls (tree.Identity (Some int_type)) ≡ 0
an_identity_makes_none = refl

a_full_loop_is_within_the_limit : weight full ≡ 255
a_full_loop_is_within_the_limit = refl

a_full_loop_has_a_type : type_of host full ≡ Ok (of (int_type ∷ []) (Some int_type))
a_full_loop_has_a_type = refl

a_full_loop_has_the_most : most_calls full ≡ most_leaf_calls
a_full_loop_has_the_most = refl

four_turns_call_258_times : length (calls_made (mean host full (int (pos 4) ∷ []) 0)) ≡ 258
unfolding int_wrap
four_turns_call_258_times = refl

a_full_loop_calls_so_often : length (calls_made (mean host full (int (pos 64) ∷ []) 0)) ≡ most_leaf_calls
unfolding int_wrap
a_full_loop_calls_so_often = refl
