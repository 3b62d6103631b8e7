-- Worked examples of what was learnt of cells, whose values are numbers here: what the checker computes of the definitions.
use Rattle.std.proofs.Common.{◌≡◌, refl, ℕ, zero, suc, List, [], ◌∷◌, Option, Some, None, inl, inr}
use Rattle.mh_cells.specs.Values.{JoinedOnly, Keeps, KnownView, LearnsAt, nothing_of, value_at}

-- of three cells, the second one was learnt
abbrev second : List (Option ℕ)
second = None ∷ Some 7 ∷ None ∷ []

a_value_that_was_learnt :
    value_at second 1
    ≡ Some 7
a_value_that_was_learnt = refl

a_cell_of_which_nothing_was_learnt :
    value_at second 2
    ≡ None
a_cell_of_which_nothing_was_learnt = refl

there_is_no_such_cell :
    value_at second 3
    ≡ None
there_is_no_such_cell = refl

nothing_was_learnt_of_two_cells :
    nothing_of {V = ℕ} (40 ∷ 41 ∷ [])
    ≡ record { cells = 40 ∷ 41 ∷ []; values = None ∷ None ∷ [] }
nothing_was_learnt_of_two_cells = refl

-- ---- what stays

what_was_learnt_is_not_forgotten : Keeps second (None ∷ None ∷ None ∷ []) → ⊥
what_was_learnt_is_not_forgotten keeps = let here : value_at {V = ℕ} (None ∷ None ∷ None ∷ []) 1 ≡ Some 7 = keeps 1 7 refl in cc

what_was_learnt_is_not_another_value_later : Keeps second (None ∷ Some 8 ∷ None ∷ []) → ⊥
what_was_learnt_is_not_another_value_later keeps = let here : value_at {V = ℕ} (None ∷ Some 8 ∷ None ∷ []) 1 ≡ Some 7 = keeps 1 7 refl in cc

-- three cells, and what was learnt of them
abbrev of_three : List (Option ℕ) → KnownView ℕ
of_three values = record { cells = 40 ∷ 41 ∷ 42 ∷ []; values = values }

a_search_learns_of_no_other_cell : LearnsAt 0 (of_three second) (of_three (Some 6 ∷ Some 7 ∷ Some 8 ∷ [])) → ⊥
a_search_learns_of_no_other_cell learns = let two = learns.others 2 (λ e. cc) in cc

-- ---- what two have learnt

what_both_have_learnt : JoinedOnly second (Some 6 ∷ Some 7 ∷ None ∷ []) (Some 6 ∷ Some 7 ∷ None ∷ [])
what_both_have_learnt at v is = inr is

nothing_else_is_learnt_by_a_join : JoinedOnly second (Some 6 ∷ None ∷ None ∷ []) (Some 6 ∷ Some 7 ∷ Some 8 ∷ []) → ⊥
nothing_else_is_learnt_by_a_join only = elim (only 2 8 refl) [ inl e ↦ cc | inr e ↦ cc ]
