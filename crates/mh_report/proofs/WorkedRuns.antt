-- Worked examples of runs with call sites: what the checker computes of the definitions.
use Rattle.std.specs.Prelude.{◌≡◌, refl, ℕ, List, [], ◌∷◌, codes, Some, None, Ok, Err}
use Rattle.std.specs.Int.{int_wrap}
use Rattle.mh_values.specs.Computation.{Stuck}
use Rattle.mh_values.specs.Exception.{saying}
use Rattle.mh_class_bytes.specs.Chars.{chars_from, units_from, shown}
use Rattle.mh_class_bytes.specs.Mutf8.{sound_from, unit_len}
use Rattle.mh_jobs.specs.Given.{Given}
use Rattle.mh_jobs.specs.Thrown.{caused, runtime_class}
use Rattle.mh_link.proofs.worked.CallsOfSites.{told}
use Rattle.mh_plan.specs.declared.call.Call.{Call}
use Rattle.mh_plan.specs.declared.call.Call.TheVariants.{Exact, Indy}
use Rattle.mh_plan.specs.Naming.{naming_of, pairs_named}
use Rattle.mh_plan.proofs.Host.{add_leaf, adds, given_with, int}
use Rattle.mh_report.specs.declared.attempt.Attempt.{Attempt}
use Rattle.mh_report.specs.Forms.{forms, forms_needed}
use Rattle.mh_report.specs.Prelinked.{draws_by}
use Rattle.mh_report.specs.Recorded.{types}
use Rattle.mh_report.specs.Results.{result_of}
use Rattle.mh_report.proofs.Host.{adding_later, adding_ten}

-- two sites that add ten
abbrev pub tens : Given
tens = given_with adding_ten (codes "(I)I" ∷ codes "(I)I" ∷ [])

-- two sites that only attempts with even numbers link
abbrev pub evens : Given
evens = given_with adding_later (codes "(II)I" ∷ codes "(II)I" ∷ [])

-- a thread that calls the second site, the first one, and the second one again, and a thread that calls the second site
abbrev plan : List (List Call)
plan = (Indy 1 (int 1 ∷ []) ∷ Indy 0 (int 2 ∷ []) ∷ Indy 1 (int 3 ∷ []) ∷ []) ∷ (Indy 1 (int 4 ∷ []) ∷ []) ∷ []

-- an attempt of the first thread
abbrev pub attempt : ℕ → ℕ → Attempt
attempt site serial = record { thread = 0; site = site; serial = serial }

-- ---- results

a_call_runs_the_target_of_its_site :
    told (result_of tens (None ∷ Some 1 ∷ []) (Indy 1 (int 1 ∷ [])))
    ≡ Some (Ok (Some (int 11)), (0 ∷ []))
unfolding chars_from units_from unit_len sound_from shown int_wrap
a_call_runs_the_target_of_its_site = refl

a_call_throws_the_error_of_its_site :
    told (result_of evens (Some 1 ∷ Some 2 ∷ []) (Indy 0 (int 1 ∷ int 2 ∷ [])))
    ≡ Some (Err (caused (saying runtime_class (codes "failmod"))), [])
unfolding chars_from units_from unit_len sound_from shown int_wrap
a_call_throws_the_error_of_its_site = refl

the_attempt_that_links_a_site_decides :
    told (result_of evens (Some 1 ∷ Some 2 ∷ []) (Indy 1 (int 1 ∷ int 2 ∷ [])))
    ≡ Some (Ok (Some (int 3)), (0 ∷ []))
unfolding chars_from units_from unit_len sound_from shown int_wrap
the_attempt_that_links_a_site_decides = refl

a_site_that_is_not_linked_has_no_result :
    result_of tens (None ∷ Some 1 ∷ []) (Indy 0 (int 1 ∷ []))
    ≡ Stuck
a_site_that_is_not_linked_has_no_result = refl

-- ---- names

sites_are_named_in_the_order_of_the_calls :
    naming_of plan
    ≡ (1 ∷ 0 ∷ 1 ∷ []) ∷ (1 ∷ []) ∷ []
sites_are_named_in_the_order_of_the_calls = refl

a_thread_and_a_site_are_one_pair :
    pairs_named plan
    ≡ 3
a_thread_and_a_site_are_one_pair = refl

-- ---- forms

attempts_of_two_sites_make_the_same_two_forms :
    forms tens plan (attempt 1 1 ∷ attempt 0 2 ∷ [])
    ≡ 2
unfolding chars_from units_from unit_len sound_from shown
attempts_of_two_sites_make_the_same_two_forms = refl

an_attempt_and_a_call_make_one_form_of_a_leaf :
    forms tens ((Indy 0 (int 1 ∷ []) ∷ Exact add_leaf adds (int 1 ∷ int 2 ∷ []) ∷ []) ∷ []) (attempt 0 1 ∷ [])
    ≡ 2
unfolding chars_from units_from unit_len sound_from shown
an_attempt_and_a_call_make_one_form_of_a_leaf = refl

an_attempt_that_fails_at_once_makes_no_form :
    forms evens ((Indy 0 (int 1 ∷ int 2 ∷ []) ∷ []) ∷ []) (attempt 0 1 ∷ [])
    ≡ 0
unfolding chars_from units_from unit_len sound_from shown
an_attempt_that_fails_at_once_makes_no_form = refl

-- one call names one site, so that the only attempt is the first, which fails
no_form_is_needed_where_no_attempt_links :
    forms_needed evens ((Indy 0 (int 1 ∷ int 2 ∷ []) ∷ []) ∷ [])
    ≡ 0
unfolding chars_from units_from unit_len sound_from shown
no_form_is_needed_where_no_attempt_links = refl

-- with two sites that are named each may be the one of the second attempt
a_form_is_needed_where_an_attempt_may_link :
    forms_needed evens ((Indy 0 (int 1 ∷ int 2 ∷ []) ∷ Indy 1 (int 1 ∷ int 2 ∷ []) ∷ []) ∷ [])
    ≡ 1
unfolding chars_from units_from unit_len sound_from shown
a_form_is_needed_where_an_attempt_may_link = refl

-- with workers all sites are linked, whichever the calls name, and each worker may draw a number
workers_link_sites_that_no_call_names :
    draws_by evens 2 []
    ≡ 2
unfolding chars_from units_from unit_len sound_from shown
workers_link_sites_that_no_call_names = refl

no_form_is_needed_without_workers_and_calls :
    draws_by evens 0 []
    ≡ 0
no_form_is_needed_without_workers_and_calls = refl

-- ---- types

equal_types_of_targets_are_counted_once :
    types tens (Some 2 ∷ Some 1 ∷ [])
    ≡ 1
unfolding chars_from units_from unit_len sound_from shown
equal_types_of_targets_are_counted_once = refl

an_error_holds_no_type :
    types evens (Some 1 ∷ None ∷ [])
    ≡ 0
unfolding chars_from units_from unit_len sound_from shown
an_error_holds_no_type = refl
