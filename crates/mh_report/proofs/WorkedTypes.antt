-- Worked examples of the types that runs can need: what the checker computes of the definitions.
use Rattle.std.specs.Prelude.{◌≡◌, refl, [], ◌∷◌, Some}
use Rattle.mh_values.specs.declared.types.MethodTy.{MethodTy}
use Rattle.mh_class_bytes.specs.Chars.{chars_from, units_from, shown}
use Rattle.mh_class_bytes.specs.Mutf8.{sound_from, unit_len}
use Rattle.mh_intern.specs.Buckets.{bucket_of}
use Rattle.mh_jobs.proofs.Host.{of, host}
use Rattle.mh_leaf.specs.Outcome.{int_type}
use Rattle.mh_plan.specs.declared.call.Call.TheVariants.{Exact, Generic, Indy}
use Rattle.mh_plan.proofs.Host.{add_leaf, adds, int}
use Rattle.mh_report.specs.Types.{all_types, attempt_types, call_types, in_bucket}
use Rattle.mh_report.proofs.WorkedRuns.{attempt, evens, tens}

-- `(I)I`
abbrev adds_ten : MethodTy
adds_ten = of (int_type ∷ []) (Some int_type)

-- ---- which types are needed

an_exact_call_needs_the_type_of_its_leaf :
    call_types host (Exact add_leaf adds (int 1 ∷ int 2 ∷ []))
    ≡ adds ∷ []
an_exact_call_needs_the_type_of_its_leaf = refl

a_generic_call_needs_no_other_type :
    call_types host (Generic add_leaf adds_ten (int 1 ∷ []))
    ≡ adds ∷ []
a_generic_call_needs_no_other_type = refl

a_call_of_a_site_needs_none :
    call_types host (Indy 0 (int 1 ∷ []))
    ≡ []
a_call_of_a_site_needs_none = refl

an_attempt_needs_the_types_of_its_nodes :
    attempt_types tens (attempt 0 1)
    ≡ adds ∷ adds_ten ∷ []
unfolding chars_from units_from unit_len sound_from shown
an_attempt_needs_the_types_of_its_nodes = refl

an_attempt_that_fails_at_once_needs_none :
    attempt_types evens (attempt 0 1)
    ≡ []
unfolding chars_from units_from unit_len sound_from shown
an_attempt_that_fails_at_once_needs_none = refl

-- each of two sites may be the one of the second attempt, which links
each_site_is_counted_with_each_serial :
    all_types evens ((Indy 0 (int 1 ∷ int 2 ∷ []) ∷ Indy 1 (int 1 ∷ int 2 ∷ []) ∷ []) ∷ [])
    ≡ adds ∷ adds ∷ []
unfolding chars_from units_from unit_len sound_from shown
each_site_is_counted_with_each_serial = refl

-- ---- slots

equal_types_take_one_slot :
    in_bucket (bucket_of adds) (adds ∷ adds ∷ [])
    ≡ 1
equal_types_take_one_slot = refl
