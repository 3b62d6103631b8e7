-- Worked examples of plans with call sites: what the checker computes of the definitions.
use Rattle.std.specs.Prelude.{◌≡◌, refl, ℕ, List, [], ◌∷◌, codes, Result, Ok, Err}
use Rattle.std.specs.Fmt.{digits}
use Rattle.mh_base.specs.declared.lines.LineFault.{LineFault}
use Rattle.mh_jobs.proofs.Host.{host, link}
use Rattle.mh_plan.specs.declared.call.Call.{Call}
use Rattle.mh_plan.specs.declared.call.Call.TheVariants.{Exact, Indy}
use Rattle.mh_plan.specs.declared.kinds.PlanKind.{PlanKind}
use Rattle.mh_plan.specs.declared.kinds.PlanKind.TheVariants.{BadLine, NoLeaf, NoSite, BadArguments}
use Rattle.mh_plan.specs.Plan.{plan_of}
use Rattle.mh_plan.proofs.Host.{add_leaf, adds, given_with, int}

-- two sites, the type of the first being readable
abbrev sites : List (List ℕ)
sites = codes "(I)I" ∷ codes "(Lno/Such;)V" ∷ []

-- what these lines mean after `thread`
abbrev lines : List (List ℕ) → Result (List (List Call)) (LineFault PlanKind)
lines calls = plan_of host (given_with link sites).jobs (codes "thread" ∷ calls)

-- a fault of line 2
abbrev fault : PlanKind → Result (List (List Call)) (LineFault PlanKind)
fault kind = Err (record { line = 2; kind = kind })

a_site_is_called_with_arguments_of_its_type :
    lines (codes "indy 0 i:7" ∷ [])
    ≡ Ok ((Indy 0 (int 7 ∷ []) ∷ []) ∷ [])
unfolding digits
a_site_is_called_with_arguments_of_its_type = refl

sites_and_leaves_are_called_in_order :
    lines (codes "exact leaf:demo/Host.add:(II)I (II)I i:1 i:2" ∷ codes "indy 0 i:7" ∷ [])
    ≡ Ok ((Exact add_leaf adds (int 1 ∷ int 2 ∷ []) ∷ Indy 0 (int 7 ∷ []) ∷ []) ∷ [])
unfolding digits
sites_and_leaves_are_called_in_order = refl

the_number_of_sites_is_none_of_a_site :
    lines (codes "indy 2" ∷ [])
    ≡ fault NoSite
unfolding digits
the_number_of_sites_is_none_of_a_site = refl

a_number_of_thirty_digits_is_none_of_a_site :
    lines (codes "indy 100000000000000000000000000000" ∷ [])
    ≡ fault NoSite
unfolding digits
a_number_of_thirty_digits_is_none_of_a_site = refl

a_site_is_looked_for_before_its_arguments_are_read :
    lines (codes "indy 2 x" ∷ [])
    ≡ fault NoSite
unfolding digits
a_site_is_looked_for_before_its_arguments_are_read = refl

an_argument_has_the_type_of_the_site :
    lines (codes "indy 0 j:7" ∷ [])
    ≡ fault BadArguments
unfolding digits
an_argument_has_the_type_of_the_site = refl

a_site_takes_no_more_arguments :
    lines (codes "indy 0 i:7 i:7" ∷ [])
    ≡ fault BadArguments
unfolding digits
a_site_takes_no_more_arguments = refl

a_site_whose_type_is_not_readable_takes_no_arguments :
    lines (codes "indy 1 null" ∷ [])
    ≡ fault BadArguments
unfolding digits
a_site_whose_type_is_not_readable_takes_no_arguments = refl

such_a_site_is_called_without_any :
    lines (codes "indy 1" ∷ [])
    ≡ Ok ((Indy 1 [] ∷ []) ∷ [])
unfolding digits
such_a_site_is_called_without_any = refl

a_needless_zero_is_no_number :
    lines (codes "indy 00" ∷ [])
    ≡ fault BadLine
unfolding digits
a_needless_zero_is_no_number = refl

the_first_line_counts :
    lines (codes "exact leaf:demo/Host.no:()V ()V" ∷ codes "indy 2" ∷ [])
    ≡ fault NoLeaf
unfolding digits
the_first_line_counts = refl
