-- What an attempt makes of a constant is what is recorded under what it has found.
use Rattle.std.proofs.Common.{◌≡◌, refl, sym, ◌∙◌, ap, subst, ℕ, false, List, [], Option, None, Some, Ok, Err}
use Rattle.std.specs.Prelude.{All, IsSome, slice_get}
use Rattle.std.proofs.lemmas.Bool.{both_ways}
use Rattle.mh_values.specs.declared.value.Exc.{Exc}
use Rattle.mh_values.specs.declared.value.Value.{Value}
use Rattle.mh_jobs.specs.declared.constants.ConstBootstrap.{ConstBootstrap}
use Rattle.mh_jobs.specs.declared.constants.ConstJob.{ConstJob}
use Rattle.mh_jobs.specs.Thrown.{OrThrown}
use Rattle.mh_link.specs.Named.{Constants}
use Rattle.mh_link.specs.Depth.{depth}
use Rattle.mh_link.specs.Places.{Has}
use Rattle.mh_link.specs.Resolved.{Agree, asked}
use Rattle.mh_link.specs.Constants.{as_recorded, const_outcome, too_deep}
use Rattle.mh_link.specs.Asking.{asked_by}
use Rattle.mh_link.proofs.constants.Asked.{agree-each, under-same}
use Rattle.mh_condy.specs.Given.{IsUnasked, call_outcome}
use Rattle.mh_condy.specs.Nodes.{Knows, Nodes, found_in}
use Rattle.mh_condy.specs.Recorded.{FindingView, IsConst, constants_of, found_of}
use Rattle.mh_condy.specs.Told.{Tells, Throws}
use Rattle.mh_condy.specs.declared.thrown.Failure.{Failure}
use Rattle.mh_condy.specs.declared.thrown.Failure.TheVariants.{Thrown}
use Rattle.mh_condy.proofs.Founds.{founds-agree}
use Rattle.mh_condy.proofs.Telling.{throws-as}
use Rattle.mh_condy.proofs.Under.{deep-less, outcome-at}

some-of : (o : Option ℕ) → IsSome o → (k : ℕ) × (o ≡ Some k)
some-of None h = absurd (both_ways false refl h)
some-of (Some k) h = (k, refl)

-- ---- attempts that look at no constant

pub deep-unasked : (run : Constants) (job : ConstJob) (serial : ℕ) (failure : Failure) → slice_get run.jobs job.number ≡ Some job →
    depth run job.number ≡ None → Throws failure too_deep → IsUnasked run job serial failure
deep-unasked run job serial failure named none throws =
    let less = deep-less run job.number (found_of []) serial none in
    record {
      named = named;
      asked = less.1;
      outcome = throws-as failure too_deep (const_outcome run (found_of []) job.number serial) throws less.0;
    }

pub uncalled-unasked : (run : Constants) (job : ConstJob) (serial : ℕ) (e : Exc) → slice_get run.jobs job.number ≡ Some job →
    IsSome (depth run job.number) → job.call ≡ Err e → IsUnasked run job serial (Thrown e)
uncalled-unasked run job serial e named deep call =
    let d = some-of (depth run job.number) deep in
    let at = outcome-at run job.number (found_of []) d.0 d.1 job named (Err e) call serial in
    record { named = named; asked = at.1; outcome = at.0 }

pub unasked-is : (run : Constants) (job : ConstJob) (serial : ℕ) (failure : Failure) (value : OrThrown Value) (under : List FindingView) →
    IsUnasked run job serial failure → under ≡ [] →
    ((outcome : OrThrown Value) → Tells (Err failure) outcome → value ≡ as_recorded run.leaves.classes outcome) →
    IsConst run (record { job = job; serial = serial; value = value; under = under })
unasked-is run job serial failure value under is none recorded =
    subst (λ u. IsConst run (record { job = job; serial = serial; value = value; under = u })) (sym none) (record {
      named = is.named;
      value_is = recorded (const_outcome run (found_of []) job.number serial) is.outcome;
      asked = sym is.asked;
    })

-- ---- attempts that run a script

pub called-is : (run : Constants) (known : Nodes) (job : ConstJob) (serial : ℕ) (call : ConstBootstrap) (findings : List FindingView) (value : OrThrown Value) →
    slice_get run.jobs job.number ≡ Some job → IsSome (depth run job.number) → job.call ≡ Ok call →
    constants_of findings ≡ asked (found_in known) call.arguments.parts → All (Knows known) findings →
    value ≡ as_recorded run.leaves.classes (call_outcome run (found_in known) call serial) →
    IsConst run (record { job = job; serial = serial; value = value; under = findings })
called-is run known job serial call findings value named deep is constants knows recorded =
    let d = some-of (depth run job.number) deep in
    let at = outcome-at run job.number (found_in known) d.0 d.1 job named (Ok call) is serial in
    let same : constants_of findings ≡ asked_by run (found_in known) job.number = constants ∙ sym at.1 in
    let agree : Agree (found_in known) (found_of findings) (asked_by run (found_in known) job.number) =
    agree-each (found_in known) (found_of findings) (asked_by run (found_in known) job.number)
    (λ c h. sym (founds-agree known findings knows c (subst (λ xs. Has xs c) (sym same) h))) in
    let under = under-same run (found_in known) (found_of findings) job.number agree in
    record {
      named = named;
      value_is = recorded ∙ (ap (λ o. as_recorded run.leaves.classes o) (sym at.0) ∙ under.0 serial);
      asked = same ∙ under.1;
    }
