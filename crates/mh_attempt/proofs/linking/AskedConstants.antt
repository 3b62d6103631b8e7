-- The dynamic constants that a job's call looks at, and what they are as arguments.
use Rattle.std.proofs.Common.{◌≡◌, sym, ◌∙◌, ap, subst, ℕ, List, [], None, Some, Result, Ok, Err, inl, inr, arith}
use Rattle.std.specs.Prelude.{IsErrAnd, codes, option_map}
use Rattle.std.proofs.lemmas.List.Elements.{All-nil}
use Rattle.mh_values.specs.declared.types.MethodTy.{MethodTy}
use Rattle.mh_values.specs.declared.value.Exc.{Exc}
use Rattle.mh_values.specs.declared.value.Value.{Value}
use Rattle.mh_intern.specs.Views.{SeatView}
use Rattle.mh_edit.specs.declared.key.Key.{Key}
use Rattle.mh_handle.specs.declared.work.Work.{Work}
use Rattle.mh_jobs.specs.declared.job.Argument.TheVariants as argument
use Rattle.mh_jobs.specs.declared.job.Job.{Job}
use Rattle.mh_jobs.specs.declared.sites.Bootstrap.{Bootstrap}
use Rattle.mh_jobs.specs.Given.{Given}
use Rattle.mh_jobs.specs.Thrown.{OrThrown, unsupported}
use Rattle.mh_link.specs.Asking.{asked_of_call}
use Rattle.mh_link.specs.Named.{run_of}
use Rattle.mh_link.specs.Resolved.{arguments_of_site}
use Rattle.mh_condy.specs.declared.attempt.Asked.{Asked}
use Rattle.mh_condy.specs.Given.{AreAsked}
use Rattle.mh_condy.specs.Nodes.{Knows, Nodes, found_in, node_in}
use Rattle.mh_condy.specs.Passes.{IsPass, PassView}
use Rattle.mh_condy.specs.Recorded.{ConstView, FindingView}
use Rattle.mh_condy.specs.Trails.{GoesBeside, trail_of}
use Rattle.mh_condy.proofs.Beside.{beside-none}
use Rattle.mh_condy.proofs.Ends.{own-nodes}
use Rattle.mh_attempt.specs.declared.error.WorkError.{WorkError}
use Rattle.mh_attempt.specs.declared.error.WorkError.TheVariants.{NoMemory, FormsFull, TypesFull}
use Rattle.mh_attempt.specs.Asked.{Asks}
use Rattle.mh_attempt.specs.AskedTypes.{AsksNoOther, AsksTypes}
use Rattle.mh_attempt.specs.Constants.{AsksConstants, AsksFirst, constant_argument}
use Rattle.mh_attempt.specs.Linkage.{AddsLinkage, LinkageView}
use Rattle.mh_attempt.proofs.types.Adding.{adds-none}

-- ---- what is asked

-- the constants among the arguments of a call were gone through
pub asked-called : (given : Given) (job : Job) (call : Bootstrap) (old new : PassView) (a : Asked) → job.call ≡ Ok call →
    AreAsked (run_of given) call.arguments old new a → AsksConstants given job old new a.findings.items
asked-called given job call old new a is are =
    let looked : OrThrown Bootstrap → List ℕ = λ made. asked_of_call (found_in new.known) (arguments_of_site made) in
    record {
      goes = subst (λ (made : OrThrown Bootstrap). GoesBeside (run_of given) (looked made) (trail_of old) (trail_of new)) (sym is) are.goes;
      constants = are.was.constants ∙ ap looked (sym is);
      knows = are.was.knows;
    }

-- a job for whose call an exception stands looks at none
pub asked-uncalled : (given : Given) (job : Job) (e : Exc) (pass : PassView) (findings : List FindingView) → job.call ≡ Err e → IsPass (run_of given) pass →
    findings ≡ [] → AsksConstants given job pass pass findings
asked-uncalled given job e pass findings is of none =
    let looked : OrThrown Bootstrap → List ℕ = λ made. asked_of_call (found_in pass.known) (arguments_of_site made) in
    subst (λ (fs : List FindingView). AsksConstants given job pass pass fs) (sym none) (record {
      goes = subst (λ (made : OrThrown Bootstrap). GoesBeside (run_of given) (looked made) (trail_of pass) (trail_of pass)) (sym is)
          (beside-none (run_of given) (trail_of pass) (own-nodes (run_of given) pass of));
      constants = ap looked (sym is);
      knows = All-nil (Knows pass.known);
    })

-- ---- arguments

-- a constant of which nothing is known
pub argument-none : (known : Nodes) (c : ℕ) → node_in known c ≡ None → constant_argument (found_in known c) ≡ Err (unsupported (codes "constant"))
argument-none known c none = ap (λ o. constant_argument (option_map (λ (node : ConstView). node.value) o)) none

-- one that is known to have this value or this error
pub argument-found : (known : Nodes) (c : ℕ) (node : ConstView) (found : OrThrown Value) → node_in known c ≡ Some node → node.value ≡ found →
    constant_argument (found_in known c) ≡ constant_argument (Some found)
argument-found known c node found at is =
    ap (λ o. constant_argument (option_map (λ (n : ConstView). n.value) o)) at ∙ ap (λ r. constant_argument (Some r)) is

pub argument-value : (known : Nodes) (c : ℕ) (node : ConstView) (v : Value) → node_in known c ≡ Some node → node.value ≡ Ok v →
    constant_argument (found_in known c) ≡ Ok (argument.Value v)
argument-value known c node v at is = argument-found known c node (Ok v) at is

pub argument-error : (known : Nodes) (c : ℕ) (node : ConstView) (e : Exc) → node_in known c ≡ Some node → node.value ≡ Err e →
    constant_argument (found_in known c) ≡ Err e
argument-error known c node e at is = argument-found known c node (Err e) at is

-- ---- no memory to resolve them

-- nothing was asked for
asks-nothing : (types : List MethodTy) (seat : SeatView) → AsksNoOther types seat seat
asks-nothing types seat t none = omega (arith, none)

module _ (w : Work) (r : Result LinkageView WorkError) (is : IsErrAnd r (λ x. x ≡ NoMemory)) where
  pub unresolved-adds : AddsLinkage w w r
  unresolved-adds = cases r is
    where
      cases : (r : Result LinkageView WorkError) → IsErrAnd r (λ x. x ≡ NoMemory) → AddsLinkage w w r
      cases (Ok l) is = absurd is
      cases (Err e) is = adds-none w

  pub unresolved-asks : (recipes : List (List Key)) → Asks recipes w w r
  unresolved-asks recipes = cases r is
    where
      cases : (r : Result LinkageView WorkError) → IsErrAnd r (λ x. x ≡ NoMemory) → Asks recipes w w r
      cases (Ok l) is = absurd is
      cases (Err e) is = subst (λ x. Asks {A = LinkageView} recipes w w (Err x)) (sym is) tt

  pub unresolved-types : (types : List MethodTy) → AsksTypes types w w r
  unresolved-types types = cases r is
    where
      cases : (r : Result LinkageView WorkError) → IsErrAnd r (λ x. x ≡ NoMemory) → AsksTypes types w w r
      cases (Ok l) is = absurd is
      cases (Err e) is = subst (λ x. AsksTypes {A = LinkageView} types w w (Err x)) (sym is) (asks-nothing types w.seat.now)

  pub unresolved-before : (given : Given) (job : Job) (p q : PassView) → AsksFirst given job p q w.seat.now w.seat.now r
  unresolved-before given job p q = cases r is
    where
      cases : (r : Result LinkageView WorkError) → IsErrAnd r (λ x. x ≡ NoMemory) → AsksFirst given job p q w.seat.now w.seat.now r
      cases (Ok l) is = absurd is
      cases (Err e) is =
          subst (λ x. AsksFirst {A = LinkageView} given job p q w.seat.now w.seat.now (Err x)) (sym is) (inr (asks-nothing [] w.seat.now))

-- they were gone through before, however the script ended
pub resolved-before : (given : Given) (job : Job) (p q : PassView) (before after : SeatView) (findings : List FindingView)
    (r : Result LinkageView WorkError) → AsksConstants given job p q findings → AsksFirst given job p q before after r
resolved-before given job p q before after findings (Ok l) asks = (findings, asks)
resolved-before given job p q before after findings (Err NoMemory) asks = inl (findings, asks)
resolved-before given job p q before after findings (Err (FormsFull drawn)) asks = (findings, asks)
resolved-before given job p q before after findings (Err (TypesFull bucket)) asks = (findings, asks)
