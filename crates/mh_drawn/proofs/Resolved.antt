-- The constants that call sites ask are gone through, one call site after the other.
use Rattle.std.proofs.Common.{◌≡◌, refl, sym, ◌∙◌, ap, ap₂, subst, ℕ, ◌+◌, ◌≤◌, true, List, [], ◌∷◌, ◌++◌, append-nil, Option, None, Some, arith}
use Rattle.std.specs.Prelude.{is_none, replicate, slice_get}
use Rattle.std.specs.List.{flat_map}
use Rattle.std.proofs.lemmas.Bool.{both_ways}
use Rattle.std.proofs.lemmas.List.{length-replicate, map_more}
use Rattle.std.proofs.lemmas.List.Concat.{flat_map-append}
use Rattle.std.proofs.lemmas.List.Sums.{count_by-le-length}
use Rattle.std.proofs.lemmas.Option.{get_or_from_slice_get, slice_get_within}
use Rattle.mh_jobs.specs.declared.job.Job.{Job}
use Rattle.mh_jobs.specs.declared.unresolved.StaticArguments.{StaticArguments}
use Rattle.mh_jobs.specs.Given.{Given}
use Rattle.mh_jobs.specs.Thrown.{OrThrown}
use Rattle.mh_link.specs.Asking.{asked_at, asked_of_call}
use Rattle.mh_link.specs.Named.{Constants, run_of}
use Rattle.mh_link.specs.Places.{Has, is_in}
use Rattle.mh_link.specs.Resolved.{arguments_of_site}
use Rattle.mh_link.proofs.constants.Asked.{agree-each}
use Rattle.mh_link.proofs.walking.Asking.{asked-same}
use Rattle.mh_link.proofs.walking.Places.{has-left, has-right}
use Rattle.mh_condy.specs.Nodes.{Keeps, Nodes, found_in, is_known, unresolved}
use Rattle.mh_condy.specs.Passes.{PassView, TableView}
use Rattle.mh_condy.specs.Recorded.{ConstView, FindingView}
use Rattle.mh_condy.specs.Resolving.{GoesOnResolving}
use Rattle.mh_condy.specs.Trails.{AreOwnNodes, GoesBeside, trail_of}
use Rattle.mh_condy.proofs.Beside.{beside-both, beside-none}
use Rattle.mh_condy.proofs.Drawing.{on-both, on-none}
use Rattle.mh_condy.proofs.Trails.{found-kept}
use Rattle.mh_attempt.specs.Constants.{AsksConstants}
use Rattle.mh_drawn.specs.Linked.{HasResolved, calls_to, unused}

-- ---- at the start

-- nothing was gone through
pub resolved-none : (given : Given) (table : TableView) → HasResolved given 0 (unused given table)
resolved-none given table = record {
  on = on-none (unused given table);
  goes = beside-none (run_of given) (trail_of (unused given table)) own;
}
  where
    own : AreOwnNodes (run_of given) (trail_of (unused given table))
    own = record {
      each = λ c node at h. absurd (both_ways (is_in [] c) refl h);
      there = λ c h. absurd (both_ways (is_in [] c) refl h);
    }

-- there are no more constants to be resolved than there are constants
pub few-unresolved : (n : ℕ) → unresolved (replicate n None) ≤ n
few-unresolved n =
    let none : Option ConstView = None in
    omega (arith, count_by-le-length is_none (replicate n none), length-replicate n none)

-- ---- one call site more

calls-next : (given : Given) (count : ℕ) (job : Job) → slice_get given.jobs count ≡ Some job →
    calls_to given (count + 1) ≡ calls_to given count ++ arguments_of_site job.call ∷ []
calls-next given count job at =
    map_more (λ (j : Job). arguments_of_site j.call) given.jobs count job (slice_get_within given.jobs count job at)
    ∙ ap (λ (j : Job). calls_to given count ++ arguments_of_site j.call ∷ []) (get_or_from_slice_get given.jobs count job job at)

-- calls look at the same constants, where all that they look at stays known
calls-kept : (old new : Nodes) → Keeps old new → (calls : List (OrThrown StaticArguments)) →
    ((c : ℕ) → Has (flat_map (asked_of_call (found_in old)) calls) c → is_known old c ≡ true) →
    flat_map (asked_of_call (found_in old)) calls ≡ flat_map (asked_of_call (found_in new)) calls
calls-kept old new keeps [] each = refl
calls-kept old new keeps (call ∷ calls) each =
    let here : List ℕ = asked_of_call (found_in old) call in
    let rest : List ℕ = flat_map (asked_of_call (found_in old)) calls in
    ap₂ (λ xs ys. xs ++ ys)
    (asked-same (found_in old) (found_in new) call (agree-each (found_in old) (found_in new) here
    (λ c h. found-kept old new keeps c (each c (has-left here rest c h)))))
    (calls-kept old new keeps calls (λ c h. each c (has-right here rest c h)))

module _ (given : Given) (count : ℕ) (job : Job) (named : slice_get given.jobs count ≡ Some job) (p q : PassView) (findings : List FindingView)
    (before : HasResolved given count p) (on : GoesOnResolving p q) (asks : AsksConstants given job p q findings) where
  abbrev run : Constants
  run = run_of given

  start : unused given q.table ≡ unused given p.table
  start = ap (unused given) on.table

  lists : flat_map (asked_of_call (found_in p.known)) (calls_to given count) ++ asked_at (found_in q.known) job
      ≡ flat_map (asked_of_call (found_in q.known)) (calls_to given (count + 1))
  lists =
      let looks : OrThrown StaticArguments → List ℕ = asked_of_call (found_in q.known) in
      let last : OrThrown StaticArguments = arguments_of_site job.call in
      ap (λ xs. xs ++ looks last) (calls-kept p.known q.known asks.goes.keeps (calls_to given count) before.goes.known)
      ∙ (ap (λ ys. flat_map looks (calls_to given count) ++ ys) (sym (append-nil (looks last)))
      ∙ (sym (flat_map-append looks (calls_to given count) (last ∷ []))
      ∙ ap (flat_map looks) (sym (calls-next given count job named))))

  pub resolved-next : HasResolved given (count + 1) q
  resolved-next = record {
    on = subst (λ (s : PassView). GoesOnResolving s q) (sym start) (on-both (unused given p.table) p q before.on on);
    goes = subst (λ (s : PassView). GoesBeside run (flat_map (asked_of_call (found_in q.known)) (calls_to given (count + 1))) (trail_of s) (trail_of q))
        (sym start) (subst (λ cs. GoesBeside run cs (trail_of (unused given p.table)) (trail_of q)) lists
        (beside-both run (flat_map (asked_of_call (found_in p.known)) (calls_to given count)) (asked_at (found_in q.known) job)
        (trail_of (unused given p.table)) (trail_of p) (trail_of q) before.goes asks.goes));
  }
