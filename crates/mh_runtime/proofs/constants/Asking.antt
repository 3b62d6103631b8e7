-- How attempts of a thread have gone through constants, one attempt after the other.
use Rattle.std.proofs.Common.{◌≡◌, refl, sym, ◌∙◌, ap, ap₂, subst, ℕ, ◌+◌, ◌≤◌, List, [], ◌∷◌, ◌++◌, append-nil, append_assoc, length, length-append, Option, None, Some, Result, Ok, Err, true, arith}
use Rattle.std.specs.Prelude.{OnOk, slice_get}
use Rattle.std.specs.Option.{option_map_or}
use Rattle.std.proofs.lemmas.List.Concat.{flat_map-append}
use Rattle.mh_jobs.specs.declared.job.Job.{Job}
use Rattle.mh_jobs.specs.Given.{Found, Given}
use Rattle.mh_link.specs.Asking.{asked_at}
use Rattle.mh_link.specs.Depth.{most_depth, rank}
use Rattle.mh_link.specs.Named.{run_of}
use Rattle.mh_link.specs.Places.{Has}
use Rattle.mh_link.proofs.constants.Asked.{agree-each, rank-small}
use Rattle.mh_link.proofs.walking.Places.{has-left, has-right}
use Rattle.mh_link.proofs.constants.SameCalls.{call-same}
use Rattle.mh_condy.specs.Nodes.{Keeps, Nodes, found_in, is_known, unresolved}
use Rattle.mh_condy.specs.Trails.{AreOwnNodes, GoesBeside, trail_of}
use Rattle.mh_condy.proofs.Beside.{beside-both, beside-none}
use Rattle.mh_condy.proofs.Counting.{unknown-all}
use Rattle.mh_condy.proofs.Trails.{found-kept}
use Rattle.mh_report.specs.declared.attempt.Attempt.{Attempt}
use Rattle.mh_runtime.specs.Attempts.{AsksMore, DrawsOnce, ResolvesForAttempts, looked_at}
use Rattle.mh_runtime.specs.Passes.{AttemptsUnlearnt, LinkPass}

-- ---- what attempts look at

-- the call of a site's job looks at the same constants, where all that it looks at stays known
pub asked-kept : (job : Job) (old new : Nodes) → Keeps old new → ((c : ℕ) → Has (asked_at (found_in old) job) c → is_known old c ≡ true) →
    asked_at (found_in old) job ≡ asked_at (found_in new) job
asked-kept job old new keeps known =
    (call-same (found_in old) (found_in new) job.call
    (agree-each (found_in old) (found_in new) (asked_at (found_in old) job) (λ c h. found-kept old new keeps c (known c h)))).1

site-kept : (given : Given) (site : ℕ) (old new : Nodes) → Keeps old new →
    ((c : ℕ) → Has (option_map_or (asked_at (found_in old)) (slice_get given.jobs site) []) c → is_known old c ≡ true) →
    option_map_or (asked_at (found_in old)) (slice_get given.jobs site) [] ≡ option_map_or (asked_at (found_in new)) (slice_get given.jobs site) []
site-kept given site old new keeps known = by (slice_get given.jobs site) known
  where
    by : (o : Option Job) → ((c : ℕ) → Has (option_map_or (asked_at (found_in old)) o []) c → is_known old c ≡ true) →
        option_map_or (asked_at (found_in old)) o [] ≡ option_map_or (asked_at (found_in new)) o []
    by None known = refl
    by (Some job) known = asked-kept job old new keeps known

-- so do several attempts
pub looked-kept : (given : Given) (old new : Nodes) → Keeps old new → (attempts : List Attempt) →
    ((c : ℕ) → Has (looked_at given (found_in old) attempts) c → is_known old c ≡ true) →
    looked_at given (found_in old) attempts ≡ looked_at given (found_in new) attempts
looked-kept given old new keeps [] known = refl
looked-kept given old new keeps (a ∷ attempts) known =
    let here : List ℕ = option_map_or (asked_at (found_in old)) (slice_get given.jobs a.site) [] in
    let rest : List ℕ = looked_at given (found_in old) attempts in
    ap₂ (λ xs ys. xs ++ ys)
    (site-kept given a.site old new keeps (λ c h. known c (has-left here rest c h)))
    (looked-kept given old new keeps attempts (λ c h. known c (has-right here rest c h)))

-- ---- one after the other

pub asks-both : (given : Given) (p q r : LinkPass) → AsksMore given p q → AsksMore given q r → AsksMore given p r
asks-both given p q r x y =
    let known : Found = found_in r.constants.known in
    let first : List ℕ = looked_at given (found_in q.constants.known) x.more in
    record {
      more = x.more ++ y.more;
      are = y.are ∙ (ap (λ made. made ++ y.more) x.are ∙ append_assoc p.attempts x.more y.more);
      goes = subst (λ cs. GoesBeside (run_of given) cs (trail_of p.constants) (trail_of r.constants))
          (ap (λ cs. cs ++ looked_at given known y.more) (looked-kept given q.constants.known r.constants.known y.goes.keeps x.more x.goes.known)
          ∙ sym (flat_map-append (λ (a : Attempt). option_map_or (asked_at known) (slice_get given.jobs a.site) []) x.more y.more))
          (beside-both (run_of given) first (looked_at given known y.more) (trail_of p.constants) (trail_of q.constants) (trail_of r.constants) x.goes y.goes);
    }

-- no attempt came
pub asks-own : (given : Given) (pass : LinkPass) → AreOwnNodes (run_of given) (trail_of pass.constants) → AsksMore given pass pass
asks-own given pass own = record {
  more = [];
  are = sym (append-nil pass.attempts);
  goes = beside-none (run_of given) (trail_of pass.constants) own;
}

-- what was asked before, and what a step asks that ended well
pub asks-then : {A E : Type 0} (given : Given) (p q r : LinkPass) (result : Result A E) → AsksMore given p q → OnOk result (AsksMore given q r) →
    OnOk result (AsksMore given p r)
asks-then given p q r (Ok x) first second = asks-both given p q r first second
asks-then given p q r (Err e) first second = tt

-- ---- how many serials were drawn

-- where the constants were gone through, at most one was drawn for each that has become known
pub goes-drawn : (given : Given) (cs : List ℕ) (p q : LinkPass) → GoesBeside (run_of given) cs (trail_of p.constants) (trail_of q.constants) →
    unresolved q.constants.known + p.constants.seat.room ≤ unresolved p.constants.known + q.constants.seat.room
goes-drawn given cs p q goes =
    let run = run_of given in
    let drawn = goes.room (most_depth + 1) (λ c h. let s = rank-small run c in omega (arith, s)) in
    let before = unknown-all (rank run) (most_depth + 1) p.constants.known (λ c. let s = rank-small run c in omega (arith, s)) in
    let after = unknown-all (rank run) (most_depth + 1) q.constants.known (λ c. let s = rank-small run c in omega (arith, s)) in
    omega (arith, drawn, before, after)

pub drawn-none : (pass : LinkPass) → DrawsOnce pass pass
drawn-none pass = omega arith

-- a step that ended well, and another one
pub drawn-both : (given : Given) (p q r : LinkPass) → AsksMore given p q → DrawsOnce q r → DrawsOnce p r
drawn-both given p q r x y =
    let first = goes-drawn given (looked_at given (found_in q.constants.known) x.more) p q x.goes in
    omega (arith, first, y)

-- so at most one was drawn for each that was not known
pub drawn-all : (given : Given) (p q : LinkPass) → AsksMore given p q → DrawsOnce p q
drawn-all given p q x =
    let first = goes-drawn given (looked_at given (found_in q.constants.known) x.more) p q x.goes in
    omega (arith, first)

-- nothing was drawn
pub drawn-same : (p q : LinkPass) → q.constants ≡ p.constants → DrawsOnce p q
drawn-same p q same = subst (λ k. p.constants.seat.room ≤ unresolved p.constants.known + k.seat.room) (sym same) (omega arith)

-- the constants were the same before the first step, or are after the last one
pub drawn-from : (old mid new : LinkPass) → mid.constants ≡ old.constants → DrawsOnce mid new → DrawsOnce old new
drawn-from old mid new same drawn = subst (λ k. k.seat.room ≤ unresolved k.known + new.constants.seat.room) same drawn

pub drawn-to : (old mid new : LinkPass) → new.constants ≡ mid.constants → DrawsOnce old mid → DrawsOnce old new
drawn-to old mid new same drawn = subst (λ k. old.constants.seat.room ≤ unresolved old.constants.known + k.seat.room) (sym same) drawn

-- ---- constants are resolved for attempts alone

no-more : {A : Type 0} (xs more : List A) → xs ++ more ≡ xs → more ≡ []
no-more xs [] same = refl
no-more xs (x ∷ more) same =
    absurd (let long : length (xs ++ x ∷ more) ≡ length xs = ap length same in omega (arith, long, length-append xs (x ∷ more)))

-- an attempt was made
pub quiet-attempt : (old new : LinkPass) (a : Attempt) → new.attempts ≡ old.attempts ++ a ∷ [] → ResolvesForAttempts old new
quiet-attempt old new a more same = absurd (let none : a ∷ [] ≡ [] = no-more old.attempts (a ∷ []) (sym more ∙ same) in cc none)

-- two steps
pub quiet-both : (p q r : LinkPass) → AttemptsUnlearnt p q → AttemptsUnlearnt q r → ResolvesForAttempts p q → ResolvesForAttempts q r →
    ResolvesForAttempts p r
quiet-both p q r a b x y same =
    let whole : p.attempts ++ (a.0 ++ b.0) ≡ p.attempts =
    sym (append_assoc p.attempts a.0 b.0) ∙ (sym (b.1 ∙ ap (λ made. made ++ b.0) a.1) ∙ same) in
    let none : a.0 ++ b.0 ≡ [] = no-more p.attempts (a.0 ++ b.0) whole in
    let first : a.0 ≡ [] = front a.0 b.0 none in
    let last : b.0 ≡ [] = ap (λ xs. xs ++ b.0) (sym first) ∙ none in
    y (b.1 ∙ (ap (λ xs. q.attempts ++ xs) last ∙ append-nil q.attempts)) ∙ x (a.1 ∙ (ap (λ xs. p.attempts ++ xs) first ∙ append-nil p.attempts))
  where
    front : (xs ys : List Attempt) → xs ++ ys ≡ [] → xs ≡ []
    front [] ys is = refl
    front (x ∷ xs) ys is = absurd (cc is)
