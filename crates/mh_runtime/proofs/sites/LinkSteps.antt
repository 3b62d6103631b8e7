-- What steps of a thread leave of its pass over the call sites.
use Rattle.std.proofs.Common.{◌≡◌, ◌≢◌, refl, sym, ◌∙◌, ap, ap₂, subst, ℕ, ◌+◌, ◌<◌, false, List, [], ◌∷◌, ◌++◌, length, map, Option, None, Result, Ok, Err, ⊎_elim, inl, inr, arith}
use denote.Ref.{Bor}
use Rattle.std.specs.Prelude.{All, AllPairs, Contains, IfOk, IsSome, OnErr, filter, is_some}
use Rattle.std.proofs.lemmas.List.{length-append}
use Rattle.std.proofs.lemmas.List.Elements.{All-nil, All-push, Contains-push}
use Rattle.mh_tickets.specs.Seats.{Draws, SeatView}
use Rattle.mh_cells.specs.Values.{value_at}
use Rattle.mh_condy.specs.Resolving.{GoesOnResolving}
use Rattle.mh_condy.proofs.Drawing.{on-none}
use Rattle.mh_attempt.specs.declared.error.WorkError.{WorkError}
use Rattle.mh_attempt.specs.Linkage.{LinkageView}
use Rattle.mh_plan.specs.Naming.{first_places}
use Rattle.mh_report.specs.declared.attempt.Attempt.{Attempt}
use Rattle.mh_report.specs.Results.{serial_at}
use Rattle.mh_runtime.specs.Attempts.{AttemptsMore, GoesOnLinking, IsThreadRun, sites_of}
use Rattle.mh_runtime.specs.Passes.{AttemptsUnlearnt, BeginsAttempt, LearnsSites, LinkPass, RecordsLatest, RecordsOurs, attempt_of}
use Rattle.mh_runtime.proofs.sites.Sites.{is_in}
use Rattle.mh_runtime.proofs.sites.ThreadRuns.{not-linked, run-more, run-same}
use Rattle.mh_runtime.proofs.sites.ThreadSteps.{linked-on}

-- ---- more is learnt

-- nothing was learnt
pub learns-none : (pass : LinkPass) → LearnsSites pass pass
learns-none pass = record {
  linker = refl;
  thread = refl;
  linked = λ site serial is. is;
  attempts = refl;
  seat = refl;
  linkages = λ site l at. at;
  constants = refl;
}

pub attempts-learn : (site : ℕ) (old new : LinkPass) → LearnsSites old new → AttemptsMore (site ∷ []) old new
attempts-learn site old new learns sites linked run = run-same sites site old new run learns.thread learns.attempts learns.seat

-- a thread's run is that of the pass that has learnt more
run-learns : (sites : List ℕ) (old new : LinkPass) → LearnsSites old new → IsThreadRun sites old → IsThreadRun sites new
run-learns sites old new learns run = record {
  numbered = ap (map (λ (a : Attempt). a.serial)) learns.attempts ∙ (run.numbered ∙ ap (λ (s : SeatView). s.numbers) (sym learns.seat));
  rising = subst (AllPairs (λ (a b : Attempt). a.serial < b.serial)) (sym learns.attempts) run.rising;
  own = subst (λ n. All (λ (a : Attempt). a.thread ≡ n) new.attempts) (sym learns.thread)
      (subst (All (λ (a : Attempt). a.thread ≡ old.thread)) (sym learns.attempts) run.own);
  apart = subst (AllPairs (λ (a b : Attempt). a.site ≢ b.site)) (sym learns.attempts) run.apart;
  reached = subst (All (λ (a : Attempt). Contains sites a.site)) (sym learns.attempts) run.reached;
  in_order = subst (λ all. sites_of all ≡ filter (is_in (sites_of all)) (first_places [] sites)) (sym learns.attempts) run.in_order;
}

pub attempts-learnt : (more : List ℕ) (old mid new : LinkPass) → LearnsSites old mid → AttemptsMore more mid new → AttemptsMore more old new
attempts-learnt more old mid new learns after sites linked run =
    after sites (linked-on old.linked mid.linked sites learns.linked linked) (run-learns sites old mid learns run)

-- ---- an attempt is begun, and more is learnt

-- the attempt of a site that a pass begins
abbrev pub begun_by : LinkPass → ℕ → ℕ → Attempt
begun_by old site serial = record { thread = old.thread; site = site; serial = serial }

-- the pass has begun it, and has resolved constants for it
pub record HasBegun (site serial : ℕ) (old mid : LinkPass) : Type 0 where
  pub draws : Draws serial old.seat mid.seat
  pub is : mid ≡ record old { attempts = old.attempts ++ begun_by old site serial ∷ []; seat = mid.seat; constants = mid.constants }
  pub resolving : GoesOnResolving old.constants mid.constants

-- before constants were resolved
pub begun-first : (site serial : ℕ) (old mid : LinkPass) → BeginsAttempt site serial old mid → HasBegun site serial old mid
begun-first site serial old mid begins =
    let same : mid.constants ≡ old.constants = ap (λ (p : LinkPass). p.constants) begins.1 in
    record {
      draws = begins.0;
      is = begins.1 ∙ ap (λ k. record old { attempts = old.attempts ++ begun_by old site serial ∷ []; seat = mid.seat; constants = k }) (sym same);
      resolving = subst (GoesOnResolving old.constants) (sym same) (on-none old.constants);
    }

-- and after that
pub begun-then : (site serial : ℕ) (old mid next : LinkPass) → BeginsAttempt site serial old mid → next ≡ record mid { constants = next.constants } →
    GoesOnResolving mid.constants next.constants → HasBegun site serial old next
begun-then site serial old mid next begins others resolving =
    let seat : mid.seat ≡ next.seat = sym (ap (λ (p : LinkPass). p.seat) others) in
    record {
      draws = subst (Draws serial old.seat) seat begins.0;
      is = others ∙ (ap (λ (p : LinkPass). record p { constants = next.constants }) begins.1
          ∙ ap (λ s. record old { attempts = old.attempts ++ begun_by old site serial ∷ []; seat = s; constants = next.constants }) seat);
      resolving = subst (λ k. GoesOnResolving k next.constants) (ap (λ (p : LinkPass). p.constants) begins.1) resolving;
    }

pub begun-attempts : (site serial : ℕ) (old mid : LinkPass) → HasBegun site serial old mid → mid.attempts ≡ old.attempts ++ begun_by old site serial ∷ []
begun-attempts site serial old mid begins = ap (λ (p : LinkPass). p.attempts) begins.is

-- the attempt that made a linkage is the one that was begun
pub begun-made : (site serial : ℕ) (old mid : LinkPass) (l : LinkageView) → HasBegun site serial old mid → l.job.site ≡ site → l.serial ≡ serial →
    Contains mid.attempts (attempt_of mid.thread l)
begun-made site serial old mid l begins own number =
    let begun : Attempt = begun_by old site serial in
    let thread : mid.thread ≡ old.thread = ap (λ (p : LinkPass). p.thread) begins.is in
    let same : attempt_of mid.thread l ≡ begun =
    ap (λ t. record { thread = t; site = l.job.site; serial = l.serial }) thread
    ∙ ap₂ (λ s n. record { thread = old.thread; site = s; serial = n }) own number in
    subst (Contains mid.attempts) (sym same)
    (subst (λ all. Contains all begun) (sym (begun-attempts site serial old mid begins)) (Contains-push old.attempts begun))

module _ (site serial : ℕ) (old mid new : LinkPass) (begins : HasBegun site serial old mid) (learns : LearnsSites mid new) where
  pub goes-begun : GoesOnLinking 1 old new
  goes-begun = record {
    linker = learns.linker ∙ ap (λ (p : LinkPass). p.linker) begins.is;
    thread = learns.thread ∙ ap (λ (p : LinkPass). p.thread) begins.is;
    linked = λ s n is. learns.linked s n (ap (λ (p : LinkPass). serial_at p.linked s) begins.is ∙ is);
    room = omega (arith, begins.draws.room, ap (λ (s : SeatView). s.room) learns.seat);
    whole = omega (
      arith,
      begins.draws.room,
      ap (λ (s : SeatView). s.room + length s.numbers) learns.seat,
      ap length begins.draws.numbers,
      length-append old.seat.numbers (serial ∷ []),
    );
    linkages = λ s l at. learns.linkages s l (ap (λ (p : LinkPass). value_at p.linkages s) begins.is ∙ at);
    constants = subst (GoesOnResolving old.constants) (sym learns.constants) begins.resolving;
  }

  pub attempts-begun : serial_at old.linked site ≡ None → AttemptsMore (site ∷ []) old new
  attempts-begun none sites linked run =
      run-more sites site old new run (learns.thread ∙ ap (λ (p : LinkPass). p.thread) begins.is) serial (not-linked old.linked sites site linked none)
      (subst (λ (s : SeatView). Draws serial old.seat s) (sym learns.seat) begins.draws)
      (learns.attempts ∙ ap (λ (p : LinkPass). p.attempts) begins.is)

  -- the attempt was of a site that was not learnt
  pub unlearnt-begun : serial_at old.linked site ≡ None → AttemptsUnlearnt old new
  unlearnt-begun none = (
    begun_by old site serial ∷ [],
    learns.attempts ∙ begun-attempts site serial old mid begins,
    All-push (λ (a : Attempt). serial_at old.linked a.site ≡ None) [] (begun_by old site serial)
        (All-nil (λ (a : Attempt). serial_at old.linked a.site ≡ None)) none,
  )

  -- a linkage that was recorded is that of the attempt
  pub latest-begun : (ours l : LinkageView) → ours.job.site ≡ site → ours.serial ≡ serial → RecordsOurs ours l mid new → RecordsLatest l old new
  latest-begun ours l own number records =
      let kept : mid.recorded ≡ old.recorded = ap (λ (p : LinkPass). p.recorded) begins.is in
      let thread : mid.thread ≡ old.thread = ap (λ (p : LinkPass). p.thread) begins.is in
      ⊎_elim
      (λ (none : new.recorded ≡ mid.recorded). inl (none ∙ kept))
      (λ (one : (l ≡ ours) × (new.recorded ≡ mid.recorded ++ attempt_of mid.thread ours ∷ [])).
      let same : attempt_of old.thread l ≡ begun_by old site serial =
      ap (attempt_of old.thread) one.0 ∙ ap₂ (λ s n. record { thread = old.thread; site = s; serial = n }) own number in
      let ours_same : attempt_of mid.thread ours ≡ attempt_of old.thread l =
      ap (λ t. attempt_of t ours) thread ∙ sym (ap (attempt_of old.thread) one.0) in
      inr (
        learns.attempts ∙ (begun-attempts site serial old mid begins ∙ sym (ap (λ a. old.attempts ++ a ∷ []) same)),
        one.1 ∙ ap₂ (λ xs a. xs ++ a ∷ []) kept ours_same,
      ))
      records

-- ---- what is known of a site by then

-- a site that is not linked is not among those that are
pub learnt-not : {A : Type 0} (o : Option ℕ) → o ≡ None → IsSome o → A
learnt-not o none some = let none_some : is_some o ≡ false = ap is_some none in absurd cc

-- a fact that holds whatever a call answered holds where it was refused
pub on-err : {A E : Type 0} (r : Result A E) (P : Type 0) → P → OnErr r P
on-err (Ok x) P p = tt
on-err (Err e) P p = p

-- a linkage that was recorded after more was learnt
pub latest-learnt : (old mid new : LinkPass) (r : Result (Bor LinkageView) WorkError) → LearnsSites old mid → mid.recorded ≡ old.recorded →
    IfOk r (λ l. RecordsLatest l.now mid new) → IfOk r (λ l. RecordsLatest l.now old new)
latest-learnt old mid new (Err e) learns kept latest = tt
latest-learnt old mid new (Ok l) learns kept latest =
    ⊎_elim
    (λ (none : new.recorded ≡ mid.recorded). inl (none ∙ kept))
    (λ (one : (new.attempts ≡ mid.attempts ++ attempt_of mid.thread l.now ∷ []) × (new.recorded ≡ mid.recorded ++ attempt_of mid.thread l.now ∷ [])).
    inr (
      one.0 ∙ ap₂ (λ xs t. xs ++ attempt_of t l.now ∷ []) learns.attempts learns.thread,
      one.1 ∙ ap₂ (λ xs t. xs ++ attempt_of t l.now ∷ []) kept learns.thread,
    ))
    latest
