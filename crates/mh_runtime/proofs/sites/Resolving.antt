-- How a site is resolved: of one that the pass had learnt, and of one that it attempts after it has learnt more.
use Rattle.std.proofs.Common.{◌≡◌, refl, sym, ◌∙◌, ap, subst, ℕ, ◌+◌, ◌≤◌, [], ◌∷◌, ◌++◌, append-nil, length, None, Some, Result, Ok, Err, inl, arith}
use denote.Ref.{Bor}
use Rattle.std.specs.Prelude.{IfOk, IsErrAnd, OnErr, OnOk}
use Rattle.mh_cells.specs.Values.{value_at}
use Rattle.mh_tickets.specs.Seats.{SeatView}
use Rattle.mh_handle.specs.declared.work.Work.{Work}
use Rattle.mh_handle.proofs.obeying.Going.{goes_on-more, goes_on-still}
use Rattle.mh_jobs.specs.Given.{Given, under}
use Rattle.mh_link.specs.Named.{run_of}
use Rattle.mh_condy.specs.Nodes.{found_in, unresolved}
use Rattle.mh_condy.specs.Passes.{IsPass, PassView}
use Rattle.mh_condy.specs.Resolving.{GoesOnResolving}
use Rattle.mh_condy.specs.Trails.{GoesBeside, trail_of}
use Rattle.mh_condy.proofs.Beside.{beside-none}
use Rattle.mh_condy.proofs.Drawing.{on-none}
use Rattle.mh_condy.proofs.Ends.{own-nodes}
use Rattle.mh_attempt.specs.declared.error.WorkError.{WorkError}
use Rattle.mh_attempt.specs.Linkage.{LinkageView}
use Rattle.mh_report.specs.Results.{serial_at}
use Rattle.mh_runtime.specs.Asking.{HasAskedOn, HasRunOn, RunsOn, RunsOnTypes, call_draws}
use Rattle.mh_runtime.specs.Attempts.{AsksMore, GoesOnLinking, looked_at}
use Rattle.mh_runtime.specs.Linkers.{Resolves, pass_in}
use Rattle.mh_runtime.specs.Linking.{HoldsRecorded}
use Rattle.mh_runtime.specs.Passes.{IsLinkageOf, LearnsSites, LinkPass}
use Rattle.mh_runtime.proofs.constants.Asking.{drawn-same}
use Rattle.mh_runtime.proofs.sites.LinkSteps.{attempts-learn, attempts-learnt, latest-learnt, learnt-not, on-err}
use Rattle.mh_runtime.proofs.types.RecordedTypes.{still-whole}
use Rattle.mh_runtime.proofs.asking.RunSteps.{runs-none}
use Rattle.mh_runtime.proofs.asking.SeatAsked.{on-none as seat-none}
use Rattle.mh_runtime.proofs.types.SeatTypes.{keeps-recorded, keeps-still}
use Rattle.mh_runtime.proofs.sites.ThreadSteps.{links-both, unlearnt-before, unlearnt-both, unlearnt-same}
use Rattle.mh_runtime.proofs.asking.WorkPasses.{goes-calling}

-- a fact of an answer holds where there is none
pub if-err : {A E : Type 0} (r : Result A E) (Q : E → Type 0) (P : A → Type 0) → IsErrAnd r Q → IfOk r P
if-err (Ok x) Q P is = absurd is
if-err (Err e) Q P is = tt

-- the pass has learnt more, and no serial was drawn
links-learn : (old new : LinkPass) (n : ℕ) → LearnsSites old new → GoesOnLinking n old new
links-learn old new n learns = record {
  linker = learns.linker;
  thread = learns.thread;
  linked = learns.linked;
  room = let same = ap (λ (s : SeatView). s.room) learns.seat in omega (arith, same);
  whole = ap (λ (s : SeatView). s.room + length s.numbers) learns.seat;
  linkages = learns.linkages;
  constants = subst (GoesOnResolving old.constants) (sym learns.constants) (on-none old.constants);
}

-- no attempt was made
pub asks-none : (given : Given) (old new : LinkPass) → IsPass (run_of given) new.constants → LearnsSites old new → AsksMore given old new
asks-none given old new is learns = record {
  more = [];
  are = learns.attempts ∙ sym (append-nil old.attempts);
  goes = subst (λ (k : PassView). GoesBeside (run_of given) [] (trail_of k) (trail_of new.constants)) learns.constants
      (beside-none (run_of given) (trail_of new.constants) (own-nodes (run_of given) new.constants is));
}

-- an attempt was made after more was learnt
asks-learnt : {A E : Type 0} (given : Given) (old mid new : LinkPass) (r : Result A E) → LearnsSites old mid → OnOk r (AsksMore given mid new) →
    OnOk r (AsksMore given old new)
asks-learnt given old mid new (Err e) learns asks = tt
asks-learnt given old mid new (Ok x) learns asks = record {
  more = asks.more;
  are = asks.are ∙ ap (λ all. all ++ asks.more) learns.attempts;
  goes = subst (λ (k : PassView). GoesBeside (run_of given) (looked_at given (found_in new.constants.known) asks.more) (trail_of k) (trail_of new.constants))
      learns.constants asks.goes;
}

module _ {J : Type 0} (given : Given) (site : ℕ) where
  -- the pass had learnt the site, or its cell shows a linkage now
  pub resolves-learnt : (old new : LinkPass) (w : Work) (l : Bor LinkageView) → IsPass (run_of given) new.constants → LearnsSites old new →
      new.recorded ≡ old.recorded → IsLinkageOf new.linked site l.now → value_at new.linkages site ≡ Some l.now → Resolves {J = J} given site (pass_in old w)
      (pass_in new w) (Ok l)
  resolves-learnt old new w l is_pass learns kept is value = record {
    goes_on = goes-calling 1 old new w w (links-learn old new 1 learns) (goes_on-more 0 call_draws w w (omega arith) (goes_on-still w));
    linked = is;
    value = value;
    resolved = tt;
    learnt = λ some. record { learns = learns; recorded = kept; forms = refl; types = refl };
    attempts = attempts-learn site old new learns;
    unlearnt = unlearnt-same old new learns.attempts;
    latest = inl kept;
    failed = tt;
    asks = asks-none given old new is_pass learns;
    drawn = drawn-same old new learns.constants;
    quiet = λ same. learns.constants;
    lacks = tt;
    seat = still-whole w.seat.now;
    types = λ known agrees. subst (λ after. HoldsRecorded (under known given) old.recorded after w.seat.now w.seat.now) (sym kept)
        (keeps-recorded (under known given) old.recorded w w (keeps-still w w refl));
    runs = λ known agrees. subst (λ after. HasRunOn (under known given) old.attempts after [] w.pass.now w.pass.now) (sym learns.attempts)
        (runs-none (under known given) old.attempts w.pass.now);
    asked = λ known agrees. subst (λ after. HasAskedOn (under known given) old.attempts after [] w.seat.now w.seat.now) (sym learns.attempts)
        (seat-none (under known given) old.attempts w.seat.now);
  }

  -- the site was attempted after the pass had learnt more
  pub resolves-more : (old mid new : LinkPass) (w w' : Work) (r : Result (Bor LinkageView) WorkError) → LearnsSites old mid →
      mid.recorded ≡ old.recorded → serial_at mid.linked site ≡ None → Resolves {J = J} given site (pass_in mid w) (pass_in new w') r →
      Resolves {J = J} given site (pass_in old w) (pass_in new w') r
  resolves-more old mid new w w' r learns kept none resolves =
      let before = unlearnt-before old.linked mid.linked site learns.linked none in
      record {
        goes_on = record {
          links = links-both 0 1 old mid new (links-learn old mid 0 learns) resolves.goes_on.links;
          table = resolves.goes_on.table;
          learnt = resolves.goes_on.learnt;
          room = resolves.goes_on.room;
          seat = resolves.goes_on.seat;
          holds = resolves.goes_on.holds;
        };
        linked = resolves.linked;
        value = resolves.value;
        resolved = on-err r (serial_at old.linked site ≡ None) before;
        learnt = learnt-not (serial_at old.linked site) before;
        attempts = attempts-learnt (site ∷ []) old mid new learns resolves.attempts;
        unlearnt = unlearnt-both old mid new learns.linked (unlearnt-same old mid learns.attempts) resolves.unlearnt;
        latest = latest-learnt old mid new r learns kept resolves.latest;
        failed = subst (λ before. OnErr r (new.recorded ≡ before)) kept resolves.failed;
        asks = asks-learnt given old mid new r learns resolves.asks;
        drawn = subst (λ (k : PassView). k.seat.room ≤ unresolved k.known + new.constants.seat.room) learns.constants resolves.drawn;
        quiet = λ same. resolves.quiet (same ∙ sym learns.attempts) ∙ learns.constants;
        lacks = resolves.lacks;
        seat = resolves.seat;
        types = λ known agrees. subst (λ before. HoldsRecorded (under known given) before new.recorded w.seat.now w'.seat.now) kept
            (resolves.types known agrees);
        runs = λ known agrees. subst (λ before. RunsOn (under known given) before new.attempts [] w.pass.now w'.pass.now r) learns.attempts
            (resolves.runs known agrees);
        asked = λ known agrees. subst (λ before. RunsOnTypes (under known given) before new.attempts [] w.seat.now w'.seat.now r) learns.attempts
            (resolves.asked known agrees);
      }
