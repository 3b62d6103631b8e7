-- What resolving a constant leaves of a pass, in each of the ways in which it ends.
use Rattle.std.proofs.Common.{◌≡◌, refl, sym, ◌∙◌, ap, ap₂, subst, ℕ, suc, ◌+◌, ◌<◌, ◌≤◌, false, ◌⊎◌, inl, inr, List, [], ◌∷◌, ◌++◌, None, Some, Ok, Err, length, map, set, arith}
use Rattle.std.specs.Prelude.{All, Contains, IfOk, IsErrAnd, IsSome, OnErr, Result, is_some}
use Rattle.std.proofs.lemmas.List.{map_push}
use Rattle.std.proofs.lemmas.List.Elements.{All-head, All-tail, Contains-append_left, Contains-push}
use Rattle.std.proofs.lemmas.Bool.{both_ways}
use denote.Ref.{Bor}
use Rattle.mh_base.specs.declared.memory.NoMemory.{NoMemory}
use Rattle.mh_link.specs.Named.{Constants, AreConstJobs}
use Rattle.mh_link.specs.Depth.{rank}
use Rattle.mh_link.specs.Places.{is_in, Has}
use Rattle.mh_link.specs.Asking.{asked_by}
use Rattle.mh_link.specs.Constants.{const_under}
use Rattle.mh_link.proofs.walking.Places.{has-cons}
use Rattle.mh_condy.specs.declared.pass.ConstAttempt.{ConstAttempt}
use Rattle.mh_condy.specs.Recorded.{ConstView, IsConst, constants_of}
use Rattle.mh_condy.specs.Given.{HasMade}
use Rattle.mh_condy.specs.Nodes.{AreNodes, IsNodeOf, Keeps, Knows, found_in, is_known, node_in, unknown}
use Rattle.mh_condy.specs.Passes.{Begins, IsPass, IsRecorded, Learns, Looks, PassView, Records, attempt_of}
use Rattle.mh_condy.specs.Resolving.{DrawsFew, GoesOnResolving, Resolves}
use Rattle.mh_condy.specs.Trails.{AreOwnNodes, GoesBeside, HasPutAll, trail_of}
use Rattle.mh_condy.proofs.Trails.{known-at}
use Rattle.mh_condy.proofs.Beside.{beside-found, beside-known, beside-new, still-unknown}
use Rattle.mh_condy.proofs.Founds.{const-asked, const-node, const-value}
use Rattle.mh_condy.proofs.Unknown.{put-there, unknown-less, unknown-more}
use Rattle.mh_condy.proofs.Drawing.{on-begins, on-both, on-fails, on-learns, on-none, on-puts}

-- ---- the nodes that a pass has put

-- one of the recorded attempts is of the constant
record OfConstant (run : Constants) (pass : PassView) (c : ℕ) : Type 0 where
  attempt : ConstAttempt
  of : attempt.constant ≡ c
  is : IsRecorded pass.known pass.attempts attempt

of-constant : (run : Constants) (pass : PassView) (recorded : List ConstAttempt) → All (IsRecorded pass.known pass.attempts) recorded → (c : ℕ) →
    Has (map (λ a. a.constant) recorded) c → OfConstant run pass c
of-constant run pass [] all c h = absurd (both_ways (is_in [] c) refl h)
of-constant run pass (a ∷ recorded) all c h = elim (has-cons a.constant (map (λ b. b.constant) recorded) c h) [
  | inl e ↦ record { attempt = a; of = e; is = All-head (IsRecorded pass.known pass.attempts) a recorded all }
  | inr there ↦ of-constant run pass recorded (All-tail (IsRecorded pass.known pass.attempts) a recorded all) c there
]

pub own-nodes : (run : Constants) (pass : PassView) → IsPass run pass → AreOwnNodes run (trail_of pass)
own-nodes run pass is = record {
  each = λ c node at h.
      let r = of-constant run pass pass.recorded is.attempts.recorded_are c h in
      let there : node_in pass.known c ≡ Some r.is.node = ap (node_in pass.known) (sym r.of) ∙ r.is.at in
      let same : r.is.node ≡ node = let s : Some r.is.node ≡ Some node = sym there ∙ at in cc in
      let const = is.known.nodes.each c r.is.node there in
      subst (IsNodeOf run pass.known c) same
      (subst (λ x. IsNodeOf run pass.known x r.is.node) const.0 (const-node run pass.known r.is.node const.1 r.is.under));
  there = λ c h.
      let r = of-constant run pass pass.recorded is.attempts.recorded_are c h in
      ap (is_known pass.known) (sym r.of) ∙ known-at pass.known r.attempt.constant r.is.node r.is.at;
}

-- a pass that has put all that it knows knows what each constant is
pub all-put : (run : Constants) (pass : PassView) → IsPass run pass → HasPutAll (trail_of pass) → AreNodes run pass.known
all-put run pass is all = record { each = λ c node at. (own-nodes run pass is).each c node at (all c (known-at pass.known c node at)) }

-- ---- the ends of a call

module _ (run : Constants) (c : ℕ) (p : PassView) (is : IsPass run p) (within : c < length run.jobs) where
  place : c < length p.known
  place = let count = is.known.count in omega arith

  -- the constant was known
  pub resolves-known : (node : Bor ConstView) → node_in p.known c ≡ Some node.now → Resolves run c p p (Ok node)
  resolves-known node at = record {
    goes_on = on-none p;
    found = at;
    resolved = tt;
    learnt = λ some. refl;
    goes = beside-known run (trail_of p) c (own-nodes run p is) (known-at p.known c node.now at);
    few = omega arith;
  }

  -- it is learnt of its cell
  pub resolves-found : (q : PassView) (node : Bor ConstView) → Learns c node.now p q → Resolves run c p q (Ok node)
  resolves-found q node l =
      let known : q.known ≡ _ = ap (λ (x : PassView). x.known) l.1 in
      record {
        goes_on = on-learns c node.now p q l place;
        found = ap (λ ks. node_in ks c) known ∙ put-there p.known c node.now place;
        resolved = tt;
        learnt = λ some. absurd (both_ways false refl (subst (λ o. IsSome o) l.0 some));
        goes = beside-found run (trail_of p) (trail_of q) c node.now (own-nodes run p is) (ap is_some l.0) place known
            (ap (λ (x : PassView). map (λ a. a.constant) x.attempts) l.1) (ap (λ (x : PassView). x.seat.room) l.1)
            (ap (λ (x : PassView). map (λ a. a.constant) x.recorded) l.1);
        few = let same : q.seat.room ≡ p.seat.room = ap (λ (x : PassView). x.seat.room) l.1 in omega (arith, same);
      }

  -- one or the other
  pub resolves-seen : (q : PassView) (node : Bor ConstView) → Looks c p q (Some node) → Resolves run c p q (Ok node)
  resolves-seen q node looks = elim looks [
    | inl known ↦ subst (λ x. Resolves run c p x (Ok node)) (sym known.1) (resolves-known node known.0)
    | inr learns ↦ resolves-found q node learns
  ]

  -- an attempt may be begun of one that is not known
  module _ (new : node_in p.known c ≡ None) (room : unknown (rank run) (suc (rank run c)) p.known ≤ p.seat.room) where
    less : unknown (rank run) (rank run c) p.known + 1 ≤ unknown (rank run) (suc (rank run c)) p.known
    less = unknown-less (rank run) (rank run c) (suc (rank run c)) p.known c place new (omega arith) (omega arith)

    pub room-once : 1 ≤ p.seat.room
    room-once = let l = less in omega (arith, l, room)

    -- and leaves room for those that stand less deep
    pub room-below : (serial : ℕ) (q : PassView) → Begins c serial p q → unknown (rank run) (rank run c) q.known ≤ q.seat.room
    room-below serial q begins =
        let l = less in
        let drawn = begins.draws.room in
        let same : unknown (rank run) (rank run c) q.known ≡ unknown (rank run) (rank run c) p.known =
        ap (λ (x : PassView). unknown (rank run) (rank run c) x.known) begins.is in
        omega (arith, l, room, drawn, same)

  -- its attempt draws one serial more than those that stand less deep
  pub few-begun : (serial : ℕ) (p' q : PassView) → node_in p.known c ≡ None → Begins c serial p p' → DrawsFew run (rank run c) p' q →
      DrawsFew run (suc (rank run c)) p q
  few-begun serial p' q new begins few =
      let l = unknown-less (rank run) (rank run c) (suc (rank run c)) p.known c place new (omega arith) (omega arith) in
      let drawn = begins.draws.room in
      let same : unknown (rank run) (rank run c) p'.known ≡ unknown (rank run) (rank run c) p.known =
      ap (λ (x : PassView). unknown (rank run) (rank run c) x.known) begins.is in
      omega (arith, l, few, drawn, same)

-- nothing was drawn
pub few-none : (run : Constants) (c : ℕ) (p q : PassView) → q ≡ p → DrawsFew run (suc (rank run c)) p q
few-none run c p q same = let room : q.seat.room ≡ p.seat.room = ap (λ (x : PassView). x.seat.room) same in omega (arith, room)

-- constants of ranks below a number were gone through, and then one more, however that ended
pub few-then : (run : Constants) (under : ℕ) (old now new : PassView) (c : ℕ) → rank run c < under →
    unknown (rank run) under now.known + old.seat.room ≤ unknown (rank run) under old.known + now.seat.room →
    DrawsFew run (suc (rank run c)) now new → DrawsFew run under old new
few-then run under old now new c low drawn few =
    let more = unknown-more (rank run) (suc (rank run c)) under now.known low in
    omega (arith, drawn, few, more)

-- memory ran out, and the constant was not known
pub resolves-not : (run : Constants) (c : ℕ) (p q : PassView) (e : NoMemory) → node_in p.known c ≡ None → GoesOnResolving p q →
    DrawsFew run (suc (rank run c)) p q → Resolves run c p q (Err e)
resolves-not run c p q e new on few = record {
  goes_on = on;
  found = tt;
  resolved = new;
  learnt = λ some. absurd (both_ways false refl (subst (λ o. IsSome o) new some));
  goes = tt;
  few = few;
}

pub resolves-handed : (run : Constants) (c : ℕ) (p q : PassView) (result : Result (Bor ConstView) NoMemory) (P : NoMemory → Type 0) → IsErrAnd result P →
    node_in p.known c ≡ None → GoesOnResolving p q → DrawsFew run (suc (rank run c)) p q → Resolves run c p q result
resolves-handed run c p q (Ok node) P handed new on few = absurd handed
resolves-handed run c p q (Err e) P handed new on few = resolves-not run c p q e new on few

-- the attempt that has made it is one of the pass's
abbrev tried : ℕ → ℕ → ℕ → ConstAttempt
tried thread c serial = record { thread = thread; constant = c; serial = serial }

pub attempted : (c serial : ℕ) (p p' q : PassView) (made : ConstView) → made.job.number ≡ c → made.serial ≡ serial → Begins c serial p p' →
    GoesOnResolving p' q → Contains q.attempts (attempt_of q.thread made)
attempted c serial p p' q made number drawn begins on =
    let thread : q.thread ≡ p.thread = on.thread ∙ ap (λ (x : PassView). x.thread) begins.is in
    let same : tried p.thread c serial ≡ attempt_of q.thread made =
    ap (λ t. tried t c serial) (sym thread) ∙ ap₂ (λ n s. tried q.thread n s) (sym number) (sym drawn) in
    subst (λ all. Contains all (attempt_of q.thread made)) (sym on.attempts.attempts)
    (Contains-append_left p'.attempts on.attempts.more (attempt_of q.thread made)
    (subst (λ all. Contains all (attempt_of q.thread made)) (sym (ap (λ (x : PassView). x.attempts) begins.is))
    (subst (Contains (p.attempts ++ tried p.thread c serial ∷ [])) same (Contains-push p.attempts (tried p.thread c serial)))))

-- an attempt has made something of it, and that or something else is recorded then
module _ (run : Constants) (named : AreConstJobs run) (p p' q : PassView) (made : ConstView) (is : IsConst run made)
    (within : made.job.number < length p.known) (new : node_in p.known made.job.number ≡ None) (begins : Begins made.job.number made.serial p p')
    (on : GoesOnResolving p' q) (knows : All (Knows q.known) made.under)
    (goes : GoesBeside run (constants_of made.under) (trail_of p') (trail_of q)) (few : DrawsFew run (suc (rank run made.job.number)) p q) where
  abbrev c : ℕ
  c = made.job.number

  asks : GoesBeside run (asked_by run (found_in q.known) c) (trail_of p') (trail_of q)
  asks = subst (λ cs. GoesBeside run cs (trail_of p') (trail_of q)) (const-asked run q.known made is knows) goes

  same : p'.known ≡ p.known
  same = ap (λ (x : PassView). x.known) begins.is

  -- it is not known yet when its attempt ends
  pub unknown-then : node_in q.known c ≡ None
  unknown-then = still-unknown run named (trail_of p') (trail_of q) c asks (ap (λ known. is_known known c) same ∙ ap is_some new)

  within-then : c < length q.known
  within-then =
      let one : length p'.known ≡ length p.known = ap length same in
      let two = on.known.places in
      omega (arith, one, two)

  module _ (r : PassView) (node : Bor ConstView) (records : Records made node.now q r) where
    abbrev Whose : Type 0
    Whose =
        ((map (λ a. a.constant) r.recorded ≡ map (λ a. a.constant) q.recorded ++ c ∷ [])
        × (node.now.value ≡ const_under run (found_in q.known) c node.now.serial))
        ⊎ (map (λ a. a.constant) r.recorded ≡ map (λ a. a.constant) q.recorded)

    -- what the record has changed
    record Ends : Type 0 where
      goes_on : GoesOnResolving q r
      known : r.known ≡ set q.known c (Some node.now)
      attempts : r.attempts ≡ q.attempts
      room : r.seat.room ≡ q.seat.room
      whose : Whose

    ends : Ends
    ends = elim records [
      | inl mine ↦ record {
        goes_on = on-puts made q r unknown-then within-then mine.1;
        known = ap (λ (x : PassView). x.known) mine.1 ∙ ap (λ v. set q.known c (Some v)) (sym mine.0);
        attempts = ap (λ (x : PassView). x.attempts) mine.1;
        room = ap (λ (x : PassView). x.seat.room) mine.1;
        whose = inl (
          ap (λ (x : PassView). map (λ a. a.constant) x.recorded) mine.1 ∙ map_push (λ a. a.constant) q.recorded (attempt_of q.thread made),
          subst (λ (v : ConstView). v.value ≡ const_under run (found_in q.known) c v.serial) (sym mine.0) (const-value run q.known made is knows),
        );
      }
      | inr theirs ↦ record {
        goes_on = on-learns c node.now q r theirs within-then;
        known = ap (λ (x : PassView). x.known) theirs.1;
        attempts = ap (λ (x : PassView). x.attempts) theirs.1;
        room = ap (λ (x : PassView). x.seat.room) theirs.1;
        whose = inr (ap (λ (x : PassView). map (λ a. a.constant) x.recorded) theirs.1);
      }
    ]

    pub resolves-made : Resolves run c p r (Ok node)
    resolves-made = record {
      goes_on = on-both p p' r (on-begins c made.serial p p' begins) (on-both p' q r on ends.goes_on);
      found = ap (λ ks. node_in ks c) ends.known ∙ put-there q.known c node.now within-then;
      resolved = tt;
      learnt = λ some. absurd (both_ways false refl (subst (λ o. IsSome o) new some));
      goes = beside-new run named (trail_of p) (trail_of p') (trail_of q) (trail_of r) c node.now (ap is_some new) within same
          (ap (λ (x : PassView). map (λ a. a.constant) x.recorded) begins.is)
          (ap (λ (x : PassView). map (λ a. a.constant) x.attempts) begins.is
          ∙ map_push (λ a. a.constant) p.attempts (record { thread = p.thread; constant = c; serial = made.serial }))
          (let room = begins.draws.room in omega arith) asks ends.known (ap (map (λ a. a.constant)) ends.attempts) ends.room ends.whose;
      few = let same = ends.room in omega (arith, few, same);
    }

-- ---- the end of an attempt

module _ (run : Constants) (named : AreConstJobs run) (c serial : ℕ) (p p' q : PassView) (made : ConstView) (is : IsConst run made)
    (within : c < length p.known) (new : node_in p.known c ≡ None) (begins : Begins c serial p p') (on : GoesOnResolving p' q)
    (has : HasMade run c serial p' q made) (few : DrawsFew run (suc (rank run c)) p q) where
  number : made.job.number ≡ c
  number = has.number

  knows : All (Knows q.known) made.under
  knows = has.knows

  goes : GoesBeside run (constants_of made.under) (trail_of p') (trail_of q)
  goes = has.goes

  begins-made : Begins made.job.number made.serial p p'
  begins-made = subst (λ x. Begins x made.serial p p') (sym number) (subst (λ s. Begins c s p p') (sym has.drawn) begins)

  within-made : made.job.number < length p.known
  within-made = subst (λ x. x < length p.known) (sym number) within

  new-made : node_in p.known made.job.number ≡ None
  new-made = ap (node_in p.known) number ∙ new

  few-made : DrawsFew run (suc (rank run made.job.number)) p q
  few-made = subst (λ x. DrawsFew run (suc (rank run x)) p q) (sym number) few

  pub ended-unknown : node_in q.known made.job.number ≡ None
  ended-unknown = unknown-then run named p p' q made is within-made new-made begins-made on knows goes few-made

  pub ended-resolves : (r : PassView) (result : Result (Bor ConstView) NoMemory) → IfOk result (λ node. Records made node.now q r) →
      OnErr result (r ≡ record q { known = r.known }) → Keeps q.known r.known → Resolves run c p r result
  ended-resolves r (Ok node) records failed keeps =
      subst (λ x. Resolves run x p r (Ok node)) number
      (resolves-made run named p p' q made is within-made new-made begins-made on knows goes few-made r node records)
  ended-resolves r (Err e) records failed keeps =
      resolves-not run c p r e new
      (on-both p p' r (on-begins c serial p p' begins) (on-both p' q r on (on-fails q r keeps failed)))
      (let same : r.seat.room ≡ q.seat.room = ap (λ (x : PassView). x.seat.room) failed in omega (arith, few, same))
