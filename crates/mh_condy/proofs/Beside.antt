-- How a pass goes on over constants beside others.
use Rattle.std.proofs.Common.{◌≡◌, refl, sym, ◌∙◌, ap, subst, ℕ, suc, ◌+◌, ◌<◌, Bool, true, false, ◌⊎◌, inl, inr, List, [], ◌∷◌, ◌++◌, append-nil, append_assoc, Some, None, length, set, arith}
use Rattle.std.specs.Prelude.{is_some}
use Rattle.std.proofs.lemmas.Bool.{both_ways, false_from_ne_true, or_from}
use Rattle.std.proofs.lemmas.List.{length-set}
use Rattle.std.proofs.lemmas.List.Concat.{flat_map-append}
use Rattle.mh_condy.specs.Recorded.{ConstView}
use Rattle.mh_link.specs.Named.{Constants, AreConstJobs}
use Rattle.mh_link.specs.Depth.{most_depth, rank}
use Rattle.mh_link.specs.Constants.{const_under}
use Rattle.mh_link.specs.Places.{is_in, Has}
use Rattle.mh_link.specs.Asking.{asked_by, below, with_below}
use Rattle.mh_condy.specs.Nodes.{Nodes, node_in, found_in, is_known, IsNodeOf, AreNodes, Keeps, unknown}
use Rattle.mh_condy.specs.Trails.{Trail, AreOwnNodes, HasPutAll, AreApart, AttemptsMore, GoesBeside, GoesOn, PutBy}
use Rattle.mh_link.proofs.walking.Places.{has-append, has-cons, has-here, has-left, has-right, has-there, in-append}
use Rattle.mh_condy.proofs.Unknown.{put-other, put-there, unknown-put}
use Rattle.mh_link.proofs.constants.Asked.{agree-each, rank-falls, under-same}
use Rattle.mh_link.proofs.walking.Asking.{below-again}
use Rattle.mh_condy.proofs.Trails.{found-kept, goes-both, goes-known, goes-new, goes-none, keeps-both, keeps-same, known-at, known-kept, none-at, noted}

-- ---- lists

none-in : (k : ℕ) → Has [] k → ⊥
none-in k h = both_ways false refl h

apart-append : (xs ys : List ℕ) → AreApart xs → AreApart ys → ((k : ℕ) → Has xs k → is_in ys k ≡ false) → AreApart (xs ++ ys)
apart-append [] ys a b off = b
apart-append (x ∷ xs) ys a b off = (
  in-append xs ys x ∙ or_from (is_in xs x) (is_in ys x) a.0 (off x (has-here x xs)),
  apart-append xs ys a.1 b (λ k h. off k (has-there x xs k h)),
)

none-of : (b : Bool) → b ≡ true → b ≡ false → ⊥
none-of b t f = both_ways b f t

-- what an own node looks at is known
pub own-kept : (run : Constants) (known later : Nodes) → Keeps known later → (c : ℕ) (node : ConstView) → IsNodeOf run known c node → IsNodeOf run later c node
own-kept run known later keeps c node is =
    let same = under-same run (found_in known) (found_in later) c (agree-each (found_in known) (found_in later) (asked_by run (found_in known) c)
    (λ d h. found-kept known later keeps d (is.below d h))) in
    record {
      is = is.is ∙ same.0 node.serial;
      below = λ d h. known-kept known later keeps d (is.below d (subst (λ xs. Has xs d) (sym same.1) h));
    }

-- ---- one after the other

pub beside-none : (run : Constants) (p : Trail) → AreOwnNodes run p → GoesBeside run [] p p
beside-none run p own = record {
  sound = own;
  keeps = keeps-same p.known;
  known = λ c h. absurd (none-in c h);
  above = λ r low k high. refl;
  attempts = record {
    more = [];
    are = sym (append-nil p.attempts);
    apart = tt;
    fresh = λ c h. absurd (none-in c h);
    known = λ c h. absurd (none-in c h);
    asked = λ all keeps nodes c h. absurd (none-in c h);
    under = λ r low c h. absurd (none-in c h);
  };
  put = λ c h. h;
  put_new = λ c h. inl h;
  room = λ r low. omega arith;
  alone = λ all nodes. goes-none run p nodes;
}

module _ (run : Constants) (cs ds : List ℕ) (p q r : Trail) (first : GoesBeside run cs p q) (second : GoesBeside run ds q r) where
  before : (n : ℕ) → ((c : ℕ) → Has (cs ++ ds) c → rank run c < n) → (c : ℕ) → Has cs c → rank run c < n
  before n low c h = low c (has-left cs ds c h)

  after : (n : ℕ) → ((c : ℕ) → Has (cs ++ ds) c → rank run c < n) → (c : ℕ) → Has ds c → rank run c < n
  after n low c h = low c (has-right cs ds c h)

  with-append : (own : ℕ → List ℕ) (k : ℕ) → Has (with_below own most_depth cs) k ⊎ Has (with_below own most_depth ds) k →
      Has (with_below own most_depth (cs ++ ds)) k
  with-append own k h =
      subst (λ xs. Has xs k) (sym (flat_map-append (λ c. c ∷ below own most_depth c) cs ds)) (elim h [
        | inl a ↦ has-left (with_below own most_depth cs) (with_below own most_depth ds) k a
        | inr b ↦ has-right (with_below own most_depth cs) (with_below own most_depth ds) k b
      ])

  both-more : AttemptsMore run (cs ++ ds) p r
  both-more = record {
    more = first.attempts.more ++ second.attempts.more;
    are = second.attempts.are ∙ (ap (λ xs. xs ++ second.attempts.more) first.attempts.are ∙ append_assoc p.attempts first.attempts.more second.attempts.more);
    apart = apart-append first.attempts.more second.attempts.more first.attempts.apart second.attempts.apart (λ k h.
        false_from_ne_true (is_in second.attempts.more k) (λ again.
        none-of (is_known q.known k) (first.attempts.known k h) (second.attempts.fresh k again)));
    fresh = λ c h. elim (has-append first.attempts.more second.attempts.more c h) [
      | inl a ↦ first.attempts.fresh c a
      | inr b ↦ false_from_ne_true (is_known p.known c) (λ was.
          none-of (is_known q.known c) (known-kept p.known q.known first.keeps c was) (second.attempts.fresh c b))
    ];
    known = λ c h. elim (has-append first.attempts.more second.attempts.more c h) [
      | inl a ↦ known-kept q.known r.known second.keeps c (first.attempts.known c a)
      | inr b ↦ second.attempts.known c b
    ];
    asked = λ all keeps nodes c h. with-append (asked_by run (found_in all)) c (elim (has-append first.attempts.more second.attempts.more c h) [
      | inl a ↦ inl (first.attempts.asked all (keeps-both q.known r.known all second.keeps keeps) nodes c a)
      | inr b ↦ inr (second.attempts.asked all keeps nodes c b)
    ]);
    under = λ n low c h. elim (has-append first.attempts.more second.attempts.more c h) [
      | inl a ↦ first.attempts.under n (before n low) c a
      | inr b ↦ second.attempts.under n (after n low) c b
    ];
  }

  -- a pass that has put all in the end had put all before
  put-before : HasPutAll r → HasPutAll q
  put-before all k h = elim (second.put_new k (all k (known-kept q.known r.known second.keeps k h))) [
    | inl was ↦ was
    | inr unknown ↦ absurd (none-of (is_known q.known k) h unknown)
  ]

  pub beside-both : GoesBeside run (cs ++ ds) p r
  beside-both = record {
    sound = second.sound;
    keeps = keeps-both p.known q.known r.known first.keeps second.keeps;
    known = λ c h. elim (has-append cs ds c h) [
      | inl a ↦ known-kept q.known r.known second.keeps c (first.known c a)
      | inr b ↦ second.known c b
    ];
    above = λ n low k high. second.above n (after n low) k high ∙ first.above n (before n low) k high;
    attempts = both-more;
    put = λ c h. second.put c (first.put c h);
    put_new = λ c h. elim (second.put_new c h) [
      | inl was ↦ first.put_new c was
      | inr unknown ↦ inr (false_from_ne_true (is_known p.known c) (λ was.
          none-of (is_known q.known c) (known-kept p.known q.known first.keeps c was) unknown))
    ];
    room = λ n low. let a = first.room n (before n low) in let b = second.room n (after n low) in omega arith;
    alone = λ all nodes.
        let goes = first.alone (put-before all) nodes in
        goes-both run cs ds p q r goes (second.alone all goes.sound);
  }

-- ---- one constant

one-known : (known : Nodes) (c : ℕ) → is_known known c ≡ true → (d : ℕ) → Has (c ∷ []) d → is_known known d ≡ true
one-known known c there d h = elim (has-cons c [] d h) [ inl e ↦ subst (λ x. is_known known x ≡ true) e there | inr none ↦ absurd (none-in d none) ]

pub beside-known : (run : Constants) (p : Trail) (c : ℕ) → AreOwnNodes run p → is_known p.known c ≡ true → GoesBeside run (c ∷ []) p p
beside-known run p c own there = record {
  sound = own;
  keeps = keeps-same p.known;
  known = one-known p.known c there;
  above = λ r low k high. refl;
  attempts = record {
    more = [];
    are = sym (append-nil p.attempts);
    apart = tt;
    fresh = λ c h. absurd (none-in c h);
    known = λ c h. absurd (none-in c h);
    asked = λ all keeps nodes c h. absurd (none-in c h);
    under = λ r low c h. absurd (none-in c h);
  };
  put = λ c h. h;
  put_new = λ c h. inl h;
  room = λ r low. omega arith;
  alone = λ all nodes. goes-known run p c nodes there;
}

-- a node is put, or found in its cell
module _ (old new : Nodes) (c : ℕ) (node : ConstView) (place : c < length old) (none : node_in old c ≡ None) (put : new ≡ set old c (Some node)) where
  pub there : node_in new c ≡ Some node
  there = ap (λ known. node_in known c) put ∙ put-there old c node place

  pub elsewhere : (k : ℕ) → (c ≡ k → ⊥) → node_in new k ≡ node_in old k
  elsewhere k other = ap (λ known. node_in known k) put ∙ put-other old c k node other

  pub keeps-put : Keeps old new
  keeps-put = record {
    kept = λ k n at. elsewhere k (λ e. let no : node_in old k ≡ None = subst (λ x. node_in old x ≡ None) e none in cc) ∙ at;
    places = ap length put ∙ length-set old c (Some node);
  }

-- one that is not known is found in its cell
module _ (run : Constants) (p r : Trail) (c : ℕ) (node : ConstView) (own : AreOwnNodes run p) (new : is_known p.known c ≡ false)
    (place : c < length p.known) (put : r.known ≡ set p.known c (Some node)) (same : r.attempts ≡ p.attempts) (left : r.left ≡ p.left)
    (kept : r.put ≡ p.put) where
  none-p : node_in p.known c ≡ None
  none-p = none-at p.known c new

  keeps-p : Keeps p.known r.known
  keeps-p = keeps-put p.known r.known c node place none-p put

  there-r : node_in r.known c ≡ Some node
  there-r = there p.known r.known c node place none-p put

  else-r : (k : ℕ) → (c ≡ k → ⊥) → node_in r.known k ≡ node_in p.known k
  else-r = elsewhere p.known r.known c node place none-p put

  was-put : (k : ℕ) → Has r.put k → Has p.put k
  was-put k h = subst (λ xs. Has xs k) kept h

  -- no constant that was put is this one
  other-put : (k : ℕ) → Has p.put k → c ≡ k → ⊥
  other-put k h e = none-of (is_known p.known c) (subst (λ x. is_known p.known x ≡ true) (sym e) (own.there k h)) new

  pub beside-found : GoesBeside run (c ∷ []) p r
  beside-found = record {
    sound = record {
      each = λ k n at h.
          own-kept run p.known r.known keeps-p k n
          (own.each k n (sym (else-r k (other-put k (was-put k h))) ∙ at) (was-put k h));
      there = λ k h. known-kept p.known r.known keeps-p k (own.there k (was-put k h));
    };
    keeps = keeps-p;
    known = one-known r.known c (known-at r.known c node there-r);
    above = λ n low k high. ap is_some (else-r k
        (λ e. let l = low c (has-here c []) in let s : rank run c ≡ rank run k = ap (rank run) e in absurd (omega arith)));
    attempts = record {
      more = [];
      are = same ∙ sym (append-nil p.attempts);
      apart = tt;
      fresh = λ k h. absurd (none-in k h);
      known = λ k h. absurd (none-in k h);
      asked = λ all keeps nodes k h. absurd (none-in k h);
      under = λ n low k h. absurd (none-in k h);
    };
    put = λ k h. subst (λ xs. Has xs k) (sym kept) h;
    put_new = λ k h. inl (was-put k h);
    room = λ n low.
        let e : unknown (rank run) n r.known + 1 ≡ unknown (rank run) n p.known =
        ap (λ known. unknown (rank run) n known + 1) put ∙ unknown-put (rank run) n p.known c node place none-p (low c (has-here c [])) in
        omega arith;
    alone = λ all nodes. absurd (other-put c (was-put c (all c (known-at r.known c node there-r))) refl);
  }

-- what a constant looks at was gone through, and it is not known by that itself
pub still-unknown : (run : Constants) → AreConstJobs run → (p q : Trail) (c : ℕ) → GoesBeside run (asked_by run (found_in q.known) c) p q →
    is_known p.known c ≡ false → node_in q.known c ≡ None
still-unknown run named p q c goes new =
    none-at q.known c (goes.above (rank run c) (λ d h. rank-falls run named (found_in q.known) c d h) c (omega arith) ∙ new)

-- one is attempted, those that it looks at are gone through, and then its node is put, or the node that another has put is learnt
module _ (run : Constants) (named : AreConstJobs run) (p p' q r : Trail) (c : ℕ) (node : ConstView)
    (new : is_known p.known c ≡ false) (place : c < length p.known)
    (same : p'.known ≡ p.known) (same_put : p'.put ≡ p.put) (noted_now : p'.attempts ≡ p.attempts ++ c ∷ []) (drawn : p.left ≡ suc p'.left)
    (goes : GoesBeside run (asked_by run (found_in q.known) c) p' q)
    (put : r.known ≡ set q.known c (Some node)) (kept : r.attempts ≡ q.attempts) (left : r.left ≡ q.left)
    (whose : ((r.put ≡ q.put ++ c ∷ []) × (node.value ≡ const_under run (found_in q.known) c node.serial)) ⊎ (r.put ≡ q.put)) where
  abbrev own : List ℕ
  own = asked_by run (found_in q.known) c

  lower : (d : ℕ) → Has own d → rank run d < rank run c
  lower d h = rank-falls run named (found_in q.known) c d h

  same-known : (k : ℕ) → is_known p'.known k ≡ is_known p.known k
  same-known k = ap (λ known. is_known known k) same

  not-q : is_known q.known c ≡ false
  not-q = goes.above (rank run c) lower c (omega arith) ∙ (same-known c ∙ new)

  none-q : node_in q.known c ≡ None
  none-q = none-at q.known c not-q

  place-q : c < length q.known
  place-q = let l = goes.keeps.places in let m : length p'.known ≡ length p.known = ap length same in omega arith

  c-there : node_in r.known c ≡ Some node
  c-there = there q.known r.known c node place-q none-q put

  apart-from : (k : ℕ) → (c ≡ k → ⊥) → node_in r.known k ≡ node_in q.known k
  apart-from = elsewhere q.known r.known c node place-q none-q put

  q-keeps : Keeps q.known r.known
  q-keeps = keeps-put q.known r.known c node place-q none-q put

  -- what the constant looks at stays
  own-same : (later : Nodes) → Keeps q.known later →
      ((serial : ℕ) → const_under run (found_in q.known) c serial ≡ const_under run (found_in later) c serial) × (own ≡ asked_by run (found_in later) c)
  own-same later keeps =
      under-same run (found_in q.known) (found_in later) c (agree-each (found_in q.known) (found_in later) own
      (λ d h. found-kept q.known later keeps d (goes.known d h)))

  -- one that was put is this one, or was put before
  put-r : (k : ℕ) → Has r.put k → ((c ≡ k) × (node.value ≡ const_under run (found_in q.known) c node.serial)) ⊎ Has q.put k
  put-r k h = elim whose [
    | inl mine ↦ elim (has-append q.put (c ∷ []) k (subst (λ xs. Has xs k) mine.0 h)) [
      | inl was ↦ inr was
      | inr now ↦ elim (has-cons c [] k now) [ inl e ↦ inl (e, mine.1) | inr none ↦ absurd (none-in k none) ]
    ]
    | inr theirs ↦ inr (subst (λ xs. Has xs k) theirs h)
  ]

  still-put : (k : ℕ) → Has q.put k → Has r.put k
  still-put k h = elim whose [
    | inl mine ↦ subst (λ xs. Has xs k) (sym mine.0) (has-left q.put (c ∷ []) k h)
    | inr theirs ↦ subst (λ xs. Has xs k) (sym theirs) h
  ]

  -- no constant that was put before is this one
  not-put : (k : ℕ) → Has q.put k → c ≡ k → ⊥
  not-put k h e = none-of (is_known q.known c) (subst (λ x. is_known q.known x ≡ true) (sym e) (goes.sound.there k h)) not-q

  c-node : node.value ≡ const_under run (found_in q.known) c node.serial → IsNodeOf run r.known c node
  c-node is =
      let stays = own-same r.known q-keeps in
      record {
        is = is ∙ stays.0 node.serial;
        below = λ d h. known-kept q.known r.known q-keeps d (goes.known d (subst (λ xs. Has xs d) (sym stays.1) h));
      }

  sound-r : AreOwnNodes run r
  sound-r = record {
    each = λ k n at h. elim (put-r k h) [
      | inl mine ↦
          let same_node : n ≡ node = let s : Some n ≡ Some node = sym at ∙ (ap (node_in r.known) (sym mine.0) ∙ c-there) in cc in
          subst (λ x. IsNodeOf run r.known x n) mine.0 (subst (λ m. IsNodeOf run r.known c m) (sym same_node) (c-node mine.1))
      | inr was ↦
          own-kept run q.known r.known q-keeps k n (goes.sound.each k n (sym (apart-from k (not-put k was)) ∙ at) was)
    ];
    there = λ k h. elim (put-r k h) [
      | inl mine ↦ subst (λ x. is_known r.known x ≡ true) mine.0 (known-at r.known c node c-there)
      | inr was ↦ known-kept q.known r.known q-keeps k (goes.sound.there k was)
    ];
  }

  -- the constant stands over what it looks at
  stands-over : (all : Nodes) → Keeps r.known all → (d : ℕ) → Has (with_below (asked_by run (found_in all)) most_depth own) d →
      Has (with_below (asked_by run (found_in all)) most_depth (c ∷ [])) d
  stands-over all keeps d h =
      has-left (c ∷ below (asked_by run (found_in all)) most_depth c) [] d
      (has-there c (below (asked_by run (found_in all)) most_depth c) d (subst (λ xs. Has xs d) (sym (below-again run named (found_in all) c))
      (subst (λ cs. Has (with_below (asked_by run (found_in all)) most_depth cs) d)
      (own-same all (keeps-both q.known r.known all q-keeps keeps)).1 h)))

  more-r : AttemptsMore run (c ∷ []) p r
  more-r = record {
    more = c ∷ goes.attempts.more;
    are = kept ∙ (goes.attempts.are ∙ (ap (λ xs. xs ++ goes.attempts.more) noted_now ∙ append_assoc p.attempts (c ∷ []) goes.attempts.more));
    apart = (
      false_from_ne_true (is_in goes.attempts.more c) (λ h. let u = goes.attempts.under (rank run c) lower c h in absurd (omega arith)),
      goes.attempts.apart,
    );
    fresh = λ k h. elim (has-cons c goes.attempts.more k h) [
      | inl e ↦ subst (λ x. is_known p.known x ≡ false) e new
      | inr later ↦ sym (same-known k) ∙ goes.attempts.fresh k later
    ];
    known = λ k h. elim (has-cons c goes.attempts.more k h) [
      | inl e ↦ subst (λ x. is_known r.known x ≡ true) e (known-at r.known c node c-there)
      | inr later ↦ known-kept q.known r.known q-keeps k (goes.attempts.known k later)
    ];
    asked = λ all keeps nodes k h. elim (has-cons c goes.attempts.more k h) [
      | inl e ↦ subst (λ x. Has (with_below (asked_by run (found_in all)) most_depth (c ∷ [])) x) e
          (has-here c (below (asked_by run (found_in all)) most_depth c ++ []))
      | inr later ↦
          stands-over all keeps k (goes.attempts.asked all (keeps-both q.known r.known all q-keeps keeps) nodes k later)
    ];
    under = λ n low k h. elim (has-cons c goes.attempts.more k h) [
      | inl e ↦ subst (λ x. rank run x < n) e (low c (has-here c []))
      | inr later ↦ goes.attempts.under n (λ d l. let a = low c (has-here c []) in let b = lower d l in omega arith) k later
    ];
  }

  new-r : (k : ℕ) → Has r.put k → Has p.put k ⊎ (is_known p.known k ≡ false)
  new-r k h = elim (put-r k h) [
    | inl mine ↦ inr (subst (λ x. is_known p.known x ≡ false) mine.0 new)
    | inr was ↦ elim (goes.put_new k was) [
      | inl before ↦ inl (subst (λ xs. Has xs k) same_put before)
      | inr unknown ↦ inr (sym (same-known k) ∙ unknown)
    ]
  ]

  -- where all was put, all was put before, and the node is ours
  put-q : HasPutAll r → HasPutAll q
  put-q all k h = elim (put-r k (all k (known-kept q.known r.known q-keeps k h))) [
    | inl mine ↦ absurd (none-of (is_known q.known c) (subst (λ x. is_known q.known x ≡ true) (sym mine.0) h) not-q)
    | inr was ↦ was
  ]

  alone-r : HasPutAll r → AreNodes run p.known → GoesOn run (c ∷ []) p r
  alone-r all nodes = elim (put-r c (all c (known-at r.known c node c-there))) [
    | inl mine ↦
        goes-new run named p p' q r c node new place same noted_now drawn
        (goes.alone (put-q all) (subst (λ known. AreNodes run known) (sym same) nodes)) mine.1 put kept left
    | inr was ↦ absurd (not-put c was refl)
  ]

  pub beside-new : GoesBeside run (c ∷ []) p r
  beside-new = record {
    sound = sound-r;
    keeps = keeps-both p.known q.known r.known (subst (λ known. Keeps known q.known) same goes.keeps) q-keeps;
    known = one-known r.known c (known-at r.known c node c-there);
    above = λ n low k high.
        let l = low c (has-here c []) in
        ap is_some (apart-from k (λ e. let s : rank run c ≡ rank run k = ap (rank run) e in absurd (omega arith)))
        ∙ (goes.above n (λ d h. let f = lower d h in omega arith) k high ∙ same-known k);
    attempts = more-r;
    put = λ k h. still-put k (goes.put k (subst (λ xs. Has xs k) (sym same_put) h));
    put_new = new-r;
    room = λ n low.
        let l = low c (has-here c []) in
        let a = goes.room n (λ d h. let f = lower d h in omega arith) in
        let b : unknown (rank run) n p'.known ≡ unknown (rank run) n p.known = ap (unknown (rank run) n) same in
        let e : unknown (rank run) n r.known + 1 ≡ unknown (rank run) n q.known =
        ap (λ known. unknown (rank run) n known + 1) put ∙ unknown-put (rank run) n q.known c node place-q none-q l in
        omega arith;
    alone = alone-r;
  }

-- ---- all passes

-- then each is what it should be
pub all-nodes : (run : Constants) (all : Nodes) → ((c : ℕ) (node : ConstView) → node_in all c ≡ Some node → PutBy run all c node) → AreNodes run all
all-nodes run all by = record {
  each = λ c node at.
      let p = by c node at in
      own-kept run p.pass.known all p.keeps c node (p.own.each c node p.at p.has);
}

-- a pass that has put each node that there is has put all that it knows
pub alone-puts : (all : Nodes) (p : Trail) → Keeps p.known all → ((c : ℕ) (node : ConstView) → node_in all c ≡ Some node → Has p.put c) → HasPutAll p
alone-puts all p keeps by c h =
    let n = noted p.known c h in
    by c n.node (keeps.kept c n.node n.at)
