-- How a pass goes on over constants.
use Rattle.std.proofs.Common.{◌≡◌, refl, sym, ◌∙◌, ap, ap₂, subst, ℕ, zero, suc, ◌+◌, ◌<◌, Bool, true, false, ◌||◌, inl, inr, if◌then◌else◌, List, [], ◌∷◌, ◌++◌, append-nil, append_assoc, Option, Some, None, length, set, arith}
use Rattle.std.specs.Prelude.{option_map, is_some, ◌==◌}
use Rattle.std.proofs.lemmas.Bool.{both_ways, cases_eq, eq-eqb, false_from_ne_true, ne_eqb, or_left, or_right}
use Rattle.std.proofs.lemmas.List.{length-set}
use Rattle.std.proofs.lemmas.List.Concat.{flat_map-append}
use Rattle.mh_condy.specs.Recorded.{ConstView}
use Rattle.mh_jobs.specs.Given.{Found}
use Rattle.mh_link.specs.Named.{Constants, AreConstJobs}
use Rattle.mh_link.specs.Depth.{most_depth, rank}
use Rattle.mh_link.specs.Constants.{const_under}
use Rattle.mh_link.specs.Places.{is_in, Has, first_new}
use Rattle.mh_link.specs.Asking.{asked_by, below, with_below}
use Rattle.mh_condy.specs.Nodes.{Nodes, node_in, found_in, is_known, IsNodeOf, AreNodes, Keeps, unknown}
use Rattle.mh_condy.specs.Trails.{Trail, GoesOn}
use Rattle.mh_link.proofs.walking.Places.{flat-has, has-cons, has-flat, has-here, in-append}
use Rattle.mh_condy.proofs.News.{new-append, new-none, new-other, new-same}
use Rattle.mh_condy.proofs.Unknown.{put-other, put-there, unknown-put}
use Rattle.mh_link.proofs.walking.Walks.{below-same, below-suc, below-zero, with-below-same}
use Rattle.mh_link.proofs.constants.Asked.{agree-each, rank-falls, under-same}
use Rattle.mh_link.proofs.walking.Asking.{below-again}

-- ---- what is known

-- a known constant has a node
pub record Noted (known : Nodes) (c : ℕ) : Type 0 where
  pub node : ConstView
  pub at : node_in known c ≡ Some node

pub noted : (known : Nodes) (c : ℕ) → is_known known c ≡ true → Noted known c
noted known c h = cases (node_in known c) refl h
  where
    cases : (o : Option ConstView) → node_in known c ≡ o → is_some o ≡ true → Noted known c
    cases None none h = cc
    cases (Some n) at h = record { node = n; at = at }

pub known-at : (known : Nodes) (c : ℕ) (node : ConstView) → node_in known c ≡ Some node → is_known known c ≡ true
known-at known c node at = ap is_some at

pub none-at : (known : Nodes) (c : ℕ) → is_known known c ≡ false → node_in known c ≡ None
none-at known c h = cases (node_in known c) h
  where
    cases : (o : Option ConstView) → is_some o ≡ false → o ≡ None
    cases None h = refl
    cases (Some n) h = cc

module _ (old new : Nodes) (keeps : Keeps old new) where
  pub known-kept : (c : ℕ) → is_known old c ≡ true → is_known new c ≡ true
  known-kept c h = let n = noted old c h in known-at new c n.node (keeps.kept c n.node n.at)

  pub found-kept : (c : ℕ) → is_known old c ≡ true → found_in old c ≡ found_in new c
  found-kept c h =
      let n = noted old c h in
      ap (λ o. option_map (λ (node : ConstView). node.value) o) (n.at ∙ sym (keeps.kept c n.node n.at))

pub keeps-same : (known : Nodes) → Keeps known known
keeps-same known = record { kept = λ c node at. at; places = refl }

pub keeps-both : (one two three : Nodes) → Keeps one two → Keeps two three → Keeps one three
keeps-both one two three a b =
    record { kept = λ c node at. b.kept c node (a.kept c node at); places = b.places ∙ a.places }

module _ (run : Constants) (known : Nodes) (nodes : AreNodes run known) where
  -- what a known constant looks at is known
  pub looked-known : (c : ℕ) → is_known known c ≡ true → (d : ℕ) → Has (asked_by run (found_in known) c) d → is_known known d ≡ true
  looked-known c h d looks = let n = noted known c h in (nodes.each c n.node n.at).below d looks

  -- and so is all that stands below it
  pub below-known : (n c : ℕ) → is_known known c ≡ true → (d : ℕ) → Has (c ∷ below (asked_by run (found_in known)) n c) d → is_known known d ≡ true
  below-known zero c there d h = elim (has-cons c (below (asked_by run (found_in known)) zero c) d h) [
    | inl e ↦ subst (λ x. is_known known x ≡ true) e there
    | inr under ↦ absurd (both_ways (is_in [] d) refl (subst (λ xs. Has xs d) (below-zero (asked_by run (found_in known)) c) under))
  ]
  below-known (suc n) c there d h = elim (has-cons c (below (asked_by run (found_in known)) (suc n) c) d h) [
    | inl e ↦ subst (λ x. is_known known x ≡ true) e there
    | inr under ↦
        let at = has-flat (λ x. x ∷ below (asked_by run (found_in known)) n x) (asked_by run (found_in known) c) d
        (subst (λ xs. Has xs d) (below-suc (asked_by run (found_in known)) n c) under) in
        below-known n at.over (looked-known c there at.over at.is) d at.has
  ]

  pub all-known : (cs : List ℕ) → ((c : ℕ) → Has cs c → is_known known c ≡ true) → (d : ℕ) →
      Has (with_below (asked_by run (found_in known)) most_depth cs) d → is_known known d ≡ true
  all-known cs each d h =
      let at = has-flat (λ x. x ∷ below (asked_by run (found_in known)) most_depth x) cs d h in
      below-known most_depth at.over (each at.over at.is) d at.has

  -- where more becomes known, a known constant stays as it is
  module _ (later : Nodes) (keeps : Keeps known later) where
    pub under-kept : (c : ℕ) → is_known known c ≡ true →
        ((serial : ℕ) → const_under run (found_in known) c serial ≡ const_under run (found_in later) c serial)
        × (asked_by run (found_in known) c ≡ asked_by run (found_in later) c)
    under-kept c there =
        under-same run (found_in known) (found_in later) c (agree-each (found_in known) (found_in later) (asked_by run (found_in known) c)
        (λ d h. found-kept known later keeps d (looked-known c there d h)))

    pub with-kept : (cs : List ℕ) → ((c : ℕ) → Has cs c → is_known known c ≡ true) →
        with_below (asked_by run (found_in known)) most_depth cs ≡ with_below (asked_by run (found_in later)) most_depth cs
    with-kept cs each =
        with-below-same (asked_by run (found_in known)) (asked_by run (found_in later)) most_depth
        (below-same (asked_by run (found_in known)) (asked_by run (found_in later)) most_depth) cs
        (λ d h. (under-kept d (all-known cs each d h)).1)

-- ---- one after the other

pub goes-none : (run : Constants) (p : Trail) → AreNodes run p.known → GoesOn run [] p p
goes-none run p nodes = record {
  sound = nodes;
  keeps = keeps-same p.known;
  known = λ k. sym (cases (is_known p.known k));
  attempts = sym (append-nil p.attempts);
  room = λ r under. omega arith;
}
  where
    cases : (b : Bool) → (b || false) ≡ b
    cases true = refl
    cases false = refl

module _ (run : Constants) (cs ds : List ℕ) (p q r : Trail) (first : GoesOn run cs p q) (second : GoesOn run ds q r) where
  abbrev middle : ℕ → List ℕ
  middle = asked_by run (found_in q.known)

  abbrev last : ℕ → List ℕ
  last = asked_by run (found_in r.known)

  cs-known : (c : ℕ) → Has cs c → is_known q.known c ≡ true
  cs-known c h =
      first.known c
      ∙ or_right (is_known p.known c) (is_in (with_below middle most_depth cs) c)
      (flat-has (λ x. x ∷ below middle most_depth x) cs c c h (has-here c (below middle most_depth c)))

  cs-same : with_below middle most_depth cs ≡ with_below last most_depth cs
  cs-same = with-kept run q.known first.sound r.known second.keeps cs cs-known

  both : with_below last most_depth (cs ++ ds) ≡ with_below last most_depth cs ++ with_below last most_depth ds
  both = flat_map-append (λ x. x ∷ below last most_depth x) cs ds

  known-then : (k : ℕ) → is_known q.known k ≡ (is_known p.known k || is_in (with_below last most_depth cs) k)
  known-then k = first.known k ∙ ap (λ xs. is_known p.known k || is_in xs k) cs-same

  pub goes-both : GoesOn run (cs ++ ds) p r
  goes-both = record {
    sound = second.sound;
    keeps = keeps-both p.known q.known r.known first.keeps second.keeps;
    known = λ k.
        second.known k
        ∙ (ap (λ b. b || is_in (with_below last most_depth ds) k) (known-then k)
        ∙ (or-assoc (is_known p.known k) (is_in (with_below last most_depth cs) k) (is_in (with_below last most_depth ds) k)
        ∙ ap (λ b. is_known p.known k || b)
        (sym (in-append (with_below last most_depth cs) (with_below last most_depth ds) k) ∙ ap (λ xs. is_in xs k) (sym both))));
    attempts =
        second.attempts
        ∙ (ap (λ xs. xs ++ first_new (is_known q.known) (with_below last most_depth ds)) (first.attempts
        ∙ ap (λ xs. p.attempts ++ first_new (is_known p.known) xs) cs-same)
        ∙ (append_assoc p.attempts (first_new (is_known p.known) (with_below last most_depth cs)) (first_new (is_known q.known) (with_below last most_depth ds))
        ∙ ap (λ xs. p.attempts ++ xs)
        (ap (λ xs. first_new (is_known p.known) (with_below last most_depth cs) ++ xs)
        (new-same (is_known q.known) (λ k. is_known p.known k || is_in (with_below last most_depth cs) k) (with_below last most_depth ds) known-then)
        ∙ (sym (new-append (is_known p.known) (with_below last most_depth cs) (with_below last most_depth ds))
        ∙ ap (λ xs. first_new (is_known p.known) xs) (sym both)))));
    room = λ n under.
        let a = first.room n (λ c h. under c (in-append cs ds c ∙ or_left (is_in cs c) (is_in ds c) h)) in
        let b = second.room n (λ c h. under c (in-append cs ds c ∙ or_right (is_in cs c) (is_in ds c) h)) in
        omega arith;
  }
    where
      or-assoc : (a b c : Bool) → ((a || b) || c) ≡ (a || (b || c))
      or-assoc true b c = refl
      or-assoc false b c = refl

-- ---- one constant

-- one that is known is passed over
pub goes-known : (run : Constants) (p : Trail) (c : ℕ) → AreNodes run p.known → is_known p.known c ≡ true → GoesOn run (c ∷ []) p p
goes-known run p c nodes there = record {
  sound = nodes;
  keeps = keeps-same p.known;
  known = λ k. old (is_known p.known k) (is_in under k) (λ h. within k h);
  attempts = sym (append-nil p.attempts) ∙ ap (λ xs. p.attempts ++ xs) (sym (new-none (is_known p.known) under within));
  room = λ r low. omega arith;
}
  where
    under : List ℕ
    under = with_below (asked_by run (found_in p.known)) most_depth (c ∷ [])

    within : (k : ℕ) → Has under k → is_known p.known k ≡ true
    within = all-known run p.known nodes (c ∷ []) (λ d h. elim (has-cons c [] d h) [
      | inl e ↦ subst (λ x. is_known p.known x ≡ true) e there
      | inr none ↦ absurd (both_ways (is_in [] d) refl none)
    ])

    old : (a b : Bool) → (b ≡ true → a ≡ true) → a ≡ (a || b)
    old true b h = refl
    old false true h = h refl
    old false false h = refl

-- a number does not stand below itself, nor below those that it looks at
below-other : (run : Constants) → AreConstJobs run → (found : Found) (n c : ℕ) → (d : ℕ) → Has (below (asked_by run found) n c) d → rank run d < rank run c
below-other run named found zero c d h = absurd (both_ways (is_in [] d) refl (subst (λ xs. Has xs d) (below-zero (asked_by run found) c) h))
below-other run named found (suc n) c d h =
    let at = has-flat (λ x. x ∷ below (asked_by run found) n x) (asked_by run found c) d (subst (λ xs. Has xs d) (below-suc (asked_by run found) n c) h) in
    let f = rank-falls run named found c at.over at.is in
    elim (has-cons at.over (below (asked_by run found) n at.over) d at.has) [
      | inl e ↦ let s : rank run at.over ≡ rank run d = ap (rank run) e in omega arith
      | inr under ↦ let g = below-other run named found n at.over d under in omega arith
    ]

-- one that is not known is attempted first; then those that it looks at are gone through; then its node is put
module _ (run : Constants) (named : AreConstJobs run) (p p' q r : Trail) (c : ℕ) (node : ConstView)
    (new : is_known p.known c ≡ false) (place : c < length p.known)
    (same : p'.known ≡ p.known) (noted_now : p'.attempts ≡ p.attempts ++ c ∷ []) (drawn : p.left ≡ suc p'.left)
    (goes : GoesOn run (asked_by run (found_in q.known) c) p' q) (is : node.value ≡ const_under run (found_in q.known) c node.serial)
    (put : r.known ≡ set q.known c (Some node)) (kept : r.attempts ≡ q.attempts) (left : r.left ≡ q.left) where
  abbrev own : ℕ → List ℕ
  own = asked_by run (found_in q.known)

  abbrev under : List ℕ
  under = with_below own most_depth (own c)

  not-under : is_in under c ≡ false
  not-under = false_from_ne_true (is_in under c) (λ h.
      let b = below-other run named (found_in q.known) most_depth c c (subst (λ xs. Has xs c) (sym (below-again run named (found_in q.known) c)) h) in
      absurd (omega arith))

  known-q : (k : ℕ) → is_known q.known k ≡ (is_known p.known k || is_in under k)
  known-q k = goes.known k ∙ ap (λ known. is_known known k || is_in under k) same

  not-q : node_in q.known c ≡ None
  not-q = none-at q.known c (known-q c ∙ (ap (λ b. b || is_in under c) new ∙ not-under))

  place-q : c < length q.known
  place-q = let l = goes.keeps.places in let m : length p'.known ≡ length p.known = ap length same in omega arith

  there : node_in r.known c ≡ Some node
  there = ap (λ known. node_in known c) put ∙ put-there q.known c node place-q

  elsewhere : (k : ℕ) → (c ≡ k → ⊥) → node_in r.known k ≡ node_in q.known k
  elsewhere k other = ap (λ known. node_in known k) put ∙ put-other q.known c k node other

  q-keeps : Keeps q.known r.known
  q-keeps = record {
    kept = λ k n at. elsewhere k (λ e. let none : node_in q.known k ≡ None = subst (λ x. node_in q.known x ≡ None) e not-q in cc) ∙ at;
    places = ap length put ∙ length-set q.known c (Some node);
  }

  -- at the constant itself too nothing changes
  c-kept : ((serial : ℕ) → const_under run (found_in q.known) c serial ≡ const_under run (found_in r.known) c serial)
      × (own c ≡ asked_by run (found_in r.known) c)
  c-kept =
      under-same run (found_in q.known) (found_in r.known) c (agree-each (found_in q.known) (found_in r.known) (own c)
      (λ d h. found-kept q.known r.known q-keeps d (looked d h)))
    where
      looked : (d : ℕ) → Has (own c) d → is_known q.known d ≡ true
      looked d h =
          known-q d
          ∙ or_right (is_known p.known d) (is_in under d) (flat-has (λ x. x ∷ below own most_depth x) (own c) d d h (has-here d (below own most_depth d)))

  looked : (d : ℕ) → Has (own c) d → is_known q.known d ≡ true
  looked d h =
      known-q d
      ∙ or_right (is_known p.known d) (is_in under d) (flat-has (λ x. x ∷ below own most_depth x) (own c) d d h (has-here d (below own most_depth d)))

  sound-r : AreNodes run r.known
  sound-r = record {
    each = λ k n at. elim (cases_eq c k) [
      | inl e ↦
          let same_node : n ≡ node = let s : Some n ≡ Some node = sym at ∙ (ap (node_in r.known) (sym e) ∙ there) in cc in
          subst (λ x. IsNodeOf run r.known x n) e (subst (λ m. IsNodeOf run r.known c m) (sym same_node) (record {
            is = is ∙ c-kept.0 node.serial;
            below = λ d h. known-kept q.known r.known q-keeps d (looked d (subst (λ xs. Has xs d) (sym c-kept.1) h));
          }))
      | inr other ↦
          let at_q : node_in q.known k ≡ Some n = sym (elsewhere k other) ∙ at in
          let was = goes.sound.each k n at_q in
          let stays = under-kept run q.known goes.sound r.known q-keeps k (known-at q.known k n at_q) in
          record {
            is = was.is ∙ stays.0 n.serial;
            below = λ d h. known-kept q.known r.known q-keeps d (was.below d (subst (λ xs. Has xs d) (sym stays.1) h));
          }
    ];
  }

  abbrev late : ℕ → List ℕ
  late = asked_by run (found_in r.known)

  -- the constant and all that stands below it
  whole-below : with_below late most_depth (c ∷ []) ≡ c ∷ under
  whole-below =
      append-nil (c ∷ below late most_depth c)
      ∙ ap (λ xs. c ∷ xs) (below-again run named (found_in r.known) c
      ∙ (ap (λ cs. with_below late most_depth cs) (sym c-kept.1)
      ∙ sym (with-kept run q.known goes.sound r.known q-keeps (own c) looked)))

  known-r : (k : ℕ) → is_known r.known k ≡ (is_known p.known k || ((c == k) || is_in under k))
  known-r k = elim (cases_eq c k) [
    | inl e ↦
        ap (is_known r.known) (sym e)
        ∙ (known-at r.known c node there ∙ sym (last_true (is_known p.known k) (c == k) (is_in under k) (eq-eqb c k e)))
    | inr other ↦
        ap is_some (elsewhere k other)
        ∙ (known-q k ∙ ap (λ b. is_known p.known k || (b || is_in under k)) (sym (ne_eqb c k other)))
  ]
    where
      last_true : (a b d : Bool) → b ≡ true → (a || (b || d)) ≡ true
      last_true true b d e = refl
      last_true false true d e = refl
      last_true false false d e = absurd (both_ways false refl e)

  pub goes-new : GoesOn run (c ∷ []) p r
  goes-new = record {
    sound = sound-r;
    keeps = keeps-both p.known q.known r.known (subst (λ known. Keeps known q.known) same goes.keeps) q-keeps;
    known = λ k. known-r k ∙ ap (λ xs. is_known p.known k || is_in xs k) (sym whole-below);
    attempts =
        kept
        ∙ (goes.attempts
        ∙ (ap₂ (λ xs known. xs ++ first_new (is_known known) under) noted_now same
        ∙ (append_assoc p.attempts (c ∷ []) (first_new (is_known p.known) under)
        ∙ ap (λ xs. p.attempts ++ xs) (sym (ap (λ xs. first_new (is_known p.known) xs) whole-below
        ∙ (ap (λ b. if b then first_new (is_known p.known) under else c ∷ first_new (λ x. (c == x) || is_known p.known x) under) new
        ∙ ap (λ xs. c ∷ xs) (new-other (is_known p.known) c under not-under)))))));
    room = λ n low.
        let high : rank run c < n = low c (has-here c []) in
        let a = goes.room n (λ d h. let f = rank-falls run named (found_in q.known) c d h in omega arith) in
        let b : unknown (rank run) n p'.known ≡ unknown (rank run) n p.known = ap (unknown (rank run) n) same in
        let e : unknown (rank run) n r.known + 1 ≡ unknown (rank run) n q.known =
        ap (λ known. unknown (rank run) n known + 1) put ∙ unknown-put (rank run) n q.known c node place-q not-q high in
        omega arith;
  }

-- what was gone through is known
pub seen-known : (run : Constants) (cs : List ℕ) (p q : Trail) → GoesOn run cs p q → (c : ℕ) → Has cs c → is_known q.known c ≡ true
seen-known run cs p q goes c h =
    goes.known c
    ∙ or_right (is_known p.known c) (is_in (with_below (asked_by run (found_in q.known)) most_depth cs) c)
    (flat-has (λ x. x ∷ below (asked_by run (found_in q.known)) most_depth x) cs c c h (has-here c (below (asked_by run (found_in q.known)) most_depth c)))
