-- Going through numbers notes each where it first stands among all that stands below.
use Rattle.std.proofs.Common.{◌≡◌, refl, sym, ◌∙◌, ap, ap₂, subst, ℕ, zero, suc, ◌<◌, ◌≤◌, Bool, true, false, inl, inr, if◌then◌else◌, List, [], ◌∷◌, ◌++◌, append-nil, append_assoc, arith}
use Rattle.std.specs.List.{flat_map}
use Rattle.std.proofs.lemmas.Bool.{both_ways, or_cases, or_left, or_right}
use Rattle.mh_link.specs.Places.{is_in, Has, first_places}
use Rattle.mh_link.specs.Asking.{below, with_below}
use Rattle.mh_link.specs.Walks.{visited, walked}
use Rattle.mh_link.proofs.walking.Places.{Within, after-first, first-append, first-none, first-same, flat-has, has-append, has-cons, has-flat, has-here, has-left, has-right, has-there, in-push}

-- below, one step down
pub below-suc : (own : ℕ → List ℕ) (n c : ℕ) → below own (suc n) c ≡ with_below own n (own c)
unfolding below
below-suc own n c = refl

pub below-zero : (own : ℕ → List ℕ) (c : ℕ) → below own zero c ≡ []
unfolding below
below-zero own c = refl

visited-suc : (own : ℕ → List ℕ) (n : ℕ) (seen : List ℕ) (c : ℕ) →
    visited own (suc n) seen c ≡ (if is_in seen c then seen else walked own n (seen ++ c ∷ []) (own c))
unfolding visited
visited-suc own n seen c = refl

visited-zero : (own : ℕ → List ℕ) (seen : List ℕ) (c : ℕ) → visited own zero seen c ≡ (if is_in seen c then seen else seen ++ c ∷ [])
unfolding visited
visited-zero own seen c = refl

module _ (own : ℕ → List ℕ) (rank : ℕ → ℕ) (falls : (c d : ℕ) → Has (own c) d → rank d < rank c) where
  -- with each number under a rank that was seen, those that it looks at were seen
  abbrev ClosedUnder : ℕ → List ℕ → Type 0
  ClosedUnder r seen = (c d : ℕ) → Has seen c → rank c < r → Has (own c) d → Has seen d

  -- each has a rank under this one
  abbrev Under : ℕ → List ℕ → Type 0
  Under r cs = (c : ℕ) → Has cs c → rank c < r

  -- what stands below a number that was seen was seen
  pub below-seen : (n r : ℕ) (seen : List ℕ) → ClosedUnder r seen → (c : ℕ) → Has seen c → rank c < r → Within (below own n c) seen
  below-seen zero r seen closed c there low k h = absurd (both_ways (is_in [] k) refl (subst (λ xs. Has xs k) (below-zero own c) h))
  below-seen (suc n) r seen closed c there low k h =
      let at = has-flat (λ d. d ∷ below own n d) (own c) k (subst (λ xs. Has xs k) (below-suc own n c) h) in
      let d_seen : Has seen at.over = closed c at.over there low at.is in
      elim (has-cons at.over (below own n at.over) k at.has) [
        | inl e ↦ subst (λ z. Has seen z) e d_seen
        | inr deeper ↦ below-seen n r seen closed at.over d_seen (let f = falls c at.over at.is in omega arith) k deeper
      ]

  -- what stands below a number has with each of its numbers those that it looks at
  below-closed : (n c : ℕ) → rank c ≤ n → (d e : ℕ) → Has (c ∷ below own n c) d → Has (own d) e → Has (c ∷ below own n c) e
  below-closed zero c low d e is asks = absurd (let f = falls d e asks in let same : rank d ≡ rank c = top in omega arith)
    where
      top : rank d ≡ rank c
      top = elim (has-cons c (below own zero c) d is) [
        | inl same ↦ ap rank (sym same)
        | inr under ↦ absurd (both_ways (is_in [] d) refl (subst (λ xs. Has xs d) (below-zero own c) under))
      ]
  below-closed (suc n) c low d e is asks =
      has-there c (below own (suc n) c) e (subst (λ xs. Has xs e) (sym (below-suc own n c)) (elim (has-cons c (below own (suc n) c) d is) [
        | inl same ↦ flat-has (λ x. x ∷ below own n x) (own c) e e (subst (λ z. Has (own z) e) (sym same) asks) (has-here e (below own n e))
        | inr under ↦
            let at = has-flat (λ x. x ∷ below own n x) (own c) d (subst (λ xs. Has xs d) (below-suc own n c) under) in
            flat-has (λ x. x ∷ below own n x) (own c) at.over e at.is
            (below-closed n at.over (let f = falls c at.over at.is in omega arith) d e at.has asks)
      ]))

  -- what is noted at one number
  abbrev NotesOne : ℕ → ℕ → Type 0
  NotesOne n r = (seen : List ℕ) (c : ℕ) → ClosedUnder r seen → rank c < r → r ≤ suc n →
      visited own n seen c ≡ seen ++ first_places seen (c ∷ below own n c)

  -- what is noted at several
  abbrev NotesAll : ℕ → ℕ → Type 0
  NotesAll n r = (seen cs : List ℕ) → ClosedUnder r seen → Under r cs → r ≤ suc n →
      walked own n seen cs ≡ seen ++ first_places seen (with_below own n cs)

  -- afterwards what was seen is closed again
  closed-after : (n r : ℕ) (seen : List ℕ) (c : ℕ) → ClosedUnder r seen → rank c < r → r ≤ suc n →
      ClosedUnder r (seen ++ first_places seen (c ∷ below own n c))
  closed-after n r seen c closed low fuel d e is under asks =
      after-first seen (c ∷ below own n c) e
      ∙ elim (or_cases (is_in seen d) (is_in (c ∷ below own n c) d) (sym (after-first seen (c ∷ below own n c) d) ∙ is)) [
        | inl there ↦ or_left (is_in seen e) (is_in (c ∷ below own n c) e) (closed d e there under asks)
        | inr new ↦ or_right (is_in seen e) (is_in (c ∷ below own n c) e) (below-closed n c (omega arith) d e new asks)
      ]

  notes-all : (n r : ℕ) → NotesOne n r → NotesAll n r
  notes-all n r one seen [] closed under fuel = sym (append-nil seen)
  notes-all n r one seen (c ∷ cs) closed under fuel =
      let first : visited own n seen c ≡ seen ++ first_places seen (c ∷ below own n c) = one seen c closed (under c (has-here c cs)) fuel in
      let seen_then : List ℕ = seen ++ first_places seen (c ∷ below own n c) in
      ap (λ s. walked own n s cs) first
      ∙ (notes-all n r one seen_then cs (closed-after n r seen c closed (under c (has-here c cs)) fuel) (λ d h. under d (has-there c cs d h)) fuel
      ∙ (append_assoc seen (first_places seen (c ∷ below own n c)) (first_places seen_then (with_below own n cs))
      ∙ ap (λ xs. seen ++ xs) (sym (first-append seen (c ∷ below own n c) (with_below own n cs)))))

  -- one number, where it was seen
  note-seen : (n r : ℕ) (seen : List ℕ) (c : ℕ) → ClosedUnder r seen → rank c < r → Has seen c →
      seen ≡ seen ++ first_places seen (c ∷ below own n c)
  note-seen n r seen c closed low there =
      sym (append-nil seen) ∙ ap (λ xs. seen ++ xs) (sym (first-none seen (c ∷ below own n c) within))
    where
      within : Within (c ∷ below own n c) seen
      within k h = elim (has-cons c (below own n c) k h) [
        | inl e ↦ subst (λ z. Has seen z) e there
        | inr under ↦ below-seen n r seen closed c there low k under
      ]

  -- a number that was noted has none of its own below that were noted with it, so what was seen stays closed under it
  closed-push : (r : ℕ) (seen : List ℕ) (c : ℕ) → ClosedUnder r seen → rank c < r → ClosedUnder (rank c) (seen ++ c ∷ [])
  closed-push r seen c closed low d e is under asks = elim (has-append seen (c ∷ []) d is) [
    | inl there ↦ has-left seen (c ∷ []) e (closed d e there (omega arith) asks)
    | inr same ↦ absurd (elim (has-cons c [] d same) as (λ _. ⊥) [
      | inl e ↦ let same_rank : rank c ≡ rank d = ap rank e in omega arith
      | inr none ↦ both_ways (is_in [] d) refl none
    ])
  ]

  note-new : (seen : List ℕ) (c : ℕ) (xs : List ℕ) → is_in seen c ≡ false →
      (seen ++ c ∷ []) ++ first_places (seen ++ c ∷ []) xs ≡ seen ++ first_places seen (c ∷ xs)
  note-new seen c xs new =
      append_assoc seen (c ∷ []) (first_places (seen ++ c ∷ []) xs)
      ∙ ap (λ ks. seen ++ ks) (ap (λ ks. c ∷ ks) (first-same (seen ++ c ∷ []) (c ∷ seen) xs (in-push seen c))
      ∙ sym (ap (λ b. if b then first_places seen xs else c ∷ first_places (c ∷ seen) xs) new))

  note-zero : (r : ℕ) → NotesOne zero r
  note-zero r seen c closed low fuel = visited-zero own seen c ∙ cases (is_in seen c) refl
    where
      cases : (t : Bool) → is_in seen c ≡ t → (if t then seen else seen ++ c ∷ []) ≡ seen ++ first_places seen (c ∷ below own zero c)
      cases true there = note-seen zero r seen c closed low there
      cases false new =
          ap (λ xs. seen ++ xs) (ap (λ b. if b then [] else c ∷ []) (sym new)
          ∙ ap (λ xs. first_places seen (c ∷ xs)) (sym (below-zero own c)))

  note-suc : (n : ℕ) → ((r : ℕ) → NotesAll n r) → (r : ℕ) → NotesOne (suc n) r
  note-suc n all r seen c closed low fuel = visited-suc own n seen c ∙ cases (is_in seen c) refl
    where
      cases : (t : Bool) → is_in seen c ≡ t →
          (if t then seen else walked own n (seen ++ c ∷ []) (own c)) ≡ seen ++ first_places seen (c ∷ below own (suc n) c)
      cases true there = note-seen (suc n) r seen c closed low there
      cases false new =
          all (rank c) (seen ++ c ∷ []) (own c) (closed-push r seen c closed low) (falls c) (omega arith)
          ∙ (note-new seen c (with_below own n (own c)) new ∙ ap (λ xs. seen ++ first_places seen (c ∷ xs)) (sym (below-suc own n c)))

  pub notes : (n r : ℕ) → NotesAll n r
  notes zero r = notes-all zero r (note-zero r)
  notes (suc n) r = notes-all (suc n) r (note-suc n (notes n) r)

  -- ---- how far down to go

  own-none : (c : ℕ) → rank c ≤ 0 → own c ≡ []
  own-none c low = cases (own c) (falls c)
    where
      cases : (cs : List ℕ) → ((d : ℕ) → Has cs d → rank d < rank c) → cs ≡ []
      cases [] under = refl
      cases (d ∷ cs) under = absurd (let u = under d (has-here d cs) in omega arith)

  with-same : (f g : ℕ → List ℕ) (cs : List ℕ) → ((d : ℕ) → Has cs d → f d ≡ g d) → flat_map (λ d. d ∷ f d) cs ≡ flat_map (λ d. d ∷ g d) cs
  with-same f g [] same = refl
  with-same f g (c ∷ cs) same =
      ap₂ (λ xs ys. (c ∷ xs) ++ ys) (same c (has-here c cs)) (with-same f g cs (λ d h. same d (has-there c cs d h)))

  -- from the rank of a number on, all that stands below it is there
  pub below-stays : (n c : ℕ) → rank c ≤ n → below own (suc n) c ≡ below own n c
  below-stays zero c low =
      below-suc own zero c ∙ (ap (λ cs. with_below own zero cs) (own-none c low) ∙ sym (below-zero own c))
  below-stays (suc n) c low =
      below-suc own (suc n) c
      ∙ (with-same (below own (suc n)) (below own n) (own c) (λ d h. below-stays n d (let f = falls c d h in omega arith)) ∙ sym (below-suc own n c))

  -- ---- what was seen afterwards

  pub with-closed : (n : ℕ) (cs : List ℕ) → ((c : ℕ) → Has cs c → rank c ≤ n) → (d e : ℕ) → Has (with_below own n cs) d → Has (own d) e →
      Has (with_below own n cs) e
  with-closed n cs low d e is asks =
      let at = has-flat (λ c. c ∷ below own n c) cs d is in
      flat-has (λ c. c ∷ below own n c) cs at.over e at.is (below-closed n at.over (low at.over at.is) d e at.has asks)

  pub closed-all : (r : ℕ) (seen xs : List ℕ) → ClosedUnder r seen → ((d e : ℕ) → Has xs d → Has (own d) e → Has xs e) →
      ClosedUnder r (seen ++ first_places seen xs)
  closed-all r seen xs closed own_closed d e is under asks =
      after-first seen xs e
      ∙ elim (or_cases (is_in seen d) (is_in xs d) (sym (after-first seen xs d) ∙ is)) [
        | inl there ↦ or_left (is_in seen e) (is_in xs e) (closed d e there under asks)
        | inr new ↦ or_right (is_in seen e) (is_in xs e) (own_closed d e new asks)
      ]

-- what stands below depends on what the numbers there look at
abbrev pub SameBelow : (ℕ → List ℕ) → (ℕ → List ℕ) → ℕ → Type 0
SameBelow own other n = (c : ℕ) → ((d : ℕ) → Has (c ∷ below own n c) d → own d ≡ other d) → below own n c ≡ below other n c

pub with-below-same : (own other : ℕ → List ℕ) (n : ℕ) → SameBelow own other n → (cs : List ℕ) →
    ((d : ℕ) → Has (with_below own n cs) d → own d ≡ other d) → with_below own n cs ≡ with_below other n cs
with-below-same own other n same [] each = refl
with-below-same own other n same (c ∷ cs) each =
    ap₂ (λ xs ys. (c ∷ xs) ++ ys) (same c (λ d h. each d (has-left (c ∷ below own n c) (with_below own n cs) d h)))
    (with-below-same own other n same cs (λ d h. each d (has-right (c ∷ below own n c) (with_below own n cs) d h)))

pub below-same : (own other : ℕ → List ℕ) (n : ℕ) → SameBelow own other n
below-same own other zero c same = below-zero own c ∙ sym (below-zero other c)
below-same own other (suc n) c same =
    below-suc own n c
    ∙ (with-below-same own other n (below-same own other n) (own c)
    (λ d h. same d (has-there c (below own (suc n) c) d (subst (λ xs. Has xs d) (sym (below-suc own n c)) h)))
    ∙ (ap (λ cs. with_below other n cs) (same c (has-here c (below own (suc n) c))) ∙ sym (below-suc other n c)))
