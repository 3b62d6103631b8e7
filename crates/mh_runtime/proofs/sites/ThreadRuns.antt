-- The attempts of one thread, whose calls name one site more.
use Rattle.std.proofs.Common.{◌≡◌, ◌≢◌, refl, sym, ◌∙◌, ap, ap₂, subst, ℕ, ◌<◌, Bool, true, false, cond, if◌then◌else◌, List, [], ◌∷◌, ◌++◌, append-nil, map, None, arith}
use Rattle.std.specs.Prelude.{◌==◌, All, AllPairs, Contains, IsSome, filter, is_some}
use Rattle.std.proofs.lemmas.Bool.{both_ways, eq-eqb, false_from_ne_true, or_right}
use Rattle.std.proofs.lemmas.List.{get_or-map, length-map, map_push}
use Rattle.std.proofs.lemmas.List.Elements.{All-contains, All-get_or, All-map, All-push, All-weaker, Contains-append_left, Contains-push, filter-append}
use Rattle.std.proofs.lemmas.List.Quantifiers.{all_pairs_push}
use Rattle.mh_tickets.specs.Seats.{Draws, SeatView}
use Rattle.mh_plan.specs.Naming.{first_places}
use Rattle.mh_report.specs.declared.attempt.Attempt.{Attempt}
use Rattle.mh_report.specs.Results.{Serials, serial_at}
use Rattle.mh_runtime.specs.Attempts.{AreLinked, IsThreadRun, sites_of}
use Rattle.mh_runtime.specs.Passes.{LinkPass}
use Rattle.mh_runtime.proofs.sites.Sites.{is_in, contains-in, first-push, first-within, in-contains, in-push, kept-other}

-- a site that is not linked is none of those that are
pub not-linked : (linked : Serials) (sites : List ℕ) (x : ℕ) → AreLinked linked sites → serial_at linked x ≡ None → is_in sites x ≡ false
not-linked linked sites x all none = false_from_ne_true (is_in sites x) (λ there.
    let some : IsSome (serial_at linked x) = All-contains (λ site. IsSome (serial_at linked site)) sites x all (in-contains sites x there) in
    let none_some : is_some (serial_at linked x) ≡ false = ap is_some none in
    absurd cc)

module _ (sites : List ℕ) (x : ℕ) (old new : LinkPass) (run : IsThreadRun sites old) (thread : new.thread ≡ old.thread) where
  -- a site that was attempted
  abbrev made : ℕ → Bool
  made = is_in (sites_of old.attempts)

  -- each was named
  none-made : is_in sites x ≡ false → made x ≡ false
  none-made none = false_from_ne_true (made x) (λ there.
      let named : Contains sites x =
      All-contains (Contains sites) (sites_of old.attempts) x (All-map (Contains sites) (λ (a : Attempt). a.site) old.attempts run.reached)
      (in-contains (sites_of old.attempts) x there) in
      both_ways (is_in sites x) none (contains-in sites x named))

  -- ---- nothing more is attempted

  order-same : sites_of old.attempts ≡ filter made (first_places [] (sites ++ x ∷ []))
  order-same =
      run.in_order
      ∙ sym (ap (filter made) (first-push [] sites x) ∙ (filter-append made (first_places [] sites) (if is_in sites x then [] else x ∷ [])
      ∙ (ap (λ ks. filter made (first_places [] sites) ++ ks) (cases (is_in sites x) refl) ∙ append-nil (filter made (first_places [] sites)))))
    where
      cases : (b : Bool) → is_in sites x ≡ b → filter made (if b then [] else x ∷ []) ≡ []
      cases true there = refl
      cases false none = ap (λ b. cond b (x ∷ []) []) (none-made none)

  pub run-same : new.attempts ≡ old.attempts → new.seat ≡ old.seat → IsThreadRun (sites ++ x ∷ []) new
  run-same attempts seat = record {
    numbered = ap (map (λ (a : Attempt). a.serial)) attempts ∙ (run.numbered ∙ ap (λ (s : SeatView). s.numbers) (sym seat));
    rising = subst (AllPairs (λ (a b : Attempt). a.serial < b.serial)) (sym attempts) run.rising;
    own = subst (λ n. All (λ (a : Attempt). a.thread ≡ n) new.attempts) (sym thread)
        (subst (All (λ (a : Attempt). a.thread ≡ old.thread)) (sym attempts) run.own);
    apart = subst (AllPairs (λ (a b : Attempt). a.site ≢ b.site)) (sym attempts) run.apart;
    reached = subst (All (λ (a : Attempt). Contains (sites ++ x ∷ []) a.site)) (sym attempts)
        (All-weaker (λ (a : Attempt). Contains sites a.site) (λ (a : Attempt). Contains (sites ++ x ∷ []) a.site)
        (λ a named. Contains-append_left sites (x ∷ []) a.site named) old.attempts run.reached);
    in_order = subst (λ all. sites_of all ≡ filter (is_in (sites_of all)) (first_places [] (sites ++ x ∷ []))) (sym attempts) order-same;
  }

  -- ---- the site is attempted

  module _ (serial : ℕ) (none : is_in sites x ≡ false) (draws : Draws serial old.seat new.seat) where
    abbrev begun : Attempt
    begun = record { thread = old.thread; site = x; serial = serial }

    abbrev after : List Attempt
    after = old.attempts ++ begun ∷ []

    serials-rise : AllPairs (λ (a b : Attempt). a.serial < b.serial) after
    serials-rise = all_pairs_push (λ (a b : Attempt). a.serial < b.serial) old.attempts begun run.rising (λ k d low.
        let less : All (λ n. n < serial) (map (λ (a : Attempt). a.serial) old.attempts) = subst (All (λ n. n < serial)) (sym run.numbered) draws.greater in
        subst (λ n. n < serial) (get_or-map (λ (a : Attempt). a.serial) old.attempts k d 0 low)
        (All-get_or (λ n. n < serial) (map (λ (a : Attempt). a.serial) old.attempts) k 0
        (omega (arith, low, length-map old.attempts (λ (a : Attempt). a.serial))) less))

    sites-apart : AllPairs (λ (a b : Attempt). a.site ≢ b.site) after
    sites-apart = all_pairs_push (λ (a b : Attempt). a.site ≢ b.site) old.attempts begun run.apart (λ k d low same.
        let named : Contains sites x =
        subst (Contains sites) same (All-get_or (λ (a : Attempt). Contains sites a.site) old.attempts k d low run.reached) in
        both_ways (is_in sites x) none (contains-in sites x named))

    order-more : sites_of after ≡ filter (is_in (sites_of after)) (first_places [] (sites ++ x ∷ []))
    order-more =
        let more : sites_of after ≡ sites_of old.attempts ++ x ∷ [] = map_push (λ (a : Attempt). a.site) old.attempts begun in
        let first : first_places [] (sites ++ x ∷ []) ≡ first_places [] sites ++ x ∷ [] =
        first-push [] sites x ∙ ap (λ b. first_places [] sites ++ (if b then [] else x ∷ [])) none in
        more ∙ sym (ap₂ (λ ys zs. filter (is_in ys) zs) more first
        ∙ (filter-append (is_in (sites_of old.attempts ++ x ∷ [])) (first_places [] sites) (x ∷ [])
        ∙ ap₂ (λ front back. front ++ back)
        (kept-other (sites_of old.attempts) x (first_places [] sites) (first-within [] sites x none) ∙ sym run.in_order)
        (ap (λ b. cond b (x ∷ []) []) (in-push (sites_of old.attempts) x x ∙ or_right (made x) (x == x) (eq-eqb x x refl)))))

    pub run-more : new.attempts ≡ after → IsThreadRun (sites ++ x ∷ []) new
    run-more attempts = record {
      numbered = ap (map (λ (a : Attempt). a.serial)) attempts ∙ (map_push (λ (a : Attempt). a.serial) old.attempts begun
          ∙ (ap (λ ns. ns ++ serial ∷ []) run.numbered ∙ sym draws.numbers));
      rising = subst (AllPairs (λ (a b : Attempt). a.serial < b.serial)) (sym attempts) serials-rise;
      own = subst (λ n. All (λ (a : Attempt). a.thread ≡ n) new.attempts) (sym thread)
          (subst (All (λ (a : Attempt). a.thread ≡ old.thread)) (sym attempts)
          (All-push (λ (a : Attempt). a.thread ≡ old.thread) old.attempts begun run.own refl));
      apart = subst (AllPairs (λ (a b : Attempt). a.site ≢ b.site)) (sym attempts) sites-apart;
      reached = subst (All (λ (a : Attempt). Contains (sites ++ x ∷ []) a.site)) (sym attempts)
          (All-push (λ (a : Attempt). Contains (sites ++ x ∷ []) a.site) old.attempts begun
          (All-weaker (λ (a : Attempt). Contains sites a.site) (λ (a : Attempt). Contains (sites ++ x ∷ []) a.site)
          (λ a named. Contains-append_left sites (x ∷ []) a.site named) old.attempts run.reached)
          (Contains-push sites x));
      in_order = subst (λ all. sites_of all ≡ filter (is_in (sites_of all)) (first_places [] (sites ++ x ∷ []))) (sym attempts) order-more;
    }
