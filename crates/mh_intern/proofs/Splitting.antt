-- The splits keep the rule.
use Rattle.std.proofs.Common.{◌≡◌, ℕ, ◌+◌, ◌<◌, ◌≤◌, ◌==◌, List, [], ◌∷◌, length, drop, slice_index, refl, ap, arith}
use Rattle.std.proofs.lemmas.List.Elements.{All-nil, All-cons}
use Rattle.std.proofs.lemmas.List.Sums.{sum_by-cons}
use Rattle.atomic_table.specs.Table.{Splits}
use Rattle.mh_values.specs.declared.types.MethodTy.{MethodTy}
use Rattle.mh_values.specs.Same.{is_same_method_type}
use Rattle.mh_intern.specs.declared.holding.Entry.{Entry}
use Rattle.mh_intern.specs.declared.holding.FullBucket.{FullBucket}
use Rattle.mh_intern.specs.declared.holding.Holding.{Holding}
use Rattle.mh_intern.specs.Held.{times_type, on_slot, on_type, IsFull, Fits, Held}
use Rattle.mh_seats.specs.Room.{times}
use Rattle.mh_intern.specs.Kinds.{caller, less_room, after_request, request, after_reply, reply, full_bucket, refusal, without_first, first_keeper}
use Rattle.mh_intern.proofs.Measures.{count_cons}
use Rattle.mh_intern.proofs.Parting.{parts_allowed}

fits_caller : (holds : List Entry) (room : ℕ) → Fits (caller holds room [] [])
fits_caller holds room = record { slots = λ k none. refl; types = λ t none. refl; zeros = λ k none. refl; full = All-nil IsFull; idle = λ none t. refl }

fits_reply : (v : Holding) → Fits (reply v)
fits_reply v = record { slots = λ k none. refl; types = λ t none. refl; zeros = λ k none. refl; full = All-nil IsFull; idle = λ none t. refl }

pub cuts_allowed : (id room : ℕ) (v : Holding) → room < v.room → Splits Held id v (less_room room v) (caller [] room [] [])
cuts_allowed id room v lt = parts_allowed id v (less_room room v) (caller [] room [] []) (λ f. record {
  weight = omega arith;
  keeps = λ b. omega arith;
  of_slot = λ k. omega arith;
  holds = λ k t. omega arith;
  slots = λ k. omega arith;
  types = λ t. omega arith;
  entries = λ k t. omega arith;
  zeros = λ k. omega arith;
  asked = λ t. omega arith;
  used = λ t none unused. omega arith;
  left = record { slots = f.slots; types = f.types; zeros = f.zeros; full = f.full; idle = λ none t. absurd (omega arith) };
  right = fits_caller [] room;
})

pub asks_allowed : (id : ℕ) (t : MethodTy) (v : Holding) → 1 ≤ v.room → 2 ≤ v.room + length v.holds → Splits Held id v (after_request t v) (request t)
asks_allowed id t v room some_left = parts_allowed id v (after_request t v) (request t) (λ f. record {
  weight = omega arith;
  keeps = λ b. omega arith;
  of_slot = λ k. omega arith;
  holds = λ k u. omega arith;
  slots = λ k. omega arith;
  types = λ u. omega arith;
  entries = λ k u. omega arith;
  zeros = λ k. omega arith;
  asked = λ u. omega (arith, count_cons (λ (x : MethodTy). is_same_method_type x u) t v.asked);
  used = λ u none unused. omega (
    arith,
    count_cons (λ (x : MethodTy). is_same_method_type x u) t v.asked,
    count_cons (λ (x : MethodTy). is_same_method_type x u)
        t [],
  );
  left = record { slots = f.slots; types = f.types; zeros = f.zeros; full = f.full; idle = λ none u. absurd (omega arith) };
  right = record { slots = λ k none. refl; types = λ u none. refl; zeros = λ k none. refl; full = All-nil IsFull; idle = λ none u. refl };
})

-- a keeper asks for nothing, so it may be left with neither room nor holds
module _ (id : ℕ) (v : Holding) (quiet : v.asked ≡ []) where
  fits_answered : Fits v → Fits (after_reply v)
  fits_answered f = record { slots = f.slots; types = f.types; zeros = λ k none. refl; full = f.full; idle = λ none t. ap (times_type t) quiet }

  pub replies_allowed : Splits Held id v (after_reply v) (reply v)
  replies_allowed = parts_allowed id v (after_reply v) (reply v) (λ f. record {
    weight = omega arith;
    keeps = λ b. omega arith;
    of_slot = λ k. omega arith;
    holds = λ k t. omega arith;
    slots = λ k. omega arith;
    types = λ t. omega arith;
    entries = λ k t. omega arith;
    zeros = λ k. omega arith;
    asked = λ t. omega arith;
    used = λ t none unused. omega arith;
    left = fits_answered f;
    right = fits_reply v;
  })

  pub refusals_allowed : IsFull (full_bucket v) → Splits Held id v (after_reply v) (refusal v)
  refusals_allowed full = parts_allowed id v (after_reply v) (refusal v) (λ f. record {
    weight = omega arith;
    keeps = λ b. omega arith;
    of_slot = λ k. omega arith;
    holds = λ k t. omega arith;
    slots = λ k. omega arith;
    types = λ t. omega arith;
    entries = λ k t. omega arith;
    zeros = λ k. omega arith;
    asked = λ t. omega arith;
    used = λ t none unused. omega (arith, sum_by-cons (λ (x : FullBucket). on_type t x.entries) (full_bucket v) []);
    left = fits_answered f;
    right = record {
      slots = λ k none. refl;
      types = λ t none. refl;
      zeros = λ k none. refl;
      full =
          All-cons IsFull (full_bucket v) [] full (All-nil IsFull);
      idle = λ none t. refl;
    };
  })

-- where nothing was put yet, the first bucket gets a keeper of its own
pub keeps_allowed : (id b : ℕ) (bs : List ℕ) (v : Holding) → v.keeps ≡ b ∷ bs → v.entries ≡ [] → v.zeros ≡ [] →
    Splits Held id v (without_first v) (first_keeper v)
keeps_allowed id b bs v are empty unread =
    let tail : drop 1 v.keeps ≡ bs = ap (drop 1) are in
    let head : slice_index v.keeps 0 ≡ b = ap (λ z. slice_index z 0) are in
    let no_slot : (k : ℕ) → on_slot k v.entries ≡ 0 = λ k. ap (on_slot k) empty in
    let no_type : (t : MethodTy) → on_type t v.entries ≡ 0 = λ t. ap (on_type t) empty in
    let no_zero : (k : ℕ) → times k v.zeros ≡ 0 = λ k. ap (times k) unread in
    parts_allowed id v (without_first v) (first_keeper v) (λ f. record {
      weight = omega arith;
      keeps = λ j.
          let a : times j v.keeps ≡ times j (b ∷ bs) = ap (times j) are in
          let a' : times j (drop 1 v.keeps) ≡ times j bs = ap (times j) tail in
          let a'' : times j (slice_index v.keeps 0 ∷ []) ≡ times j (b ∷ []) = ap (λ z. times j (z ∷ [])) head in
          omega (arith, count_cons (λ (y : ℕ). y == j) b bs, count_cons (λ (y : ℕ). y == j) b []);
      of_slot = λ k. omega arith;
      holds = λ k t. omega arith;
      slots = λ k. omega arith;
      types = λ t. omega arith;
      entries = λ k t. omega arith;
      zeros = λ k. omega arith;
      asked = λ t. omega arith;
      used = λ t none unused. omega arith;
      left = record { slots = λ k none. no_slot k; types = λ t none. no_type t; zeros = λ k none. no_zero k; full = f.full; idle = f.idle };
      right = record { slots = λ k none. refl; types = λ t none. refl; zeros = λ k none. refl; full = All-nil IsFull; idle = λ none t. refl };
    })
