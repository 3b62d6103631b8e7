-- What is known where no number is left for a form, or no slot for a type.
use Rattle.std.proofs.Common.{◌≡◌, sym, ap, subst, ℕ, zero, suc, ◌+◌, ◌^◌, ◌<◌, ◌≤◌, List, ◌∷◌, ◌++◌, length, arith}
use Rattle.std.specs.Prelude.{Contains, sum_by}
use Rattle.std.proofs.lemmas.List.Sums.{sum_by-append, sum_by-cons}
use Rattle.mh_values.specs.declared.types.MethodTy.{MethodTy}
use Rattle.mh_intern.specs.declared.holding.FullBucket.{FullBucket}
use Rattle.mh_intern.specs.Held.{on_type, times_type}
use Rattle.mh_intern.specs.Seats.{Knows}
use Rattle.mh_intern.specs.Views.{SeatView}
use Rattle.mh_handle.specs.Passes.{KnowsAll, PassView}
use Rattle.mh_jobs.specs.Given.{Given}
use Rattle.mh_link.specs.Sites.{with_serials}
use Rattle.mh_attempt.specs.declared.error.WorkError.TheVariants.{FormsFull, TypesFull}
use Rattle.mh_attempt.specs.AskedTypes.{HasNoSlot}
use Rattle.mh_drawn.specs.Linked.{FillBucket, NeedsManyForms, NeedsManyTypes, StopsLinking, WasAsked, types_to}
use Rattle.mh_drawn.proofs.Numbers.{no-greater}

-- ---- numbers of forms

pub full-forms : (given : Given) (old new : PassView) (seat : SeatView) (drawn : ℕ) → StopsLinking given old seat (FormsFull drawn) →
    new.seat.numbers ≡ old.seat.numbers → new.seat.room ≡ old.seat.room → KnowsAll new.seat → NeedsManyForms given
full-forms given old new seat drawn stops numbers room knows =
    let has = stops.4.1 in
    let over = stops.4.2 in
    let all : length new.seat.numbers + new.seat.room ≡ 2 ^ 62 = omega (arith, ap length numbers, room, has.room) in
    let within = no-greater new.seat.numbers drawn (knows all) (subst (λ ns. Contains ns drawn) (sym numbers) over.1) in
    (stops.0, stops.1, stops.2, stops.3, omega (arith, within, ap length numbers, has.few, over.0))

-- ---- slots for types

-- a type that was asked for is one of those that were to be asked for
one-of : (types : List MethodTy) (seat : SeatView) → WasAsked types seat → (t : MethodTy) → 0 < times_type t seat.asked → 1 ≤ times_type t types
one-of types seat was t asked = cases (times_type t types) (was t)
  where
    cases : (n : ℕ) → (n ≡ 0 → times_type t seat.asked ≡ 0) → 1 ≤ n
    cases zero none = absurd (omega (arith, asked, none refl'))
      where
        refl' : zero ≡ 0
        refl' = cc
    cases (suc n) none = omega arith

fills : (types : List MethodTy) (bucket : ℕ) (seat : SeatView) → WasAsked types seat → seat.room + length seat.holds ≡ 2 ^ 62 → Knows seat →
    HasNoSlot bucket seat → FillBucket types
fills types bucket seat was whole knows none =
    (none.0, full, none.1.full_for, one-of types seat was none.0 (omega (arith, none.1.asked)), others)
  where
    full : FullBucket
    full = none.1.full

    counted : (u : MethodTy) → 0 < on_type u full.entries → 0 < sum_by (λ (f : FullBucket). on_type u f.entries) seat.full
    counted u some =
        let count : FullBucket → ℕ = λ f. on_type u f.entries in
        let found : sum_by count seat.full ≡ sum_by count (none.1.found.0 ++ full ∷ none.1.found.1) = ap (sum_by count) none.1.found.2 in
        omega (arith, some, found, sum_by-append count none.1.found.0 (full ∷ none.1.found.1), sum_by-cons count full none.1.found.1)

    others : (u : MethodTy) → 0 < on_type u full.entries → 1 ≤ times_type u types
    others u some = one-of types seat was u (knows.2 whole u (counted u some))

pub full-types : (given : Given) (pass : PassView) (old new : SeatView) (bucket : ℕ) → StopsLinking given pass old (TypesFull bucket) → new ≡ old → Knows new →
    NeedsManyTypes given
full-types given pass old new bucket stops same knows = (
  stops.0,
  stops.1,
  stops.2,
  stops.3,
  fills (types_to (with_serials stops.1 given) stops.0) bucket old stops.4.1 stops.4.0.whole (subst Knows same knows) stops.4.2,
)
