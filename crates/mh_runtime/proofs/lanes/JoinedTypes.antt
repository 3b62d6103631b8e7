-- What seats of types were asked for, and what they know, that are joined one after the other.
use Rattle.std.proofs.Common.{◌≡◌, sym, ◌∙◌, ap, subst, ℕ, List, ◌∷◌, ◌++◌, append_assoc, arith}
use Rattle.mh_values.specs.declared.types.MethodTy.{MethodTy}
use Rattle.mh_intern.specs.Held.{times_type}
use Rattle.mh_intern.specs.Views.{SeatView, joined_seats}
use Rattle.mh_intern.proofs.Measures.{times_type-append}
use Rattle.mh_attempt.specs.AskedTypes.{HasNoSlot}
use Rattle.mh_runtime.specs.Asking.{WasAsked}

module _ (old other new : SeatView) (joined : new ≡ joined_seats old other) where
  -- it was asked for what both were asked for
  pub types-joined : (xs ys : List MethodTy) → WasAsked xs old → WasAsked ys other → WasAsked (xs ++ ys) new
  types-joined xs ys mine theirs t none =
      let both = times_type-append t xs ys in
      let p = mine t (omega (arith, none, both)) in
      let q = theirs t (omega (arith, none, both)) in
      let all : times_type t new.asked ≡ times_type t (other.asked ++ old.asked) = ap (λ (s : SeatView). times_type t s.asked) joined in
      omega (arith, all, times_type-append t other.asked old.asked, p, q)

  -- a bucket that one of them has found full, it has found full
  pub no-slot-mine : (bucket : ℕ) → HasNoSlot bucket old → HasNoSlot bucket new
  no-slot-mine bucket none =
      let t : MethodTy = none.0 in
      let found = none.1 in
      subst (HasNoSlot bucket) (sym joined) (
        t,
        record {
          bucket_is = found.bucket_is;
          asked = omega (arith, found.asked, times_type-append t other.asked old.asked);
          full = found.full;
          full_for = found.full_for;
          found = (
            other.full ++ found.found.0,
            found.found.1,
            ap (λ l. other.full ++ l) found.found.2 ∙ sym (append_assoc other.full found.found.0 (found.full ∷ found.found.1)),
          );
        },
      )

  -- also where it is the other one
  pub no-slot-theirs : (bucket : ℕ) → HasNoSlot bucket other → HasNoSlot bucket new
  no-slot-theirs bucket none =
      let t : MethodTy = none.0 in
      let found = none.1 in
      subst (HasNoSlot bucket) (sym joined) (
        t,
        record {
          bucket_is = found.bucket_is;
          asked = omega (arith, found.asked, times_type-append t other.asked old.asked);
          full = found.full;
          full_for = found.full_for;
          found = (
            found.found.0,
            found.found.1 ++ old.full,
            ap (λ l. l ++ old.full) found.found.2 ∙ append_assoc found.found.0 (found.full ∷ found.found.1) old.full,
          );
        },
      )
