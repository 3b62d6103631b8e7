-- Which types a seat was asked for, call after call.
use Rattle.std.proofs.Common.{◌≡◌, sym, ◌∙◌, ap, subst, ◌+◌, List, [], ◌∷◌, ◌++◌, append-nil, append_assoc, arith}
use Rattle.std.specs.List.{flat_map}
use Rattle.std.proofs.lemmas.Grind.{flat_map-append}
use Rattle.mh_values.specs.declared.types.MethodTy.{MethodTy}
use Rattle.mh_intern.specs.Held.{times_type}
use Rattle.mh_intern.specs.Views.{SeatView}
use Rattle.mh_intern.proofs.Measures.{times_type-append}
use Rattle.mh_jobs.specs.Given.{Given}
use Rattle.mh_attempt.specs.AskedTypes.{AsksNoOther}
use Rattle.mh_report.specs.declared.attempt.Attempt.{Attempt}
use Rattle.mh_report.specs.Types.{attempt_types}
use Rattle.mh_runtime.specs.Asking.{HasAskedOn, WasAsked, run_types}

-- ---- lists of types

-- nothing more was asked for after a call
pub asks-still : (types : List MethodTy) (old mid new : SeatView) → AsksNoOther types old mid → AsksNoOther [] mid new → AsksNoOther types old new
asks-still types old mid new first second t none = let m = first t none in second t (omega (arith, m))

-- nothing was asked for at all
pub asks-same : (old new : SeatView) → new ≡ old → AsksNoOther [] old new
asks-same old new same t none = let n : times_type t new.asked ≡ times_type t old.asked = ap (λ (s : SeatView). times_type t s.asked) same in
    omega (arith, n, none)

module _ (given : Given) where
  -- how often it is one of those of attempts and of calls
  times-run : (t : MethodTy) (attempts : List Attempt) (types : List MethodTy) →
      times_type t (run_types given attempts types) ≡ times_type t (flat_map (attempt_types given) attempts) + times_type t types
  times-run t attempts types = times_type-append t (flat_map (attempt_types given) attempts) types

  -- how often it is one of those of attempts and of one more
  times-made : (t : MethodTy) (attempts : List Attempt) (a : Attempt) →
      times_type t (flat_map (attempt_types given) (attempts ++ a ∷ []))
      ≡ times_type t (flat_map (attempt_types given) attempts) + times_type t (attempt_types given a)
  times-made t attempts a =
      let made : List MethodTy = flat_map (attempt_types given) attempts in
      ap (times_type t)
      (flat_map-append (attempt_types given) attempts (a ∷ []) ∙ ap (λ ts. made ++ ts) (append-nil (attempt_types given a)))
      ∙ times_type-append t made (attempt_types given a)

  -- ---- what one step leaves

  -- no step
  pub on-none : (attempts : List Attempt) (seat : SeatView) → HasAskedOn given attempts attempts [] seat seat
  on-none attempts seat types was = subst (λ ts. WasAsked (run_types given attempts ts) seat) (sym (append-nil types)) was

  -- an attempt
  pub on-attempt : (attempts : List Attempt) (a : Attempt) (old new : SeatView) → AsksNoOther (attempt_types given a) old new →
      HasAskedOn given attempts (attempts ++ a ∷ []) [] old new
  on-attempt attempts a old new asks types was t none =
      let p = times-run t (attempts ++ a ∷ []) (types ++ []) in
      let q = times_type-append t types [] in
      let m = times-made t attempts a in
      let r = times-run t attempts types in
      let before = was t (omega (arith, none, p, q, m, r)) in
      asks t (omega (arith, none, p, m, before))

  -- a call that attempts nothing
  pub on-call : (attempts : List Attempt) (more : List MethodTy) (old new : SeatView) → AsksNoOther more old new →
      HasAskedOn given attempts attempts more old new
  on-call attempts more old new asks types was t none =
      let p = times-run t attempts (types ++ more) in
      let q = times_type-append t types more in
      let r = times-run t attempts types in
      let before = was t (omega (arith, none, p, q, r)) in
      asks t (omega (arith, none, p, q, before))

  -- two steps
  pub on-both : (first second : List MethodTy) (a b c : List Attempt) (old mid new : SeatView) → HasAskedOn given a b first old mid →
      HasAskedOn given b c second mid new → HasAskedOn given a c (first ++ second) old new
  on-both first second a b c old mid new x y types was =
      subst (λ ts. WasAsked (run_types given c ts) new) (append_assoc types first second) (y (types ++ first) (x types was))

  -- after which there could have been more calls
  pub on-early : (some rest : List MethodTy) (a b : List Attempt) (old new : SeatView) → HasAskedOn given a b some old new →
      HasAskedOn given a b (some ++ rest) old new
  on-early some rest a b old new x types was t none =
      let p = times-run t b (types ++ (some ++ rest)) in
      let q = times_type-append t types (some ++ rest) in
      let r = times_type-append t some rest in
      let u = times-run t b (types ++ some) in
      let v = times_type-append t types some in
      x types was t (omega (arith, none, p, q, r, u, v))
