-- A bucket that was found full, and one type more of it: together they are more types than the bucket has slots.
use Rattle.std.proofs.Common.{◌≡◌, refl, sym, ◌∙◌, ap, ap₂, subst, ℕ, ◌+◌, ◌<◌, ◌≤◌, ◌==◌, Bool, true, false, ◌&&◌, List, [], ◌∷◌, ◌++◌, length, map, ⊎_elim, arith}
use Rattle.std.specs.Prelude.{filter, sum_by}
use Rattle.std.proofs.lemmas.Bool.{eq-eqb, or_cases}
use Rattle.std.proofs.lemmas.List.{length-map}
use Rattle.std.proofs.lemmas.List.Sums.{sum_by-append, sum_by-cons}
use Rattle.std.proofs.lemmas.Map.Made.{is_member-filter}
use Rattle.mh_values.specs.declared.types.MethodTy.{MethodTy}
use Rattle.mh_values.specs.Same.{is_same_method_type}
use Rattle.mh_values.proofs.SameTypes.{same_method_type-is}
use Rattle.mh_seats.specs.Room.{limit}
use Rattle.mh_intern.specs.declared.holding.Entry.{Entry}
use Rattle.mh_intern.specs.declared.holding.FullBucket.{FullBucket}
use Rattle.mh_intern.specs.Buckets.{bucket_of, bucket_slots}
use Rattle.mh_intern.specs.Held.{on_type, times_type}
use Rattle.mh_intern.specs.Interning.{IsFullFor}
use Rattle.mh_intern.specs.Seats.{Knows}
use Rattle.mh_intern.specs.Views.{SeatView}
use Rattle.mh_intern.proofs.Entries.{bit}
use Rattle.mh_intern.proofs.Measures.{count_cons}
use Rattle.mh_attempt.specs.AskedTypes.{HasNoSlot}
use Rattle.mh_report.specs.Types.{Overfill}
use Rattle.mh_runtime.proofs.types.TypeLists.{any-counted, any-turned, count-distinct, is_one, same-equivalence, types-distinct}

-- the types of entries
abbrev types_in : List Entry → List MethodTy
types_in es = map (λ e. e.ty) es

-- how often a type is one of those of entries
times-types : (t : MethodTy) (es : List Entry) → times_type t (types_in es) ≡ on_type t es
times-types t [] = refl
times-types t (e ∷ es) =
    let rest = times-types t es in
    omega (
      arith,
      rest,
      count_cons (λ (u : MethodTy). is_same_method_type u t) e.ty (types_in es),
      count_cons (λ (x : Entry). is_same_method_type x.ty t) e es,
    )

-- a type of entries is counted among them
one-counted : (t : MethodTy) (es : List Entry) → is_one (types_in es) t ≡ true → 0 < on_type t es
one-counted t es there =
    let more = any-counted (λ (u : MethodTy). is_same_method_type u t) (types_in es) (any-turned t (types_in es) ∙ there) in
    omega (arith, more, times-types t es)

module _ (t : MethodTy) (f : FullBucket) (full_for : IsFullFor t f) where
  -- the types of the bucket, and the one that found it full
  abbrev whole : List MethodTy
  whole = t ∷ types_in f.entries

  -- they are more than slots
  many : bucket_slots < length whole
  many = omega (arith, full_for.full.many, length-map f.entries (λ (e : Entry). e.ty))

  -- no two of them are one
  once : (u : MethodTy) → times_type u whole ≤ 1
  once u = cases (is_same_method_type t u) refl
    where
      count : times_type u whole ≡ bit (is_same_method_type t u) + on_type u f.entries
      count = omega (arith, count_cons (λ (v : MethodTy). is_same_method_type v u) t (types_in f.entries), times-types u f.entries)

      cases : (b : Bool) → is_same_method_type t u ≡ b → times_type u whole ≤ 1
      cases true same =
          let one : bit (is_same_method_type t u) ≡ 1 = ap bit same in
          let none : on_type u f.entries ≡ 0 = subst (λ v. on_type v f.entries ≡ 0) (same_method_type-is t u same) full_for.lacks in
          omega (arith, count, one, none)
      cases false other =
          let none : bit (is_same_method_type t u) ≡ 0 = ap bit other in
          omega (arith, count, none, full_for.full.apart u)

  -- all of them are of the bucket
  here : (u : MethodTy) → is_one whole u ≡ true → bucket_of u ≡ bucket_of t
  here u there = ⊎_elim
      (λ (same : is_same_method_type u t ≡ true). ap bucket_of (same_method_type-is u t same))
      (λ (among : is_one (types_in f.entries) u ≡ true). full_for.full.here u (one-counted u f.entries among) ∙ full_for.bucket)
      (or_cases (is_same_method_type u t) (is_one (types_in f.entries) u) there)

  -- where other types have all of these, the bucket has more of those than slots
  overfills : (types : List MethodTy) → ((u : MethodTy) → is_one whole u ≡ true → is_one types u ≡ true) → Overfill (bucket_of t) types
  overfills types among = omega (
    arith,
    many,
    count-distinct whole (filter (λ u. bucket_of u == bucket_of t) types) (types-distinct whole once) (λ u there.
        is_member-filter same-equivalence (λ v. bucket_of v == bucket_of t) u
        (λ v same. ap (λ w. bucket_of w == bucket_of t) (same_method_type-is u v same)) types
        ∙ ap₂ (λ a b. a && b) (among u there) (eq-eqb (bucket_of u) (bucket_of t) (here u there))),
  )

-- a seat that knows what it asked for has found no slot for a type: where all that it was asked for is among some types, the bucket has more of them than slots
pub no-slot-overfills : (bucket : ℕ) (seat : SeatView) (types : List MethodTy) → seat.room + length seat.holds ≡ limit → Knows seat → HasNoSlot bucket seat →
    ((t : MethodTy) → 0 < times_type t seat.asked → is_one types t ≡ true) → Overfill bucket types
no-slot-overfills bucket seat types all knows none among =
    subst (λ b. Overfill b types) (sym none.1.bucket_is) (overfills t full none.1.full_for types (λ u there. among u (asked u there)))
  where
    t : MethodTy
    t = none.0

    full : FullBucket
    full = none.1.full

    counted : (u : MethodTy) → 0 < on_type u full.entries → 0 < sum_by (λ (f : FullBucket). on_type u f.entries) seat.full
    counted u some =
        let count : FullBucket → ℕ = λ f. on_type u f.entries in
        let found : sum_by count seat.full ≡ sum_by count (none.1.found.0 ++ full ∷ none.1.found.1) = ap (sum_by count) none.1.found.2 in
        omega (arith, some, found, sum_by-append count none.1.found.0 (full ∷ none.1.found.1), sum_by-cons count full none.1.found.1)

    asked : (u : MethodTy) → is_one (t ∷ types_in full.entries) u ≡ true → 0 < times_type u seat.asked
    asked u there = ⊎_elim
        (λ (same : is_same_method_type u t ≡ true).
        subst (λ v. 0 < times_type v seat.asked) (sym (same_method_type-is u t same)) (omega (arith, none.1.asked)))
        (λ (held : is_one (types_in full.entries) u ≡ true). knows.2 all u (counted u (one-counted u full.entries held)))
        (or_cases (is_same_method_type u t) (is_one (types_in full.entries) u) there)
