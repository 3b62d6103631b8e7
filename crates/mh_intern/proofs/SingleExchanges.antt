-- Single calls on a seat: a hold that goes, a hold more, and a type that is asked for.
use Rattle.std.proofs.Common.{◌≡◌, sym, ◌∙◌, ap, subst, ℕ, suc, ◌+◌, ◌≤◌, List, [], ◌∷◌, ◌++◌, length, append_assoc, arith, Result, Ok, Err, IfOk}
use Rattle.mh_values.specs.declared.types.MethodTy.{MethodTy}
use Rattle.mh_values.specs.Same.{is_same_method_type}
use Rattle.mh_values.proofs.SameTypes.{same_method_type-itself}
use Rattle.mh_intern.specs.declared.error.InternError.{InternError}
use Rattle.mh_intern.specs.declared.error.InternError.TheVariants.{NoMemory, TypesFull}
use Rattle.mh_intern.specs.declared.holding.Entry.{Entry}
use Rattle.mh_intern.specs.Exchanges.{Exchanges, FindsNoSlot}
use Rattle.mh_intern.specs.Held.{has, times_type}
use Rattle.mh_intern.specs.Lists.{is_entry, entry}
use Rattle.mh_intern.specs.Seats.{Holds, Interns}
use Rattle.mh_intern.specs.Trades.{Trades}
use Rattle.mh_intern.specs.Views.{HoldView, SeatView, with_hold, without_hold}
use Rattle.mh_intern.proofs.Measures.{count_cons}
use Rattle.mh_intern.proofs.Entries.{bit, removed_length}
use Rattle.mh_intern.proofs.HoldCounts.{has_more}
use Rattle.mh_intern.proofs.Trading.{trades_lowered}
use Rattle.mh_intern.proofs.Exchanging.{exchanges-still, exchanges-more}

-- ---- single calls

pub exchanges-released : (h : HoldView) (old new : SeatView) → Holds old h → new ≡ without_hold h.entry old → Exchanges [] (h ∷ []) [] old new
exchanges-released h old new held now = record {
  table = ap (λ (z : SeatView). z.table) now;
  traded = subst (λ (z : SeatView). Trades old.holds (h.entry ∷ []) [] z.holds) (sym now) (trades_lowered h.entry old.holds held.counted);
  tables = tt;
  many =
      let n : length new.holds ≡ length (without_hold h.entry old).holds = ap (λ (z : SeatView). length z.holds) now in
      let r = removed_length h.entry old.holds held.counted in
      omega (arith, n, r);
  room = let n : new.room ≡ old.room + 1 = ap (λ (z : SeatView). z.room) now in omega (arith, n);
  asked = λ t none. let n : times_type t new.asked ≡ times_type t old.asked = ap (λ (z : SeatView). times_type t z.asked) now in omega (arith, n, none);
  still_asked = λ t. let n : times_type t new.asked ≡ times_type t old.asked = ap (λ (z : SeatView). times_type t z.asked) now in omega (arith, n);
  still_full = ([], ap (λ (z : SeatView). z.full) now);
}

-- one hold more
pub exchanges-hold : (h : HoldView) (old new : SeatView) → h.table ≡ old.table.holders → 1 ≤ old.room → new ≡ with_hold h.entry old →
    Exchanges [] [] (h ∷ []) old new
exchanges-hold h old new table some now = record {
  table = ap (λ (z : SeatView). z.table) now;
  traded = record {
    counts = λ k t.
        let n : has k t new.holds ≡ has k t (h.entry ∷ old.holds) = ap (λ (z : SeatView). has k t z.holds) now in
        let one = has_more h.entry (entry k t) old.holds in
        let last = count_cons (λ (e : Entry). is_entry e (entry k t)) h.entry [] in
        omega (arith, n, one, last);
  };
  tables = (table ∙ ap (λ (z : SeatView). z.table.holders) (sym now), tt);
  many = let n : length new.holds ≡ suc (length old.holds) = ap (λ (z : SeatView). length z.holds) now in omega (arith, n);
  room = let n : new.room ≡ (with_hold h.entry old).room = ap (λ (z : SeatView). z.room) now in omega (arith, n, some);
  asked = λ t none. let n : times_type t new.asked ≡ times_type t old.asked = ap (λ (z : SeatView). times_type t z.asked) now in omega (arith, n, none);
  still_asked = λ t. let n : times_type t new.asked ≡ times_type t old.asked = ap (λ (z : SeatView). times_type t z.asked) now in omega (arith, n);
  still_full = ([], ap (λ (z : SeatView). z.full) now);
}

-- a type more was asked for
asked-then : (t u : MethodTy) (old new : List MethodTy) → new ≡ t ∷ old → times_type u old + times_type u (t ∷ []) ≡ 0 → times_type u new ≡ 0
asked-then t u old new now none =
    let n : times_type u new ≡ times_type u (t ∷ old) = ap (times_type u) now in
    let one = count_cons (λ (v : MethodTy). is_same_method_type v u) t old in
    let last = count_cons (λ (v : MethodTy). is_same_method_type v u) t [] in
    omega (arith, n, one, last, none)

asked-still : (t u : MethodTy) (old new : List MethodTy) → new ≡ t ∷ old → times_type u old ≤ times_type u new
asked-still t u old new now =
    let n : times_type u new ≡ times_type u (t ∷ old) = ap (times_type u) now in
    let one = count_cons (λ (v : MethodTy). is_same_method_type v u) t old in
    omega (arith, n, one)

asked-now : (t : MethodTy) (old new : List MethodTy) → new ≡ t ∷ old → 1 ≤ times_type t new
asked-now t old new now =
    let n : times_type t new ≡ times_type t (t ∷ old) = ap (times_type t) now in
    let one = count_cons (λ (v : MethodTy). is_same_method_type v t) t old in
    let same : bit (is_same_method_type t t) ≡ 1 = ap bit (same_method_type-itself t) in
    omega (arith, n, one, same)

-- what is left of a request for a type
abbrev pub came_of : Result HoldView InternError → List HoldView
came_of (Ok h) = h ∷ []
came_of (Err e) = []

pub exchanges-interned : (t : MethodTy) (old new : SeatView) (r : Result HoldView InternError) → 1 ≤ old.room → Interns t old r new →
    IfOk r (λ h. Holds new h) → Exchanges (t ∷ []) [] (came_of r) old new
exchanges-interned t old new (Ok h) some interned held =
    let now = interned.1 in
    let table : new.table ≡ old.table = ap (λ (z : SeatView). z.table) now in
    record {
      table = table;
      traded = record {
        counts = λ k u.
            let n : has k u new.holds ≡ has k u (h.entry ∷ old.holds) = ap (λ (z : SeatView). has k u z.holds) now in
            let one = has_more h.entry (entry k u) old.holds in
            let last = count_cons (λ (e : Entry). is_entry e (entry k u)) h.entry [] in
            omega (arith, n, one, last);
      };
      tables = (held.table, tt);
      many = let n : length new.holds ≡ suc (length old.holds) = ap (λ (z : SeatView). length z.holds) now in omega (arith, n);
      room = let n : new.room ≡ (with_hold h.entry old).room = ap (λ (z : SeatView). z.room) now in omega (arith, n, some);
      asked = λ u none. asked-then t u old.asked new.asked (ap (λ (z : SeatView). z.asked) now) none;
      still_asked = λ u. asked-still t u old.asked new.asked (ap (λ (z : SeatView). z.asked) now);
      still_full = ([], ap (λ (z : SeatView). z.full) now);
    }
exchanges-interned t old new (Err NoMemory) some interned held =
    exchanges-more [] (t ∷ []) [] [] old new (λ u. omega arith) (subst (λ z. Exchanges [] [] [] old z) (sym interned) (exchanges-still old))
exchanges-interned t old new (Err (TypesFull bucket)) some interned held =
    let now = interned.1.2 in
    record {
      table = ap (λ (z : SeatView). z.table) now;
      traded = record { counts = λ k u. let n : has k u new.holds ≡ has k u old.holds = ap (λ (z : SeatView). has k u z.holds) now in omega (arith, n) };
      tables = tt;
      many = let n : length new.holds ≡ length old.holds = ap (λ (z : SeatView). length z.holds) now in omega (arith, n);
      room = let n : new.room ≡ old.room = ap (λ (z : SeatView). z.room) now in omega (arith, n);
      asked = λ u none. asked-then t u old.asked new.asked (ap (λ (z : SeatView). z.asked) now) none;
      still_asked = λ u. asked-still t u old.asked new.asked (ap (λ (z : SeatView). z.asked) now);
      still_full = (interned.1.0 ∷ [], ap (λ (z : SeatView). z.full) now);
    }

-- the bucket of a type that was found full
pub no-slot : (t : MethodTy) (bucket : ℕ) (old new : SeatView) → Interns t old (Err (TypesFull bucket)) new → FindsNoSlot bucket t new
no-slot t bucket old new interned =
    let now = interned.1.2 in
    record {
      bucket_is = interned.0;
      asked = asked-now t old.asked new.asked (ap (λ (z : SeatView). z.asked) now);
      full = interned.1.0;
      full_for = interned.1.1;
      found = ([], old.full, ap (λ (z : SeatView). z.full) now);
    }

-- that stays so
pub no-slot-still : (bucket : ℕ) (t : MethodTy) (asks : List MethodTy) (gone came : List HoldView) (old new : SeatView) → FindsNoSlot bucket t old →
    Exchanges asks gone came old new → FindsNoSlot bucket t new
no-slot-still bucket t asks gone came old new none x = record {
  bucket_is = none.bucket_is;
  asked = let more = x.still_asked t in omega (arith, more, none.asked);
  full = none.full;
  full_for = none.full_for;
  found = (
    x.still_full.0 ++ none.found.0,
    none.found.1,
    x.still_full.1 ∙ (ap (λ l. x.still_full.0 ++ l) none.found.2 ∙ sym (append_assoc x.still_full.0 none.found.0 (none.full ∷ none.found.1))),
  );
}
