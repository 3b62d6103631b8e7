-- Holds in another order, and calls on a seat after each other.
use Rattle.std.proofs.Common.{◌≡◌, sym, subst, ℕ, List, [], ◌++◌, length, length-append, append-nil, arith}
use Rattle.mh_values.specs.declared.types.MethodTy.{MethodTy}
use Rattle.mh_intern.specs.Exchanges.{AreHeld, AreOf, Exchanges, entries_of}
use Rattle.mh_intern.specs.Held.{has}
use Rattle.mh_intern.specs.Views.{HoldView, SeatView}
use Rattle.mh_intern.proofs.Exchanging.{exchanges-both, exchanges-more, exchanges-then}
use Rattle.mh_intern.proofs.HeldLists.{has-append, of-both}

-- ---- holds in another order

-- the same holds, each as often
pub record Same (a b : List HoldView) : Type 0 where
  pub counts : (k : ℕ) (t : MethodTy) → has k t (entries_of a) ≡ has k t (entries_of b)
  pub many : length a ≡ length b

pub same-swapped : (a b : List HoldView) → Same (a ++ b) (b ++ a)
same-swapped a b = record {
  counts = λ k t. let m = has-append k t a b in let n = has-append k t b a in omega (arith, m, n);
  many = let m = length-append a b in let n = length-append b a in omega (arith, m, n);
}

pub exchanges-same : (asks : List MethodTy) (gone gone' came : List HoldView) (old new : SeatView) → Same gone gone' → Exchanges asks gone came old new →
    Exchanges asks gone' came old new
exchanges-same asks gone gone' came old new same x = record {
  table = x.table;
  traded = record { counts = λ k t. let c = same.counts k t in omega (arith, c, x.traded.counts k t) };
  tables = x.tables;
  many = omega (arith, same.many, x.many);
  room = omega (arith, same.many, x.room);
  asked = x.asked;
  still_asked = x.still_asked;
  still_full = x.still_full;
}

-- ---- calls after each other

-- holds are handed back after a call
pub exchanges-after : (asks : List MethodTy) (gone came back : List HoldView) (a b c : SeatView) → Exchanges asks gone came a b → Exchanges [] back [] b c →
    Exchanges asks (gone ++ back) came a c
exchanges-after asks gone came back a b c x y =
    subst (λ l. Exchanges l (gone ++ back) came a c) (append-nil asks)
    (subst (λ l. Exchanges (asks ++ []) (gone ++ back) l a c) (append-nil came) (exchanges-both asks [] gone back came [] a b c x y))

-- other holds stay
pub exchanges-kept : (asks : List MethodTy) (gone came kept : List HoldView) (old new : SeatView) → AreHeld old kept → Exchanges asks gone came old new →
    Exchanges asks (gone ++ kept) (came ++ kept) old new
exchanges-kept asks gone came kept old new held x = record {
  table = x.table;
  traded = record {
    counts = λ k t.
        let m = has-append k t gone kept in
        let n = has-append k t came kept in
        omega (arith, m, n, x.traded.counts k t);
  };
  tables = of-both new.table.holders came kept x.tables (subst (λ z. AreOf z.holders kept) (sym x.table) held.tables);
  many = let m = length-append gone kept in let n = length-append came kept in omega (arith, m, n, x.many);
  room = let m = length-append gone kept in let n = length-append came kept in omega (arith, m, n, x.room);
  asked = x.asked;
  still_asked = x.still_asked;
  still_full = x.still_full;
}

-- the holds of two lists are handed back, one after the other
pub exchanges-back : (first second : List HoldView) (a b c : SeatView) → Exchanges [] first [] a b → Exchanges [] second [] b c →
    Exchanges [] (first ++ second) [] a c
exchanges-back first second a b c x y = exchanges-then [] [] first [] second [] a b c x y

-- nothing is asked for that may be asked for
pub exchanges-few : (asks : List MethodTy) (gone came : List HoldView) (old new : SeatView) → Exchanges [] gone came old new → Exchanges asks gone came old new
exchanges-few asks gone came old new x = exchanges-more [] asks gone came old new (λ t. omega arith) x
