-- Calls on a seat one after the other, and what is held after them.
use Rattle.std.proofs.Common.{◌≡◌, refl, sym, ◌∙◌, ap, subst, ◌+◌, ◌≤◌, List, [], ◌++◌, length-append, append_assoc, arith}
use Rattle.mh_values.specs.declared.types.MethodTy.{MethodTy}
use Rattle.mh_values.specs.Same.{is_same_method_type}
use Rattle.mh_intern.specs.Exchanges.{AreHeld, AreOf, Exchanges}
use Rattle.mh_intern.specs.Held.{times_type}
use Rattle.mh_intern.specs.Views.{HoldView, SeatView}
use Rattle.mh_intern.proofs.Measures.{count_append}
use Rattle.mh_intern.proofs.HeldLists.{has-append, of-both, of-second}

-- ---- one call after the other

pub exchanges-still : (s : SeatView) → Exchanges [] [] [] s s
exchanges-still s = record {
  table = refl;
  traded = record { counts = λ k t. refl };
  tables = tt;
  many = refl;
  room = refl;
  asked = λ t none. omega (arith, none);
  still_asked = λ t. omega arith;
  still_full = ([], refl);
}

-- no type was asked for that is not in a longer list
pub exchanges-more : (asks more : List MethodTy) (gone came : List HoldView) (old new : SeatView) →
    ((t : MethodTy) → times_type t asks ≤ times_type t more) → Exchanges asks gone came old new → Exchanges more gone came old new
exchanges-more asks more gone came old new fewer x = record {
  table = x.table;
  traded = x.traded;
  tables = x.tables;
  many = x.many;
  room = x.room;
  asked = λ t none. let few = fewer t in x.asked t (omega (arith, none, few));
  still_asked = x.still_asked;
  still_full = x.still_full;
}

-- calls one after the other, of which the second hands back what came of the first, and more
pub exchanges-then : (asks asks' : List MethodTy) (gone through gone' came : List HoldView) (a b c : SeatView) → Exchanges asks gone through a b →
    Exchanges asks' (through ++ gone') came b c → Exchanges (asks ++ asks') (gone ++ gone') came a c
exchanges-then asks asks' gone through gone' came a b c x y = record {
  table = y.table ∙ x.table;
  traded = record {
    counts = λ k t.
        let m = has-append k t through gone' in
        let n = has-append k t gone gone' in
        omega (arith, m, n, x.traded.counts k t, y.traded.counts k t);
  };
  tables = y.tables;
  many = let m = length-append through gone' in let n = length-append gone gone' in omega (arith, m, n, x.many, y.many);
  room = let m = length-append through gone' in let n = length-append gone gone' in omega (arith, m, n, x.room, y.room);
  asked = λ t none.
      let m : times_type t (asks ++ asks') ≡ times_type t asks + times_type t asks' = count_append (λ (u : MethodTy). is_same_method_type u t) asks asks' in
      let first : times_type t a.asked + times_type t asks ≡ 0 = omega (arith, m, none) in
      let second = x.asked t first in
      y.asked t (omega (arith, m, none, second));
  still_asked = λ t. let p = x.still_asked t in let q = y.still_asked t in omega (arith, p, q);
  still_full = (
    y.still_full.0 ++ x.still_full.0,
    y.still_full.1 ∙ (ap (λ l. y.still_full.0 ++ l) x.still_full.1 ∙ sym (append_assoc y.still_full.0 x.still_full.0 a.full)),
  );
}

-- calls one after the other, of which the second hands back nothing of what came of the first
pub exchanges-both : (asks asks' : List MethodTy) (gone gone' came came' : List HoldView) (a b c : SeatView) → Exchanges asks gone came a b →
    Exchanges asks' gone' came' b c → Exchanges (asks ++ asks') (gone ++ gone') (came ++ came') a c
exchanges-both asks asks' gone gone' came came' a b c x y = record {
  table = y.table ∙ x.table;
  traded = record {
    counts = λ k t.
        let m = has-append k t came came' in
        let n = has-append k t gone gone' in
        omega (arith, m, n, x.traded.counts k t, y.traded.counts k t);
  };
  tables = of-both c.table.holders came came' (subst (λ z. AreOf z.holders came) (sym y.table) x.tables) y.tables;
  many = let m = length-append came came' in let n = length-append gone gone' in omega (arith, m, n, x.many, y.many);
  room = let m = length-append came came' in let n = length-append gone gone' in omega (arith, m, n, x.room, y.room);
  asked = λ t none.
      let m : times_type t (asks ++ asks') ≡ times_type t asks + times_type t asks' = count_append (λ (u : MethodTy). is_same_method_type u t) asks asks' in
      let first : times_type t a.asked + times_type t asks ≡ 0 = omega (arith, m, none) in
      let second = x.asked t first in
      y.asked t (omega (arith, m, none, second));
  still_asked = λ t. let p = x.still_asked t in let q = y.still_asked t in omega (arith, p, q);
  still_full = (
    y.still_full.0 ++ x.still_full.0,
    y.still_full.1 ∙ (ap (λ l. y.still_full.0 ++ l) x.still_full.1 ∙ sym (append_assoc y.still_full.0 x.still_full.0 a.full)),
  );
}

-- ---- what is held after a call

pub held-came : (asks : List MethodTy) (gone came : List HoldView) (old new : SeatView) → Exchanges asks gone came old new → AreHeld old gone → AreHeld new came
held-came asks gone came old new x had = record {
  tables = x.tables;
  held = record { counts = λ k t. let h = had.held.counts k t in omega (arith, h, x.traded.counts k t) };
}

-- what was not handed back
pub held-still : (asks : List MethodTy) (gone came rest : List HoldView) (old new : SeatView) → Exchanges asks gone came old new →
    AreHeld old (gone ++ rest) → AreHeld new (came ++ rest)
held-still asks gone came rest old new x had = record {
  tables = of-both new.table.holders came rest x.tables
      (subst (λ z. AreOf z.holders rest) (sym x.table) (of-second old.table.holders gone rest had.tables));
  held = record {
    counts = λ k t.
        let h = had.held.counts k t in
        let m = has-append k t gone rest in
        let n = has-append k t came rest in
        omega (arith, h, m, n, x.traded.counts k t);
  };
}
