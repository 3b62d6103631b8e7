-- What is so of every seat stays so.
use Rattle.std.proofs.Common.{◌≡◌, ℕ, ◌+◌, ◌-◌, ◌<◌, ◌≤◌, ◌==◌, ◌&&◌, Bool, true, false, List, ◌∷◌, ◌++◌, length, count_by, All, sym, refl, ap, ◌∙◌, subst, arith, length-append, Result, Ok, Err}
use Rattle.std.proofs.lemmas.Bool.{eq-eqb, ne_eqb}
use native.Mathlib.Decide.{ℕ_discrete}
use mathlib.Core.Logic.{dite}
use Rattle.mh_values.specs.declared.types.MethodTy.{MethodTy}
use Rattle.mh_values.specs.Same.{is_same_method_type}
use Rattle.mh_values.proofs.SameTypes.{same_method_type-is, same_method_type-itself}
use Rattle.mh_intern.specs.declared.holding.Entry.{Entry}
use Rattle.mh_intern.specs.declared.holding.FullBucket.{FullBucket}
use Rattle.mh_intern.specs.declared.holding.Holding.{Holding}
use Rattle.mh_intern.specs.Held.{on_slot, has, weight, asks, uses, IsFull}
use Rattle.mh_seats.specs.Room.{limit}
use Rattle.mh_intern.specs.declared.error.InternError.{InternError}
use Rattle.mh_intern.specs.declared.error.InternError.TheVariants.{NoMemory, TypesFull}
use Rattle.mh_intern.specs.Lists.{Agrees, removed}
use Rattle.mh_intern.specs.Kinds.{joined_views}
use Rattle.mh_intern.specs.Interning.{Interned}
use Rattle.mh_intern.specs.Seats.{IsSeated, AskedForFull}
use Rattle.mh_intern.proofs.Measures.{count_cons, count_append}
use Rattle.mh_intern.proofs.Entries.{bit, In, not_hit, removed_count, removed_length}

-- the test of slots is the test of types
pub agree_test : (holds : List Entry) (a b : Entry) → Agrees holds → In holds a → In holds b → (a.slot == b.slot) ≡ is_same_method_type a.ty b.ty
agree_test holds a b agrees ha hb = at (is_same_method_type a.ty b.ty) refl
  where
    at : (t : Bool) → is_same_method_type a.ty b.ty ≡ t → (a.slot == b.slot) ≡ is_same_method_type a.ty b.ty
    at true q = eq-eqb a.slot b.slot ((agrees a b ha hb).1 (same_method_type-is a.ty b.ty q)) ∙ sym q
    at false q =
        let apart : ¬ (a.slot ≡ b.slot) = λ e.
        let same : a.ty ≡ b.ty = (agrees a b ha hb).0 e in
        let z : is_same_method_type a.ty b.ty ≡ true = subst (λ (u : MethodTy). is_same_method_type a.ty u ≡ true) same (same_method_type-itself a.ty) in
        cc in
        ne_eqb a.slot b.slot apart ∙ sym q

-- what is held of the longer list is held of the shorter one
pub agrees_less : (new old : List Entry) → ((e : Entry) → In new e → In old e) → Agrees old → Agrees new
agrees_less new old less agrees a b ha hb = agrees a b (less a ha) (less b hb)

held_again : (e : Entry) (holds : List Entry) → In holds e → (x : Entry) → In (e ∷ holds) x → In holds x
held_again e holds mine x more = dite (ℕ_discrete (has x.slot x.ty holds) 0)
    (λ none. absurd (omega (
      arith,
      count_cons (λ (y : Entry). (y.slot == x.slot) && is_same_method_type y.ty x.ty) e holds,
      not_hit e x.slot x.ty holds mine
          none,
    )))
    (λ some_are. omega arith)

pub seated_more : (e : Entry) (holds : List Entry) (room : ℕ) (asked : List MethodTy) (full : List FullBucket) → IsSeated holds room asked full → In holds e →
    e.slot < 2048 → 1 ≤ room
    → IsSeated (e ∷ holds) (room - 1) asked full
seated_more e holds room asked full s mine small some_room = record {
  agrees = agrees_less (e ∷ holds) holds (held_again e holds mine) s.agrees;
  small = λ k le. let o : bit (e.slot == k) ≡ 0 = ap bit (ne_eqb e.slot k (λ q. omega arith)) in
      omega (arith, count_cons (λ (y : Entry). y.slot == k) e holds, s.small k le);
  some_left = omega arith;
  most = omega (arith, s.most);
  filled = s.filled;
  known = λ whole t used. s.known (omega arith) t used;
}

-- the same, after the type was asked for
pub seated_again : (e : Entry) (holds : List Entry) (room : ℕ) (asked : List MethodTy) (full : List FullBucket) → IsSeated holds room asked full → In holds e →
    e.slot < 2048 → 1 ≤ room
    → IsSeated (e ∷ holds) (room - 1) (e.ty ∷ asked) full
seated_again e holds room asked full s mine small some_room =
    let m = seated_more e holds room asked full s mine small some_room in
    record {
      agrees = m.agrees;
      small = m.small;
      some_left = m.some_left;
      most = m.most;
      filled = m.filled;
      known = λ whole t used. omega (arith, m.known whole t used, count_cons (λ (u : MethodTy). is_same_method_type u t) e.ty asked);
    }

pub seated_less : (e : Entry) (holds : List Entry) (room : ℕ) (asked : List MethodTy) (full : List FullBucket) → IsSeated holds room asked full → In holds e
    → IsSeated (removed e holds) (room + 1) asked full
seated_less e holds room asked full s mine =
    let count : (p : Entry → Bool) → count_by p (removed e holds) + bit (p e) ≡ count_by p holds = λ p. removed_count p e holds mine in
    record {
      agrees = agrees_less (removed e holds) holds (λ x more. omega (arith, count (λ (y : Entry). (y.slot == x.slot) && is_same_method_type y.ty x.ty)))
          s.agrees;
      small = λ k le. omega (arith, count (λ (y : Entry). y.slot == k), s.small k le);
      some_left = omega arith;
      most = omega (arith, s.most, removed_length e holds mine);
      filled = s.filled;
      known = λ whole t used. s.known (omega (arith, removed_length e holds mine)) t used;
    }

-- a seat that has less than all the room
pub seated_part : (holds : List Entry) (room part : ℕ) (asked : List MethodTy) (full : List FullBucket) → IsSeated holds room asked full → 1 ≤ part →
    part < room
    → IsSeated holds (room - part) asked full
seated_part holds room part asked full s some_part lt =
    let m = s.most in
    record { agrees = s.agrees; small = s.small; some_left = omega arith; most = omega arith; filled = s.filled; known = λ whole t used. absurd (omega arith) }

-- after a look
pub seated_looked : (v : Holding) → Agrees v.holds → All IsFull v.full → (weight v ≡ limit → (t : MethodTy) → 0 < uses t v → 0 < asks t v) → weight v ≤ limit →
    ((k : ℕ) → 2048 ≤ k → on_slot k v.holds ≡ 0) → 1 ≤ v.room + length v.holds
    → IsSeated v.holds v.room v.asked v.full
seated_looked v agrees full asked most small some_left =
    record { agrees = agrees; small = small; some_left = some_left; most = most; filled = full; known = λ whole t used. asked whole t (omega arith) }

-- after a request
pub seated_interned : (t : MethodTy) (v : Holding) (r : Result Entry InternError) (w : Holding) → Interned t v r w → IsSeated v.holds v.room v.asked v.full →
    1 ≤ v.room
    → Agrees w.holds → All IsFull w.full → (weight w ≡ limit → (t : MethodTy) → 0 < uses t w → 0 < asks t w) → weight w ≤ limit →
    IsSeated w.holds w.room w.asked w.full
seated_interned t v (Ok e) w (is, small, now) s room agrees full asked most =
    let holds : w.holds ≡ e ∷ v.holds = ap (λ z. z.holds) now in
    let count : length w.holds ≡ length v.holds + 1 = ap length holds ∙ omega arith in
    seated_looked w agrees full asked most
    (λ k le.
    let q : on_slot k w.holds ≡ on_slot k (e ∷ v.holds) = ap (on_slot k) holds in
    let o : bit (e.slot == k) ≡ 0 = ap bit (ne_eqb e.slot k (λ p. omega arith)) in
    omega (arith, count_cons (λ (y : Entry). y.slot == k) e v.holds, s.small k le))
    (omega arith)
seated_interned t v (Err NoMemory) w now s room agrees full asked most = subst (λ (z : Holding). IsSeated z.holds z.room z.asked z.full) (sym now) s
seated_interned t v (Err (TypesFull b)) w (is, (f, for, now)) s room agrees full asked most =
    let holds : w.holds ≡ v.holds = ap (λ z. z.holds) now in
    let count : length w.holds ≡ length v.holds = ap length holds in
    let same : w.room ≡ v.room = ap (λ z. z.room) now in
    seated_looked w agrees full asked most (λ k le. ap (on_slot k) holds ∙ s.small k le) (omega arith)

-- after a join
pub seated_joined : (v u w : Holding) → w ≡ joined_views v u → IsSeated v.holds v.room v.asked v.full → IsSeated u.holds u.room u.asked u.full
    → Agrees w.holds → All IsFull w.full → (weight w ≡ limit → (t : MethodTy) → 0 < uses t w → 0 < asks t w) → weight w ≤ limit →
    IsSeated w.holds w.room w.asked w.full
seated_joined v u w now s o agrees full asked most =
    let holds : w.holds ≡ u.holds ++ v.holds = ap (λ z. z.holds) now in
    let room : w.room ≡ u.room + v.room = ap (λ z. z.room) now in
    let count : length w.holds ≡ length u.holds + length v.holds = ap length holds ∙ length-append u.holds v.holds in
    let left = s.some_left in
    seated_looked w agrees full asked most
    (λ k le. ap (on_slot k) holds ∙ (count_append (λ (y : Entry). y.slot == k) u.holds v.holds ∙ omega (arith, s.small k le, o.small k le)))
    (omega arith)

-- what a look at the table tells of a view
abbrev pub Known : Holding → Type 0
Known v = Agrees v.holds × All IsFull v.full × AskedForFull v.holds v.room v.asked v.full

pub known_seated : (v : Holding) → IsSeated v.holds v.room v.asked v.full → Known v
known_seated v s = (s.agrees, s.filled, s.known)
