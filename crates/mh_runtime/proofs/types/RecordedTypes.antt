-- What a seat holds once a linkage is recorded, and once seats are joined.
use Rattle.std.proofs.Common.{◌≡◌, refl, sym, ◌∙◌, ap, subst, ◌+◌, ◌≤◌, Bool, List, [], ◌∷◌, ◌++◌, length, arith}
use Rattle.std.proofs.lemmas.Grind.{flat_map-append}
use Rattle.mh_values.specs.declared.types.MethodTy.{MethodTy}
use Rattle.mh_values.specs.Same.{is_same_method_type}
use Rattle.mh_intern.specs.declared.holding.Entry.{Entry}
use Rattle.mh_intern.specs.Exchanges.{Exchanges}
use Rattle.mh_intern.specs.Held.{on_type, times_type}
use Rattle.mh_intern.specs.Views.{HoldView, SeatView, joined_seats}
use Rattle.mh_intern.proofs.Measures.{count_append}
use Rattle.mh_handle.specs.declared.work.Work.{Work}
use Rattle.mh_jobs.specs.Given.{Given}
use Rattle.mh_link.specs.Linked.{held_by}
use Rattle.mh_link.specs.Sites.{linked_at}
use Rattle.mh_attempt.specs.Linkage.{HasTypes, LinkageView}
use Rattle.mh_attempt.specs.Several.{Adds}
use Rattle.mh_report.specs.declared.attempt.Attempt.{Attempt}
use Rattle.mh_runtime.specs.Linking.{HoldsInstead, HoldsJust, KeepsOthers, Records, StaysWhole, types_held}
use Rattle.mh_runtime.proofs.types.SeatTypes.{exchanged-types}

-- ---- recording

-- an attempt was made, and its linkage recorded, or handed back
pub attempt-keeps : (given : Given) (l : LinkageView) (before after : List Attempt) (old mid new : Work) → Adds l.held old mid →
    Records given l before after mid.seat.now new.seat.now → KeepsOthers given before after old new
attempt-keeps given l before after old mid new adds records = record {
  table = records.table ∙ adds.1.table;
  whole = omega (arith, records.whole, adds.1.many, adds.1.room);
  types = λ t.
      let e = exchanged-types adds.0 [] l.held old.seat.now mid.seat.now t adds.1 in
      let r = records.types t in
      omega (arith, e, r);
}

-- the seat stays whole then
pub attempt-whole : (held : List HoldView) (old mid new : Work) → Adds held old mid → StaysWhole mid.seat.now new.seat.now →
    StaysWhole old.seat.now new.seat.now
attempt-whole held old mid new adds stays =
    record { table = stays.table ∙ adds.1.table; whole = let whole = stays.whole in omega (arith, whole, adds.1.many, adds.1.room) }

-- so it does where holds were handed back
pub back-whole : (gone : List HoldView) (old new : SeatView) → Exchanges [] gone [] old new → StaysWhole old new
back-whole gone old new x = record { table = x.table; whole = omega (arith, x.many, x.room) }

pub back-few : (gone : List HoldView) (old new : SeatView) → Exchanges [] gone [] old new → old.room ≤ new.room
back-few gone old new x = omega (arith, x.room)

pub still-whole : (seat : SeatView) → StaysWhole seat seat
still-whole seat = record { table = refl; whole = refl }

pub whole-both : (a b c : SeatView) → StaysWhole a b → StaysWhole b c → StaysWhole a c
whole-both a b c x y = record { table = y.table ∙ x.table; whole = y.whole ∙ x.whole }

-- a linkage was handed back
pub records-none : (given : Given) (l : LinkageView) (recorded : List Attempt) (old new : SeatView) → Exchanges [] l.held [] old new →
    Records given l recorded recorded old new
records-none given l recorded old new x = record {
  table = x.table;
  whole = omega (arith, x.many, x.room);
  few = omega (arith, x.room);
  types = λ t. let e = exchanged-types [] l.held [] old new t x in omega (arith, e);
}

-- and it is the linkage that was handed in
pub handed-back : (given : Given) (l lost : LinkageView) (recorded after : List Attempt) (old new : SeatView) → after ≡ recorded → lost ≡ l →
    Exchanges [] lost.held [] old new → Records given l recorded after old new
handed-back given l lost recorded after old new same is x =
    subst (λ more. Records given l recorded more old new) (sym same)
    (records-none given l recorded old new (subst (λ (v : LinkageView). Exchanges [] v.held [] old new) is x))

-- one more is recorded
pub records-one : (given : Given) (l : LinkageView) (a : Attempt) (before after : List Attempt) (old new : SeatView) → new ≡ old →
    HasTypes l.held (held_by given.leaves (linked_at given a.site a.serial)) → after ≡ before ++ a ∷ [] → Records given l before after old new
records-one given l a before after old new same holds more =
    let one : types_held given after ≡ types_held given before ++ (held_by given.leaves (linked_at given a.site a.serial) ++ []) =
    ap (types_held given) more ∙ flat_map-append (λ (x : Attempt). held_by given.leaves (linked_at given x.site x.serial)) before (a ∷ []) in
    record {
      table = ap (λ (s : SeatView). s.table) same;
      whole = ap (λ (s : SeatView). s.room + length s.holds) same;
      few = let r = ap (λ (s : SeatView). s.room) same in omega (arith, r);
      types = λ t.
          let k : on_type t new.holds ≡ on_type t old.holds = ap (λ (s : SeatView). on_type t s.holds) same in
          let p : MethodTy → Bool = λ u. is_same_method_type u t in
          let held = held_by given.leaves (linked_at given a.site a.serial) in
          let n : times_type t (types_held given after) ≡ times_type t (types_held given before ++ (held ++ [])) = ap (times_type t) one in
          let h = holds t in
          omega (arith, k, n, h, count_append p (types_held given before) (held ++ []), count_append p held []);
    }

-- ---- seats of several threads

-- a seat holds what is recorded from the start
pub just-recorded : (given : Given) (recorded : List Attempt) (old new : SeatView) → old.holds ≡ [] → HoldsInstead given [] recorded old new →
    HoldsJust given recorded new
just-recorded given recorded old new none holds t =
    let n : on_type t old.holds ≡ 0 = ap (on_type t) none in let h = holds t in omega (arith, n, h)

-- a seat is joined that holds just what is recorded
pub instead-joined : (given : Given) (before mine theirs all : List Attempt) (base seat other new : SeatView) → HoldsInstead given before mine base seat →
    HoldsJust given theirs other → all ≡ mine ++ theirs → new ≡ joined_seats seat other → HoldsInstead given before all base new
instead-joined given before mine theirs all base seat other new holds more is joined t =
    let p : Entry → Bool = λ e. is_same_method_type e.ty t in
    let q : MethodTy → Bool = λ u. is_same_method_type u t in
    let n : on_type t new.holds ≡ on_type t (other.holds ++ seat.holds) = ap (λ (s : SeatView). on_type t s.holds) joined in
    let a : times_type t (types_held given all) ≡ times_type t (types_held given mine ++ types_held given theirs) =
    ap (times_type t) (ap (types_held given) is ∙ flat_map-append (λ (x : Attempt). held_by given.leaves (linked_at given x.site x.serial)) mine theirs) in
    let h = holds t in
    let m = more t in
    omega (arith, n, a, h, m, count_append p other.holds seat.holds, count_append q (types_held given mine) (types_held given theirs))

-- the same of a seat that held just what is recorded
pub just-joined : (given : Given) (mine theirs all : List Attempt) (seat other new : SeatView) → HoldsJust given mine seat → HoldsJust given theirs other →
    all ≡ mine ++ theirs → new ≡ joined_seats seat other → HoldsJust given all new
just-joined given mine theirs all seat other new holds more is joined t =
    let p : Entry → Bool = λ e. is_same_method_type e.ty t in
    let q : MethodTy → Bool = λ u. is_same_method_type u t in
    let n : on_type t new.holds ≡ on_type t (other.holds ++ seat.holds) = ap (λ (s : SeatView). on_type t s.holds) joined in
    let a : times_type t (types_held given all) ≡ times_type t (types_held given mine ++ types_held given theirs) =
    ap (times_type t) (ap (types_held given) is ∙ flat_map-append (λ (x : Attempt). held_by given.leaves (linked_at given x.site x.serial)) mine theirs) in
    let h = holds t in
    let m = more t in
    omega (arith, n, a, h, m, count_append p other.holds seat.holds, count_append q (types_held given mine) (types_held given theirs))

-- and of one over a seat that held just what was recorded
pub just-instead : (given : Given) (before after : List Attempt) (old new : SeatView) → HoldsJust given before old → HoldsInstead given before after old new →
    HoldsJust given after new
just-instead given before after old new holds more t = let h = holds t in let m = more t in omega (arith, h, m)
