-- What calls one after the other leave of the work.
use Rattle.std.proofs.Common.{◌≡◌, refl, sym, ◌∙◌, ap, subst, ℕ, ◌+◌, ◌*◌, ◌≤◌, List, [], length, Result, Ok, Err, arith}
use Rattle.mh_values.specs.declared.types.MethodTy.{MethodTy}
use Rattle.mh_intern.specs.Exchanges.{Exchanges}
use Rattle.mh_intern.specs.Views.{HoldView, SeatView}
use Rattle.mh_edit.specs.declared.key.Key.{Key}
use Rattle.mh_handle.specs.declared.error.HandleError.{HandleError}
use Rattle.mh_handle.specs.declared.error.HandleError.TheVariants.{NoMemory, FormsFull, TypesFull, Refused}
use Rattle.mh_handle.specs.declared.handle.Handle.{Handle}
use Rattle.mh_handle.specs.declared.work.Work.{Work}
use Rattle.mh_handle.specs.Form.{FormView}
use Rattle.mh_handle.specs.Passes.{AsksFor, DrawsAtMostOne, IsFormOf, PassView, PutsAtMost}
use Rattle.mh_handle.specs.Works.{GoesOn, IsReady, IsUnchanged, Makes, most_held}

pub goes_on-still : (w : Work) → GoesOn 0 w w
goes_on-still w = record {
  types = refl;
  lent = refl;
  forms = refl;
  leaves = refl;
  borrow = refl;
  table = refl;
  learnt = λ recipe form found. found;
  room = omega arith;
  seat = refl;
  holds = omega arith;
}

pub goes_on-both : (m n : ℕ) (a b c : Work) → GoesOn m a b → GoesOn n b c → GoesOn (m + n) a c
goes_on-both m n a b c x y = record {
  types = y.types ∙ x.types;
  lent = y.lent ∙ x.lent;
  forms = y.forms ∙ x.forms;
  leaves = y.leaves ∙ x.leaves;
  borrow = y.borrow ∙ x.borrow;
  table = y.table ∙ x.table;
  learnt = λ recipe form found. y.learnt recipe form (x.learnt recipe form found);
  room = omega (arith, x.room, y.room);
  seat = y.seat ∙ x.seat;
  holds = omega (arith, x.holds, y.holds);
}

-- where fewer numbers are drawn, at most so many are
pub goes_on-more : (m n : ℕ) (a b : Work) → m ≤ n → GoesOn m a b → GoesOn n a b
goes_on-more m n a b few x = record {
  types = x.types;
  lent = x.lent;
  forms = x.forms;
  leaves = x.leaves;
  borrow = x.borrow;
  table = x.table;
  learnt = x.learnt;
  room = omega (arith, few, x.room);
  seat = x.seat;
  holds = omega (arith, few, x.holds);
}

-- ---- calls that leave all but the seat of types

pub unchanged-still : (w : Work) → IsUnchanged w w
unchanged-still w = record { alloc = refl; types = refl; lent = refl; forms = refl; leaves = refl; borrow = refl; pass = refl }

pub unchanged-both : (a b c : Work) → IsUnchanged a b → IsUnchanged b c → IsUnchanged a c
unchanged-both a b c x y = record {
  alloc = y.alloc ∙ x.alloc;
  types = y.types ∙ x.types;
  lent = y.lent ∙ x.lent;
  forms = y.forms ∙ x.forms;
  leaves = y.leaves ∙ x.leaves;
  borrow = y.borrow ∙ x.borrow;
  pass = y.pass ∙ x.pass;
}

-- the seat is of its table still, and has room for the types of all but so many handles
pub record Seated (numbers : ℕ) (a b : Work) : Type 0 where
  pub seat : b.seat.now.table ≡ a.seat.now.table
  pub holds : a.seat.now.room ≤ b.seat.now.room + most_held * numbers

pub seated-still : (a b : Work) → b.seat.now ≡ a.seat.now → Seated 0 a b
seated-still a b same = record {
  seat = ap (λ (s : SeatView). s.table) same;
  holds = let room : b.seat.now.room ≡ a.seat.now.room = ap (λ (s : SeatView). s.room) same in omega (arith, room);
}

-- holds were handed back
pub seated-back : (asks : List MethodTy) (gone : List HoldView) (a b : Work) → Exchanges asks gone [] a.seat.now b.seat.now → Seated 0 a b
seated-back asks gone a b x = record { seat = x.table; holds = omega (arith, x.room) }

-- the types of a handle came
pub seated-came : (asks : List MethodTy) (gone came : List HoldView) (a b : Work) → length came ≤ most_held → Exchanges asks gone came a.seat.now b.seat.now →
    Seated 1 a b
seated-came asks gone came a b few x = record { seat = x.table; holds = omega (arith, few, x.room) }

pub unchanged-goes_on : (n : ℕ) (a b : Work) → IsUnchanged a b → Seated n a b → GoesOn n a b
unchanged-goes_on n a b x seated = record {
  types = x.types;
  lent = x.lent;
  forms = x.forms;
  leaves = x.leaves;
  borrow = x.borrow;
  table = ap (λ (p : PassView). p.table) x.pass;
  learnt = subst (λ (p : PassView). (recipe : List Key) (form : FormView) → IsFormOf recipe a.pass.now form → IsFormOf recipe p form) (sym x.pass)
      (λ recipe form found. found);
  room = let room = ap (λ (p : PassView). p.seat.room) x.pass in omega (arith, room);
  seat = seated.seat;
  holds = seated.holds;
}

pub unchanged-ready : (n : ℕ) (a b : Work) → IsUnchanged a b → Seated 0 a b → IsReady a n → IsReady b n
unchanged-ready n a b x seated ready = record {
  of_table = ap (λ (p : PassView). p.table) x.pass ∙ (ready.of_table ∙ ap (λ t. t.now) (sym x.forms));
  room = let room = ap (λ (p : PassView). p.seat.room) x.pass in omega (arith, room, ready.room);
  of_types = seated.seat ∙ (ready.of_types ∙ ap (λ t. t.now) (sym x.types));
  holds = omega (arith, seated.holds, ready.holds);
}

pub goes_on-after : (n : ℕ) (a b c : Work) → IsUnchanged a b → Seated 0 a b → GoesOn n b c → GoesOn n a c
goes_on-after n a b c x seated y = goes_on-more (0 + n) n a c (omega arith) (goes_on-both 0 n a b c (unchanged-goes_on 0 a b x seated) y)

pub goes_on-before : (n : ℕ) (a b c : Work) → GoesOn n a b → IsUnchanged b c → Seated 0 b c → GoesOn n a c
goes_on-before n a b c x y seated = goes_on-more (n + 0) n a c (omega arith) (goes_on-both n 0 a b c x (unchanged-goes_on 0 b c y seated))

-- the making of a handle, after such a call
pub makes-after : (recipe : List Key) (a b c : Work) (r : Result Handle HandleError) → IsUnchanged a b → Makes recipe b c r → Makes recipe a c r
makes-after recipe a b c (Ok h) x makes =
    subst (λ (p : PassView). (h.form.recipe ≡ recipe) × AsksFor h.form p c.pass.now × DrawsAtMostOne recipe p c.pass.now × IsFormOf recipe c.pass.now h.form
    × PutsAtMost h.form p c.pass.now) x.pass makes
makes-after recipe a b c (Err NoMemory) x makes = rw (← x.pass) makes
makes-after recipe a b c (Err (FormsFull drawn)) x makes = rw (← x.pass) makes
makes-after recipe a b c (Err (TypesFull bucket)) x makes = makes ∙ x.pass
makes-after recipe a b c (Err (Refused e)) x makes = unchanged-both a b c x makes
