-- Handles of operands of which the leaves have one recipe: at most one number is drawn for all of them.
use Rattle.std.proofs.Common.{◌≡◌, refl, sym, ap, ◌∙◌, subst, ℕ, ◌+◌, ◌≤◌, ◌⊎◌, inl, inr, ⊎_elim, Option, Some, None, List, [], Result, Ok, Err, arith}
use Rattle.std.proofs.lemmas.Option.{none-some}
use Rattle.mh_intern.specs.Exchanges.{Exchanges}
use Rattle.mh_intern.specs.Views.{HoldView}
use Rattle.mh_edit.specs.declared.key.Key.{Key}
use Rattle.mh_handle.specs.declared.error.HandleError.{HandleError}
use Rattle.mh_handle.specs.declared.error.HandleError.TheVariants.{NoMemory, FormsFull, TypesFull, Refused}
use Rattle.mh_handle.specs.declared.handle.Handle.{Handle}
use Rattle.mh_handle.specs.declared.work.Work.{Work}
use Rattle.mh_handle.specs.Form.{FormView}
use Rattle.mh_handle.specs.Passes.{DrawsAtMostOne, IsUnlearnt, PassView, SeatView, StaysLearnt, learnt_of}
use Rattle.mh_handle.specs.Works.{GoesOn, IsReady, IsUnchanged, Makes, most_held}
use Rattle.mh_handle.proofs.obeying.Going.{goes_on-still, unchanged-goes_on, seated-back}
use Rattle.mh_attempt.specs.Several.{DrawsOnce, GoesOnOnce, HasLearnt, IsReadyOnce, LearnsOnce}

-- ---- passes

-- what is not learnt now was not learnt before
unlearnt-before : (key : List Key) (a b : PassView) → StaysLearnt a b → IsUnlearnt key b → IsUnlearnt key a
unlearnt-before key a b stays none = cases (learnt_of a key) refl
  where
    cases : (o : Option FormView) → learnt_of a key ≡ o → IsUnlearnt key a
    cases None is = is
    cases (Some f) is = absurd (none-some f (sym none ∙ stays key f is))

learnt-yet : (key : List Key) (a b : PassView) → StaysLearnt a b → HasLearnt key a → HasLearnt key b
learnt-yet key a b stays has = (has.0, stays key has.0 has.1)

-- at most one number is drawn for a form
draws-one : (key : List Key) (a b : PassView) → DrawsAtMostOne key a b → DrawsOnce key a b
draws-one key a b (inl same) = inl same
draws-one key a b (inr drawn) = inr (let room = drawn.1.room in omega (arith, room), drawn.2)

-- a number was drawn for the first of two, or for the second, and not for both
draws-then : (key : List Key) (a b c : PassView) → StaysLearnt a b → DrawsOnce key a b → LearnsOnce key a b → DrawsOnce key b c → DrawsOnce key a c
draws-then key a b c stays first learns (inl same) = subst (λ (s : SeatView). (s ≡ a.seat) ⊎ ((a.seat.room ≤ s.room + 1) × IsUnlearnt key a)) (sym same) first
draws-then key a b c stays first (inl same) (inr drawn) =
    inr (let room = ap (λ (s : SeatView). s.room) same in omega (arith, room, drawn.0), unlearnt-before key a b stays drawn.1)
draws-then key a b c stays first (inr has) (inr drawn) = absurd (none-some has.0 (sym drawn.1 ∙ has.1))

-- ---- the making of one handle

pub made-draws : (key : List Key) (a b : Work) (r : Result Handle HandleError) → StaysLearnt a.pass.now b.pass.now → Makes key a b r →
    DrawsOnce key a.pass.now b.pass.now
made-draws key a b (Ok h) stays makes = draws-one key a.pass.now b.pass.now makes.2
made-draws key a b (Err NoMemory) stays makes = draws-one key a.pass.now b.pass.now makes.1
made-draws key a b (Err (FormsFull drawn)) stays makes =
    inr (let room = makes.1.room in omega (arith, room), unlearnt-before key a.pass.now b.pass.now stays makes.3)
made-draws key a b (Err (TypesFull bucket)) stays makes = inl (ap (λ (p : PassView). p.seat) makes)
made-draws key a b (Err (Refused e)) stays makes = inl (ap (λ (p : PassView). p.seat) makes.pass)

pub made-learns : (key : List Key) (a b : Work) (h : Handle) → Makes key a b (Ok h) → LearnsOnce key a.pass.now b.pass.now
made-learns key a b h makes = inr (h.form, makes.3)

-- a copy of a handle draws none
pub copy-draws : (key : List Key) (a b : Work) → IsUnchanged a b → DrawsOnce key a.pass.now b.pass.now
copy-draws key a b x = inl (ap (λ (p : PassView). p.seat) x.pass)

pub copy-learns : (key : List Key) (a b : Work) → IsUnchanged a b → LearnsOnce key a.pass.now b.pass.now
copy-learns key a b x = inl (ap (λ (p : PassView). p.seat) x.pass)

-- ---- the making of several handles

-- nothing was made
pub once-none : (key : List Key) (w : Work) → GoesOnOnce key 0 w w
once-none key w =
    let goes = goes_on-still w in
    record {
      types = goes.types;
      lent = goes.lent;
      forms = goes.forms;
      leaves = goes.leaves;
      borrow = goes.borrow;
      table = goes.table;
      learnt = goes.learnt;
      draws = inl refl;
      seat = goes.seat;
      room = omega arith;
    }

-- a handle was made, or was not
pub once-one : (key : List Key) (k : ℕ) (a b : Work) → GoesOn 1 a b → DrawsOnce key a.pass.now b.pass.now → a.seat.now.room ≤ b.seat.now.room + k →
    GoesOnOnce key k a b
once-one key k a b goes draws room = record {
  types = goes.types;
  lent = goes.lent;
  forms = goes.forms;
  leaves = goes.leaves;
  borrow = goes.borrow;
  table = goes.table;
  learnt = goes.learnt;
  draws = draws;
  seat = goes.seat;
  room = room;
}

-- a handle was made, and then others
pub once-then : (key : List Key) (k m : ℕ) (a b c : Work) → GoesOn 1 a b → DrawsOnce key a.pass.now b.pass.now → LearnsOnce key a.pass.now b.pass.now →
    a.seat.now.room ≤ b.seat.now.room + k → GoesOnOnce key m b c → GoesOnOnce key (k + m) a c
once-then key k m a b c x draws learns room y = record {
  types = y.types ∙ x.types;
  lent = y.lent ∙ x.lent;
  forms = y.forms ∙ x.forms;
  leaves = y.leaves ∙ x.leaves;
  borrow = y.borrow ∙ x.borrow;
  table = y.table ∙ x.table;
  learnt = λ recipe form found. y.learnt recipe form (x.learnt recipe form found);
  draws = draws-then key a.pass.now b.pass.now c.pass.now x.learnt draws learns y.draws;
  seat = y.seat ∙ x.seat;
  room = omega (arith, room, y.room);
}

-- fewer types were taken
pub once-more : (key : List Key) (k m : ℕ) (a b : Work) → k ≤ m → GoesOnOnce key k a b → GoesOnOnce key m a b
once-more key k m a b few x = record {
  types = x.types;
  lent = x.lent;
  forms = x.forms;
  leaves = x.leaves;
  borrow = x.borrow;
  table = x.table;
  learnt = x.learnt;
  draws = x.draws;
  seat = x.seat;
  room = omega (arith, few, x.room);
}

-- and then holds were handed back
pub once-back : (key : List Key) (k : ℕ) (gone : List HoldView) (a b c : Work) → GoesOnOnce key k a b → IsUnchanged b c →
    Exchanges [] gone [] b.seat.now c.seat.now → GoesOnOnce key k a c
once-back key k gone a b c x back exchanges =
    let y = unchanged-goes_on 0 b c back (seated-back [] gone b c exchanges) in
    record {
      types = y.types ∙ x.types;
      lent = y.lent ∙ x.lent;
      forms = y.forms ∙ x.forms;
      leaves = y.leaves ∙ x.leaves;
      borrow = y.borrow ∙ x.borrow;
      table = y.table ∙ x.table;
      learnt = λ recipe form found. y.learnt recipe form (x.learnt recipe form found);
      draws = subst (λ (p : PassView). DrawsOnce key a.pass.now p) (sym back.pass) x.draws;
      seat = y.seat ∙ x.seat;
      room = omega (arith, x.room, exchanges.room);
    }

-- for all together at most one number was drawn, and the types of at most one handle were taken
pub once-goes : (key : List Key) (k : ℕ) (a b : Work) → k ≤ most_held → GoesOnOnce key k a b → GoesOn 1 a b
once-goes key k a b few x = record {
  types = x.types;
  lent = x.lent;
  forms = x.forms;
  leaves = x.leaves;
  borrow = x.borrow;
  table = x.table;
  learnt = x.learnt;
  room = drawn x.draws;
  seat = x.seat;
  holds = omega (arith, few, x.room);
}
  where
    drawn : DrawsOnce key a.pass.now b.pass.now → a.pass.now.seat.room ≤ b.pass.now.seat.room + 1
    drawn (inl same) = let room = ap (λ (s : SeatView). s.room) same in omega (arith, room)
    drawn (inr number) = number.0

-- ---- room

pub once-ready : (key : List Key) (k : ℕ) (w : Work) → k ≤ most_held → IsReady w 3 → IsReadyOnce key k w
once-ready key k w few ready = record {
  of_table = ready.of_table;
  numbers = inl (let room = ready.room in omega (arith, room));
  of_types = ready.of_types;
  room = omega (arith, few, ready.holds);
}

-- for one handle
pub ready-one : (key : List Key) (k : ℕ) (w : Work) → IsReadyOnce key k w → IsReady w 1
ready-one key k w ready = record {
  of_table = ready.of_table;
  room = ⊎_elim (λ (two : 2 ≤ w.pass.now.seat.room). omega (arith, two)) (λ (one : (1 ≤ w.pass.now.seat.room) × HasLearnt key w.pass.now). one.0) ready.numbers;
  of_types = ready.of_types;
  holds = omega (arith, ready.room);
}

-- room for two numbers, or for one if a form of the recipe is learnt
abbrev HasRoom : List Key → PassView → Type 0
HasRoom key p = (2 ≤ p.seat.room) ⊎ ((1 ≤ p.seat.room) × HasLearnt key p)

-- for others, after one
pub ready-others : (key : List Key) (k m : ℕ) (a b : Work) → IsReadyOnce key (k + m) a → GoesOn 1 a b → DrawsOnce key a.pass.now b.pass.now →
    LearnsOnce key a.pass.now b.pass.now → a.seat.now.room ≤ b.seat.now.room + k → IsReadyOnce key m b
ready-others key k m a b ready goes draws learns room = record {
  of_table = goes.table ∙ (ready.of_table ∙ ap (λ f. f.now) (sym goes.forms));
  numbers = numbers ready.numbers draws learns;
  of_types = goes.seat ∙ (ready.of_types ∙ ap (λ t. t.now) (sym goes.types));
  room = omega (arith, room, ready.room);
}
  where
    numbers : HasRoom key a.pass.now → DrawsOnce key a.pass.now b.pass.now → LearnsOnce key a.pass.now b.pass.now → HasRoom key b.pass.now
    numbers (inl two) (inl same) learns = inl (let kept = ap (λ (s : SeatView). s.room) same in omega (arith, kept, two))
    numbers (inl two) (inr number) (inl same) = inl (let kept = ap (λ (s : SeatView). s.room) same in omega (arith, kept, two))
    numbers (inl two) (inr number) (inr has) = inr (omega (arith, two, number.0), has)
    numbers (inr one) (inl same) learns =
        inr (let kept = ap (λ (s : SeatView). s.room) same in omega (arith, kept, one.0), learnt-yet key a.pass.now b.pass.now goes.learnt one.1)
    numbers (inr one) (inr number) learns = absurd (none-some one.1.0 (sym number.1 ∙ one.1.1))
