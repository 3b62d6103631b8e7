-- What calls leave of a thread's work for the calls after them: numbers that may still be drawn.
use Rattle.std.proofs.Common.{sym, ap, ◌∙◌, ℕ, ◌+◌, ◌≤◌, arith}
use Rattle.mh_handle.specs.declared.work.Work.{Work}
use Rattle.mh_handle.specs.Works.{GoesOn, IsReady}
use Rattle.mh_handle.proofs.obeying.Going.{goes_on-both, goes_on-more, goes_on-still}

pub goes_on-none : (numbers : ℕ) (w : Work) → GoesOn numbers w w
goes_on-none numbers w = goes_on-more 0 numbers w w (omega arith) (goes_on-still w)

pub ready-less : (w : Work) (more fewer : ℕ) → fewer ≤ more → IsReady w more → IsReady w fewer
ready-less w more fewer low ready = record {
  of_table = ready.of_table;
  room = omega (arith, low, ready.room);
  of_types = ready.of_types;
  holds = omega (arith, low, ready.holds);
}

pub ready-after : (numbers rest all : ℕ) (old new : Work) → numbers + rest ≤ all → GoesOn numbers old new → IsReady old all → IsReady new rest
ready-after numbers rest all old new few goes ready = record {
  of_table = goes.table ∙ (ready.of_table ∙ ap (λ f. f.now) (sym goes.forms));
  room = omega (arith, few, goes.room, ready.room);
  of_types = goes.seat ∙ (ready.of_types ∙ ap (λ t. t.now) (sym goes.types));
  holds = omega (arith, few, goes.holds, ready.holds);
}

pub goes_on-sum : (m n all : ℕ) (a b c : Work) → m + n ≤ all → GoesOn m a b → GoesOn n b c → GoesOn all a c
goes_on-sum m n all a b c few x y = goes_on-more (m + n) all a c few (goes_on-both m n a b c x y)
