-- What a turn leaves of a thread's work that copies a handle, binds the copy, and gives it back.
use Rattle.std.proofs.Common.{sym, ap, ◌∙◌, ℕ, ◌+◌, List, [], Ok, Err, arith}
use Rattle.mh_values.specs.declared.types.MethodTy.{MethodTy}
use Rattle.mh_intern.specs.Exchanges.{Exchanges}
use Rattle.mh_handle.specs.declared.error.HandleError.{HandleError}
use Rattle.mh_handle.specs.declared.handle.Handle.{Handle}
use Rattle.mh_handle.specs.declared.work.Work.{Work}
use Rattle.mh_handle.specs.Passes.{PassView}
use Rattle.mh_handle.specs.Works.{GoesOn, IsReady, IsUnchanged, TradesTypes}
use Rattle.mh_steps.specs.AnyTypes.{ExchangesAny}
use Rattle.mh_steps.proofs.Adding.{adds, adds-next}

-- the copy was bound
pub bound-adds : (asks : List MethodTy) (copy bound : Handle) (a b c : Work) → Exchanges [] [] copy.held a.seat.now b.seat.now →
    TradesTypes asks copy.held b c (Ok bound) → ExchangesAny [] bound.held a.seat.now c.seat.now
bound-adds asks copy bound a b c x y =
    adds-next [] copy.held bound.held a.seat.now b.seat.now c.seat.now ([], x) (adds asks copy.held b c (Ok bound) y)

-- or not, and is given back
pub unbound-adds : (asks : List MethodTy) (copy : Handle) (a b c : Work) (e : HandleError) → Exchanges [] [] copy.held a.seat.now b.seat.now →
    TradesTypes asks copy.held b c (Err e) → ExchangesAny [] [] a.seat.now c.seat.now
unbound-adds asks copy a b c e x y = adds-next [] copy.held [] a.seat.now b.seat.now c.seat.now ([], x) (adds asks copy.held b c (Err e) y)

-- a number may have been drawn, and the seat of types has the room that it had
pub ready-next : (n : ℕ) (a b c d : Work) → IsUnchanged a b → GoesOn 1 b c → IsUnchanged c d → ExchangesAny [] [] a.seat.now d.seat.now → IsReady a (2 + n) →
    IsReady d (1 + n)
ready-next n a b c d x y z same ready = record {
  of_table =
      ap (λ (p : PassView). p.table) z.pass ∙ (y.table ∙ (ap (λ (p : PassView). p.table) x.pass
      ∙ (ready.of_table ∙ ap (λ f. f.now) (sym (z.forms ∙ (y.forms ∙ x.forms))))));
  room =
      let p = ap (λ (p : PassView). p.seat.room) x.pass in
      let q = ap (λ (p : PassView). p.seat.room) z.pass in
      omega (arith, p, q, y.room, ready.room);
  of_types = same.1.table ∙ (ready.of_types ∙ ap (λ t. t.now) (sym (z.types ∙ (y.types ∙ x.types))));
  holds = omega (arith, same.1.room, ready.holds);
}
