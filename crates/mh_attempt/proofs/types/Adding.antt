-- What is left of the seat of types where handles of operands are made, and then a handle of those.
use Rattle.std.proofs.Common.{◌≡◌, sym, ◌∙◌, ap, subst, ℕ, List, [], ◌++◌, append-nil, Result, Ok, Err}
use Rattle.std.specs.Prelude.{IsErrAnd}
use Rattle.mh_values.specs.declared.types.MethodTy.{MethodTy}
use Rattle.mh_intern.specs.Exchanges.{Exchanges}
use Rattle.mh_intern.specs.Views.{HoldView}
use Rattle.mh_intern.proofs.Exchanging.{exchanges-both, exchanges-still, exchanges-then, held-came, held-still}
use Rattle.mh_intern.proofs.HeldLists.{held-first, held-none}
use Rattle.mh_handle.specs.declared.error.HandleError.{HandleError}
use Rattle.mh_handle.specs.declared.error.HandleError.TheVariants.{NoMemory, FormsFull, TypesFull, Refused}
use Rattle.mh_handle.specs.declared.handle.Handle.{Handle}
use Rattle.mh_handle.specs.declared.work.Work.{Work}
use Rattle.mh_handle.specs.Works.{GoesOn, HoldsTypes, IsReady, TradesTypes}
use Rattle.mh_handle.proofs.holding.HoldOrders.{exchanges-back}
use Rattle.mh_handle.proofs.holding.SingleHolds.{held-yet}
use Rattle.mh_attempt.specs.declared.handle.HandleOperand.{HandleOperand}
use Rattle.mh_attempt.specs.declared.handle.HandleOperand.TheVariants as operand
use Rattle.mh_attempt.specs.Registers.{IsHeldIn}
use Rattle.mh_attempt.specs.Several.{Adds, AddsTypes}

-- ---- no handle more

pub adds-none : (w : Work) → Adds [] w w
adds-none w = ([], exchanges-still w.seat.now)

-- no handle was made
pub adds-unmade : {E : Type 0} (old new : Work) (r : Result Handle E) (P : E → Type 0) → IsErrAnd r P → Adds [] old new → AddsTypes old new r
adds-unmade old new (Ok h) P is adds = absurd is
adds-unmade old new (Err e) P is adds = adds

-- ---- a handle

-- that a call makes which is handed none
pub adds-made : (asks : List MethodTy) (old new : Work) (r : Result Handle HandleError) → TradesTypes asks [] old new r → AddsTypes old new r
adds-made asks old new (Ok h) t = (asks, t)
adds-made asks old new (Err NoMemory) t = (asks, t)
adds-made asks old new (Err (FormsFull drawn)) t = (asks, t)
adds-made asks old new (Err (TypesFull bucket)) t = (asks, t.0)
adds-made asks old new (Err (Refused e)) t = ([], t)

-- that takes the place of those that came before
pub came-then : (asks : List MethodTy) (came more : List HoldView) (old mid new : Work) → Adds came old mid →
    Exchanges asks came more mid.seat.now new.seat.now → Adds more old new
came-then asks came more old mid new first next = (
  first.0 ++ asks,
  exchanges-then first.0 asks [] came [] more old.seat.now mid.seat.now new.seat.now first.1
      (subst (λ l. Exchanges asks l more mid.seat.now new.seat.now) (sym (append-nil came)) next),
)

pub adds-then : (asks : List MethodTy) (came : List HoldView) (old mid new : Work) (r : Result Handle HandleError) → Adds came old mid →
    TradesTypes asks came mid new r → AddsTypes old new r
adds-then asks came old mid new (Ok h) first t = came-then asks came h.held old mid new first t
adds-then asks came old mid new (Err NoMemory) first t = came-then asks came [] old mid new first t
adds-then asks came old mid new (Err (FormsFull drawn)) first t = came-then asks came [] old mid new first t
adds-then asks came old mid new (Err (TypesFull bucket)) first t = came-then asks came [] old mid new first t.0
adds-then asks came old mid new (Err (Refused e)) first t = came-then [] came [] old mid new first t

-- ---- several handles

pub adds-both : (first second : List HoldView) (old mid new : Work) → Adds first old mid → Adds second mid new → Adds (first ++ second) old new
adds-both first second old mid new x y =
    (x.0 ++ y.0, exchanges-both x.0 y.0 [] [] first second old.seat.now mid.seat.now new.seat.now x.1 y.1)

pub adds-three : (first second third : List HoldView) (old mid new : Work) → Adds (first ++ second) old mid → Adds third mid new →
    Adds (first ++ second ++ third) old new
adds-three first second third old mid new x y =
    adds-both (first ++ second) third old mid new x y

-- what came was handed back, where nothing came meanwhile
pub adds-back : (came : List HoldView) (old mid next new : Work) → Adds came old mid → Adds [] mid next → Exchanges [] came [] next.seat.now new.seat.now →
    Adds [] old new
adds-back came old mid next new x y back =
    came-then [] came [] old next new (subst (λ l. Adds l old next) (append-nil came) (adds-both came [] old mid next x y)) back

-- two handles were handed back, one after the other
pub adds-back-both : (first second : List HoldView) (old mid next last new : Work) → Adds (first ++ second) old mid → Adds [] mid next →
    Exchanges [] first [] next.seat.now last.seat.now → Exchanges [] second [] last.seat.now new.seat.now → Adds [] old new
adds-back-both first second old mid next last new x y one two =
    adds-back (first ++ second) old mid next new x y (exchanges-back first second next.seat.now last.seat.now new.seat.now one two)

-- ---- what is held

-- the handles that were made
pub holds-came : (came : List HoldView) (old new : Work) → Adds came old new → HoldsTypes new came
holds-came came old new adds = held-came adds.0 [] came old.seat.now new.seat.now adds.1 (held-none old.seat.now)

-- what was held before
pub holds-yet : (came kept : List HoldView) (old new : Work) → Adds came old new → HoldsTypes old kept → HoldsTypes new kept
holds-yet came kept old new adds had = held-yet adds.0 came kept old.seat.now new.seat.now adds.1 had

pub operand-yet : (o : HandleOperand) (came : List HoldView) (old new : Work) → Adds came old new → IsHeldIn old.seat.now o → IsHeldIn new.seat.now o
operand-yet (operand.Held h) came old new adds had = holds-yet came h.now.held old new adds had
operand-yet (operand.Leaf l) came old new adds had = had

-- what came before, where none came after
pub holds-after : (came : List HoldView) (old mid new : Work) → Adds came old mid → Adds [] mid new → HoldsTypes new came
holds-after came old mid new x y = holds-yet [] came mid new y (holds-came came old mid x)

-- the first of two, and the second once that was handed back
pub holds-first : (first second : List HoldView) (w : Work) → HoldsTypes w (first ++ second) → HoldsTypes w first
holds-first first second w held = held-first w.seat.now first second held

pub holds-second : (first second : List HoldView) (old new : Work) → HoldsTypes old (first ++ second) → Exchanges [] first [] old.seat.now new.seat.now →
    HoldsTypes new second
holds-second first second old new held x = held-still [] first [] second old.seat.now new.seat.now x held

-- the seat is of the table of types still
pub of-types : (m n : ℕ) (a b : Work) → GoesOn m a b → IsReady a n → b.seat.now.table ≡ b.types.now
of-types m n a b goes ready = goes.seat ∙ (ready.of_types ∙ ap (λ t. t.now) (sym goes.types))
