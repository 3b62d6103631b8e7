-- What a request leaves of a caller's view, as what `intern` says of the seat.
use Rattle.std.proofs.Common.{◌<◌, refl, sym, subst, Result, Ok, Err, IfOk}
use Rattle.atomic_table.specs.Seated.{TableId}
use Rattle.mh_values.specs.declared.types.MethodTy.{MethodTy}
use Rattle.mh_intern.specs.declared.holding.Entry.{Entry}
use Rattle.mh_intern.specs.declared.holding.Holding.{Holding}
use Rattle.mh_intern.specs.declared.error.InternError.{InternError}
use Rattle.mh_intern.specs.declared.error.InternError.TheVariants.{NoMemory, TypesFull}
use Rattle.mh_intern.specs.Buckets.{slots}
use Rattle.mh_intern.specs.Lists.{entry, Agrees}
use Rattle.mh_intern.specs.Interning.{Interned}
use Rattle.mh_intern.specs.Views.{seat_view}
use Rattle.mh_intern.specs.Seats.{Holds, KeepsSlot, held_at}
use Rattle.mh_intern.proofs.Entries.{In}
use Rattle.mh_intern.proofs.HoldCounts.{in_here, in_longer}

-- the hold that was asked for is of a slot
pub small_interned : (t : MethodTy) (v : Holding) (r : Result Entry InternError) (w : Holding) → Interned t v r w → IfOk r (λ e. e.slot < slots)
small_interned t v (Ok e) w (is, small, now) = small
small_interned t v (Err NoMemory) w now = tt
small_interned t v (Err (TypesFull b)) w told = tt

-- the hold is one of the seat's
pub holds_answer : (c h : TableId) (t : MethodTy) (v : Holding) (r : Result Entry InternError) (w : Holding) → Interned t v r w
    → IfOk (held_at h r) (λ held. Holds (seat_view c h w) held)
holds_answer c h t v (Ok e) w (is, small, now) = record { table = refl; counted = subst (λ (z : Holding). In z.holds e) (sym now) (in_here e v.holds) }
holds_answer c h t v (Err NoMemory) w now = tt
holds_answer c h t v (Err (TypesFull b)) w told = tt

-- a type that was held keeps its slot
pub keeps_answer : (h : TableId) (t : MethodTy) (v : Holding) (r : Result Entry InternError) (w : Holding) → Interned t v r w → Agrees w.holds
    → IfOk (held_at h r) (KeepsSlot t v.holds)
keeps_answer h t v (Ok e) w (is, small, now) agrees = λ k mine.
    let here : In w.holds e = subst (λ (z : Holding). In z.holds e) (sym now) (in_here e v.holds) in
    let there : In w.holds (entry k t) = subst (λ (z : Holding). In z.holds (entry k t)) (sym now) (in_longer e (entry k t) v.holds mine) in
    (agrees e (entry k t) here there).1 is
keeps_answer h t v (Err NoMemory) w now agrees = tt
keeps_answer h t v (Err (TypesFull b)) w told agrees = tt
