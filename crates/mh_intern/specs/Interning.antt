-- How a request changes a caller's view.
use Rattle.std.specs.Prelude.{◌≡◌, ◌-◌, ◌<◌, ◌∷◌, Result, Ok, Err}
use Rattle.mh_values.specs.declared.types.MethodTy.{MethodTy}
use Rattle.mh_intern.specs.declared.holding.Entry.{Entry}
use Rattle.mh_intern.specs.declared.holding.FullBucket.{FullBucket}
use Rattle.mh_intern.specs.declared.holding.Holding.{Holding}
use Rattle.mh_intern.specs.declared.error.InternError.{InternError}
use Rattle.mh_intern.specs.declared.error.InternError.TheVariants.{NoMemory, TypesFull}
use Rattle.mh_intern.specs.Buckets.{bucket_of, slots}
use Rattle.mh_intern.specs.Held.{on_type, IsFull}

-- one hold more and one room less, and the type was asked for
abbrev pub granted : Entry → Holding → Holding
granted e v = record v { holds = e ∷ v.holds; kept = e ∷ v.kept; room = v.room - 1; asked = e.ty ∷ v.asked }

-- the type was asked for, and a full bucket was found
abbrev pub refused : FullBucket → MethodTy → Holding → Holding
refused f t v = record v { asked = t ∷ v.asked; full = f ∷ v.full }

-- the bucket is full, and has no entry of the type
pub record IsFullFor (t : MethodTy) (f : FullBucket) : Type 0 where
  pub full : IsFull f
  pub bucket : f.bucket ≡ bucket_of t
  pub lacks : on_type t f.entries ≡ 0

-- how a request for a type changes a caller's view, by the answer
abbrev pub Interned : MethodTy → Holding → Result Entry InternError → Holding → Type 0
Interned t v (Ok e) w = (e.ty ≡ t) × (e.slot < slots) × (w ≡ granted e v)
Interned t v (Err NoMemory) w = w ≡ v
Interned t v (Err (TypesFull bucket)) w = (bucket ≡ bucket_of t) × ((f : FullBucket) × IsFullFor t f × (w ≡ refused f t v))
