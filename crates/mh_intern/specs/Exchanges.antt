-- How a sequence of requests, copies and releases changes a seat.
use Rattle.std.specs.Prelude.{◌≡◌, ℕ, ◌+◌, ◌≤◌, List, [], ◌∷◌, ◌++◌, length, map, Result, Ok, Err}
use Rattle.std.specs.Global.{Vec}
use Rattle.std.specs.List.{AllByRecursion}
use Rattle.atomic_table.specs.Seated.{TableId}
use Rattle.mh_values.specs.declared.types.MethodTy.{MethodTy}
use Rattle.mh_intern.specs.declared.holding.Entry.{Entry}
use Rattle.mh_intern.specs.declared.holding.FullBucket.{FullBucket}
use Rattle.mh_intern.specs.Buckets.{bucket_of}
use Rattle.mh_intern.specs.Held.{times_type}
use Rattle.mh_intern.specs.Interning.{IsFullFor}
use Rattle.mh_intern.specs.Trades.{Trades, HoldsAll}
use Rattle.mh_intern.specs.Views.{HoldView, SeatView}

-- holds as entries of their table
abbrev pub entries_of : List HoldView → List Entry
entries_of holds = map (λ h. h.entry) holds

-- the types that are held
abbrev pub types_of : List HoldView → List MethodTy
types_of holds = map (λ h. h.entry.ty) holds

-- holds of this table
abbrev pub AreOf : TableId → List HoldView → Type 0
AreOf table holds = AllByRecursion (λ h. h.table ≡ table) holds

-- these are holds of the seat, each as often as it is named
pub record AreHeld (seat : SeatView) (holds : List HoldView) : Type 0 where
  pub tables : AreOf seat.table.holders holds
  pub held : HoldsAll seat.holds (entries_of holds)

-- The seat has the holds that came in place of those that are gone, and was asked for no types except these.
pub record Exchanges (asks : List MethodTy) (gone came : List HoldView) (old new : SeatView) : Type 0 where
  pub table : new.table ≡ old.table
  pub traded : Trades old.holds (entries_of gone) (entries_of came) new.holds
  pub tables : AreOf new.table.holders came
  -- holds and room together are as many as before
  pub many : length new.holds + length gone ≡ length old.holds + length came
  pub room : new.room + length came ≡ old.room + length gone
  -- no other type was asked for, and what was known stays known
  pub asked : (t : MethodTy) → times_type t old.asked + times_type t asks ≡ 0 → times_type t new.asked ≡ 0
  pub still_asked : (t : MethodTy) → times_type t old.asked ≤ times_type t new.asked
  pub still_full : (more : List FullBucket) × (new.full ≡ more ++ old.full)

-- the seat was asked for a type and has found its bucket full of others
pub record FindsNoSlot (bucket : ℕ) (t : MethodTy) (seat : SeatView) : Type 0 where
  pub bucket_is : bucket ≡ bucket_of t
  pub asked : 1 ≤ times_type t seat.asked
  pub full : FullBucket
  pub full_for : IsFullFor t full
  pub found : (before after : List FullBucket) × (seat.full ≡ before ++ full ∷ after)

-- the holds of an answer, if there are any
abbrev pub came_of_all : {E : Type 0} → Result (Vec HoldView) E → List HoldView
came_of_all (Ok holds) = holds.items
came_of_all (Err e) = []
