-- The table of claims between any two steps, and what a step says.
use Rattle.std.specs.Prelude.{◌≡◌, ℕ, ◌<◌, List, [], ◌∷◌, ◌++◌, length, sum_by, slice_index, ◌⊎◌, Option, None, Some, option_map}
use mathlib.Core.Option.{some, none}
use mathlib.Core.Option as home
use lib.ListN.{get_elem?}
use Rattle.atomic_table.specs.Seated.{TableId}
use Rattle.atomic_table.specs.declared.shared.Seat.{Seat}
use Rattle.atomic_table.specs.Table.{State, Me, Step, rest}
use Rattle.mh_intern.specs.declared.keeper.Keeper.{Keeper}
use Rattle.mh_intern.specs.declared.keeper.Claimer.{Claimer}
use Rattle.mh_seats.specs.Room.{times}
use Rattle.mh_intern.specs.Buckets.{buckets}
use Rattle.mh_intern.specs.Keep.{IsKeeper}

-- what the slot of a bucket has: its keeper, or nothing
abbrev pub KeeperSlot : Type 0
KeeperSlot = Option Keeper

-- the table of holders that a view names
abbrev pub named : Claimer → Option TableId
named v = option_map (λ s. s.table_id) v.like

-- the view with these claims
abbrev pub claiming : Claimer → List ℕ → Claimer
claiming v claims = record v { claims = claims }

-- the slot has the bucket's keeper
abbrev pub HasKeeper : TableId → ℕ → KeeperSlot → Type 0
HasKeeper holders b x = (k : Keeper) × (x ≡ Some k) × IsKeeper holders b k

-- a bucket is free and its keeper is in the slot, or it is claimed and the slot is empty
abbrev pub IsFreeOrTaken : TableId → ℕ → ℕ → home.Option KeeperSlot → Type 0
IsFreeOrTaken holders b n h = ((n ≡ 0) × ((x : KeeperSlot) × (h ≡ some x) × HasKeeper holders b x)) ⊎ ((n ≡ 1) × (h ≡ none))

-- the rule of the table of claims
pub record Claimed (holders : TableId) (s : State KeeperSlot Claimer) : Type 0 where
  -- a word and a slot for each bucket
  pub wide : length s.words ≡ buckets
  pub many : length s.homes ≡ buckets
  -- the word and the slot of each bucket
  pub each : (b : ℕ) (h : home.Option KeeperSlot) → get_elem? s.homes b ≡ some h → IsFreeOrTaken holders b (slice_index s.words b) h
  -- a word is the number of the views that claim its bucket
  pub claims : (b : ℕ) → b < buckets → sum_by (λ v. times b v.claims) s.views ≡ slice_index s.words b
  -- the table of holders that every view names
  pub names : (id : ℕ) (v : Claimer) → get_elem? s.views id ≡ some v → (t : TableId) → named v ≡ Some t → t ≡ holders

-- what a seat of the table of claims knows and carries
abbrev pub CMe : Type 0
CMe = Me KeeperSlot Claimer

-- the seat has claimed nothing, and carries nothing
abbrev pub IsIdle : CMe → Type 0
IsIdle me = (me.1 ≡ []) × (me.0.claims ≡ [])

-- the seat has claimed this bucket, and its keeper is no longer in its slot
abbrev pub HasClaimed : ℕ → CMe → Type 0
HasClaimed bucket me = (me.1 ≡ (bucket, None) ∷ []) × (me.0.claims ≡ bucket ∷ [])

-- the seat stays at its table, and names the same table of holders
abbrev pub Names : Seat KeeperSlot Claimer → Seat KeeperSlot Claimer → Type 0
Names old new = (new.table_id ≡ old.table_id) × (named new.me.0 ≡ named old.me.0)

-- if the word was 0, the seat has claimed the bucket and has its keeper; otherwise nothing changed
abbrev pub takes_bucket : Step KeeperSlot → CMe → ℕ → CMe → Type 0
takes_bucket st m n m' =
    (n ≡ 0 → (m'.0 ≡ claiming m.0 (st.word ∷ m.0.claims))
    × ((k : Keeper) × (m'.1 ≡ (st.word, Some k) ∷ m.1) × ((t : TableId) → named m.0 ≡ Some t → IsKeeper t st.word k)))
    × (¬ (n ≡ 0) → m' ≡ m)

-- the bucket is no longer claimed, and its keeper is in the slot again
abbrev pub gives_bucket : Step KeeperSlot → CMe → ℕ → CMe → Type 0
gives_bucket st m n m' = (m'.0 ≡ claiming m.0 []) × (m'.1 ≡ rest m.1)

-- a new seat names the same table of holders, and claims nothing
abbrev pub unclaimed : Claimer → Claimer
unclaimed v = claiming v []

-- the claims of two views together
abbrev pub claims_joined : Claimer → Claimer → Claimer
claims_joined v w = claiming v (w.claims ++ v.claims)

-- the view that a join leaves of the other seat
abbrev pub spent_claimer : Claimer
spent_claimer = record { like = None; claims = [] }
