-- The table of holders between any two steps.
use Rattle.std.specs.Prelude.{◌≡◌, ℕ, ◌+◌, ◌<◌, ◌≤◌, ◌==◌, ◌&&◌, List, length, sum_by, count_by, slice_index, All}
use mathlib.Core.Option.{some}
use lib.ListN.{get_elem?}
use Rattle.atomic_table.specs.Table.{State}
use Rattle.mh_values.specs.declared.types.MethodTy.{MethodTy}
use Rattle.mh_values.specs.Same.{is_same_method_type}
use Rattle.mh_intern.specs.declared.holding.Entry.{Entry}
use Rattle.mh_intern.specs.declared.holding.FullBucket.{FullBucket}
use Rattle.mh_intern.specs.declared.holding.Holding.{Holding}
use Rattle.mh_seats.specs.Room.{limit, times}
use Rattle.mh_intern.specs.Buckets.{bucket_of, bucket_at, buckets, bucket_slots, slots}

-- how often a type is in a list
abbrev pub times_type : MethodTy → List MethodTy → ℕ
times_type t ts = count_by (λ u. is_same_method_type u t) ts

-- how many entries are of a slot
abbrev pub on_slot : ℕ → List Entry → ℕ
on_slot k es = count_by (λ e. e.slot == k) es

-- how many entries have a type
abbrev pub on_type : MethodTy → List Entry → ℕ
on_type t es = count_by (λ e. is_same_method_type e.ty t) es

-- how many entries are this slot with this type
abbrev pub has : ℕ → MethodTy → List Entry → ℕ
has k t es = count_by (λ e. (e.slot == k) && is_same_method_type e.ty t) es

-- the room and the holds of a view
abbrev pub weight : Holding → ℕ
weight v = v.room + length v.holds

-- how often a view has asked for a type
abbrev pub asks : MethodTy → Holding → ℕ
asks t v = times_type t v.asked

-- how often a view uses a type: in its list, as the type of a request, or in a full bucket
abbrev pub uses : MethodTy → Holding → ℕ
uses t v = on_type t v.entries + times_type t v.wanted + sum_by (λ f. on_type t f.entries) v.full

-- as many entries as a bucket has slots, with different types, all of one bucket, and each slot was read as not zero
pub record IsFull (f : FullBucket) : Type 0 where
  pub many : length f.entries ≡ bucket_slots
  pub apart : (t : MethodTy) → on_type t f.entries ≤ 1
  pub here : (t : MethodTy) → 0 < on_type t f.entries → bucket_of t ≡ f.bucket
  pub read : All (λ e. 0 < times e.slot f.busy) f.entries

-- one view: slots and types of its list, and what it noted as zero, are of buckets that it keeps
pub record Fits (v : Holding) : Type 0 where
  pub slots : (k : ℕ) → times (bucket_at k) v.keeps ≡ 0 → on_slot k v.entries ≡ 0
  pub types : (t : MethodTy) → times (bucket_of t) v.keeps ≡ 0 → on_type t v.entries ≡ 0
  pub zeros : (k : ℕ) → times (bucket_at k) v.keeps ≡ 0 → times k v.zeros ≡ 0
  pub full : All IsFull v.full
  pub idle : weight v ≡ 0 → (t : MethodTy) → asks t v ≡ 0

-- the rule of the table of holders
pub record Held (s : State (Unit {0}) Holding) : Type 0 where
  -- a word for each slot
  pub wide : length s.words ≡ slots
  -- a word is the number of holds of its slot that are counted, over all views
  pub words : (k : ℕ) → k < slots → slice_index s.words k ≡ sum_by (λ v. on_slot k v.holds) s.views
  -- the room and the holds of all views
  pub whole : sum_by weight s.views ≡ limit
  -- each bucket has one keeper
  pub keepers : (b : ℕ) → b < buckets → sum_by (λ v. times b v.keeps) s.views ≡ 1
  -- no slot and no type has two entries
  pub slots : (k : ℕ) → sum_by (λ v. on_slot k v.entries) s.views ≤ 1
  pub types : (t : MethodTy) → sum_by (λ v. on_type t v.entries) s.views ≤ 1
  -- nobody holds what is no entry
  pub held : (k : ℕ) (t : MethodTy) → sum_by (λ v. has k t v.entries) s.views ≡ 0 → sum_by (λ v. has k t v.holds) s.views ≡ 0
  -- a slot that was noted as zero is zero
  pub zeros : (k : ℕ) → 0 < sum_by (λ v. times k v.zeros) s.views → slice_index s.words k ≡ 0
  -- no part uses a type that nobody asked for
  pub asked : (t : MethodTy) → sum_by (asks t) s.views ≡ 0 → sum_by (uses t) s.views ≡ 0
  -- what holds of each view
  pub each : (id : ℕ) (v : Holding) → get_elem? s.views id ≡ some v → Fits v
