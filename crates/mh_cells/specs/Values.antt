-- What contracts see of what was learnt of a row of cells, and how it grows.
use Rattle.std.specs.Prelude.{◌≡◌, ◌≢◌, ℕ, ◌⊎◌, List, length, replicate, slice_get, Option, Some, None, Result, Ok, Err, refl}
use Rattle.std.specs.Option.{option_flatten}
use Rattle.std.specs.Coded.{Coded, code_by, coded×, coded_ℕ, coded_list, coded_option}
use denote.Ref.{Bor}
use Rattle.mh_setonce.specs.declared.put.Put.{Put}
use Rattle.mh_setonce.specs.declared.put.Put.TheVariants.{Mine, Theirs}

-- the names of the cells, and for each cell its value, if it was learnt
pub record KnownView (V : Type 0) : Type 0 where
  pub cells : List ℕ
  pub values : List (Option V)

-- what is known is stored as the pair of its fields
abbrev pub known_coded : {V : Type 0} → Coded V → Coded (KnownView V)
known_coded {V} c = code_by (List ℕ × List (Option V)) (coded× (coded_list coded_ℕ) (coded_list (coded_option c))) (λ k. (k.cells, k.values))
    (λ p. record { cells = p.0; values = p.1 }) (λ _. refl)

-- the value of the cell at a place, if it was learnt
abbrev pub value_at : {V : Type 0} → List (Option V) → ℕ → Option V
value_at values at = option_flatten (slice_get values at)

-- nothing was learnt of these cells
abbrev pub nothing_of : {V : Type 0} → List ℕ → KnownView V
nothing_of cells = record { cells = cells; values = replicate (length cells) None }

-- this is the value of the cell at the place, and it belongs there
abbrev pub IsValueAt : {V : Type 0} → (V → ℕ) → List (Option V) → ℕ → V → Type 0
IsValueAt key values at v = (value_at values at ≡ Some v) × (key v ≡ at)

-- the value of the cell at the place, or none if none was learnt
abbrev pub Finds : {V : Type 0} → (V → ℕ) → List (Option V) → ℕ → Option (Bor V) → Type 0
Finds key values at None = value_at values at ≡ None
Finds key values at (Some v) = IsValueAt key values at v.now

-- what was learnt stays
abbrev pub Keeps : {V : Type 0} → List (Option V) → List (Option V) → Type 0
Keeps {V} old new = (at : ℕ) (v : V) → value_at old at ≡ Some v → value_at new at ≡ Some v

-- what was learnt stays, and no more is learnt, except of the cell at one place
pub record LearnsAt {V : Type 0} (at : ℕ) (old new : KnownView V) : Type 0 where
  pub cells : new.cells ≡ old.cells
  pub values : Keeps old.values new.values
  pub others : (i : ℕ) → i ≢ at → value_at new.values i ≡ value_at old.values i

-- what the cell has after a put of a value: ours, or another one, and then ours is handed back
abbrev pub PutsHere : {V : Type 0} → (V → ℕ) → List (Option V) → ℕ → V → Put V → Type 0
PutsHere key values at ours (Mine v) = (v.now ≡ ours) × IsValueAt key values at v.now
PutsHere key values at ours (Theirs v back) = (back ≡ ours) × IsValueAt key values at v.now

-- the same, and ours is handed back if no memory is left
abbrev pub Puts : {V : Type 0} → (V → ℕ) → List (Option V) → ℕ → V → Result (Put V) V → Type 0
Puts key values at ours (Ok put) = PutsHere key values at ours put
Puts key values at ours (Err back) = back ≡ ours

-- nothing was learnt except what one or the other had learnt
abbrev pub JoinedOnly : {V : Type 0} → List (Option V) → List (Option V) → List (Option V) → Type 0
JoinedOnly {V} mine theirs new = (at : ℕ) (v : V) → value_at new at ≡ Some v → (value_at mine at ≡ Some v) ⊎ (value_at theirs at ≡ Some v)
