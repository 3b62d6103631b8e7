-- A worker's pass comes from the one that it was given, by one step for each number of its list.
use Rattle.std.specs.Prelude.{◌≡◌, ℕ, ◌-◌, ◌≤◌, List, [], ◌∷◌, ◌++◌, Some, None, All, vec_len, vec_capacity}
use Rattle.std.specs.List.{FoldsTo}
use Rattle.std.specs.declared.option.Option.{Option}
use Rattle.mh_prelink.specs.declared.worked.Work.{Work}
use Rattle.mh_prelink.specs.declared.worked.Worked.{Worked}

-- a worker by its parts
abbrev pub worked : {P E : Type 0} → P → List ℕ → Option E → Worked P E
worked pass taken stop = record { pass = pass; taken = taken; stop = stop }

-- what a worker has done so far
abbrev pub done_by : {P E : Type 0} → Work P E → Worked P E
done_by w = worked w.pass w.taken.items w.stop

module _ {P E : Type 0} (step : P → ℕ → Option E → P → Type 0) where
  -- one step for each number, in order, and none has a stop
  abbrev pub Went : P → List ℕ → P → Type 0
  Went = FoldsTo (λ p x q. step p x None q)

  -- one step for each number, in order; none has a stop, except the last of a worker that stopped
  abbrev pub WentUntil : P → List ℕ → Option E → P → Type 0
  WentUntil p xs None q = Went p xs q
  WentUntil p xs (Some e) q = (ys : List ℕ) × (y : ℕ) × (m : P) × (xs ≡ ys ++ y ∷ []) × Went p ys m × step m y (Some e) q

module _ {P E : Type 0} (has : P → ℕ → Type 0) where
  -- the pass has each item of the list, except the last of a worker that stopped
  abbrev pub HasUntil : P → List ℕ → Option E → Type 0
  HasUntil p xs None = All (has p) xs
  HasUntil p xs (Some e) = (ys : List ℕ) × (y : ℕ) × (xs ≡ ys ++ y ∷ []) × All (has p) ys

module _ {P E : Type 0} (step : P → ℕ → Option E → P → Type 0) (has : P → ℕ → Type 0) where
  -- what a worker did with the pass that it was given
  pub record Did (p : P) (w : Worked P E) : Type 0 where
    pub went : WentUntil step p w.taken w.stop w.pass
    pub linked : HasUntil has w.pass w.taken w.stop

  module _ (room : P → ℕ → Type 0) (bound : ℕ) where
    -- it did not stop, and can take all other numbers
    pub record Goes (p : P) (w : Work P E) : Type 0 where
      pub went : Went step p w.taken.items w.pass
      pub linked : All (has w.pass) w.taken.items
      pub stop : w.stop ≡ None
      pub left : room w.pass (bound - vec_len w.taken)
      pub capacity : bound ≤ vec_capacity w.taken

    -- what it did, and if it did not stop, that it can take all other numbers
    pub record Ended (p : P) (w : Work P E) : Type 0 where
      pub did : Did p (done_by w)
      pub goes : w.stop ≡ None → Goes p w
