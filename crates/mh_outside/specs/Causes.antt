-- Counts of faults, and what is known after a write that failed.
use Rattle.std.specs.Prelude.{◌≡◌, ℕ, ◌+◌, ◌-◌, ◌^◌, ◌<◌, ◌≤◌, min, List, take, Option}
use Rattle.std.specs.Io.KnownBytes.{Appends}

-- a count rose, or was at its maximum of 64 bits
abbrev pub Rose : ℕ → ℕ → Type 0
Rose before now = min (before + 1) (2 ^ 64 - 1) ≤ now

-- a count did not rise, and was not at its maximum
abbrev pub IsStill : ℕ → ℕ → Type 0
IsStill before now = now < min (before + 1) (2 ^ 64 - 1)

-- each name has the same count as before
abbrev pub AreSame : (List ℕ → ℕ) → (List ℕ → ℕ) → Type 0
AreSame before now = (name : List ℕ) → now name ≡ before name

-- a front part of the bytes was added
abbrev pub AppendsPart : Option (List ℕ) → Option (List ℕ) → List ℕ → Type 0
AppendsPart old new bytes = (n : ℕ) × Appends old new (take n bytes)
