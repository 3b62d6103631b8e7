-- How a call changes the inputs.
use Rattle.std.specs.Prelude.{◌≡◌, ◌≤◌, ℕ, List}
use Rattle.mh_outside.specs.Contents.{Contents}

-- the inputs are as before: contracts see the same of each file, and no count of faults fell
pub record KeepsInputs (contents_before contents_now : List ℕ → Contents) (before now : List ℕ → ℕ) : Type 0 where
  pub contents : (name : List ℕ) → contents_now name ≡ contents_before name
  pub later : (name : List ℕ) → before name ≤ now name
