-- How far files are read, and how often.
use Rattle.std.specs.Prelude.{ℕ, ◌+◌, ◌≤◌, max, List}

-- no file was read further from its front than this many bytes, or than before
abbrev pub ReachesTo : ℕ → (List ℕ → ℕ) → (List ℕ → ℕ) → Type 0
ReachesTo limit before now = (name : List ℕ) → now name ≤ max (before name) limit

-- files were read no further than that, and at most this many of them, each once
pub record ReadsOnce (limit files : ℕ) (reached_before reached_now : List ℕ → ℕ) (starts_before starts_now : ℕ) : Type 0 where
  pub reached : ReachesTo limit reached_before reached_now
  pub starts : starts_now ≤ starts_before + files
