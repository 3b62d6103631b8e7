-- How far the inputs of a command are read, and how often.
use Rattle.std.specs.Prelude.{ℕ, ◌+◌, List, length, Option, None, Some}
use Rattle.mh_outside.specs.Reach.{ReadsOnce}
use Rattle.mh_words.specs.Words.{Command, run, sites, generate}

-- how many bytes an input may have, at most: as many as a plan or a class file
abbrev pub most_bytes : ℕ
most_bytes = 1048576

-- how many inputs a command has: the manifest, the scripts and the plan of a run, and class files; refused words name none, and a number has none
abbrev pub inputs_of : Option Command → ℕ
inputs_of None = 0
inputs_of (Some (run names)) = 3 + length names.classes
inputs_of (Some (sites names)) = length names
inputs_of (Some (generate number)) = 0

-- how many bytes from the front of an input of a command are asked for, at most: one past the limit
abbrev pub reach_of : Option Command → ℕ
reach_of None = 0
reach_of (Some (run names)) = most_bytes + 1
reach_of (Some (sites names)) = most_bytes + 1
reach_of (Some (generate number)) = 0

-- no input of a command was read further than one byte past the limit, and each was begun at its front once at most
abbrev pub ReadsInputs : Option Command → (List ℕ → ℕ) → (List ℕ → ℕ) → ℕ → ℕ → Type 0
ReadsInputs command = ReadsOnce (reach_of command) (inputs_of command)
