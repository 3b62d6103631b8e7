-- What the words of the program ask for: those of `mh --mode run`, of which `--mode run` and the plan may be left out, and `--why A B`.
use Rattle.std.specs.Prelude.{ℕ, Bool, true, false, if◌then◌else◌, List, [], ◌∷◌, codes, drop, Option, None, Some, option_map}
use Rattle.std.specs.Str.{bytes_eq}
use Rattle.mh_texts.specs.Number.{unsigned_of}
use Rattle.mh_drawn.specs.declared.words.Asked.{Asked as Held}
use Rattle.mh_drawn.specs.declared.words.Asked.TheVariants as held
use Rattle.mh_words.specs.Words.{Command, Named, run, sites, generate, command_of}

-- ---- the words of a run

-- these words ask `mh` for a run
abbrev pub are_runs : Option Command → Bool
are_runs (Some (run names)) = true
are_runs _ = false

-- the words of a run's mode before others
abbrev pub with_mode : List (List ℕ) → List (List ℕ)
with_mode words = codes "--mode" ∷ codes "run" ∷ words

-- the words of a plan, which is not read, before others
abbrev pub with_plan : List (List ℕ) → List (List ℕ)
with_plan words = codes "--plan" ∷ codes "-" ∷ words

-- the first of these that ask for a run: the words, those with a mode, those with a plan; else those with both
abbrev pub completed : List (List ℕ) → List (List ℕ)
completed words =
    if are_runs (command_of words) then words
    else (if are_runs (command_of (with_mode words)) then with_mode words
    else (if are_runs (command_of (with_plan words)) then with_plan words else with_plan (with_mode words)))

-- the names of a run's inputs
abbrev pub names_in : Option Command → Option Named
names_in (Some (run names)) = Some names
names_in _ = None

-- the names of the inputs that words ask for
abbrev pub names_of : List (List ℕ) → Option Named
names_of words = names_in (command_of (completed words))

-- ---- the two call sites of `--why`

-- the word `--why`
abbrev pub is_why : List ℕ → Bool
is_why word = bytes_eq word (codes "--why")

-- the words without the first `--why A B`
abbrev pub other_words : List (List ℕ) → List (List ℕ)
other_words [] = []
other_words (word ∷ words) = if is_why word then drop 2 words else word ∷ other_words words

-- what is asked for: the drawing, or why two call sites share a form or do not
pub data Asked : Type 0 where
  drawing : Asked
  why : ℕ → ℕ → Asked

-- two numbers that were read, if both are there
abbrev pub why_of : Option ℕ → Option ℕ → Option Asked
why_of (Some one) (Some other) = Some (why one other)
why_of _ _ = None

-- the two words after `--why` are the numbers of call sites
abbrev pub why_in : List (List ℕ) → Option Asked
why_in (one ∷ other ∷ rest) = why_of (unsigned_of one) (unsigned_of other)
why_in _ = None

-- what words ask for, if `--why` has its two numbers; without it, the drawing
abbrev pub asked_of : List (List ℕ) → Option Asked
asked_of [] = Some drawing
asked_of (word ∷ words) = if is_why word then why_in words else asked_of words

-- ---- both

-- what is asked for, and of which inputs
abbrev pub both : Option Asked → Option Named → Option (Asked × Named)
both (Some asked) (Some names) = Some (asked, names)
both _ _ = None

-- what the words ask for, or nothing if they are refused
abbrev pub request_of : List (List ℕ) → Option (Asked × Named)
request_of words = both (asked_of words) (names_of (other_words words))

-- what a value of the program asks for
abbrev pub held_asked : Held → Asked
held_asked held.Drawing = drawing
held_asked (held.Why one other) = why one other

-- the same of a value that may not be there
abbrev pub asked_held : Option Held → Option Asked
asked_held = option_map held_asked
