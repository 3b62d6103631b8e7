-- What the words of the command line ask for.
use Rattle.std.specs.Prelude.{ℕ, ◌^◌, ◌<◌, ◌≤◌, ◌&&◌, List, [], codes, nat_le, length, if◌then◌else◌, Option, None, Some, option_map, option_and_then}
use Rattle.std.specs.Str.{bytes_eq}
use Rattle.clap.specs.Words.{Text}
use Rattle.mh_words.specs.Number.{most_digits, number_of}
use Rattle.mh_words.specs.Options.{GivenOptions, found, given_by, said}
use Rattle.mh_words.specs.declared.command.Names.{Names}
use Rattle.mh_words.specs.declared.command.Command.{Command as Held}
use Rattle.mh_words.specs.declared.command.Command.TheVariants as held

-- the names of the inputs of a run
pub record Named : Type 0 where
  pub leaves : Text
  pub scripts : Text
  pub plan : Text
  pub classes : List Text
  -- how many workers link all call sites before the calls; none if it is 0
  pub workers : ℕ

-- a run of named inputs, the listing of the call sites of named class files, or a run of the input that is made from a number
pub data Command : Type 0 where
  run : Named → Command
  sites : List Text → Command
  generate : ℕ → Command

-- how many class files may be named
abbrev pub most_class_files : ℕ
most_class_files = 64

-- how many workers there may be
abbrev pub most_workers : ℕ
most_workers = 16

-- how many digits the number of workers may have
abbrev pub workers_digits : ℕ
workers_digits = 2

-- a number of workers, if there may be this many
abbrev pub workers_within : ℕ → Option ℕ
workers_within workers = if nat_le 1 workers && nat_le workers most_workers then Some workers else None

-- how many workers are asked for: none if the option is not there
abbrev pub workers_of : Option Text → Option ℕ
workers_of None = Some 0
workers_of (Some text) = option_and_then workers_within (number_of workers_digits text)

-- a run has its three inputs and no number
abbrev pub run_with : Option Text → Option Text → Option Text → Option Text → Option Text → List Text → Option Command
run_with (Some leaves) (Some scripts) (Some plan) None prelink classes =
    option_map (λ workers. run (record { leaves = leaves; scripts = scripts; plan = plan; classes = classes; workers = workers })) (workers_of prelink)
run_with _ _ _ _ prelink classes = None

-- the run that is asked for
abbrev pub run_of : GivenOptions → Option Command
run_of given = run_with given.leaves given.scripts given.plan given.number given.prelink given.classes

-- a listing has no option except the mode
abbrev pub sites_with : Option Text → Option Text → Option Text → Option Text → Option Text → List Text → Option Command
sites_with None None None None None classes = Some (sites classes)
sites_with _ _ _ _ _ classes = None

-- the listing that is asked for
abbrev pub sites_of : GivenOptions → Option Command
sites_of given = sites_with given.leaves given.scripts given.plan given.number given.prelink given.classes

-- a generated run has a number alone, and no class files
abbrev pub generated_with : Option Text → Option Text → Option Text → Option Text → Option Text → List Text → Option Command
generated_with None None None (Some number) None [] = option_map (λ n. generate n) (number_of most_digits number)
generated_with _ _ _ _ _ classes = None

-- the generated run that is asked for
abbrev pub generated_of : GivenOptions → Option Command
generated_of given = generated_with given.leaves given.scripts given.plan given.number given.prelink given.classes

-- the command of a mode
abbrev pub of_mode : Text → GivenOptions → Option Command
of_mode mode given =
    if bytes_eq mode (codes "run") then run_of given
    else (if bytes_eq mode (codes "sites") then sites_of given
    else (if bytes_eq mode (codes "gen") then generated_of given else None))

-- the command that options and names of class files ask for, if there is one: a mode with exactly its options, and not too many class files
abbrev pub asked : GivenOptions → Option Command
asked given =
    if nat_le (length given.classes) most_class_files then option_and_then (λ mode. of_mode mode given) given.mode else None

-- what the words ask for, or nothing if they are refused: by `clap`, or by the program's own conditions
abbrev pub command_of : List Text → Option Command
command_of words = option_and_then (λ rows. asked (given_by rows)) (found words)

-- at most as many class files, workers or digits as are allowed
abbrev pub IsCommandWithinLimits : Command → Type 0
IsCommandWithinLimits (run names) = (length names.classes ≤ most_class_files) × (names.workers ≤ most_workers)
IsCommandWithinLimits (sites names) = length names ≤ most_class_files
IsCommandWithinLimits (generate number) = number < 10 ^ most_digits

-- the names that a value of the program holds
abbrev pub held_names : Names → Named
held_names names = record {
  leaves = names.leaves.now;
  scripts = names.scripts.now;
  plan = names.plan.now;
  classes = said names.classes.items;
  workers = names.workers;
}

-- the command that a value of the program holds
abbrev pub held_command : Held → Command
held_command (held.Run names) = run (held_names names)
held_command (held.Sites names) = sites (said names.items)
held_command (held.Generate number) = generate number

-- the same of a command that may not be there
abbrev pub commanded : Option Held → Option Command
commanded = option_map held_command
