-- What is asked for is within the limits.
use Rattle.std.proofs.Common.{◌≡◌, ◌≤◌, ◌&&◌, ℕ, arith, refl, Bool, true, false, cond, List, [], ◌∷◌, length, Option, Some, None}
use Rattle.std.specs.Prelude.{IfSome, codes, nat_le, option_and_then, option_map}
use Rattle.std.specs.Str.{bytes_eq}
use Rattle.clap.specs.Words.{Text}
use Rattle.mh_words.specs.Number.{is_written, most_digits, number_of}
use Rattle.mh_words.specs.Options.{GivenOptions}
use Rattle.mh_words.specs.Words.{Command, IsCommandWithinLimits, asked, generate, generated_with, most_class_files, of_mode}
use Rattle.mh_words.specs.Words.{most_workers, run, run_with, sites_with, workers_digits, workers_of, workers_within}
use Rattle.mh_words.proofs.Digits.{written_is_small}

-- a command, if there is one, is within the limits
abbrev IsWithin : Option Command → Type 0
IsWithin command = IfSome command IsCommandWithinLimits

-- one of two commands
either : (b : Bool) (one other : Option Command) → IsWithin one → IsWithin other → IsWithin (cond b one other)
either true one other holds _ = holds
either false one other _ holds = holds

-- so many workers, if there are any, are not too many
few_workers : (n : ℕ) (b : Bool) → (nat_le 1 n && nat_le n most_workers) ≡ b → IfSome (workers_within n) (λ workers. workers ≤ most_workers)
few_workers n true are = rw are (grind arith)
few_workers n false are = rw are tt

workers_few : (prelink : Option Text) → IfSome (workers_of prelink) (λ workers. workers ≤ most_workers)
workers_few None = omega arith
workers_few (Some text) = by (number_of workers_digits text)
  where
    by : (number : Option ℕ) → IfSome (option_and_then workers_within number) (λ workers. workers ≤ most_workers)
    by None = tt
    by (Some n) = few_workers n _ refl

run_within : (leaves scripts plan number prelink : Option Text) (classes : List Text) → length classes ≤ most_class_files
    → IsWithin (run_with leaves scripts plan number prelink classes)
run_within None _ _ _ prelink classes few = tt
run_within (Some _) None _ _ prelink classes few = tt
run_within (Some _) (Some _) None _ prelink classes few = tt
run_within (Some leaves) (Some scripts) (Some plan) None prelink classes few = by (workers_of prelink) (workers_few prelink)
  where
    by : (workers : Option ℕ) → IfSome workers (λ n. n ≤ most_workers) →
        IsWithin (option_map (λ n. run (record { leaves = leaves; scripts = scripts; plan = plan; classes = classes; workers = n })) workers)
    by None within = tt
    by (Some n) within = (few, within)
run_within (Some _) (Some _) (Some _) (Some _) prelink classes few = tt

sites_within : (leaves scripts plan number prelink : Option Text) (classes : List Text) → length classes ≤ most_class_files
    → IsWithin (sites_with leaves scripts plan number prelink classes)
sites_within (Some _) _ _ _ _ classes few = tt
sites_within None (Some _) _ _ _ classes few = tt
sites_within None None (Some _) _ _ classes few = tt
sites_within None None None (Some _) _ classes few = tt
sites_within None None None None (Some _) classes few = tt
sites_within None None None None None classes few = few

-- the number that a text writes, if it does
number_within : (text : Text) (b : Bool) → is_written most_digits text ≡ b → IsWithin (option_map (λ n. generate n) (number_of most_digits text))
number_within text true written = rw written (written_is_small most_digits text (omega arith) written)
number_within text false written = rw written tt

generated_within : (leaves scripts plan number prelink : Option Text) (classes : List Text) →
    IsWithin (generated_with leaves scripts plan number prelink classes)
generated_within (Some _) _ _ _ _ classes = tt
generated_within None (Some _) _ _ _ classes = tt
generated_within None None (Some _) _ _ classes = tt
generated_within None None None None _ classes = tt
generated_within None None None (Some number) (Some _) classes = tt
generated_within None None None (Some number) None [] = number_within number (is_written most_digits number) refl
generated_within None None None (Some number) None (class ∷ classes) = tt

mode_within : (mode : Text) (given : GivenOptions) → length given.classes ≤ most_class_files → IsWithin (of_mode mode given)
mode_within mode given few =
    either (bytes_eq mode (codes "run")) _ _ (run_within given.leaves given.scripts given.plan given.number given.prelink given.classes few)
    (either (bytes_eq mode (codes "sites")) _ _ (sites_within given.leaves given.scripts given.plan given.number given.prelink given.classes few)
    (either (bytes_eq mode (codes "gen")) _ _ (generated_within given.leaves given.scripts given.plan given.number given.prelink given.classes) tt))

any_mode_within : (mode : Option Text) (given : GivenOptions) → length given.classes ≤ most_class_files
    → IsWithin (option_and_then (λ name. of_mode name given) mode)
any_mode_within None given few = tt
any_mode_within (Some mode) given few = mode_within mode given few

asked_within : (given : GivenOptions) (b : Bool) → nat_le (length given.classes) most_class_files ≡ b → IsWithin (asked given)
asked_within given true few = rw few (any_mode_within given.mode given (grind arith))
asked_within given false few = rw few tt

-- what options and names of class files ask for
pub within : (given : GivenOptions) (command : Option Command) → command ≡ asked given → IfSome command IsCommandWithinLimits
within given command is = rw is (asked_within given _ refl)
