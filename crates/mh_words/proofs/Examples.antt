-- What words of the command line ask for, by computation.
use Rattle.std.specs.Prelude.{◌≡◌, refl, ℕ, List, [], ◌∷◌, ◌++◌, codes, map, replicate, Option, None, Some}
use Rattle.mh_base.specs.Lines.{tokens_of}
use Rattle.clap.specs.Words.{Text}
use Rattle.clap.proofs.OnLiterals.{clap_on_literals}
use Rattle.mh_words.specs.Options.{found}
use Rattle.mh_words.specs.Words.{Command, command_of, generate, run, sites}

-- what is asked for by words with single spaces between them
abbrev asked_for : Text → Option Command
asked_for line = command_of (tokens_of line)

-- the run of three inputs and these class files
abbrev a_run : List Text → Option Command
a_run classes = Some (run (record { leaves = codes "l"; scripts = codes "s"; plan = codes "p"; classes = classes; workers = 0 }))

-- the same with workers
abbrev a_prelinked_run : ℕ → List Text → Option Command
a_prelinked_run workers classes =
    Some (run (record { leaves = codes "l"; scripts = codes "s"; plan = codes "p"; classes = classes; workers = workers }))

-- ---- words that are accepted

options_in_the_order_of_the_usage : asked_for (codes "--mode run --leaves l --scripts s --plan p") ≡ a_run []
unfolding found clap_on_literals
options_in_the_order_of_the_usage = refl

options_in_another_order : asked_for (codes "--plan p --scripts s --mode run --leaves l") ≡ a_run []
unfolding found clap_on_literals
options_in_another_order = refl

class_files_anywhere :
    asked_for (codes "A.class --plan=p B.class --scripts s --mode=run --leaves=l C.class")
    ≡ a_run (codes "A.class" ∷ codes "B.class" ∷ codes "C.class" ∷ [])
unfolding found clap_on_literals
class_files_anywhere = refl

-- after `--` a word is the name of a class file, whatever it looks like
words_after_two_dashes : asked_for (codes "--mode sites -- --mode -h -") ≡ Some (sites (codes "--mode" ∷ codes "-h" ∷ codes "-" ∷ []))
unfolding found clap_on_literals
words_after_two_dashes = refl

no_class_files : asked_for (codes "--mode sites") ≡ Some (sites [])
unfolding found clap_on_literals
no_class_files = refl

zeros_in_front : asked_for (codes "--number=000042 --mode gen") ≡ Some (generate 42)
unfolding found clap_on_literals
zeros_in_front = refl

workers :
    asked_for (codes "--mode run --leaves l --scripts s --plan p --prelink 16 A.class") ≡ a_prelinked_run 16 (codes "A.class" ∷ [])
unfolding found clap_on_literals
workers = refl

a_zero_in_front_of_workers : asked_for (codes "--prelink=01 --mode run --leaves l --scripts s --plan p") ≡ a_prelinked_run 1 []
unfolding found clap_on_literals
a_zero_in_front_of_workers = refl

-- a value that follows `=` is taken whole, whatever it is
names_of_any_bytes : (leaves scripts plan : Text)
    → command_of (codes "--mode=run" ∷ (codes "--leaves=" ++ leaves) ∷ (codes "--scripts=" ++ scripts) ∷ (codes "--plan=" ++ plan) ∷ [])
    ≡ Some (run (record { leaves = leaves; scripts = scripts; plan = plan; classes = []; workers = 0 }))
unfolding found clap_on_literals
names_of_any_bytes leaves scripts plan = refl

-- ---- words that are refused

no_words : command_of [] ≡ None
unfolding found clap_on_literals
no_words = refl

help : map asked_for (codes "--help" ∷ codes "-h" ∷ codes "--mode sites --help" ∷ []) ≡ replicate 3 None
unfolding found clap_on_literals
help = refl

no_such_option : map asked_for (codes "--mode sites --quick" ∷ codes "--mode sites -m" ∷ codes "--mod sites" ∷ []) ≡ replicate 3 None
unfolding found clap_on_literals
no_such_option = refl

no_such_mode : map asked_for (codes "--mode other" ∷ codes "--mode" ∷ codes "--mode=" ∷ codes "run" ∷ []) ≡ replicate 4 None
unfolding found clap_on_literals
no_such_mode = refl

options_of_another_mode :
    map asked_for (codes "--mode sites --number 1" ∷ codes "--mode run --leaves l --scripts s --plan p --number 1" ∷
    codes "--mode gen --number 1 --plan p" ∷ []) ≡ replicate 3 None
unfolding found clap_on_literals
options_of_another_mode = refl

options_that_are_missing :
    map asked_for (codes "--mode run --leaves l --scripts s" ∷ codes "--leaves l --scripts s --plan p" ∷ codes "--mode gen" ∷ []) ≡ replicate 3 None
unfolding found clap_on_literals
options_that_are_missing = refl

class_files_of_a_generated_run : map asked_for (codes "--mode gen --number 1 x" ∷ codes "--mode gen --number 1 -- x" ∷ []) ≡ replicate 2 None
unfolding found clap_on_literals
class_files_of_a_generated_run = refl

no_number :
    map asked_for (codes "--mode gen --number 1234567" ∷ codes "--mode gen --number 0000001" ∷ codes "--mode gen --number -1" ∷
    codes "--mode gen --number=-1" ∷ codes "--mode gen --number +1" ∷ codes "--mode gen --number 1x" ∷ codes "--mode gen --number=" ∷ [])
    ≡ replicate 7 None
unfolding found clap_on_literals
no_number = refl

-- one to sixteen workers, in one or two digits, for a run alone
no_number_of_workers :
    map (λ said. asked_for (codes "--mode run --leaves l --scripts s --plan p " ++ said))
    (codes "--prelink 0" ∷ codes "--prelink 00" ∷ codes "--prelink 17" ∷ codes "--prelink 016" ∷ codes "--prelink -1" ∷ codes "--prelink +1" ∷
    codes "--prelink x" ∷ codes "--prelink=" ∷ codes "--prelink 1 --prelink 1" ∷ []) ≡ replicate 9 None
unfolding found clap_on_literals
no_number_of_workers = refl

workers_of_another_mode : map asked_for (codes "--mode sites --prelink 1" ∷ codes "--mode gen --number 1 --prelink 1" ∷ []) ≡ replicate 2 None
unfolding found clap_on_literals
workers_of_another_mode = refl

-- a value in a word of its own does not begin with a dash, unless it is one
a_dash_in_front : map asked_for (codes "--mode run --leaves -l --scripts s --plan p" ∷ codes "--mode sites -A.class" ∷ []) ≡ replicate 2 None
unfolding found clap_on_literals
a_dash_in_front = refl

-- an option that is given again is refused, whatever its values are and whatever follows
an_option_again : (first second : Text) (rest : List Text)
    → command_of ((codes "--leaves=" ++ first) ∷ (codes "--leaves=" ++ second) ∷ rest) ≡ None
unfolding found clap_on_literals
an_option_again first second rest = refl

-- ---- how many class files

as_many_as_may_be : command_of (codes "--mode=sites" ∷ replicate 64 (codes "A.class")) ≡ Some (sites (replicate 64 (codes "A.class")))
unfolding found clap_on_literals
as_many_as_may_be = refl

one_more : command_of (codes "--mode=sites" ∷ replicate 65 (codes "A.class")) ≡ None
unfolding found clap_on_literals
one_more = refl
