-- Any names of class files are listed as they are, where they follow `--` and are not too many.
use Rattle.std.specs.Prelude.{◌≡◌, refl, false, true, List, [], ◌∷◌, ◌++◌, codes, fold, length, nat_le, if◌then◌else◌}
use Rattle.std.specs.Prelude.{is_some, option_and_then, Option, None, Some}
use Rattle.std.proofs.Common.{◌∙◌, ap, ap₂, append_assoc}
use Rattle.clap.specs.Words.{Kinds, Row, Text, built, fault_of, matches_of}
use Rattle.clap.specs.Walk.{Walk, finished, positional, settled, walked}
use Rattle.clap.specs.Faults.{check_fault, defaults_fault, entered_fault, settle_fault, walk_fault}
use Rattle.clap.specs.Kinds.{or_else}
use Rattle.clap.specs.Simple.{Shape, entered}
use Rattle.clap.specs.declared.builder.value_parser.Reading.TheVariants as reading
use Rattle.clap.specs.declared.parser.matches.ValueSource.TheVariants.{CommandLine}
use Rattle.clap.proofs.OnLiterals.{clap_on_literals}
use Rattle.mh_words.specs.Options.{app, found, given_by}
use Rattle.mh_words.specs.Words.{Command, asked, command_of, most_class_files, sites}

-- what is found for one argument
abbrev row : Text → List Text → Row
row name values = record { id = name; values = values; count = None; source = Some CommandLine; reading = reading.AsWritten }

-- what is found once these names were read
abbrev rows : List Text → List Row
rows [] = row (codes "mode") (codes "sites" ∷ []) ∷ []
rows (name ∷ names) = row (codes "mode") (codes "sites" ∷ []) ∷ row (codes "class") (name ∷ names) ∷ []

-- the walk after `--`, some names and one more
abbrev after : List Text → Text → Walk
after names name = record {
  held = record { rows = rows names; pending = Some (codes "class", name ∷ []); skip = 0 };
  waiting = positional;
  position = 1;
  is_trailing = true;
  stopped = None;
}

-- the command line as it is built
abbrev shape : Shape
shape = (built app).top

-- ---- the walk over the names

next : (names : List Text) (name more : Text) → walked shape.rules [] (after names name) more ≡ after (names ++ name ∷ []) more
unfolding clap_on_literals
next [] name more = refl
next (first ∷ names) name more = refl

-- it ends after all names: some, and the last
record Ends (names : List Text) (name : Text) (more : List Text) : Type 0 where
  front : List Text
  last : Text
  walk : fold (walked shape.rules []) (after names name) more ≡ after front last
  all : front ++ last ∷ [] ≡ names ++ name ∷ more

ends : (names : List Text) (name : Text) (more : List Text) → Ends names name more
ends names name [] = record { front = names; last = name; walk = refl; all = refl }
ends names name (next_name ∷ more) =
    let rest = ends (names ++ name ∷ []) next_name more in
    record {
      front = rest.front;
      last = rest.last;
      walk = ap (λ w. fold (walked shape.rules []) w more) (next names name next_name) ∙ rest.walk;
      all = rest.all ∙ append_assoc names (name ∷ []) (next_name ∷ more);
    }

no_fault : (names : List Text) (name : Text) (more : List Text) → walk_fault shape [] (after names name) more ≡ []
unfolding clap_on_literals
no_fault names name [] = refl
no_fault names name (next_name ∷ more) =
    ap (λ w. walk_fault shape [] w more) (next names name next_name) ∙ no_fault (names ++ name ∷ []) next_name more

-- ---- what stands after the walk

-- the faults of a walk that ends so
abbrev faults_by : Kinds → Walk → Kinds
faults_by on_the_way end =
    or_else on_the_way (or_else (entered_fault (built app) end.stopped)
    (or_else (settle_fault shape.rules false end.held)
    (or_else (defaults_fault (settled shape.rules end.held).rows shape.rules)
    (check_fault shape (finished shape.rules end.held) (is_some (entered (built app) end.stopped))))))

faults_are : (name : Text) (more : List Text)
    → fault_of app (codes "--mode=sites" ∷ codes "--" ∷ name ∷ more)
    ≡ faults_by (walk_fault shape [] (after [] name) more) (fold (walked shape.rules []) (after [] name) more)
unfolding clap_on_literals
faults_are name more = refl

matches_are : (name : Text) (more : List Text)
    → matches_of app (codes "--mode=sites" ∷ codes "--" ∷ name ∷ more)
    ≡ finished shape.rules (fold (walked shape.rules []) (after [] name) more).held
unfolding clap_on_literals
matches_are name more = refl

none_at_the_end : (names : List Text) (name : Text) → faults_by [] (after names name) ≡ []
unfolding clap_on_literals
none_at_the_end [] name = refl
none_at_the_end (first ∷ names) name = refl

finished_rows : (names : List Text) (name : Text) → finished shape.rules (after names name).held ≡ rows (names ++ name ∷ [])
unfolding clap_on_literals
finished_rows [] name = refl
finished_rows (first ∷ names) name = refl

-- ---- what the words ask for

-- a listing of names that are not too many
abbrev listing : List Text → Option Command
listing names = if nat_le (length names) most_class_files then Some (sites names) else None

-- the same by what is found
asked_by_rows : (name : Text) (more : List Text) → asked (given_by (rows (name ∷ more))) ≡ listing (name ∷ more)
asked_by_rows name more = refl

found_all : (name : Text) (more : List Text) → found (codes "--mode=sites" ∷ codes "--" ∷ name ∷ more) ≡ Some (rows (name ∷ more))
unfolding found
found_all name more =
    let end = ends [] name more in
    let faultless : fault_of app (codes "--mode=sites" ∷ codes "--" ∷ name ∷ more) ≡ [] =
    faults_are name more ∙ ap₂ faults_by (no_fault [] name more) end.walk ∙ none_at_the_end end.front end.last in
    let matches : matches_of app (codes "--mode=sites" ∷ codes "--" ∷ name ∷ more) ≡ rows (name ∷ more) =
    matches_are name more ∙ ap (λ w. finished shape.rules w.held) end.walk ∙ finished_rows end.front end.last ∙ ap rows end.all in
    rw (faultless, matches) refl

-- whatever the names are
names_are_listed : (names : List Text) → command_of (codes "--mode=sites" ∷ codes "--" ∷ names) ≡ listing names
unfolding found clap_on_literals
names_are_listed [] = refl
names_are_listed (name ∷ more) = ap (option_and_then (λ r. asked (given_by r))) (found_all name more)
