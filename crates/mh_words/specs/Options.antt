-- The options of the command line and the names of class files, as the kit's `clap` reads them.
use Rattle.std.specs.Prelude.{ℕ, true, List, [], ◌∷◌, ◌++◌, map, codes, Option, None, Some, if◌then◌else◌, option_map, unwrap_or}
use denote.Ref.{Bor}
use Rattle.clap.specs.Words.{App, Row, Rule, Text, all_of, fault_of, first_of, matches_of, new_rule}
use Rattle.clap.specs.Simple.{new_shape}
use Rattle.clap.specs.Walk.{is_empty}
use Rattle.clap.specs.declared.builder.action.ArgAction.TheVariants.{Append}
use Rattle.mh_words.specs.declared.options.Given.{Given as Held}

-- the words, as bytes
abbrev pub said : List (Bor (List ℕ)) → List Text
said words = map (λ word. word.now) words

-- an option `--NAME`, which takes one value and is given at most once
abbrev pub option_rule : Text → Rule
option_rule name = record (new_rule name) { long = Some name }

-- the names of class files, each a word of its own
abbrev pub class_rule : Rule
class_rule = record (new_rule (codes "class")) { action = Some Append }

-- the options by their names
abbrev pub option_names : List Text
option_names = codes "mode" ∷ codes "leaves" ∷ codes "scripts" ∷ codes "plan" ∷ codes "number" ∷ codes "prelink" ∷ []

-- the command line as `clap` gets it: options and names of class files; the program's name is not among the words
abbrev pub app : App
app = record {
  top = record (new_shape (codes "mh")) { no_binary_name = true; rules = map option_rule option_names ++ class_rule ∷ [] };
  subs = [];
}

-- what `clap` finds in the words; nothing if it refuses them or they ask for help
unfoldable pub found : List Text → Option (List Row)
found words = if is_empty (fault_of app words) then Some (matches_of app words) else None

-- what the words give: the value of each option, if it is there, and the names of class files in their order
pub record GivenOptions : Type 0 where
  pub mode : Option Text
  pub leaves : Option Text
  pub scripts : Option Text
  pub plan : Option Text
  pub number : Option Text
  pub prelink : Option Text
  pub classes : List Text

-- what the words give, by what `clap` found
abbrev pub given_by : List Row → GivenOptions
given_by rows = record {
  mode = first_of (codes "mode") rows;
  leaves = first_of (codes "leaves") rows;
  scripts = first_of (codes "scripts") rows;
  plan = first_of (codes "plan") rows;
  number = first_of (codes "number") rows;
  prelink = first_of (codes "prelink") rows;
  classes = unwrap_or (all_of (codes "class") rows) [];
}

-- a text behind a reference, if it is there
abbrev pub text : Option (Bor (List ℕ)) → Option Text
text = option_map (λ value. value.now)

-- what the words give, as a value of the program has it
abbrev pub values : Held → GivenOptions
values given = record {
  mode = text given.mode;
  leaves = text given.leaves;
  scripts = text given.scripts;
  plan = text given.plan;
  number = text given.number;
  prelink = text given.prelink;
  classes = said given.classes.items;
}
