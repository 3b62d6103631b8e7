-- The static arguments of a bootstrap method, some of which may be dynamic constants (JVMS SE 17, 4.4.10 and 5.4.3.6).
use Rattle.std.specs.Prelude.{◌≡◌, ℕ, ◌+◌, List, [], ◌∷◌, ◌++◌, length, slice_get, Option, None, Some, Ok, Err, option_to_list}
use Rattle.mh_leaf.specs.LeafTable.{LeafTable}
use Rattle.mh_classfile.specs.declared.constant.Constant.{Constant}
use Rattle.mh_classfile.specs.declared.constant.Constant.TheVariants as constant
use Rattle.mh_classfile.specs.Class as class_file
use Rattle.mh_jobs.specs.declared.job.Argument.{Argument}
use Rattle.mh_jobs.specs.declared.unresolved.Entry.{Entry}
use Rattle.mh_jobs.specs.declared.unresolved.Part.{Part}
use Rattle.mh_jobs.specs.declared.unresolved.Part.TheVariants as part
use Rattle.mh_jobs.specs.declared.unresolved.StaticArguments.{StaticArguments}
use Rattle.mh_jobs.specs.Job.{argument_of, constants_at}
use Rattle.mh_jobs.specs.Thrown.{OrThrown, ◌>>=◌}

-- the number in the run of a dynamic constant of a class, if the classes before have this many; another constant has none
abbrev pub named_constant : class_file.Class → ℕ → Constant → Option ℕ
named_constant class first (constant.Dynamic d) = Some (first + class_file.number_of class d.index)
named_constant class first _ = None

-- a dynamic constant by its number, or else what is known of an argument
abbrev pub constant_or : Option ℕ → OrThrown Argument → OrThrown Part
constant_or (Some number) known = Ok (part.Constant number)
constant_or None known = do
  a ← known
  Ok (part.Known a)

-- a static argument by its constant
abbrev pub part_of : LeafTable → class_file.Class → ℕ → Constant → OrThrown Part
part_of leaves class first c = constant_or (named_constant class first c) (argument_of leaves c)

-- a static argument before others; one that is refused ends them
abbrev pub with_part : OrThrown Part → StaticArguments → StaticArguments
with_part (Ok p) others = record { parts = p ∷ others.parts; thrown = others.thrown }
with_part (Err e) others = record { parts = []; thrown = Some e }

-- static arguments from left to right, up to the first that is refused, and what is thrown there
abbrev pub static_arguments : LeafTable → class_file.Class → ℕ → List Constant → StaticArguments
static_arguments leaves class first [] = record { parts = []; thrown = None }
static_arguments leaves class first (c ∷ constants) = with_part (part_of leaves class first c) (static_arguments leaves class first constants)

-- the dynamic constants among static arguments, also those after one that is refused
abbrev pub names_of : class_file.Class → ℕ → List Constant → List ℕ
names_of class first [] = []
names_of class first (c ∷ constants) = option_to_list (named_constant class first c) ++ names_of class first constants

-- what is read of the static arguments of a bootstrap method
abbrev pub entry_of : LeafTable → class_file.Class → ℕ → List Constant → Entry
entry_of leaves class first constants = record { arguments = static_arguments leaves class first constants; names = names_of class first constants }

-- the first entries are what is read of the bootstrap methods of these numbers
abbrev pub AreFirstRead : LeafTable → class_file.Class → ℕ → List Entry → Type 0
AreFirstRead leaves class first entries =
    (j : ℕ) (entry : Entry) → slice_get entries j ≡ Some entry → entry ≡ entry_of leaves class first (constants_at class j)

-- the entries are what is read of each bootstrap method, by its number
pub record AreRead (leaves : LeafTable) (class : class_file.Class) (first : ℕ) (entries : List Entry) : Type 0 where
  pub each : AreFirstRead leaves class first entries
  pub all : length entries ≡ length class.bootstraps
