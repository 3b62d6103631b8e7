-- What a reader of scripts answers.
use Rattle.std.specs.Prelude.{◌≡◌, List, Result, Ok, Err}
use Rattle.mh_base.specs.declared.lines.LineFault.{LineFault}
use Rattle.mh_script.specs.declared.kinds.ScriptError.{ScriptError}
use Rattle.mh_script.specs.declared.kinds.ScriptError.TheVariants.{NoMemory, Fault}
use Rattle.mh_script.specs.declared.kinds.ScriptKind.{ScriptKind}
use Rattle.mh_script.specs.declared.reading.Reading.{Reading}
use Rattle.mh_script.specs.declared.script.Script.{Script}

-- the value, or the first faulty line; about lack of memory nothing is said
abbrev pub TellsLines : {A : Type 0} → Result A ScriptError → Result A (LineFault ScriptKind) → Type 0
TellsLines (Ok got) meaning = meaning ≡ Ok got
TellsLines (Err NoMemory) meaning = Unit {0}
TellsLines (Err (Fault fault)) meaning = meaning ≡ Err fault

-- the same of what lines give
abbrev pub TellsReading : Result Reading ScriptError → Result Reading (LineFault ScriptKind) → Type 0
TellsReading result meaning = TellsLines result meaning

-- the same of scripts
abbrev pub TellsScripts : Result (List Script) ScriptError → Result (List Script) (LineFault ScriptKind) → Type 0
TellsScripts result meaning = TellsLines result meaning
