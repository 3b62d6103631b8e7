-- What the lines of a file of scripts mean.
use Rattle.std.specs.Prelude.{ℕ, ◌+◌, ◌==◌, Bool, true, false, not, ◌&&◌, ◌||◌, if◌then◌else◌, List, [], ◌∷◌, ◌++◌, codes, length, Option, None, Some, is_some, Result, Ok, Err}
use Rattle.std.specs.List.{list_all}
use Rattle.std.specs.Str.{bytes_eq}
use Rattle.mh_base.specs.Lines.{is_full, lines_of, tokens_of, is_passed, is_plain, after_line}
use Rattle.mh_base.specs.declared.lines.LineFault.{LineFault}
use Rattle.mh_values.specs.declared.class.Class.{Class}
use Rattle.mh_values.specs.Class.{builtin_classes}
use Rattle.mh_values.specs.Grammar.{descriptor_fault}
use Rattle.mh_base.specs.Provided.{provided}
use Rattle.mh_leaves.specs.Reference.{Texts, is_class_name, is_method_name}
use Rattle.mh_script.specs.declared.kinds.ScriptKind.{ScriptKind}
use Rattle.mh_script.specs.declared.kinds.ScriptKind.TheVariants.{BadLine, Twice, TooLong, BadDescriptor, NoReturn}
use Rattle.mh_script.specs.declared.line.Line.{Line}
use Rattle.mh_script.specs.declared.line.Line.TheVariants as line
use Rattle.mh_script.specs.declared.reading.Begun.{Begun}
use Rattle.mh_script.specs.declared.reading.Next.{Next}
use Rattle.mh_script.specs.declared.reading.Next.TheVariants as follows
use Rattle.mh_script.specs.declared.reading.Reading.{Reading}
use Rattle.mh_script.specs.declared.reading.Stage.{Stage}
use Rattle.mh_script.specs.declared.reading.Stage.TheVariants as stage
use Rattle.mh_script.specs.declared.script.Script.{Script}
use Rattle.mh_script.specs.declared.script.Step.{Step}
use Rattle.mh_script.specs.Faults.{bad_descriptor, body_fault}
use Rattle.mh_script.specs.Find.{script_named}
use Rattle.mh_script.specs.Kinds.{fault_unless, lower}
use Rattle.mh_script.specs.Lines.{said_then, method_name, line_of}

-- ---- what stands around a line

-- the next line that counts
abbrev pub following : List (List ℕ) → Next
following [] = follows.Nothing
following (text ∷ texts) = if is_passed text then following texts else (if bytes_eq text (codes "end") then follows.End else follows.Line)

-- a line that is to be the last of its script
abbrev pub is_ending : List (List ℕ) → Bool
is_ending [] = false
is_ending (word ∷ rest) = bytes_eq word (codes "return") || bytes_eq word (codes "raise") || bytes_eq word (codes "value")

-- the one token `end`
abbrev pub is_end_line : List (List ℕ) → Bool
is_end_line (word ∷ []) = bytes_eq word (codes "end")
is_end_line _ = false

-- A line within a script, after this many others. A script has at most 64 lines and `end`. The last of these lines, and no other, is one that ends it.
abbrev pub standing_fault : ℕ → Bool → Next → Option ScriptKind
standing_fault count ending follows.Nothing = Some BadLine
standing_fault count ending follows.End = lower (fault_unless (not (count == 64)) TooLong) (fault_unless ending NoReturn)
standing_fault count ending follows.Line = lower (fault_unless (not (count == 64)) TooLong) (fault_unless (not ending) NoReturn)

-- ---- lines within scripts

-- goes on if there is no fault
abbrev pub unless_fault : {A : Type 0} → Option ScriptKind → Result A ScriptKind → Result A ScriptKind
unless_fault None next = next
unless_fault (Some kind) next = Err kind

-- what a line says after these lines of its script
abbrev pub body_line : List Class → List Step → List (List ℕ) → Next → Result Line ScriptKind
body_line classes steps tokens next =
    unless_fault (lower (body_fault classes steps tokens) (standing_fault (length steps) (is_ending tokens) next)) (line_of classes tokens)

-- a line after those of its script: with its last line a script is whole
abbrev pub with_line : List Script → Begun → Line → Reading
with_line scripts begun (line.Step s) = record {
  scripts = scripts;
  stage = stage.Within (record { method = begun.method; steps = begun.steps ++ s ∷ [] });
}
with_line scripts begun (line.End e) = record {
  scripts = scripts ++ record { method = begun.method; steps = begun.steps; end = e } ∷ [];
  stage = stage.Ended;
}

-- a line within a script
abbrev pub within_line : List Class → List Script → Begun → List (List ℕ) → Next → Result Reading ScriptKind
within_line classes scripts begun tokens next =
    said_then (body_line classes begun.steps tokens next) (λ said. Ok (with_line scripts begun said))

-- ---- lines around scripts

-- a script that is begun
abbrev pub begun_by : Texts → Begun
begun_by texts = record { method = method_name texts; steps = [] }

-- whether a line follows that counts
abbrev pub goes_on : Next → Bool
goes_on follows.Nothing = false
goes_on _ = true

-- `script OWNER NAME DESC`
abbrev pub header_line : List Script → List ℕ → Texts → Next → Result Reading ScriptKind
header_line scripts word texts next =
    provided (bytes_eq word (codes "script") && is_class_name texts.owner && is_method_name texts.name && goes_on next) BadLine
    (provided (not (is_some (script_named scripts texts.owner texts.name texts.descriptor))) Twice
    (provided (not (is_some (bad_descriptor (descriptor_fault texts.descriptor)))) BadDescriptor
    (Ok (record { scripts = scripts; stage = stage.Within (begun_by texts) }))))

-- a line outside of scripts is a header
abbrev pub outside_line : List Script → List (List ℕ) → Next → Result Reading ScriptKind
outside_line scripts (word ∷ owner ∷ name ∷ descriptor ∷ []) next =
    header_line scripts word (record { owner = owner; name = name; descriptor = descriptor }) next
outside_line scripts _ next = Err BadLine

-- the last line of a script is followed by `end`
abbrev pub ended_line : List Script → List (List ℕ) → Result Reading ScriptKind
ended_line scripts tokens = provided (is_end_line tokens) BadLine (Ok (record { scripts = scripts; stage = stage.Outside }))

-- ---- lines

-- a line within a script, between scripts, or after a last line
abbrev pub staged_line : List Class → List Script → Stage → List (List ℕ) → Next → Result Reading ScriptKind
staged_line classes scripts stage.Outside tokens next = outside_line scripts tokens next
staged_line classes scripts (stage.Within begun) tokens next = within_line classes scripts begun tokens next
staged_line classes scripts stage.Ended tokens next = ended_line scripts tokens

-- a line that counts; no token is empty
abbrev pub counting_line : List Class → Reading → List (List ℕ) → Next → Result Reading ScriptKind
counting_line classes reading tokens next =
    provided (list_all is_full tokens) BadLine (staged_line classes reading.scripts reading.stage tokens next)

-- what is read after a line, before these others, or what is wrong with the line
abbrev pub line_meaning : List Class → List (List ℕ) → Reading → List ℕ → Result Reading ScriptKind
line_meaning classes rest reading text =
    provided (is_plain text) BadLine (if is_passed text then Ok reading else counting_line classes reading (tokens_of text) (following rest))

-- what lines, counted from a number, give after what was read, or the first that has no meaning there
abbrev pub scripts_from : List Class → ℕ → Reading → List (List ℕ) → Result Reading (LineFault ScriptKind)
scripts_from classes n reading [] = Ok reading
scripts_from classes n reading (text ∷ texts) =
    after_line n (line_meaning classes texts reading text) (λ next. scripts_from classes (n + 1) next texts)

-- ---- files

-- nothing was read
abbrev pub nothing_read : Reading
nothing_read = record { scripts = []; stage = stage.Outside }

-- the scripts of what was read
abbrev pub scripts_read : Result Reading (LineFault ScriptKind) → Result (List Script) (LineFault ScriptKind)
scripts_read (Ok reading) = Ok reading.scripts
scripts_read (Err fault) = Err fault

-- the scripts of a file, or its first faulty line; literals in scripts name no class, so the built-in classes are enough to read them
abbrev pub scripts : List ℕ → Result (List Script) (LineFault ScriptKind)
scripts bytes = scripts_read (scripts_from builtin_classes 1 nothing_read (lines_of bytes))
