-- What was read of scripts are lines each of which may stand after those before it.
use Rattle.std.proofs.Common.{◌≡◌, subst, ℕ, ◌+◌, Bool, true, false, not, ◌&&◌, if◌then◌else◌, List, [], ◌∷◌, length, codes, is_some, Result, Ok}
use Rattle.std.proofs.lemmas.Bool.{and_parts, and_from}
use Rattle.std.specs.List.{list_all}
use Rattle.std.specs.Str.{bytes_eq}
use Rattle.mh_base.specs.Lines.{is_full, is_plain, is_passed, tokens_of}
use Rattle.mh_base.specs.Provided.{provided}
use Rattle.mh_base.proofs.Conditions.{after_line-parts, provided-parts}
use Rattle.mh_base.proofs.Inversion.{ok_is}
use Rattle.mh_base.proofs.Tests.{same_text}
use Rattle.mh_values.specs.declared.class.Class.{Class}
use Rattle.mh_values.specs.Grammar.{descriptor_fault}
use Rattle.mh_leaves.specs.Reference.{Texts, is_class_name, is_method_name}
use Rattle.mh_script.specs.declared.kinds.ScriptKind.{ScriptKind}
use Rattle.mh_script.specs.declared.kinds.ScriptKind.TheVariants.{BadDescriptor, BadLine, Twice}
use Rattle.mh_script.specs.declared.line.Line.{Line}
use Rattle.mh_script.specs.declared.line.Line.TheVariants as line
use Rattle.mh_script.specs.declared.reading.Begun.{Begun}
use Rattle.mh_script.specs.declared.reading.Next.{Next}
use Rattle.mh_script.specs.declared.reading.Reading.{Reading}
use Rattle.mh_script.specs.declared.reading.Stage.{Stage}
use Rattle.mh_script.specs.declared.reading.Stage.TheVariants as stage
use Rattle.mh_script.specs.declared.script.Script.{Script}
use Rattle.mh_script.specs.Faults.{bad_descriptor, body_fault}
use Rattle.mh_script.specs.Find.{script_named}
use Rattle.mh_script.specs.Kinds.{lower}
use Rattle.mh_script.specs.Lines.{line_of}
use Rattle.mh_script.specs.Scripts.{begun_by, body_line, counting_line, following, goes_on, header_line, is_end_line, is_ending, line_meaning, nothing_read, scripts_from, staged_line, standing_fault, with_line, within_line}
use Rattle.mh_script.proofs.Divisors.{said-parts}
use Rattle.mh_script.proofs.FaultlessOperations.{lower-none}
use Rattle.mh_base.proofs.LineTokens.{IsFullToken, AreFullTokens, tokens_are, none_empty}
use Rattle.mh_script.proofs.Runnable.{faultless, has_room}
use Rattle.mh_script.proofs.WrittenLines.{line-again}
use Rattle.mh_script.proofs.FollowingLines.{MayFollow, AreSteps, IsHeader, AreScripts, steps-more, scripts-more}

-- ---- what was read

-- the lines so far of a script that is begun
abbrev AreLinesSoFar : List Class → List Script → Stage → Type 0
AreLinesSoFar classes scripts (stage.Within begun) = IsHeader scripts begun.method × AreSteps classes [] begun.steps
AreLinesSoFar classes scripts at = Unit {0}

-- the scripts of what was read may stand in their order, and so may the lines so far
record IsRead (classes : List Class) (reading : Reading) : Type 0 where
  scripts : AreScripts classes [] reading.scripts
  lines : AreLinesSoFar classes reading.scripts reading.stage

read_by : (classes : List Class) (a b : Reading) → IsRead classes a → ◌≡◌ {A = Result Reading ScriptKind} (Ok a) (Ok b) → IsRead classes b
read_by classes a b is h = subst (IsRead classes) (ok_is a b h) is

-- ---- a line more

with-read : (classes : List Class) (scripts : List Script) (begun : Begun) (l : Line) →
    IsRead classes (record { scripts = scripts; stage = stage.Within begun }) → MayFollow classes begun.steps l → IsRead classes (with_line scripts begun l)
with-read classes scripts begun (line.Step s) is may =
    record { scripts = is.scripts; lines = (is.lines.0, steps-more classes [] begun.steps s is.lines.1 may) }
with-read classes scripts begun (line.End e) is may = record {
  scripts = scripts-more classes [] scripts (record { method = begun.method; steps = begun.steps; end = e }) is.scripts
      (record { header = is.lines.0; steps = is.lines.1; last = may });
  lines = tt;
}

within-read : (classes : List Class) (scripts : List Script) (begun : Begun) (tokens : List (List ℕ)) (next : Next) (reading : Reading) →
    IsRead classes (record { scripts = scripts; stage = stage.Within begun }) → AreFullTokens tokens →
    within_line classes scripts begun tokens next ≡ Ok reading → IsRead classes reading
within-read classes scripts begun tokens next reading is are h =
    let said = said-parts (body_line classes begun.steps tokens next) (λ l. Ok (with_line scripts begun l)) reading h in
    let fault = body_fault classes begun.steps tokens in
    let standing = standing_fault (length begun.steps) (is_ending tokens) next in
    let found = faultless (lower fault standing) (line_of classes tokens) said.0 said.1 in
    let none = lower-none fault standing found.0 in
    read_by classes (with_line scripts begun said.0) reading (with-read classes scripts begun said.0 is (record {
      stands = line-again classes begun.steps tokens said.0 are none.0 found.1;
      room = has_room (length begun.steps) (is_ending tokens) next none.1;
    })) said.2

header-read : (classes : List Class) (scripts : List Script) (word : List ℕ) (texts : Texts) (next : Next) (reading : Reading) →
    AreScripts classes [] scripts → AreFullTokens (word ∷ texts.owner ∷ texts.name ∷ texts.descriptor ∷ []) →
    header_line scripts word texts next ≡ Ok reading → IsRead classes reading
header-read classes scripts word texts next reading are tokens h =
    let begun : Reading = record { scripts = scripts; stage = stage.Within (begun_by texts) } in
    let readable = not (is_some (bad_descriptor (descriptor_fault texts.descriptor))) in
    let new = not (is_some (script_named scripts texts.owner texts.name texts.descriptor)) in
    let first = bytes_eq word (codes "script") && is_class_name texts.owner in
    let last : Result Reading ScriptKind = Ok begun in
    let named = provided-parts (first && is_method_name texts.name && goes_on next) BadLine (provided new Twice (provided readable BadDescriptor last))
    reading h in
    let once = provided-parts new Twice (provided readable BadDescriptor last) reading named.1 in
    let read = provided-parts readable BadDescriptor last reading once.1 in
    let front = and_parts first (is_method_name texts.name) (and_parts (first && is_method_name texts.name) (goes_on next) named.0).0 in
    let owner = and_parts (bytes_eq word (codes "script")) (is_class_name texts.owner) front.0 in
    read_by classes begun reading (record {
      scripts = are;
      lines = (
        record {
          names = and_from (is_class_name texts.owner) (is_method_name texts.name) owner.1 front.1;
          new = once.0;
          readable = read.0;
          tokens = (subst IsFullToken (same_text word (codes "script") owner.0) tokens.0, tokens.1);
        },
        tt,
      );
    }) read.1

staged-read : (classes : List Class) (scripts : List Script) (at : Stage) (tokens : List (List ℕ)) (next : Next) (reading : Reading) →
    IsRead classes (record { scripts = scripts; stage = at }) → AreFullTokens tokens → staged_line classes scripts at tokens next ≡ Ok reading →
    IsRead classes reading
staged-read classes scripts stage.Outside (word ∷ owner ∷ name ∷ descriptor ∷ []) next reading is are h =
    header-read classes scripts word (record { owner = owner; name = name; descriptor = descriptor }) next reading is.scripts are h
staged-read classes scripts stage.Outside _ next reading is are h = absurd cc
staged-read classes scripts (stage.Within begun) tokens next reading is are h = within-read classes scripts begun tokens next reading is are h
staged-read classes scripts stage.Ended tokens next reading is are h =
    let outside : Reading = record { scripts = scripts; stage = stage.Outside } in
    read_by classes outside reading (record { scripts = is.scripts; lines = tt }) (provided-parts (is_end_line tokens) BadLine (Ok outside) reading h).1

line-read : (classes : List Class) (rest : List (List ℕ)) (reading next : Reading) (text : List ℕ) → IsRead classes reading →
    line_meaning classes rest reading text ≡ Ok next → IsRead classes next
line-read classes rest reading next text is h = cases (is_passed text) plain.1
  where
    plain : (is_plain text ≡ true) × ((if is_passed text then Ok reading else counting_line classes reading (tokens_of text) (following rest)) ≡ Ok next)
    plain = provided-parts (is_plain text) BadLine _ next h

    cases : (b : Bool) → (if b then Ok reading else counting_line classes reading (tokens_of text) (following rest)) ≡ Ok next → IsRead classes next
    cases true k = read_by classes reading next is k
    cases false k =
        let full = provided-parts (list_all is_full (tokens_of text)) BadLine _ next k in
        let are = none_empty (tokens_of text) (tokens_are text plain.0) full.0 in
        staged-read classes reading.scripts reading.stage (tokens_of text) (following rest) next is are full.1

-- ---- all lines

lines-read : (classes : List Class) (n : ℕ) (reading last : Reading) (texts : List (List ℕ)) → IsRead classes reading →
    scripts_from classes n reading texts ≡ Ok last → IsRead classes last
lines-read classes n reading last [] is h = let same : reading ≡ last = cc in subst (IsRead classes) same is
lines-read classes n reading last (text ∷ texts) is h =
    let next = after_line-parts n (line_meaning classes texts reading text) (λ r. scripts_from classes (n + 1) r texts) last h in
    lines-read classes (n + 1) next.0 last texts (line-read classes texts reading next.0 text is next.1) next.2

-- the scripts of a whole file
pub all-read : (classes : List Class) (last : Reading) (texts : List (List ℕ)) → scripts_from classes 1 nothing_read texts ≡ Ok last →
    AreScripts classes [] last.scripts
all-read classes last texts h = (lines-read classes 1 nothing_read last texts (record { scripts = tt; lines = tt }) h).scripts
