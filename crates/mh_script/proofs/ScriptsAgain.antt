-- The text of scripts that were read is read as them again.
use Rattle.std.proofs.Common.{◌≡◌, refl, sym, ap, ap₂, ◌∙◌, ℕ, ◌+◌, true, not, ◌&&◌, List, [], ◌∷◌, ◌++◌, codes, flat_map, append_assoc, append-nil, is_some, Result, Ok, Err, IfOk}
use Rattle.std.proofs.lemmas.Bool.{and_parts}
use Rattle.mh_base.specs.declared.lines.LineFault.{LineFault}
use Rattle.mh_base.specs.Lines.{line_text, lines_of}
use Rattle.mh_base.specs.Provided.{provided}
use Rattle.mh_values.specs.declared.class.Class.{Class}
use Rattle.mh_values.specs.Class.{builtin_classes}
use Rattle.mh_values.specs.Grammar.{descriptor_fault}
use Rattle.mh_leaves.specs.Reference.{is_class_name, is_method_name}
use Rattle.mh_script.specs.declared.kinds.ScriptError.{ScriptError}
use Rattle.mh_script.specs.declared.kinds.ScriptKind.{ScriptKind}
use Rattle.mh_script.specs.declared.kinds.ScriptKind.TheVariants.{BadDescriptor, BadLine, Twice}
use Rattle.mh_script.specs.declared.line.Line.TheVariants as line
use Rattle.mh_script.specs.declared.reading.Next.TheVariants as follows
use Rattle.mh_script.specs.declared.reading.Reading.{Reading}
use Rattle.mh_script.specs.declared.reading.Stage.TheVariants as stage
use Rattle.mh_script.specs.declared.script.MethodName.{MethodName}
use Rattle.mh_script.specs.declared.script.Script.{Script}
use Rattle.mh_script.specs.declared.script.Step.{Step}
use Rattle.mh_script.specs.Faults.{bad_descriptor}
use Rattle.mh_script.specs.Find.{script_named}
use Rattle.mh_script.specs.Scripts.{following, header_line, nothing_read, scripts, scripts_from, scripts_read}
use Rattle.mh_script.specs.Told.{TellsScripts}
use Rattle.mh_script.specs.Written.{header_tokens, step_tokens, end_tokens, steps_text, script_text, scripts_text}
use Rattle.mh_base.proofs.LineTokens.{IsFullToken, first_line}
use Rattle.mh_script.proofs.LinesAgain.{text_again, follows_line, counted, no_end, step-again, end-again}
use Rattle.mh_script.proofs.FollowingLines.{AreSteps, IsHeader, IsNext, AreScripts}
use Rattle.mh_script.proofs.ReadScripts.{all-read}

-- ---- the steps of a script

-- a script that is begun, after these
abbrev within : List Script → MethodName → List Step → Reading
within all method steps = record { scripts = all; stage = stage.Within (record { method = method; steps = steps }) }

-- a line follows that is no `end`
steps_follow : (classes : List Class) (before rest : List Step) (text : List ℕ) → AreSteps classes before rest → following (lines_of text) ≡ follows.Line →
    following (lines_of (steps_text classes rest ++ text)) ≡ follows.Line
steps_follow classes before [] text are next = next
steps_follow classes before (s ∷ rest) text are next =
    ap (λ t. following (lines_of t)) (append_assoc (line_text (step_tokens classes s)) (steps_text classes rest) text)
    ∙ follows_line (step_tokens classes s) (steps_text classes rest ++ text) are.0.stands.tokens (counted classes (line.Step s))
    (no_end classes (line.Step s))

steps_again : (classes : List Class) (n : ℕ) (all : List Script) (method : MethodName) (before rest : List Step) (text : List ℕ) →
    AreSteps classes before rest → following (lines_of text) ≡ follows.Line →
    (m : ℕ) × (scripts_from classes n (within all method before) (lines_of (steps_text classes rest ++ text))
    ≡ scripts_from classes m (within all method (before ++ rest)) (lines_of text))
steps_again classes n all method before [] text are next =
    (n, ap (λ steps. scripts_from classes n (within all method steps) (lines_of text)) (sym (append-nil before)))
steps_again classes n all method before (s ∷ rest) text are next =
    let more = steps_again classes (n + 1) all method (before ++ s ∷ []) rest text are.1 next in (
      more.0,
      ap (λ t. scripts_from classes n (within all method before) (lines_of t)) (append_assoc (line_text (step_tokens classes s)) (steps_text classes rest) text)
          ∙ text_again classes n (within all method before) (within all method (before ++ s ∷ [])) (step_tokens classes s) (steps_text classes rest ++ text)
          follows.Line are.0.stands.tokens (counted classes (line.Step s)) (steps_follow classes (before ++ s ∷ []) rest text are.1 next)
          (step-again classes all (record { method = method; steps = before }) s are.0)
          ∙ more.1
          ∙ ap (λ steps. scripts_from classes more.0 (within all method steps) (lines_of text)) (append_assoc before (s ∷ []) rest),
    )

-- ---- a script

header-again : (all : List Script) (method : MethodName) → IsHeader all method →
    header_line all (codes "script") (record { owner = method.owner; name = method.name; descriptor = method.descriptor }) follows.Line
    ≡ Ok (within all method [])
header-again all method is =
    let begun : Result Reading ScriptKind = Ok (within all method []) in
    let readable = not (is_some (bad_descriptor (descriptor_fault method.descriptor))) in
    let new = not (is_some (script_named all method.owner method.name method.descriptor)) in
    let names = and_parts (is_class_name method.owner) (is_method_name method.name) is.names in
    ap₂ (λ a b. provided (a && b && true) BadLine (provided new Twice (provided readable BadDescriptor begun))) names.0 names.1
    ∙ ap (λ b. provided b Twice (provided readable BadDescriptor begun)) is.new
    ∙ ap (λ b. provided b BadDescriptor begun) is.readable

end_token : IsFullToken (codes "end")
end_token = record { token = record { plain = refl; one = (refl, (refl, (refl, tt))) }; full = refl }

in_parts : (a b c d e : List ℕ) → a ++ b ++ c ++ d ++ e ≡ a ++ (b ++ (c ++ (d ++ e)))
in_parts a b c d e = append_assoc (a ++ b ++ c) d e ∙ append_assoc (a ++ b) c (d ++ e) ∙ append_assoc a b (c ++ (d ++ e))

script_again : (classes : List Class) (n : ℕ) (all : List Script) (script : Script) (text : List ℕ) → IsNext classes all script →
    (m : ℕ) × (scripts_from classes n (record { scripts = all; stage = stage.Outside }) (lines_of (script_text classes script ++ text))
    ≡ scripts_from classes m (record { scripts = all ++ script ∷ []; stage = stage.Outside }) (lines_of text))
script_again classes n all script text is =
    let outside : Reading = record { scripts = all; stage = stage.Outside } in
    let ended : Reading = record { scripts = all ++ script ∷ []; stage = stage.Ended } in
    let after : Reading = record { scripts = all ++ script ∷ []; stage = stage.Outside } in
    let header = header_tokens script.method in
    let last = end_tokens classes script.end in
    let closing = line_text (codes "end" ∷ []) ++ text in
    let ending = line_text last ++ closing in
    let stands = is.last.stands in
    let closes : following (lines_of closing) ≡ follows.End = ap following (first_line (codes "end") [] text (end_token.token, tt)) in
    let ends : following (lines_of ending) ≡ follows.Line =
    follows_line last closing stands.tokens (counted classes (line.End script.end)) (no_end classes (line.End script.end)) in
    let steps = steps_again classes (n + 1) all script.method [] script.steps ending is.steps ends in (
      steps.0 + 1 + 1,
      ap (λ t. scripts_from classes n outside (lines_of t))
          (in_parts (line_text header) (steps_text classes script.steps) (line_text last) (line_text (codes "end" ∷ [])) text)
          ∙ text_again classes n outside (within all script.method []) header (steps_text classes script.steps ++ ending) follows.Line is.header.tokens refl
          (steps_follow classes [] script.steps ending is.steps ends) (header-again all script.method is.header)
          ∙ steps.1
          ∙ text_again classes steps.0 (within all script.method script.steps) ended last closing follows.End stands.tokens
          (counted classes (line.End script.end)) closes (end-again classes all script is.last)
          ∙ text_again classes (steps.0 + 1) ended after (codes "end" ∷ []) text (following (lines_of text)) (end_token, tt) refl refl refl,
    )

-- ---- all scripts

written_again : (classes : List Class) (n : ℕ) (before rest : List Script) → AreScripts classes before rest →
    scripts_read (scripts_from classes n (record { scripts = before; stage = stage.Outside }) (lines_of (flat_map (script_text classes) rest)))
    ≡ Ok (before ++ rest)
written_again classes n before [] are = ap Ok (sym (append-nil before))
written_again classes n before (script ∷ rest) are =
    let next = script_again classes n before script (flat_map (script_text classes) rest) are.0 in
    ap scripts_read next.1
    ∙ written_again classes next.0 (before ++ script ∷ []) rest are.1
    ∙ ap Ok (append_assoc before (script ∷ []) rest)

read_parts : (r : Result Reading (LineFault ScriptKind)) (all : List Script) → scripts_read r ≡ Ok all → (last : Reading) × (r ≡ Ok last) × (last.scripts ≡ all)
read_parts (Ok reading) all h = (reading, refl, cc)
read_parts (Err fault) all h = absurd cc

-- what is written of scripts that were read
pub scripts-again : (bytes : List ℕ) (all : List Script) → scripts bytes ≡ Ok all → scripts (scripts_text all) ≡ Ok all
scripts-again bytes all h =
    let read = read_parts (scripts_from builtin_classes 1 nothing_read (lines_of bytes)) all h in
    let are = all-read builtin_classes read.0 (lines_of bytes) read.1 in
    ap (λ ss. scripts (scripts_text ss)) (sym read.2) ∙ written_again builtin_classes 1 [] read.0.scripts are ∙ ap Ok read.2

-- the same of an answer that tells it
pub told_again : (bytes : List ℕ) (r : Result (List Script) ScriptError) → TellsScripts r (scripts bytes) →
    IfOk r (λ all. scripts (scripts_text all) ≡ Ok all)
told_again bytes (Ok all) h = scripts-again bytes all h
told_again bytes (Err error) h = tt
