-- The lines of scripts that were read, as they are written, are read as them again.
use Rattle.std.proofs.Common.{◌≡◌, refl, ap, ◌∙◌, ℕ, ◌+◌, ◌==◌, true, false, not, if◌then◌else◌, List, [], ◌∷◌, ◌++◌, codes, length, None, Result, Ok}
use Rattle.std.specs.List.{join_with_byte}
use Rattle.std.specs.Str.{bytes_eq}
use Rattle.mh_base.specs.Ascii.{space}
use Rattle.mh_base.specs.Lines.{is_passed, line_text, lines_of, tokens_of, after_line}
use Rattle.mh_base.specs.Provided.{provided}
use Rattle.mh_values.specs.declared.class.Class.{Class}
use Rattle.mh_script.specs.declared.kinds.ScriptKind.{ScriptKind}
use Rattle.mh_script.specs.declared.kinds.ScriptKind.TheVariants.{BadLine, NoReturn, TooLong}
use Rattle.mh_script.specs.declared.line.Line.{Line}
use Rattle.mh_script.specs.declared.line.Line.TheVariants as line
use Rattle.mh_script.specs.declared.reading.Begun.{Begun}
use Rattle.mh_script.specs.declared.reading.Next.{Next}
use Rattle.mh_script.specs.declared.reading.Next.TheVariants as follows
use Rattle.mh_script.specs.declared.reading.Reading.{Reading}
use Rattle.mh_script.specs.declared.reading.Stage.TheVariants as stage
use Rattle.mh_script.specs.declared.script.End.{End}
use Rattle.mh_script.specs.declared.script.End.TheVariants as end
use Rattle.mh_script.specs.declared.script.Script.{Script}
use Rattle.mh_script.specs.declared.script.Step.{Step}
use Rattle.mh_script.specs.declared.script.Step.TheVariants as step
use Rattle.mh_script.specs.Faults.{body_fault}
use Rattle.mh_script.specs.Kinds.{fault_unless}
use Rattle.mh_script.specs.Lines.{said_then, line_of}
use Rattle.mh_script.specs.Scripts.{counting_line, following, is_ending, line_meaning, scripts_from, staged_line, standing_fault, unless_fault, with_line, within_line}
use Rattle.mh_script.specs.Written.{step_tokens, end_tokens}
use Rattle.mh_base.proofs.LineTokens.{AreFullTokens, as_tokens, tokens_full, tokens_joined, plain_joined, first_line}
use Rattle.mh_script.proofs.FollowingLines.{MayFollow}
use Rattle.mh_script.proofs.StandingLines.{StandsAfter, line_tokens}
use Rattle.mh_script.proofs.OperationsAgain.{lower-of_none}

-- ---- a line of tokens

-- a line of these tokens is one that counts
abbrev pub IsCounted : List (List ℕ) → Type 0
IsCounted tokens = is_passed (join_with_byte space tokens) ≡ false

-- and is not `end`
abbrev pub IsNoEnd : List (List ℕ) → Type 0
IsNoEnd tokens = bytes_eq (join_with_byte space tokens) (codes "end") ≡ false

line_again : (classes : List Class) (rest : List (List ℕ)) (reading : Reading) (word : List ℕ) (more : List (List ℕ)) → AreFullTokens (word ∷ more) →
    IsCounted (word ∷ more) → line_meaning classes rest reading (join_with_byte space (word ∷ more))
    ≡ staged_line classes reading.scripts reading.stage (word ∷ more) (following rest)
line_again classes rest reading word more are counted =
    let text = join_with_byte space (word ∷ more) in
    let next = following rest in
    let tokens = as_tokens (word ∷ more) are in
    ap (λ b. provided b BadLine (if is_passed text then Ok reading else counting_line classes reading (tokens_of text) next)) (plain_joined word more tokens)
    ∙ ap (λ b. if b then Ok reading else counting_line classes reading (tokens_of text) next) counted
    ∙ ap (λ ts. counting_line classes reading ts next) (tokens_joined word more tokens)
    ∙ ap (λ b. provided b BadLine (staged_line classes reading.scripts reading.stage (word ∷ more) next)) (tokens_full (word ∷ more) are)

-- a text that begins with a line of tokens is read on after it
pub text_again : (classes : List Class) (n : ℕ) (reading after : Reading) (tokens : List (List ℕ)) (text : List ℕ) (next : Next) → AreFullTokens tokens →
    IsCounted tokens → following (lines_of text) ≡ next → staged_line classes reading.scripts reading.stage tokens next ≡ Ok after →
    scripts_from classes n reading (lines_of (line_text tokens ++ text)) ≡ scripts_from classes (n + 1) after (lines_of text)
text_again classes n reading after [] text next are counted follow is = absurd cc
text_again classes n reading after (word ∷ more) text next are counted follow is =
    ap (scripts_from classes n reading) (first_line word more text (as_tokens (word ∷ more) are))
    ∙ ap (λ r. after_line n r (λ s. scripts_from classes (n + 1) s (lines_of text)))
    (line_again classes (lines_of text) reading word more are counted
    ∙ ap (staged_line classes reading.scripts reading.stage (word ∷ more)) follow ∙ is)

-- such a line is what follows where the text stands
pub follows_line : (tokens : List (List ℕ)) (text : List ℕ) → AreFullTokens tokens → IsCounted tokens → IsNoEnd tokens →
    following (lines_of (line_text tokens ++ text)) ≡ follows.Line
follows_line [] text are counted no_end = absurd cc
follows_line (word ∷ more) text are counted no_end =
    let line = join_with_byte space (word ∷ more) in
    ap following (first_line word more text (as_tokens (word ∷ more) are))
    ∙ ap (λ b. if b then following (lines_of text) else (if bytes_eq line (codes "end") then follows.End else follows.Line)) counted
    ∙ ap (λ b. if b then follows.End else follows.Line) no_end

-- ---- the lines of scripts

pub counted : (classes : List Class) (l : Line) → IsCounted (line_tokens classes l)
counted classes (line.Step (step.Let target op)) = refl
counted classes (line.Step (step.Serial target)) = refl
counted classes (line.Step (step.FailMod modulus remainder)) = refl
counted classes (line.End (end.Return h)) = refl
counted classes (line.End (end.Raise class message)) = refl
counted classes (line.End (end.Value v)) = refl

pub no_end : (classes : List Class) (l : Line) → IsNoEnd (line_tokens classes l)
no_end classes (line.Step (step.Let target op)) = refl
no_end classes (line.Step (step.Serial target)) = refl
no_end classes (line.Step (step.FailMod modulus remainder)) = refl
no_end classes (line.End (end.Return h)) = refl
no_end classes (line.End (end.Raise class message)) = refl
no_end classes (line.End (end.Value v)) = refl

no_ending : (classes : List Class) (s : Step) → is_ending (step_tokens classes s) ≡ false
no_ending classes (step.Let target op) = refl
no_ending classes (step.Serial target) = refl
no_ending classes (step.FailMod modulus remainder) = refl

ending : (classes : List Class) (e : End) → is_ending (end_tokens classes e) ≡ true
ending classes (end.Return h) = refl
ending classes (end.Raise class message) = refl
ending classes (end.Value v) = refl

within-again : (classes : List Class) (all : List Script) (begun : Begun) (l : Line) (next : Next) → StandsAfter classes begun.steps l →
    standing_fault (length begun.steps) (is_ending (line_tokens classes l)) next ≡ None →
    within_line classes all begun (line_tokens classes l) next ≡ Ok (with_line all begun l)
within-again classes all begun l next stands standing =
    let tokens = line_tokens classes l in
    let on : Result Line ScriptKind → Result Reading ScriptKind = λ r. said_then r (λ said. Ok (with_line all begun said)) in
    ap (λ o. on (unless_fault o (line_of classes tokens))) (lower-of_none (body_fault classes begun.steps tokens)
    (standing_fault (length begun.steps) (is_ending tokens) next) stands.fault standing)
    ∙ ap on stands.said

pub step-again : (classes : List Class) (all : List Script) (begun : Begun) (s : Step) → MayFollow classes begun.steps (line.Step s) →
    within_line classes all begun (step_tokens classes s) follows.Line ≡ Ok (with_line all begun (line.Step s))
step-again classes all begun s is =
    within-again classes all begun (line.Step s) follows.Line is.stands
    (lower-of_none (fault_unless (not (length begun.steps == 64)) TooLong) (fault_unless (not (is_ending (step_tokens classes s))) NoReturn)
    (ap (λ b. fault_unless b TooLong) is.room) (ap (λ b. fault_unless (not b) NoReturn) (no_ending classes s)))

pub end-again : (classes : List Class) (all : List Script) (script : Script) → MayFollow classes script.steps (line.End script.end) →
    within_line classes all (record { method = script.method; steps = script.steps }) (end_tokens classes script.end) follows.End
    ≡ Ok (record { scripts = all ++ script ∷ []; stage = stage.Ended })
end-again classes all script is =
    within-again classes all (record { method = script.method; steps = script.steps }) (line.End script.end) follows.End is.stands
    (lower-of_none (fault_unless (not (length script.steps == 64)) TooLong) (fault_unless (is_ending (end_tokens classes script.end)) NoReturn)
    (ap (λ b. fault_unless b TooLong) is.room) (ap (λ b. fault_unless b NoReturn) (ending classes script.end)))
