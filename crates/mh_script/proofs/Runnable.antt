-- The lines of scripts that are read are few, and none divides by 0.
use Rattle.std.proofs.Common.{◌≡◌, ◌≢◌, refl, subst, ℕ, ◌<◌, ◌≤◌, Bool, true, false, not, ◌&&◌, List, [], ◌∷◌, length, length-append, Option, None, Some, Result, Ok, codes, arith}
use Rattle.std.specs.Prelude.{◌==◌, if◌then◌else◌, is_some}
use Rattle.std.specs.List.{list_all}
use Rattle.std.specs.Str.{bytes_eq}
use Rattle.std.proofs.lemmas.List.Elements.{All-append, All-cons, All-nil}
use Rattle.mh_base.proofs.Conditions.{provided-parts}
use Rattle.mh_base.specs.Lines.{is_full, is_passed, is_plain, tokens_of}
use Rattle.mh_base.proofs.Inversion.{ok_is}
use Rattle.mh_values.specs.declared.class.Class.{Class}
use Rattle.mh_base.specs.Provided.{provided}
use Rattle.mh_values.specs.Grammar.{descriptor_fault}
use Rattle.mh_leaves.specs.Reference.{Texts, is_class_name, is_method_name}
use Rattle.mh_script.specs.declared.kinds.ScriptKind.{ScriptKind}
use Rattle.mh_script.specs.declared.kinds.ScriptKind.TheVariants.{BadDescriptor, BadLine, TooLong, Twice}
use Rattle.mh_script.specs.declared.line.Line.{Line}
use Rattle.mh_script.specs.declared.line.Line.TheVariants as line
use Rattle.mh_script.specs.declared.reading.Begun.{Begun}
use Rattle.mh_script.specs.declared.reading.Next.{Next}
use Rattle.mh_script.specs.declared.reading.Next.TheVariants as follows
use Rattle.mh_script.specs.declared.reading.Reading.{Reading}
use Rattle.mh_script.specs.declared.reading.Stage.{Stage}
use Rattle.mh_script.specs.declared.reading.Stage.TheVariants as stage
use Rattle.mh_script.specs.declared.script.Script.{Script}
use Rattle.mh_script.specs.declared.script.Step.{Step}
use Rattle.mh_script.specs.Faults.{bad_descriptor, body_fault}
use Rattle.mh_script.specs.Find.{script_named}
use Rattle.mh_script.specs.Kinds.{lower}
use Rattle.mh_script.specs.Limits.{AreBegun, AreRunnable, CanDivide, MayStand}
use Rattle.mh_script.specs.Lines.{line_of}
use Rattle.mh_script.specs.Scripts.{begun_by, body_line, counting_line, following, goes_on, header_line, is_end_line, is_ending, line_meaning, outside_line, staged_line, standing_fault, unless_fault, with_line, within_line}
use Rattle.mh_script.proofs.Divisors.{said-parts, line-divides}
use Rattle.mh_script.proofs.FaultlessOperations.{lower-none, unless-none}

-- ---- how many lines there are

fewer : (count : ℕ) → not (count == 64) ≡ true → count ≤ 64 → count < 64
fewer count other few =
    let apart : count ≢ 64 = λ is. let h : not (64 == 64) ≡ true = subst (λ n. not (n == 64) ≡ true) is other in cc in omega (arith, few, apart)

-- a line that may stand there does not follow 64 others
pub has_room : (count : ℕ) (ending : Bool) (next : Next) → standing_fault count ending next ≡ None → not (count == 64) ≡ true
has_room count ending follows.Nothing h = absurd cc
has_room count ending follows.End h = unless-none (not (count == 64)) TooLong (lower-none _ _ h).0
has_room count ending follows.Line h = unless-none (not (count == 64)) TooLong (lower-none _ _ h).0

pub faultless : {A : Type 0} (o : Option ScriptKind) (next : Result A ScriptKind) (a : A) → unless_fault o next ≡ Ok a → (o ≡ None) × (next ≡ Ok a)
faultless None next a h = (refl, h)
faultless (Some kind) next a h = absurd cc

-- a line may be put after those of its script
pub body-runnable : (classes : List Class) (steps : List Step) (tokens : List (List ℕ)) (next : Next) (said : Line) → AreBegun steps →
    body_line classes steps tokens next ≡ Ok said → AreRunnable steps
body-runnable classes steps tokens next said begun h =
    let none = faultless (lower (body_fault classes steps tokens) (standing_fault (length steps) (is_ending tokens) next)) (line_of classes tokens) said h in
    record { few = fewer (length steps) (has_room (length steps) (is_ending tokens) next (lower-none _ _ none.0).1) begun.few; divide = begun.divide }

-- ---- lines where they stand

with-stands : (scripts : List Script) (begun : Begun) (said : Line) → AreRunnable begun.steps → ((s : Step) → said ≡ line.Step s → CanDivide s) →
    MayStand (with_line scripts begun said).stage
with-stands scripts begun (line.Step s) runs divides =
    let count = length-append begun.steps (s ∷ []) in
    record {
      few = omega (arith, runs.few, count);
      divide = All-append CanDivide begun.steps (s ∷ []) runs.divide (All-cons CanDivide s [] (divides s refl) (All-nil CanDivide));
    }
with-stands scripts begun (line.End e) runs divides = tt

stands-by : (a b : Reading) → MayStand a.stage → ◌≡◌ {A = Result Reading ScriptKind} (Ok a) (Ok b) → MayStand b.stage
stands-by a b may h = subst (λ (r : Reading). MayStand r.stage) (ok_is a b h) may

within-stands : (classes : List Class) (scripts : List Script) (begun : Begun) (tokens : List (List ℕ)) (next : Next) (reading : Reading) →
    AreBegun begun.steps → within_line classes scripts begun tokens next ≡ Ok reading → MayStand reading.stage
within-stands classes scripts begun tokens next reading are h =
    let said = said-parts (body_line classes begun.steps tokens next) (λ said. Ok (with_line scripts begun said)) reading h in
    let found = faultless (lower (body_fault classes begun.steps tokens) (standing_fault (length begun.steps) (is_ending tokens) next))
    (line_of classes tokens) said.0 said.1 in
    stands-by (with_line scripts begun said.0) reading
    (with-stands scripts begun said.0 (body-runnable classes begun.steps tokens next said.0 are said.1)
    (λ s is. line-divides classes tokens s (subst (λ (l : Line). line_of classes tokens ≡ Ok l) is found.1))) said.2

header-stands : (scripts : List Script) (word : List ℕ) (texts : Texts) (next : Next) (reading : Reading) →
    header_line scripts word texts next ≡ Ok reading → MayStand reading.stage
header-stands scripts word texts next reading h =
    let begun : Reading = record { scripts = scripts; stage = stage.Within (begun_by texts) } in
    let readable = not (is_some (bad_descriptor (descriptor_fault texts.descriptor))) in
    let new = not (is_some (script_named scripts texts.owner texts.name texts.descriptor)) in
    let named = bytes_eq word (codes "script") && is_class_name texts.owner && is_method_name texts.name && goes_on next in
    stands-by begun reading (record { few = omega arith; divide = All-nil CanDivide })
    (provided-parts readable BadDescriptor (Ok begun) reading
    (provided-parts new Twice (provided readable BadDescriptor (Ok begun)) reading
    (provided-parts named BadLine (provided new Twice (provided readable BadDescriptor (Ok begun))) reading h).1).1).1

outside-stands : (scripts : List Script) (tokens : List (List ℕ)) (next : Next) (reading : Reading) → outside_line scripts tokens next ≡ Ok reading →
    MayStand reading.stage
outside-stands scripts (word ∷ owner ∷ name ∷ descriptor ∷ []) next reading h =
    header-stands scripts word (record { owner = owner; name = name; descriptor = descriptor }) next reading h
outside-stands scripts _ next reading h = absurd cc

staged-stands : (classes : List Class) (scripts : List Script) (at : Stage) (tokens : List (List ℕ)) (next : Next) (reading : Reading) → MayStand at →
    staged_line classes scripts at tokens next ≡ Ok reading → MayStand reading.stage
staged-stands classes scripts stage.Outside tokens next reading may h = outside-stands scripts tokens next reading h
staged-stands classes scripts (stage.Within begun) tokens next reading may h = within-stands classes scripts begun tokens next reading may h
staged-stands classes scripts stage.Ended tokens next reading may h =
    stands-by (record { scripts = scripts; stage = stage.Outside }) reading tt (provided-parts (is_end_line tokens) BadLine _ reading h).1

-- after a line that was read a line may stand
pub line-stands : (classes : List Class) (rest : List (List ℕ)) (reading next : Reading) (text : List ℕ) → MayStand reading.stage →
    line_meaning classes rest reading text ≡ Ok next → MayStand next.stage
line-stands classes rest reading next text may h = cases (is_passed text) (provided-parts (is_plain text) BadLine _ next h).1
  where
    cases : (b : Bool) → (if b then Ok reading else counting_line classes reading (tokens_of text) (following rest)) ≡ Ok next → MayStand next.stage
    cases true k = stands-by reading next may k
    cases false k =
        staged-stands classes reading.scripts reading.stage (tokens_of text) (following rest) next may
        (provided-parts (list_all is_full (tokens_of text)) BadLine _ next k).1
