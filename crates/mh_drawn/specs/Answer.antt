-- What the program writes.
use Rattle.std.specs.Prelude.{◌≡◌, ◌⊎◌, ◌≤◌, ℕ, List, [], length, Option, None, Some, slice_get}
use Rattle.std.specs.Io.KnownBytes.{Appends}
use Rattle.mh_values.specs.declared.class.Class.{Class}
use Rattle.mh_outside.specs.Contents.{Contents}
use Rattle.mh_outside.specs.Causes.{AppendsPart}
use Rattle.mh_jobs.specs.Given as jobs
use Rattle.mh_link.specs.Constants.{Serials}
use Rattle.mh_link.specs.Sites.{with_serials}
use Rattle.mh_handle.specs.Form.{FormView}
use Rattle.mh_handle.specs.Passes.{PassView}
use Rattle.mh_attempt.specs.Asked.{HasAsked}
use Rattle.mh_words.specs.Words.{Named}
use Rattle.mh_drawing.specs.declared.place.Place.{Place}
use Rattle.mh_drawing.specs.declared.site.Site.{Site}
use Rattle.mh_drawing.specs.Drawing as drawn
use Rattle.mh_drawing.specs.Why.{why_text}
use Rattle.mh_drawn.specs.declared.reading.Given.{Given}
use Rattle.mh_drawn.specs.declared.stop.Stop.{Stop}
use Rattle.mh_drawn.specs.declared.stop.Stop.TheVariants.{NoMemory, FormsFull, TypesFull, NoSite}
use Rattle.mh_drawn.specs.Lines.{stop_line, stop_status, usage_line}
use Rattle.mh_drawn.specs.Linked.{AreAnswered, AreNumbered, NeedsManyForms, NeedsManyTypes, edits_to}
use Rattle.mh_drawn.specs.Reading.{IsRead, StopsReading, given_by}
use Rattle.mh_drawn.specs.Status.{done, usage_wanted}
use Rattle.mh_drawn.specs.Words.{Asked, drawing, why, request_of}

-- ---- texts

-- why two call sites share a form or do not, if both are there
abbrev pub why_at_text : List Class → List FormView → Option Site → Option Site → List ℕ
why_at_text classes forms (Some one) (Some other) = why_text classes forms one other
why_at_text classes forms _ _ = []

-- the text that is asked for, of forms and call sites
abbrev pub asked_text : List Class → List FormView → List Site → Asked → List ℕ
asked_text classes forms sites drawing = drawn.drawing classes forms sites
asked_text classes forms sites (why one other) = why_at_text classes forms (slice_get sites one) (slice_get sites other)

-- the call sites that are asked for are there
abbrev pub AreThere : List Site → Asked → Type 0
AreThere sites drawing = Unit {0}
AreThere sites (why one other) =
    ((site : Site) × (slice_get sites one ≡ Some site)) × ((site : Site) × (slice_get sites other ≡ Some site))

-- the text is that of all call sites as they are linked, and of these forms, where constants are what they are given to be
abbrev pub IsTextOf : jobs.Given → List Place → List FormView → Asked → List ℕ → Type 0
IsTextOf given places forms asked text =
    (sites : List Site) × AreAnswered given places sites × AreThere sites asked × (text ≡ asked_text given.leaves.classes forms sites asked)

-- The text is that of all call sites as they are linked. The forms are those that the attempts at them asked for, each once. Constants are what they are by the
-- serials of the table.
pub record IsShown (given : jobs.Given) (places : List Place) (asked : Asked) (text : List ℕ) : Type 0 where
  pub table : Serials
  pub numbered : AreNumbered given (length given.jobs) table
  pub pass : PassView
  pub sites : List Site
  pub answered : AreAnswered (with_serials table given) places sites
  pub has_asked : HasAsked (edits_to (with_serials table given) (length given.jobs)) pass
  pub there : AreThere sites asked
  pub text_is : text ≡ asked_text given.leaves.classes pass.asked sites asked

-- ---- stops

-- this call site is one of those that are asked for
abbrev pub IsAsked : ℕ → Asked → Type 0
IsAsked number drawing = ⊥
IsAsked number (why one other) = (number ≡ one) ⊎ (number ≡ other)

-- no memory is left, or a call site that is asked for is not there among this many
abbrev pub LacksSite : ℕ → Asked → Stop → Type 0
LacksSite sites asked NoMemory = Unit {0}
LacksSite sites asked (NoSite number count) = IsAsked number asked × (count ≡ sites) × (sites ≤ number)
LacksSite sites asked _ = ⊥

-- This stops what is asked for of call sites that were read. No memory, no number for a form or no slot for a type is left, or a call site is not there.
abbrev pub StopsShowing : jobs.Given → Asked → Stop → Type 0
StopsShowing given asked FormsFull = NeedsManyForms given
StopsShowing given asked TypesFull = NeedsManyTypes given
StopsShowing given asked stop = LacksSite (length given.jobs) asked stop

-- this stops a request: the reading of an input, or what is asked for of what was read
abbrev pub StopsRequest : Asked → Named → (List ℕ → Contents) → (List ℕ → ℕ) → (List ℕ → ℕ) → Stop → Type 0
StopsRequest asked names files before now stop =
    StopsReading names files before now stop ⊎ ((read : Given) × IsRead names files read × StopsShowing (given_by read) asked stop)

-- ---- answers

-- it is said that words are refused
abbrev pub SaysUsage : ℕ → List ℕ → Type 0
SaysUsage status text = (status ≡ usage_wanted) × (text ≡ usage_line)

-- what is asked for is shown, of what the named inputs say
abbrev pub ShowsRead : Asked → Named → (List ℕ → Contents) → List ℕ → Type 0
ShowsRead asked names files text = (read : Given) × IsRead names files read × IsShown (given_by read) read.sites.places asked text

-- it is said why nothing is shown
abbrev pub SaysStop : Stop → ℕ → List ℕ → Type 0
SaysStop stop status text = (status ≡ stop_status stop) × (text ≡ stop_line stop)

-- the answer to a request: what it asks for, or what stops it
abbrev pub AnswersRequest : Asked → Named → (List ℕ → Contents) → (List ℕ → ℕ) → (List ℕ → ℕ) → ℕ → List ℕ → Type 0
AnswersRequest asked names files before now status text =
    ((status ≡ done) × ShowsRead asked names files text)
    ⊎ ((stop : Stop) × StopsRequest asked names files before now stop × SaysStop stop status text)

-- an answer to words, by its status
abbrev pub IsAnswerTo : List (List ℕ) → (List ℕ → Contents) → (List ℕ → ℕ) → (List ℕ → ℕ) → ℕ → List ℕ → Type 0
IsAnswerTo words files before now status text =
    ((request_of words ≡ None) × SaysUsage status text)
    ⊎ ((asked : Asked) × (names : Named) × (request_of words ≡ Some (asked, names)) × AnswersRequest asked names files before now status text)

-- bytes with this property were added
abbrev pub Writes : (List ℕ → Type 0) → Option (List ℕ) → Option (List ℕ) → Type 0
Writes Is old new = (bytes : List ℕ) × Is bytes × Appends old new bytes

-- what is due at one of the statuses
abbrev pub IsDue : List (List ℕ) → (List ℕ → Contents) → (List ℕ → ℕ) → (List ℕ → ℕ) → List ℕ → Type 0
IsDue words files before now bytes = (status : ℕ) × IsAnswerTo words files before now status bytes

-- a front part of bytes of which this holds was added
abbrev pub WritesPart : (List ℕ → Type 0) → Option (List ℕ) → Option (List ℕ) → Type 0
WritesPart Is old new = (bytes : List ℕ) × Is bytes × AppendsPart old new bytes
