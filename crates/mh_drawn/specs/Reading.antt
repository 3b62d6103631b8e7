-- What is read of the inputs, and what stops it.
use Rattle.std.specs.Prelude.{◌≡◌, ◌⊎◌, ◌≤◌, ℕ, ◌-◌, List, [], ◌∷◌, ◌++◌, length, All, Result, Ok, Err}
use Rattle.mh_base.specs.declared.lines.LineFault.{LineFault}
use Rattle.mh_outside.specs.Causes.{Rose}
use Rattle.mh_outside.specs.Contents.{Contents, unknown, absent, file, MayBeLonger}
use Rattle.mh_class_bytes.specs.declared.fault.Fault.{Fault as Fault'}
use Rattle.mh_class_pool.specs.declared.fault.ClassKind.{ClassKind}
use Rattle.mh_classfile.specs.Class.{Class, HasDynamics}
use Rattle.mh_classfile.specs.File.{class_or_fault}
use Rattle.mh_leaf.specs.LeafTable.{LeafTable}
use Rattle.mh_leaves.specs.Manifest.{manifest, kind_word as manifest_word}
use Rattle.mh_script.specs.declared.script.Script.{Script}
use Rattle.mh_script.specs.Kinds.{kind_word as script_word}
use Rattle.mh_script.specs.Scripts.{scripts}
use Rattle.mh_jobs.specs.declared.run_jobs.RunJobs.{RunJobs}
use Rattle.mh_jobs.specs.Given.{AreJobsOf, nothing_known}
use Rattle.mh_jobs.specs.Given as jobs
use Rattle.mh_jobs.specs.RunJobs.{jobs_of, no_jobs, with_class}
use Rattle.mh_words.specs.Words.{Named}
use Rattle.mh_drawing.specs.Places.{places_of}
use Rattle.mh_drawn.specs.declared.reading.Given.{Given}
use Rattle.mh_drawn.specs.declared.reading.Sites.{Sites}
use Rattle.mh_drawn.specs.declared.stop.Stop.{Stop}
use Rattle.mh_drawn.specs.declared.stop.Stop.TheVariants.{NoMemory, ReadFault, TooLong, Fault, Place}
use Rattle.mh_drawn.specs.Lines.{class_word}

-- the most bytes of a manifest, and of a file of scripts
abbrev pub text_limit : ℕ
text_limit = 262144

-- the most bytes of a class file
abbrev pub class_limit : ℕ
class_limit = 1048576

-- the most call sites
abbrev pub most_sites : ℕ
most_sites = 4096

-- ---- what files mean

-- if contracts see the file, it has at most this many bytes, and they have this meaning
abbrev pub HasMeaning : {T K : Type 0} → ℕ → (List ℕ → Result T K) → Contents → T → Type 0
HasMeaning limit meaning (file bytes) value = (meaning bytes ≡ Ok value) × (length bytes ≤ limit)
HasMeaning limit meaning unknown value = Unit {0}
HasMeaning limit meaning absent value = ⊥

-- no call sites
abbrev pub no_sites : Sites
no_sites = record { jobs = no_jobs; places = [] }

-- if contracts see the file, it is a class file with few enough call sites, and their jobs and places stand after the earlier ones
abbrev pub AddsClass : LeafTable → List Script → List ℕ → Contents → Sites → Sites → Type 0
AddsClass leaves scripts name contents before all =
    (c : Class) × HasMeaning class_limit (class_or_fault (most_sites - length before.jobs.sites)) contents c
    × (all.jobs ≡ with_class leaves scripts before.jobs c) × (all.places ≡ before.places ++ places_of name c.sites)

-- the same of the files of these names, one after the other
abbrev pub AddsClasses : LeafTable → List Script → List (List ℕ) → (List ℕ → Contents) → Sites → Sites → Type 0
AddsClasses leaves scripts [] files before all = all ≡ before
AddsClasses leaves scripts (name ∷ names) files before all =
    (next : Sites) × AddsClass leaves scripts name (files name) before next × AddsClasses leaves scripts names files next all

-- this is what the files of these names say: the leaves, the scripts, and the call sites of all class files
pub record IsRead (names : Named) (files : List ℕ → Contents) (given : Given) : Type 0 where
  pub leaves : HasMeaning text_limit manifest (files names.leaves) given.leaves
  pub scripts_are : HasMeaning text_limit scripts (files names.scripts) given.scripts
  pub sites : AddsClasses given.leaves given.scripts names.classes files no_sites given.sites

-- what a run is given before anything is linked
abbrev pub given_by : Given → jobs.Given
given_by given = record {
  leaves = given.leaves;
  scripts = given.scripts;
  jobs = given.sites.jobs.sites;
  constants = given.sites.jobs.constants;
  values = nothing_known;
}

-- the run is given this
abbrev pub IsGiven : Given → jobs.Given → Type 0
IsGiven given run =
    (given.leaves ≡ run.leaves) × (given.scripts ≡ run.scripts) × (given.sites.jobs.sites ≡ run.jobs) × (given.sites.jobs.constants ≡ run.constants)

-- these are the jobs of classes whose bootstrap methods are given Dynamic entries of their own
abbrev pub AreOfClasses : LeafTable → List Script → RunJobs → Type 0
AreOfClasses leaves scripts jobs = (classes : List Class) × (jobs ≡ jobs_of leaves scripts classes) × All HasDynamics classes

-- call sites of class files, with a place for each
abbrev pub AreSites : LeafTable → List Script → Sites → Type 0
AreSites leaves scripts sites =
    (length sites.jobs.sites ≤ most_sites) × (length sites.places ≡ length sites.jobs.sites) × AreJobsOf leaves scripts sites.jobs.sites
    × AreOfClasses leaves scripts sites.jobs

-- ---- what stops the reading

-- This stops the reading of a file of this name and of at most this many bytes: no memory is left, a read of it failed so that the count of its faults rose, or
-- it is longer.
abbrev pub StopsFile : List ℕ → ℕ → Contents → ℕ → ℕ → Stop → Type 0
StopsFile name limit contents before now NoMemory = Unit {0}
StopsFile name limit contents before now (ReadFault at) = (at.now ≡ name) × Rose before now
StopsFile name limit contents before now (TooLong at) = (at.now ≡ name) × MayBeLonger contents limit
StopsFile name limit contents before now _ = ⊥

-- if contracts see the text, and it is within its limit, it has a fault of this name at this line
abbrev pub HasLineFault : {T K : Type 0} → (K → List ℕ) → (List ℕ → Result T (LineFault K)) → Contents → ℕ → List ℕ → Type 0
HasLineFault {K = K} word meaning (file bytes) line kind =
    (length bytes ≤ text_limit) × ((fault : LineFault K) × (meaning bytes ≡ Err fault) × (line ≡ fault.line) × (kind ≡ word fault.kind))
HasLineFault word meaning unknown line kind = Unit {0}
HasLineFault word meaning absent line kind = ⊥

-- this stops the reading of the text of a name: its file cannot be read or is too long, or it has a fault
abbrev pub StopsText : {T K : Type 0} → List ℕ → (K → List ℕ) → (List ℕ → Result T (LineFault K)) → Contents → ℕ → ℕ → Stop → Type 0
StopsText name word meaning contents before now NoMemory = Unit {0}
StopsText name word meaning contents before now (ReadFault at) = (at.now ≡ name) × Rose before now
StopsText name word meaning contents before now (TooLong at) = (at.now ≡ name) × MayBeLonger contents text_limit
StopsText name word meaning contents before now (Fault at line kind) = (at.now ≡ name) × HasLineFault word meaning contents line kind.now
StopsText name word meaning contents before now _ = ⊥

-- the bytes of a class file that may have this many call sites have a fault of this name at this place
abbrev pub IsClassFault : ℕ → List ℕ → ℕ → List ℕ → Type 0
IsClassFault room bytes place kind =
    (fault : Fault' ClassKind) × (class_or_fault room bytes ≡ Err fault) × (place ≡ fault.at) × (kind ≡ class_word fault.kind)

-- this stops the reading of a class of these bytes: no memory is left, or they have a fault
abbrev pub StopsBytes : List ℕ → ℕ → List ℕ → Stop → Type 0
StopsBytes name room bytes NoMemory = Unit {0}
StopsBytes name room bytes (Place at place kind) = (at.now ≡ name) × IsClassFault room bytes place kind.now
StopsBytes name room bytes _ = ⊥

-- the same of a file that contracts see, within its limit
abbrev pub HasClassFault : ℕ → Contents → ℕ → List ℕ → Type 0
HasClassFault room (file bytes) place kind = (length bytes ≤ class_limit) × IsClassFault room bytes place kind
HasClassFault room unknown place kind = Unit {0}
HasClassFault room absent place kind = ⊥

-- This stops the reading of the class file of this name, which may have this many call sites. It cannot be read, is too long, or has a fault.
abbrev pub StopsClass : List ℕ → ℕ → Contents → ℕ → ℕ → Stop → Type 0
StopsClass name room contents before now NoMemory = Unit {0}
StopsClass name room contents before now (ReadFault at) = (at.now ≡ name) × Rose before now
StopsClass name room contents before now (TooLong at) = (at.now ≡ name) × MayBeLonger contents class_limit
StopsClass name room contents before now (Place at place kind) = (at.now ≡ name) × HasClassFault room contents place kind.now
StopsClass name room contents before now _ = ⊥

-- this stops the reading of one of the class files of these names, after those before it were read
abbrev pub StopsClasses :
    LeafTable → List Script → List (List ℕ) → (List ℕ → Contents) → (List ℕ → ℕ) → (List ℕ → ℕ) → Sites → Stop → Type 0
StopsClasses leaves scripts [] files before now sites stop = ⊥
StopsClasses leaves scripts (name ∷ names) files before now sites stop =
    StopsClass name (most_sites - length sites.jobs.sites) (files name) (before name) (now name) stop
    ⊎ ((next : Sites) × AddsClass leaves scripts name (files name) sites next × StopsClasses leaves scripts names files before now next stop)

-- this stops the reading of the inputs of these names: of the leaves, or of the scripts once the leaves were read, or then of the class files
abbrev pub StopsReading : Named → (List ℕ → Contents) → (List ℕ → ℕ) → (List ℕ → ℕ) → Stop → Type 0
StopsReading names files before now stop =
    StopsText names.leaves manifest_word manifest (files names.leaves) (before names.leaves) (now names.leaves) stop
    ⊎ ((leaves : LeafTable) × HasMeaning text_limit manifest (files names.leaves) leaves
    × (StopsText names.scripts script_word scripts (files names.scripts) (before names.scripts) (now names.scripts) stop
    ⊎ ((all : List Script) × HasMeaning text_limit scripts (files names.scripts) all
    × StopsClasses leaves all names.classes files before now no_sites stop)))
