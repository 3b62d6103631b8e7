-- Why there is no program.
use Rattle.std.specs.Prelude.{◌≡◌, ◌⊎◌, ℕ, ◌-◌, List, [], ◌∷◌, ◌++◌, codes, ◌≤◌, length, Result, Err, Option, None, Some}
use Rattle.std.specs.List.{Contains}
use Rattle.mh_base.specs.declared.lines.LineFault.{LineFault}
use Rattle.mh_outside.specs.Causes.{Rose, IsStill, AreSame}
use Rattle.mh_outside.specs.Contents.{Contents, unknown, absent, file, MayBeLonger}
use Rattle.mh_leaf.specs.LeafTable.{LeafTable}
use Rattle.mh_leaves.specs.Manifest.{manifest}
use Rattle.mh_script.specs.declared.script.Script.{Script}
use Rattle.mh_script.specs.Scripts.{scripts}
use Rattle.mh_main.specs.declared.stop.Stop.{Stop}
use Rattle.mh_main.specs.declared.stop.Stop.TheVariants.{NoMemory, ReadFault, TooLong, Fault, Place}
use Rattle.mh_class_bytes.specs.declared.fault.Fault.{Fault as Fault'}
use Rattle.mh_class_pool.specs.declared.fault.ClassKind.{ClassKind}
use Rattle.mh_classfile.specs.Class.{Class}
use Rattle.mh_classfile.specs.File.{class_or_fault}
use Rattle.mh_main.specs.Kinds.{class_word}
use Rattle.mh_main.specs.Status.{refused, no_memory, unread}
use Rattle.mh_words.specs.Words.{Named, Command, run, sites, generate}
use Rattle.mh_runtime.specs.Passes.{most_sites}
use Rattle.mh_main.specs.Input.{Input, IfRefused, HasMeaning, too_long_line, fault_line, place_line, leaves_limit, class_limit, classes_input}

-- the line for an input that could not be read
abbrev pub unread_line : List ℕ → List ℕ
unread_line name = codes "cannot read " ++ name ++ codes "\n"

-- the line that says why there is no program
abbrev pub stop_line : Stop → List ℕ
stop_line NoMemory = []
stop_line (ReadFault at) = unread_line at.now
stop_line (TooLong at) = too_long_line at.now
stop_line (Fault at line kind) = fault_line at.now line kind.now
stop_line (Place at place kind) = place_line at.now place kind.now

-- the stop is one of this input: at a read fault the count of its name rose, and else no count did
abbrev pub IsStopOf : List ℕ → (List ℕ → ℕ) → (List ℕ → ℕ) → Stop → Type 0
IsStopOf name before now NoMemory = AreSame before now
IsStopOf name before now (ReadFault at) = (at.now ≡ name) × Rose (before name) (now name)
IsStopOf name before now (TooLong at) = (at.now ≡ name) × AreSame before now
IsStopOf name before now (Fault at line kind) = (at.now ≡ name) × AreSame before now
IsStopOf name before now (Place at place kind) = (at.now ≡ name) × AreSame before now

-- this stops the reading of a file of at most this many bytes: it cannot be read, or it is longer
abbrev pub StopsFile : ℕ → Contents → Stop → Type 0
StopsFile limit contents NoMemory = Unit {0}
StopsFile limit contents (ReadFault at) = Unit {0}
StopsFile limit contents (TooLong at) = MayBeLonger contents limit
StopsFile limit contents (Fault at line kind) = ⊥
StopsFile limit contents (Place at place kind) = ⊥

-- if contracts see the text, and it has at most this many bytes, it has the fault at this line, of the kind that has this word
abbrev pub HasLineFault : {T K : Type 0} → ℕ → (K → List ℕ) → (List ℕ → Result T (LineFault K)) → Contents → ℕ → List ℕ → Type 0
HasLineFault {K = K} limit word meaning (file bytes) line kind =
    (length bytes ≤ limit) × ((fault : LineFault K) × (meaning bytes ≡ Err fault) × (line ≡ fault.line) × (kind ≡ word fault.kind))
HasLineFault limit word meaning unknown line kind = Unit {0}
HasLineFault limit word meaning absent line kind = ⊥

-- this stops the reading of a text: its file cannot be read or is too long, or it has a fault
abbrev pub StopsText : {T K : Type 0} → ℕ → (K → List ℕ) → (List ℕ → Result T (LineFault K)) → Contents → Stop → Type 0
StopsText limit word meaning contents NoMemory = Unit {0}
StopsText limit word meaning contents (ReadFault at) = Unit {0}
StopsText limit word meaning contents (TooLong at) = MayBeLonger contents limit
StopsText limit word meaning contents (Fault at line kind) = HasLineFault limit word meaning contents line kind.now
StopsText limit word meaning contents (Place at place kind) = ⊥

-- the bytes of a class file that may have this many call sites have the fault at this place, of the kind that has this word
abbrev pub IsClassFault : ℕ → List ℕ → ℕ → List ℕ → Type 0
IsClassFault room bytes place kind =
    (fault : Fault' ClassKind) × (class_or_fault room bytes ≡ Err fault) × (place ≡ fault.at) × (kind ≡ class_word fault.kind)

-- this stops the reading of a class from the bytes of the file of this name: no memory is left, or they have a fault
abbrev pub StopsBytes : List ℕ → ℕ → List ℕ → Stop → Type 0
StopsBytes name room bytes NoMemory = Unit {0}
StopsBytes name room bytes (Place at place kind) = (at.now ≡ name) × IsClassFault room bytes place kind.now
StopsBytes name room bytes _ = ⊥

-- the same of a file that contracts see and that has at most as many bytes as a class file may have
abbrev pub HasClassFault : ℕ → Contents → ℕ → List ℕ → Type 0
HasClassFault room (file bytes) place kind = (length bytes ≤ class_limit) × IsClassFault room bytes place kind
HasClassFault room unknown place kind = Unit {0}
HasClassFault room absent place kind = ⊥

-- this stops the reading of a class file that may have this many call sites: it cannot be read or is too long, or it has a fault
abbrev pub StopsClass : ℕ → Contents → Stop → Type 0
StopsClass room contents NoMemory = Unit {0}
StopsClass room contents (ReadFault at) = Unit {0}
StopsClass room contents (TooLong at) = MayBeLonger contents class_limit
StopsClass room contents (Fault at line kind) = ⊥
StopsClass room contents (Place at place kind) = HasClassFault room contents place kind.now

-- the class file is one of those named, and each earlier one that contracts see was accepted
abbrev pub ReachesClass : ℕ → List (List ℕ) → (List ℕ → Contents) → List ℕ → Type 0
ReachesClass room [] files name = ⊥
ReachesClass room (first ∷ names) files name =
    (name ≡ first)
    ⊎ ((c : Class) × HasMeaning class_limit (class_or_fault room) (files first) c × ReachesClass (room - length c.sites) names files name)

-- the class files that contracts see are of these classes, which have at most this many call sites together
abbrev pub AreClassesOf : ℕ → List (List ℕ) → (List ℕ → Contents) → List Class → Type 0
AreClassesOf room [] files classes = classes ≡ []
AreClassesOf room (name ∷ names) files [] = ⊥
AreClassesOf room (name ∷ names) files (c ∷ classes) =
    HasMeaning class_limit (class_or_fault room) (files name) c × AreClassesOf (room - length c.sites) names files classes

-- the manifest and the scripts of a run were accepted, if contracts see them
abbrev pub TextsMean : Named → (List ℕ → Contents) → LeafTable → List Script → Type 0
TextsMean names files leaves all =
    HasMeaning leaves_limit manifest (files names.leaves) leaves × HasMeaning leaves_limit scripts (files names.scripts) all

-- the input is one of a run's, and each earlier one that contracts see was accepted
abbrev pub ReachesInput : Named → (List ℕ → Contents) → List ℕ → Type 0
ReachesInput names files name =
    (name ≡ names.leaves)
    ⊎ ((leaves : LeafTable) × (name ≡ names.scripts) × HasMeaning leaves_limit manifest (files names.leaves) leaves)
    ⊎ ((leaves : LeafTable) × (all : List Script) × TextsMean names files leaves all × ReachesClass most_sites names.classes files name)
    ⊎ ((leaves : LeafTable) × (all : List Script) × (classes : List Class) × (name ≡ names.plan) × TextsMean names files leaves all
    × AreClassesOf most_sites names.classes files classes)

-- the input is one of the command's, and each earlier one that contracts see was accepted
abbrev pub IsReachedInput : Command → (List ℕ → Contents) → List ℕ → Type 0
IsReachedInput (run names) files name = ReachesInput names files name
IsReachedInput (sites names) files name = ReachesClass most_sites names files name
IsReachedInput (generate number) files name = ⊥

-- the stop is one of the inputs that are reached: at a read fault it was, and its count rose, and else no count did
abbrev pub IsStopAmong : (List ℕ → Type 0) → (List ℕ → ℕ) → (List ℕ → ℕ) → Stop → Type 0
IsStopAmong Reaches before now NoMemory = AreSame before now
IsStopAmong Reaches before now (ReadFault at) = Reaches at.now × Rose (before at.now) (now at.now)
IsStopAmong Reaches before now (TooLong at) = AreSame before now
IsStopAmong Reaches before now (Fault at line kind) = AreSame before now
IsStopAmong Reaches before now (Place at place kind) = AreSame before now

-- what the inputs say, if one of them is refused
abbrev pub Refuses : Input → Stop → Type 0
Refuses said NoMemory = Unit {0}
Refuses said (ReadFault at) = Unit {0}
Refuses said (TooLong at) = IfRefused said (λ line. line ≡ too_long_line at.now)
Refuses said (Fault at number kind) = IfRefused said (λ line. line ≡ fault_line at.now number kind.now)
Refuses said (Place at place kind) = IfRefused said (λ line. line ≡ place_line at.now place kind.now)

-- whatever follows the class files, the stop is of what they say
abbrev pub StopsClasses : ℕ → List (List ℕ) → (List ℕ → Contents) → Stop → Type 0
StopsClasses room names files stop = (next : List Class → Input) → Refuses (classes_input room names files next) stop

-- the status that a stop comes with
abbrev pub stop_status : Stop → ℕ
stop_status NoMemory = no_memory
stop_status (ReadFault at) = unread
stop_status (TooLong at) = refused
stop_status (Fault at line kind) = refused
stop_status (Place at place kind) = refused

-- the name is one of the command's inputs
abbrev pub IsInput : Command → List ℕ → Type 0
IsInput (run names) name = (name ≡ names.leaves) ⊎ ((name ≡ names.scripts) ⊎ (Contains names.classes name ⊎ (name ≡ names.plan)))
IsInput (sites names) name = Contains names name
IsInput (generate number) name = ⊥

-- no count of an input of the command rose
abbrev pub InputsStill : Option Command → (List ℕ → ℕ) → (List ℕ → ℕ) → Type 0
InputsStill None before now = Unit {0}
InputsStill (Some command) before now = (name : List ℕ) → IsInput command name → IsStill (before name) (now name)
