-- What the inputs say once one of them was read, and where one of them stops the reading.
use Rattle.std.proofs.Common.{◌≡◌, ◌<◌, ◌≤◌, refl, sym, ap, subst, ℕ, ◌-◌, true, false, List, [], ◌∷◌, length, Result, Ok, arith}
use Rattle.std.specs.Prelude.{nat_lt}
use Rattle.std.proofs.lemmas.Bool.Decides.{nat_tests}
use Rattle.mh_base.specs.declared.lines.LineFault.{LineFault}
use Rattle.mh_outside.specs.Contents.{Contents, unknown, absent, file}
use Rattle.mh_classfile.specs.Class.{Class}
use Rattle.mh_classfile.specs.File.{class_or_fault}
use Rattle.mh_main.specs.declared.stop.Stop.{Stop}
use Rattle.mh_main.specs.declared.stop.Stop.TheVariants.{NoMemory, ReadFault, TooLong, Fault, Place}
use Rattle.mh_main.specs.Input.{HasMeaning, Input, class_limit, class_meant, classes_input, fault_line, meant, too_long_line, unseen, within}
use Rattle.mh_main.specs.Stops.{AreClassesOf, IsStopOf, Refuses, StopsText}

small : (limit : ℕ) (bytes : List ℕ) → length bytes ≤ limit → nat_lt limit (length bytes) ≡ false
small limit bytes h = grind (arith, nat_tests)

long : (limit : ℕ) (bytes : List ℕ) → limit < length bytes → nat_lt limit (length bytes) ≡ true
long limit bytes h = grind (arith, nat_tests)

-- what holds if the inputs go on with what a text says, whose file is known, holds of all
pub file-read :
    {T K : Type 0} (Q : Input → Type 0) (limit : ℕ) (name : List ℕ) (word : K → List ℕ) (meaning : List ℕ → Result T (LineFault K)) (bytes : List ℕ)
    (value : T) (next : T → Input) → meaning bytes ≡ Ok value → length bytes ≤ limit → Q (next value) →
    Q (within name limit (file bytes) (λ b. meant name word (meaning b) next))
file-read Q limit name word meaning bytes value next is few h = rw (small limit bytes few, is) h

-- likewise with the class of a file that is known
pub class-file-read : (Q : Input → Type 0) (room : ℕ) (name bytes : List ℕ) (c : Class) (next : Class → Input) → class_or_fault room bytes ≡ Ok c →
    length bytes ≤ class_limit → Q (next c) → Q (within name class_limit (file bytes) (λ b. class_meant name (class_or_fault room b) next))
class-file-read Q room name bytes c next is few h = rw (small class_limit bytes few, is) h

-- what holds if the inputs are not seen, and if they go on with what a text says, holds of all
pub text-read :
    {T K : Type 0} (Q : Input → Type 0) (limit : ℕ) (name : List ℕ) (word : K → List ℕ) (meaning : List ℕ → Result T (LineFault K))
    (contents : Contents) (value : T)
    (next : T → Input) → Q unseen → HasMeaning limit meaning contents value → Q (next value) →
    Q (within name limit contents (λ bytes. meant name word (meaning bytes) next))
text-read Q limit name word meaning unknown value next free is h = free
text-read Q limit name word meaning absent value next free is h = absurd is
text-read Q limit name word meaning (file bytes) value next free is h = file-read Q limit name word meaning bytes value next is.0 is.1 h

-- likewise with the class of a file
class-read : (Q : Input → Type 0) (room : ℕ) (name : List ℕ) (contents : Contents) (c : Class) (next : Class → Input) → Q unseen →
    HasMeaning class_limit (class_or_fault room) contents c → Q (next c) →
    Q (within name class_limit contents (λ bytes. class_meant name (class_or_fault room bytes) next))
class-read Q room name unknown c next free is h = free
class-read Q room name absent c next free is h = absurd is
class-read Q room name (file bytes) c next free is h = class-file-read Q room name bytes c next is.0 is.1 h

-- likewise with the class of the first file, before those of others
pub first-read : (Q : Input → Type 0) (room : ℕ) (name : List ℕ) (names : List (List ℕ)) (files : List ℕ → Contents) (c : Class) (next : List Class → Input) →
    Q unseen → HasMeaning class_limit (class_or_fault room) (files name) c →
    Q (classes_input (room - length c.sites) names files (λ classes. next (c ∷ classes))) → Q (classes_input room (name ∷ names) files next)
first-read Q room name names files c next free is h =
    class-read Q room name (files name) c (λ d. classes_input (room - length d.sites) names files (λ classes. next (d ∷ classes))) free is h

-- likewise with the classes of all files
pub classes-read : (Q : Input → Type 0) (room : ℕ) (names : List (List ℕ)) (files : List ℕ → Contents) (classes : List Class) (next : List Class → Input) →
    Q unseen → AreClassesOf room names files classes → Q (next classes) → Q (classes_input room names files next)
classes-read Q room [] files classes next free are h = subst (λ (cs : List Class). Q (next cs)) are h
classes-read Q room (name ∷ names) files [] next free are h = absurd are
classes-read Q room (name ∷ names) files (c ∷ classes) next free are h =
    first-read Q room name names files c next free are.0
    (classes-read Q (room - length c.sites) names files classes (λ cs. next (c ∷ cs)) free are.1 h)

-- ---- stops

-- what stops the reading of a text is what the inputs say, whatever would follow
pub text-stopped :
    {T K : Type 0} (limit : ℕ) (name : List ℕ) (word : K → List ℕ) (meaning : List ℕ → Result T (LineFault K)) (contents : Contents) (next : T → Input)
    (before now : List ℕ → ℕ) (stop : Stop) → IsStopOf name before now stop → StopsText limit word meaning contents stop →
    Refuses (within name limit contents (λ bytes. meant name word (meaning bytes) next)) stop
text-stopped limit name word meaning contents next before now NoMemory is stops = tt
text-stopped limit name word meaning contents next before now (ReadFault at) is stops = tt
text-stopped limit name word meaning unknown next before now (TooLong at) is stops = tt
text-stopped limit name word meaning absent next before now (TooLong at) is stops = absurd stops
text-stopped limit name word meaning (file bytes) next before now (TooLong at) is stops = rw (long limit bytes stops) (ap too_long_line (sym is.0))
text-stopped limit name word meaning unknown next before now (Fault at line kind) is stops = tt
text-stopped limit name word meaning absent next before now (Fault at line kind) is stops = absurd stops
text-stopped limit name word meaning (file bytes) next before now (Fault at line kind) is stops =
    let fault = stops.1.0 in
    let named : fault_line name fault.line (word fault.kind) ≡ fault_line at.now line kind.now = rw (is.0, stops.1.2, stops.1.3) refl in
    rw (small limit bytes stops.0, stops.1.1) named
text-stopped limit name word meaning contents next before now (Place at place kind) is stops = absurd stops

-- a stop is what inputs say that are not seen
pub refuses-unseen : (stop : Stop) → Refuses unseen stop
refuses-unseen NoMemory = tt
refuses-unseen (ReadFault at) = tt
refuses-unseen (TooLong at) = tt
refuses-unseen (Fault at line kind) = tt
refuses-unseen (Place at place kind) = tt
