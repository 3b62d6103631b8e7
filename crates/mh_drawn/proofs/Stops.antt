-- What stops the reading of a file stops that of what is in it.
use Rattle.std.proofs.Common.{◌≤◌, subst, ℕ, List, length, Result}
use Rattle.mh_base.specs.declared.lines.LineFault.{LineFault}
use Rattle.mh_outside.specs.Contents.{Contents, unknown, absent, file, IsWhole}
use Rattle.mh_drawn.specs.declared.stop.Stop.{Stop}
use Rattle.mh_drawn.specs.declared.stop.Stop.TheVariants.{NoMemory, ReadFault, TooLong, Fault, Place, FormsFull, TypesFull, NoSite}
use Rattle.mh_drawn.specs.Reading.{HasClassFault, IsClassFault, StopsBytes, StopsClass, StopsFile, StopsText, class_limit, text_limit}

pub text_unread : {T K : Type 0} (name : List ℕ) (word : K → List ℕ) (meaning : List ℕ → Result T (LineFault K)) (contents : Contents) (before now : ℕ)
    (stop : Stop) → StopsFile name text_limit contents before now stop → StopsText name word meaning contents before now stop
text_unread name word meaning contents before now NoMemory stops = tt
text_unread name word meaning contents before now (ReadFault at) stops = stops
text_unread name word meaning contents before now (TooLong at) stops = stops
text_unread name word meaning contents before now (Fault at line kind) stops = absurd stops
text_unread name word meaning contents before now (Place at place kind) stops = absurd stops
text_unread name word meaning contents before now FormsFull stops = absurd stops
text_unread name word meaning contents before now TypesFull stops = absurd stops
text_unread name word meaning contents before now (NoSite number count) stops = absurd stops

pub class_unread : (name : List ℕ) (room : ℕ) (contents : Contents) (before now : ℕ) (stop : Stop) → StopsFile name class_limit contents before now stop →
    StopsClass name room contents before now stop
class_unread name room contents before now NoMemory stops = tt
class_unread name room contents before now (ReadFault at) stops = stops
class_unread name room contents before now (TooLong at) stops = stops
class_unread name room contents before now (Fault at line kind) stops = absurd stops
class_unread name room contents before now (Place at place kind) stops = absurd stops
class_unread name room contents before now FormsFull stops = absurd stops
class_unread name room contents before now TypesFull stops = absurd stops
class_unread name room contents before now (NoSite number count) stops = absurd stops

-- the fault of the bytes is that of the file
has-fault : (room : ℕ) (contents : Contents) (bytes : List ℕ) (place : ℕ) (kind : List ℕ) → IsWhole contents bytes → length bytes ≤ class_limit →
    IsClassFault room bytes place kind → HasClassFault room contents place kind
has-fault room unknown bytes place kind whole few is = tt
has-fault room absent bytes place kind whole few is = absurd whole
has-fault room (file all) bytes place kind whole few is =
    subst (λ bs. (length bs ≤ class_limit) × IsClassFault room bs place kind) whole (few, is)

pub class_faulty : (name : List ℕ) (room : ℕ) (contents : Contents) (bytes : List ℕ) (before now : ℕ) (stop : Stop) → IsWhole contents bytes →
    length bytes ≤ class_limit → StopsBytes name room bytes stop → StopsClass name room contents before now stop
class_faulty name room contents bytes before now NoMemory whole few stops = tt
class_faulty name room contents bytes before now (ReadFault at) whole few stops = absurd stops
class_faulty name room contents bytes before now (TooLong at) whole few stops = absurd stops
class_faulty name room contents bytes before now (Fault at line kind) whole few stops = absurd stops
class_faulty name room contents bytes before now (Place at place kind) whole few stops =
    (stops.0, has-fault room contents bytes place kind.now whole few stops.1)
class_faulty name room contents bytes before now FormsFull whole few stops = absurd stops
class_faulty name room contents bytes before now TypesFull whole few stops = absurd stops
class_faulty name room contents bytes before now (NoSite number count) whole few stops = absurd stops
