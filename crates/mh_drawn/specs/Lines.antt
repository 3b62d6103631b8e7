-- What is written if nothing is shown, and the status that it comes with.
use Rattle.std.specs.Prelude.{ℕ, List, [], ◌++◌, codes}
use Rattle.std.specs.Fmt.{decimal}
use Rattle.mh_class_pool.specs.declared.fault.ClassKind.{ClassKind}
use Rattle.mh_class_pool.specs.declared.fault.ClassKind.TheVariants as kind
use Rattle.mh_drawn.specs.declared.stop.Stop.{Stop}
use Rattle.mh_drawn.specs.declared.stop.Stop.TheVariants.{NoMemory, ReadFault, TooLong, Fault, Place, FormsFull, TypesFull, NoSite}
use Rattle.mh_drawn.specs.Status.{forms_full, no_memory, refused, types_full, unread}

-- the line for refused words
abbrev pub usage_line : List ℕ
usage_line = codes "usage: mh_draw [--mode run] --leaves F --scripts F [--plan F] [--why A B] [CLASS]...\n"

-- the name of a kind of fault of a class file
abbrev pub class_word : ClassKind → List ℕ
class_word kind.Truncated = codes "Truncated"
class_word kind.BadMagic = codes "BadMagic"
class_word kind.BadVersion = codes "BadVersion"
class_word kind.BadTag = codes "BadTag"
class_word kind.BadIndex = codes "BadIndex"
class_word kind.WrongKind = codes "WrongKind"
class_word kind.BadText = codes "BadText"
class_word kind.BadCode = codes "BadCode"
class_word kind.BadBootstraps = codes "BadBootstraps"
class_word kind.Trailing = codes "Trailing"
class_word kind.TooManySites = codes "TooManySites"
class_word kind.BadDescriptor = codes "BadDescriptor"
class_word kind.TooManyConstants = codes "TooManyConstants"

-- a line that refuses an input for a fault of this name, at the place that this word and this number give
abbrev pub fault_line : List ℕ → List ℕ → ℕ → List ℕ → List ℕ
fault_line name word at fault = codes "refused " ++ name ++ word ++ decimal at ++ codes " " ++ fault ++ codes "\n"

-- a line with the name of an input
abbrev pub named_line : List ℕ → List ℕ → List ℕ → List ℕ
named_line before name after = before ++ name ++ after

-- the line for a call site that is not there
abbrev pub no_site_line : ℕ → ℕ → List ℕ
no_site_line number count = codes "refused --why: there is no site " ++ decimal number ++ codes " among " ++ decimal count ++ codes "\n"

-- the line that says why nothing is shown
abbrev pub stop_line : Stop → List ℕ
stop_line NoMemory = []
stop_line (ReadFault at) = named_line (codes "cannot read ") at.now (codes "\n")
stop_line (TooLong at) = named_line (codes "refused ") at.now (codes " too long\n")
stop_line (Fault at line kind) = fault_line at.now (codes " line ") line kind.now
stop_line (Place at place kind) = fault_line at.now (codes " at ") place kind.now
stop_line FormsFull = codes "forms full\n"
stop_line TypesFull = codes "types full\n"
stop_line (NoSite number count) = no_site_line number count

-- the status that a stop comes with
abbrev pub stop_status : Stop → ℕ
stop_status NoMemory = no_memory
stop_status (ReadFault at) = unread
stop_status (TooLong at) = refused
stop_status (Fault at line kind) = refused
stop_status (Place at place kind) = refused
stop_status FormsFull = forms_full
stop_status TypesFull = types_full
stop_status (NoSite number count) = refused
