-- The kinds of fault of scripts, and which of two is reported.
use Rattle.std.specs.Prelude.{ℕ, nat_le, Bool, if◌then◌else◌, List, codes, Option, None, Some}
use Rattle.mh_script.specs.declared.kinds.ScriptKind.{ScriptKind}
use Rattle.mh_script.specs.declared.kinds.ScriptKind.TheVariants.{BadLine, Twice, TooLong, Undefined, WrongSort, BadDescriptor, BadLiteral, NoReturn}

-- the name of a kind of fault
abbrev pub kind_word : ScriptKind → List ℕ
kind_word BadLine = codes "BadLine"
kind_word Twice = codes "Twice"
kind_word TooLong = codes "TooLong"
kind_word Undefined = codes "Undefined"
kind_word WrongSort = codes "WrongSort"
kind_word BadDescriptor = codes "BadDescriptor"
kind_word BadLiteral = codes "BadLiteral"
kind_word NoReturn = codes "NoReturn"

-- the number of a kind: of the kinds that apply to a line, the one with the lowest number is reported
abbrev pub kind_number : ScriptKind → ℕ
kind_number BadLine = 1
kind_number Twice = 2
kind_number TooLong = 3
kind_number Undefined = 4
kind_number WrongSort = 5
kind_number BadDescriptor = 6
kind_number BadLiteral = 7
kind_number NoReturn = 8

-- the lower of two kinds
abbrev pub lower_kind : ScriptKind → ScriptKind → ScriptKind
lower_kind one other = if nat_le (kind_number one) (kind_number other) then one else other

-- the fault of two parts of a line
abbrev pub lower : Option ScriptKind → Option ScriptKind → Option ScriptKind
lower None other = other
lower (Some one) None = Some one
lower (Some one) (Some other) = Some (lower_kind one other)

-- a fault if a condition does not hold
abbrev pub fault_unless : Bool → ScriptKind → Option ScriptKind
fault_unless holds kind = if holds then None else Some kind
