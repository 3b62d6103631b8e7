-- A text as lines, a line as tokens, and what lines build one after the other.
use Rattle.std.specs.Prelude.{◌≡◌, ℕ, ◌+◌, ◌==◌, Bool, true, not, ◌&&◌, nat_le, List, [], ◌∷◌, ◌++◌, codes, length, take, drop, position, Option, option_map, Result, Ok, Err}
use Rattle.std.specs.List.{join_with_byte, slice_split, list_all}
use Rattle.mh_base.specs.Ascii.{line_feed, number_sign, space}
use Rattle.mh_base.specs.declared.lines.LineFault.{LineFault}
use Rattle.mh_base.specs.declared.lines.LineError.{LineError}
use Rattle.mh_base.specs.declared.lines.LineError.TheVariants as line_error

-- LF ends a line; what follows the last LF is a line too
abbrev pub lines_of : List ℕ → List (List ℕ)
lines_of text = slice_split (λ b. b == line_feed) text

-- the tokens of a line, between single spaces
abbrev pub tokens_of : List ℕ → List (List ℕ)
tokens_of line = slice_split (λ b. b == space) line

-- a token that is not empty
abbrev pub is_full : List ℕ → Bool
is_full token = not (length token == 0)

-- a line of tokens, with a space between two of them, and LF at its end
abbrev pub line_text : List (List ℕ) → List ℕ
line_text tokens = join_with_byte space tokens ++ codes "\n"

-- a text before the first place of a byte, and after it
abbrev pub cut_at : ℕ → List ℕ → Option (List ℕ × List ℕ)
cut_at byte text = option_map (λ at. (take at text, drop (at + 1) text)) (position (λ b. b == byte) text)

-- a line that is passed over: an empty one, or one that begins with `#`
abbrev pub is_passed : List ℕ → Bool
is_passed [] = true
is_passed (b ∷ bs) = b == number_sign

-- a line with only bytes from 0x20 to 0x7E
abbrev pub is_plain : List ℕ → Bool
is_plain line = list_all (λ b. nat_le 0x20 b && nat_le b 0x7E) line

-- the fault of a line
abbrev pub fault_at : {K : Type 0} → ℕ → K → LineFault K
fault_at n kind = record { line = n; kind = kind }

-- goes on after a line that was taken, and stops at one that has a fault
abbrev pub after_line : {S K : Type 0} → ℕ → Result S K → (S → Result S (LineFault K)) → Result S (LineFault K)
after_line n (Ok next) rest = rest next
after_line n (Err kind) rest = Err (fault_at n kind)

-- what lines, counted from a number, build from a start; or the first that has no meaning there
abbrev pub built_from : {S K : Type 0} → (S → List ℕ → Result S K) → ℕ → S → List (List ℕ) → Result S (LineFault K)
built_from step n so_far [] = Ok so_far
built_from step n so_far (line ∷ lines) = after_line n (step so_far line) (λ next. built_from step (n + 1) next lines)

-- What a reader answers that took a line of this meaning, with its new state: Ok if the state is the meaning's value, or the meaning's kind of fault. About
-- lack of memory nothing is said.
abbrev pub TakesLine : {T S K : Type 0} → S → Result T (LineError K) → Result S K → Type 0
TakesLine new (Ok done) meaning = meaning ≡ Ok new
TakesLine new (Err line_error.NoMemory) meaning = Unit {0}
TakesLine new (Err (line_error.Kind kind)) meaning = meaning ≡ Err kind

-- the same of a reader that answers with a value: Ok if that is the meaning's value
abbrev pub TellsLine : {S K : Type 0} → Result S (LineError K) → Result S K → Type 0
TellsLine (Ok got) meaning = meaning ≡ Ok got
TellsLine (Err line_error.NoMemory) meaning = Unit {0}
TellsLine (Err (line_error.Kind kind)) meaning = meaning ≡ Err kind
