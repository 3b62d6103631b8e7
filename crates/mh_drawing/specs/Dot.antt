-- Texts in the language DOT of Graphviz: labels in quotes, of lines that end with `\l`, which sets them to the left.
use Rattle.std.specs.Prelude.{ℕ, ◌==◌, nat_le, if◌then◌else◌, List, [], ◌∷◌, ◌++◌, codes, flat_map, length, take}
use Rattle.std.specs.Fmt.{decimal}

-- a character in quotes: a backslash stands before a quote and before a backslash
abbrev pub quoted_char : ℕ → List ℕ
quoted_char c = if c == 34 then codes "\\\"" else (if c == 92 then codes "\\\\" else c ∷ [])

-- a text in quotes
abbrev pub quoted : List ℕ → List ℕ
quoted text = flat_map quoted_char text

-- a text of a label is cut after 48 characters
abbrev pub short : List ℕ → List ℕ
short text = if nat_le (length text) 48 then text else take 48 text ++ codes "..."

-- a line of a label
abbrev pub label_line : List ℕ → List ℕ
label_line text = quoted (short text) ++ codes "\\l"

-- the node of a form, by its number
abbrev pub form_node : ℕ → List ℕ
form_node number = codes "f" ++ decimal number

-- the box of a call site, by its number
abbrev pub site_node : ℕ → List ℕ
site_node number = codes "s" ++ decimal number
