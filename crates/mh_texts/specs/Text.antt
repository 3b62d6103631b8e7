-- Texts as they are printed, with escapes.
use Rattle.std.specs.Prelude.{ℕ, ◌==◌, nat_le, false, if◌then◌else◌, List, [], ◌∷◌, ◌++◌, codes, length, take, flat_map}
use Rattle.std.specs.Fmt.{digits}
use Rattle.mh_base.specs.Ascii.{backslash, comma, line_feed, space}
use Rattle.mh_texts.specs.Characters.{is_graphic}

-- how a character is printed by its number
abbrev pub numbered_char : ℕ → List ℕ
numbered_char c = codes "\\u{" ++ digits 16 false c ++ codes "}"

-- how a character is printed: by its own escape, as itself, or by its number
abbrev pub escaped_char : ℕ → List ℕ
escaped_char c =
    if c == space then codes "\\s"
    else (if c == comma then codes "\\c"
    else (if c == line_feed then codes "\\n"
    else (if c == backslash then codes "\\\\"
    else (if is_graphic c then c ∷ [] else numbered_char c))))

-- how characters are printed
abbrev pub escaped : List ℕ → List ℕ
escaped cs = flat_map escaped_char cs

-- a printed text is cut after 1,024 characters
abbrev pub cut : List ℕ → List ℕ
cut text = if nat_le (length text) 1024 then text else take 1024 text ++ codes "..."

-- a text as it is printed
abbrev pub shown_text : List ℕ → List ℕ
shown_text cs = cut (escaped cs)
