-- A text that spells characters is read as them.
use Rattle.std.proofs.Common.{◌≡◌, refl, ap, ◌∙◌, ℕ, true, if◌then◌else◌, List, [], ◌∷◌, ◌++◌, length, None, Some, option_map, option_and_then}
use Rattle.std.proofs.lemmas.Bool.{and_parts, le-leb}
use Rattle.std.specs.List.{list_all}
use Rattle.std.specs.Str.Parse.{digits_value}
use Rattle.mh_texts.specs.declared.escape.Escape.TheVariants as escape
use Rattle.mh_texts.specs.Characters.{is_hex_digit, SpellsCharacter, itself, space, comma, line, backslash, numbered, SpellsCharacters, SpellsText}
use Rattle.mh_texts.specs.Escapes.{in_front, characters_from, if_short, text_of}
use Rattle.mh_texts.proofs.HexTrip.{AreHexDigits, none_in_front}
use Rattle.mh_texts.proofs.SpelledDigits.{hex_has}
use Rattle.mh_texts.proofs.TextTrip.{by_digits, by_itself}

are_hex : (ds : List ℕ) → list_all is_hex_digit ds ≡ true → AreHexDigits ds
are_hex [] all = tt
are_hex (d ∷ ds) all = let parts = and_parts (is_hex_digit d) (list_all is_hex_digit ds) all in (hex_has d parts.0, are_hex ds parts.1)

-- a text that begins with a character's spelling
abbrev ReadsFirst : List ℕ → ℕ → List ℕ → Type 0
ReadsFirst front c rest = characters_from escape.Outside (front ++ rest) ≡ option_map (λ cs. c ∷ cs) (characters_from escape.Outside rest)

character_read : {front : List ℕ} {c : ℕ} → SpellsCharacter front c → (rest : List ℕ) → ReadsFirst front c rest
character_read (itself c graphic other) rest = by_itself rest c other graphic
character_read space rest = none_in_front (option_map (in_front (Some 32)) (characters_from escape.Outside rest))
character_read comma rest = none_in_front (option_map (in_front (Some 44)) (characters_from escape.Outside rest))
character_read line rest = none_in_front (option_map (in_front (Some 10)) (characters_from escape.Outside rest))
character_read backslash rest = none_in_front (option_map (in_front (Some 92)) (characters_from escape.Outside rest))
character_read (numbered ds hex one short scalar) rest =
    by_digits rest ds (digits_value 16 ds) (are_hex ds hex) one short refl (ap (λ t. if t then Some (digits_value 16 ds) else None) scalar)

characters_read : (cs text : List ℕ) → SpellsCharacters text cs → characters_from escape.Outside text ≡ Some cs
characters_read [] text is = ap (characters_from escape.Outside) is
characters_read (c ∷ cs) text is =
    let front : List ℕ = is.0 in
    ap (characters_from escape.Outside) is.2 ∙ character_read is.3 is.1 ∙ ap (option_map (λ ds. c ∷ ds)) (characters_read cs is.1 is.4)

pub text_read : (text cs : List ℕ) → SpellsText text cs → text_of text ≡ Some cs
text_read text cs is =
    ap (option_and_then if_short) (characters_read cs text is.0) ∙ ap (λ t. if t then Some cs else None) (le-leb (length cs) 4096 is.1)
