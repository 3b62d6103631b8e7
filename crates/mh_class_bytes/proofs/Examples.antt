-- What the definitions say of some bytes, by computation.
use Rattle.std.proofs.Common.{◌≡◌, [], ◌∷◌, refl, Ok, Err}
use Rattle.mh_class_bytes.specs.Mutf8.{unit_bytes, unit_len, sound_len, sound_from}
use Rattle.mh_class_bytes.specs.Chars.{chars_of, chars_from, units_from, spelled, shown, shown_text}

zero_spelled : unit_bytes 0 ≡ 0xC0 ∷ 0x80 ∷ []
zero_spelled = refl

ascii_spelled : unit_bytes 0x41 ≡ 0x41 ∷ []
ascii_spelled = refl

two_spelled : unit_bytes 0x7FF ≡ 0xDF ∷ 0xBF ∷ []
two_spelled = refl

three_spelled : unit_bytes 0x800 ≡ 0xE0 ∷ 0xA0 ∷ 0x80 ∷ []
three_spelled = refl

half_spelled : unit_bytes 0xD800 ≡ 0xED ∷ 0xA0 ∷ 0x80 ∷ []
half_spelled = refl

zero_byte : sound_len (0 ∷ []) ≡ 0
unfolding sound_from unit_len
zero_byte = refl

zero_by_two : sound_len (0xC0 ∷ 0x80 ∷ []) ≡ 2
unfolding sound_from unit_len
zero_by_two = refl

long_spelling : sound_len (0x41 ∷ 0xE0 ∷ 0x80 ∷ 0x80 ∷ []) ≡ 1
unfolding sound_from unit_len
long_spelling = refl

four_bytes : sound_len (0x41 ∷ 0x42 ∷ 0xF0 ∷ 0x9F ∷ 0x98 ∷ 0x80 ∷ []) ≡ 2
unfolding sound_from unit_len
four_bytes = refl

cut_short : sound_len (0x41 ∷ 0xED ∷ 0xA0 ∷ []) ≡ 1
unfolding sound_from unit_len
cut_short = refl

-- U+1F600
supplementary : spelled (0x1F600 ∷ []) ≡ 0xED ∷ 0xA0 ∷ 0xBD ∷ 0xED ∷ 0xB8 ∷ 0x80 ∷ []
supplementary = refl

pair_joined : chars_of (0xED ∷ 0xA0 ∷ 0xBD ∷ 0xED ∷ 0xB8 ∷ 0x80 ∷ []) ≡ Ok (0x1F600 ∷ [])
unfolding units_from unit_len chars_from
pair_joined = refl

half_alone : chars_of (0x41 ∷ 0xED ∷ 0xA0 ∷ 0xBD ∷ 0x42 ∷ []) ≡ Err 1
unfolding units_from unit_len chars_from
half_alone = refl

half_shown : shown_text (0xED ∷ 0xB8 ∷ 0x80 ∷ 0xED ∷ 0xA0 ∷ 0xBD ∷ 0xED ∷ 0xA0 ∷ 0xBD ∷ 0xED ∷ 0xB8 ∷ 0x80 ∷ []) ≡ 0xFFFD ∷ 0xFFFD ∷ 0x1F600 ∷ []
unfolding units_from unit_len shown
half_shown = refl
