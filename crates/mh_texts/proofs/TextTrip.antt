-- A printed text reads back.
use Rattle.std.proofs.Common.{◌≡◌, refl, sym, ap, subst, ◌∙◌, ℕ, ◌+◌, ◌<◌, ◌≤◌, ◌==◌, inl, inr, Bool, true, false, if◌then◌else◌, nat_lt, lit≤, List, [], ◌∷◌, ◌++◌, codes, length, Option, None, Some, option_map, option_and_then, append_assoc, arith}
use Rattle.std.proofs.lemmas.Bool.{cases_Bool, eqb-true, lt-ltb, le-leb}
use Rattle.std.proofs.lemmas.Fmt.{digits_is_IsNumeral}
use Rattle.std.proofs.lemmas.List.Concat.{flat_map-cons}
use Rattle.std.specs.Fmt.{digits}
use Rattle.std.specs.Str.Parse.{digits_value_after}
use Rattle.mh_texts.specs.declared.escape.Escape.TheVariants as escape
use Rattle.mh_texts.specs.Characters.{is_graphic}
use Rattle.mh_texts.specs.Escapes.{scalar, whole, goes_on, step, in_front, characters_from, if_short, text_of}
use Rattle.mh_texts.specs.Text.{escaped_char, escaped}
use Rattle.mh_texts.specs.Writable.{AreScalars}
use Rattle.mh_texts.proofs.HexTrip.{AreHexDigits, rest_of, none_in_front, hex_read, digits-hex, digits-short, scalar-low}

-- ---- one character

abbrev reads_back : List ℕ → ℕ → Type 0
reads_back rest c = characters_from escape.Outside (escaped_char c ++ rest) ≡ option_map (λ cs. c ∷ cs) (characters_from escape.Outside rest)

-- how a character is printed, by what it is
abbrev pub printed_by : ℕ → Bool → Bool → Bool → Bool → Bool → List ℕ
printed_by c space comma line backslash graphic =
    if space then codes "\\s"
    else (if comma then codes "\\c"
    else (if line then codes "\\n"
    else (if backslash then codes "\\\\"
    else (if graphic then c ∷ [] else codes "\\u{" ++ digits 16 false c ++ codes "}"))))

-- digits of a character's number, in braces
pub by_digits : (rest ds : List ℕ) (c : ℕ) → AreHexDigits ds → 0 < length ds → length ds ≤ 6 → digits_value_after 16 0 ds ≡ c → scalar c ≡ Some c →
    characters_from escape.Outside ((codes "\\u{" ++ ds ++ codes "}") ++ rest) ≡ option_map (λ cs. c ∷ cs) (characters_from escape.Outside rest)
by_digits rest ds c hex one short same is =
    let low : c < 0x110000 = scalar-low c is in
    let some : nat_lt 0 (0 + length ds) ≡ true = lt-ltb 0 (0 + length ds) (omega (arith, one)) in
    let joined = append_assoc ds (125 ∷ []) rest in
    let read = hex_read ds 0 0 (125 ∷ rest) hex (omega (arith, short)) (omega (arith, same)) in
    let closed : step (escape.Digits (0 + length ds) (digits_value_after 16 0 ds)) 125 ≡ whole c =
    ap (λ t. if t then option_and_then whole (scalar (digits_value_after 16 0 ds)) else None) some
    ∙ ap (λ n. option_and_then whole (scalar n)) same
    ∙ ap (option_and_then whole) is in
    none_in_front (option_map (in_front None) (option_map (in_front None) (characters_from (escape.Digits 0 0) ((ds ++ 125 ∷ []) ++ rest))))
    ∙ none_in_front (option_map (in_front None) (characters_from (escape.Digits 0 0) ((ds ++ 125 ∷ []) ++ rest)))
    ∙ none_in_front (characters_from (escape.Digits 0 0) ((ds ++ 125 ∷ []) ++ rest))
    ∙ ap (characters_from (escape.Digits 0 0)) joined
    ∙ read
    ∙ ap (option_and_then (rest_of rest)) closed

by_number : (rest : List ℕ) (c : ℕ) → scalar c ≡ Some c → characters_from escape.Outside ((codes "\\u{" ++ digits 16 false c ++ codes "}") ++ rest) ≡ option_map
    (λ cs. c ∷ cs) (characters_from escape.Outside rest)
by_number rest c is =
    let low : c < 0x110000 = scalar-low c is in
    let k = digits_is_IsNumeral 16 false (lit≤ tt) (lit≤ tt) c (omega arith) in
    by_digits rest (digits 16 false c) c (digits-hex c) k.0.0 (digits-short c low) k.1 is

pub by_itself : (rest : List ℕ) (c : ℕ) → (c == 92) ≡ false → is_graphic c ≡ true → characters_from escape.Outside (c ∷ rest) ≡ option_map (λ cs. c ∷ cs)
    (characters_from escape.Outside rest)
by_itself rest c other graphic =
    ap (option_and_then (rest_of rest)) (ap (λ t. if t then goes_on escape.Backslash else (if is_graphic c then whole c else None)) other ∙
    ap (λ t. if t then whole c else None) graphic)

-- one of the four characters that have an escape of their own
by_escape : (rest : List ℕ) (d : ℕ) (c : ℕ) → (c == d) ≡ true → reads_back rest d → reads_back rest c
by_escape rest d c same back = subst (reads_back rest) (sym (eqb-true c d same)) back

char_trip : (rest : List ℕ) (c : ℕ) → scalar c ≡ Some c → reads_back rest c
char_trip rest c is =
    let more : ℕ → Option (List ℕ) = λ d. option_map (in_front (Some d)) (characters_from escape.Outside rest) in
    elim (cases_Bool (c == 32)) [
      | inl e ↦ by_escape rest 32 c e (none_in_front (more 32))
      | inr space ↦ elim (cases_Bool (c == 44)) [
        | inl e ↦ by_escape rest 44 c e (none_in_front (more 44))
        | inr comma ↦ elim (cases_Bool (c == 10)) [
          | inl e ↦ by_escape rest 10 c e (none_in_front (more 10))
          | inr line ↦ elim (cases_Bool (c == 92)) [
            | inl e ↦ by_escape rest 92 c e (none_in_front (more 92))
            | inr backslash ↦
                let shape : escaped_char c ≡ printed_by c false false false false (is_graphic c) =
                ap (λ t. printed_by c t (c == 44) (c == 10) (c == 92) (is_graphic c)) space
                ∙ ap (λ t. printed_by c false t (c == 10) (c == 92) (is_graphic c)) comma
                ∙ ap (λ t. printed_by c false false t (c == 92) (is_graphic c)) line
                ∙ ap (λ t. printed_by c false false false t (is_graphic c)) backslash in
                let printed : reads_back rest c = ap (λ t. characters_from escape.Outside (t ++ rest)) shape ∙ elim (cases_Bool (is_graphic c)) [
                  | inl g ↦ ap (λ t. characters_from escape.Outside (printed_by c false false false false t ++ rest)) g ∙ by_itself rest c backslash g
                  | inr g ↦ ap (λ t. characters_from escape.Outside (printed_by c false false false false t ++ rest)) g ∙ by_number rest c is
                ] in
                printed
          ]
        ]
      ]
    ]

-- ---- whole texts

characters_trip : (cs : List ℕ) → AreScalars cs → characters_from escape.Outside (escaped cs) ≡ Some cs
characters_trip [] is = refl
characters_trip (c ∷ cs) is = ap (characters_from escape.Outside) (flat_map-cons escaped_char c cs) ∙ char_trip (escaped cs) c is.0 ∙
    ap (option_map (λ ds. c ∷ ds)) (characters_trip cs is.1)

-- what is printed of a text, uncut, is read as the text
pub text_trip : (cs : List ℕ) → AreScalars cs → length cs ≤ 4096 → text_of (escaped cs) ≡ Some cs
text_trip cs is short = ap (option_and_then if_short) (characters_trip cs is) ∙ ap (λ t. if t then Some cs else None) (le-leb (length cs) 4096 short)
