-- A printed text is cut, so no more of its characters matter than one more than are shown.
use Rattle.std.proofs.Common.{◌≡◌, sym, ap, ◌∙◌, ℕ, ◌≤◌, ◌<◌, ◌==◌, Bool, true, false, inl, inr, if◌then◌else◌, List, [], ◌∷◌, ◌++◌, append_assoc, codes, length, take, drop, length-append, length-take, take-append-drop, arith}
use Rattle.std.proofs.lemmas.Bool.{cases_lt, lt-leb}
use Rattle.std.proofs.lemmas.List.{take_all, take-append-le}
use Rattle.std.proofs.lemmas.List.Concat.{flat_map-append}
use Rattle.std.specs.Fmt.{digits}
use Rattle.mh_base.specs.Ascii.{backslash, comma, line_feed, space}
use Rattle.mh_texts.specs.Characters.{is_graphic}
use Rattle.mh_texts.specs.Text.{cut, escaped, escaped_char, numbered_char}

-- each character is printed as one byte or more
numbered-some : (c : ℕ) → 1 ≤ length (numbered_char c)
numbered-some c = omega (arith, length-append (codes "\\u{") (digits 16 false c ++ codes "}"))

some-bytes : (c : ℕ) (space comma feed slash graphic : Bool) → 1 ≤ length
    (if space then codes "\\s" else (if comma then codes "\\c" else (if feed then codes "\\n"
    else (if slash then codes "\\\\" else (if graphic then c ∷ [] else numbered_char c)))))
some-bytes c true comma feed slash graphic = omega arith
some-bytes c false true feed slash graphic = omega arith
some-bytes c false false true slash graphic = omega arith
some-bytes c false false false true graphic = omega arith
some-bytes c false false false false true = omega arith
some-bytes c false false false false false = numbered-some c

longer : (cs : List ℕ) → length cs ≤ length (escaped cs)
longer [] = omega arith
longer (c ∷ cs) =
    let some = some-bytes c (c == space) (c == comma) (c == line_feed) (c == backslash) (is_graphic c) in
    omega (arith, longer cs, some, length-append (escaped_char c) (escaped cs))

-- of a text that is cut, what is shown is its front
cut-is : (text : List ℕ) → 1024 < length text → cut text ≡ take 1024 text ++ codes "..."
cut-is text long = ap (λ t. if t then text else take 1024 text ++ codes "...") (lt-leb (length text) 1024 long)

cut-front : (front rest : List ℕ) → 1024 < length front → cut (front ++ rest) ≡ cut front
cut-front front rest long =
    cut-is (front ++ rest) (omega (arith, long, length-append front rest))
    ∙ (ap (λ t. t ++ codes "...") (take-append-le 1024 front rest (omega (arith, long))) ∙ sym (cut-is front long))

-- characters after the 1,025th do not matter
pub front_cut : (before cs : List ℕ) → cut (before ++ escaped (take 1025 cs)) ≡ cut (before ++ escaped cs)
front_cut before cs =
    let front = escaped (take 1025 cs) in
    let rest = escaped (drop 1025 cs) in
    elim (cases_lt 1025 (length cs)) [
      | inl more ↦
          let whole : escaped cs ≡ front ++ rest =
          sym (ap escaped (take-append-drop 1025 cs)) ∙ flat_map-append escaped_char (take 1025 cs) (drop 1025 cs) in
          let long : 1024 < length (before ++ front) =
          omega (arith, more, longer (take 1025 cs), length-take 1025 cs, length-append before front) in
          sym (ap (λ t. cut (before ++ t)) whole ∙ (ap cut (sym (append_assoc before front rest)) ∙ cut-front (before ++ front) rest long))
      | inr all ↦ ap (λ t. cut (before ++ escaped t)) (take_all 1025 cs all)
    ]
