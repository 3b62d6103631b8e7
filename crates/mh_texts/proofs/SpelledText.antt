-- Characters that are read from a text are spelled by it.
use Rattle.std.proofs.Common.{◌≡◌, refl, sym, ap, subst, ◌∙◌, ℕ, ◌+◌, ◌*◌, ◌<◌, ◌≤◌, ◌==◌, true, ◌&&◌, if◌then◌else◌, nat_le, nat_lt, List, [], ◌∷◌, ◌++◌, length, Option, None, Some, option_map, append_assoc, length-append, arith}
use Rattle.std.proofs.lemmas.Bool.{and_parts, ltb-true, leb-true, eqb-true}
use Rattle.std.specs.List.{list_all}
use Rattle.std.specs.Str.Parse.{digits_value}
use Rattle.mh_texts.specs.declared.escape.Escape.{Escape}
use Rattle.mh_texts.specs.declared.escape.Escape.TheVariants as escape
use Rattle.mh_texts.specs.Characters.{is_graphic, is_hex_digit, is_scalar, SpellsCharacter, itself, space, comma, line, backslash, numbered, SpellsCharacters, SpellsText}
use Rattle.mh_texts.specs.Escapes.{hex_value, scalar, whole, goes_on, after_backslash, one_digit_more, within_braces, step, in_front, is_outside, characters_from, if_short, text_of}
use Rattle.mh_base.proofs.Inversion.{by_test, some_is, none_is_not, map_some, then_some}
use Rattle.mh_texts.proofs.SpelledDigits.{all_push, value_push, hex_is}

-- ---- what was read of an escape

-- digits that give a number
pub record AreDigits (count value : ℕ) (digits : List ℕ) : Type 0 where
  pub hex : list_all is_hex_digit digits ≡ true
  pub many : length digits ≡ count
  pub few : count ≤ 6
  pub is : digits_value 16 digits ≡ value

-- what was read before, where an escape is begun
abbrev IsBegun : Escape → List ℕ → Type 0
IsBegun escape.Outside begun = begun ≡ []
IsBegun escape.Backslash begun = begun ≡ 92 ∷ []
IsBegun escape.Code begun = begun ≡ 92 ∷ 117 ∷ []
IsBegun (escape.Digits count value) begun = (digits : List ℕ) × (begun ≡ 92 ∷ 117 ∷ 123 ∷ digits) × AreDigits count value digits

-- what one byte more gives: a character that is spelled, or an escape that goes on
pub record Steps (begun : List ℕ) (b : ℕ) (s : Escape × Option ℕ) : Type 0 where
  pub goes : (s.1 ≡ None) → IsBegun s.0 (begun ++ b ∷ [])
  pub ends : (c : ℕ) → s.1 ≡ Some c → IsBegun s.0 [] × SpellsCharacter (begun ++ b ∷ []) c

a_whole : (begun : List ℕ) (b c : ℕ) (s : Escape × Option ℕ) → whole c ≡ Some s → SpellsCharacter (begun ++ b ∷ []) c → Steps begun b s
a_whole begun b c s told is = subst (Steps begun b) (some_is _ _ told) (record {
  goes = λ h. absurd cc;
  ends = λ d h. (refl, subst (SpellsCharacter (begun ++ b ∷ [])) (some_is c d h) is);
})

a_part : (begun : List ℕ) (b : ℕ) (e : Escape) (s : Escape × Option ℕ) → goes_on e ≡ Some s → IsBegun e (begun ++ b ∷ []) → Steps begun b s
a_part begun b e s told is = subst (Steps begun b) (some_is _ _ told) (record { goes = λ h. is; ends = λ d h. absurd cc })

outside_steps : (b : ℕ) (s : Escape × Option ℕ) → step escape.Outside b ≡ Some s → Steps [] b s
outside_steps b s told =
    by_test (b == 92) (goes_on escape.Backslash) (if is_graphic b then whole b else None) (Some s) told
    (λ e is. a_part [] b escape.Backslash s is (ap (λ c. c ∷ []) (eqb-true b 92 e)))
    (λ e is. by_test (is_graphic b) (whole b) None (Some s) is (λ g is. a_whole [] b b s is (itself b g e)) (λ g is. none_is_not s is))

-- one of the escapes of one letter
letter_steps : (b d c : ℕ) (s : Escape × Option ℕ) → (b == d) ≡ true → whole c ≡ Some s → SpellsCharacter (92 ∷ d ∷ []) c → Steps (92 ∷ []) b s
letter_steps b d c s e told is = a_whole (92 ∷ []) b c s told (subst (λ t. SpellsCharacter (92 ∷ t ∷ []) c) (sym (eqb-true b d e)) is)

backslash_steps : (b : ℕ) (s : Escape × Option ℕ) → after_backslash b ≡ Some s → Steps (92 ∷ []) b s
backslash_steps b s told =
    by_test (b == 115) _ _ (Some s) told (λ e is. letter_steps b 115 32 s e is space) (λ e is.
    by_test (b == 99) _ _ (Some s) is (λ e is. letter_steps b 99 44 s e is comma) (λ e is.
    by_test (b == 110) _ _ (Some s) is (λ e is. letter_steps b 110 10 s e is line) (λ e is.
    by_test (b == 92) _ _ (Some s) is (λ e is. letter_steps b 92 92 s e is backslash) (λ e is.
    by_test (b == 117) _ _ (Some s) is (λ e is. a_part (92 ∷ []) b escape.Code s is (ap (λ t. 92 ∷ t ∷ []) (eqb-true b 117 e)))
    (λ e is. none_is_not s is)))))

code_steps : (b : ℕ) (s : Escape × Option ℕ) → step escape.Code b ≡ Some s → Steps (92 ∷ 117 ∷ []) b s
code_steps b s told =
    by_test (b == 123) _ _ (Some s) told
    (λ e is. a_part (92 ∷ 117 ∷ []) b (escape.Digits 0 0) s is
    ([], ap (λ t. 92 ∷ 117 ∷ t ∷ []) (eqb-true b 123 e), record { hex = refl; many = refl; few = omega arith; is = refl }))
    (λ e is. none_is_not s is)

digits_step : (count value d b : ℕ) (digits : List ℕ) → AreDigits count value digits → count < 6 → hex_value b ≡ Some d →
    AreDigits (count + 1) (16 * value + d) (digits ++ b ∷ [])
digits_step count value d b digits are few hex =
    let digit = hex_is b d hex in
    record {
      hex = all_push is_hex_digit digits b are.hex digit.0;
      many = omega (arith, length-append digits (b ∷ []), are.many);
      few = omega arith;
      is = value_push 0 digits b ∙ omega (arith, are.is, digit.1);
    }

scalar_is : (n c : ℕ) → scalar n ≡ Some c → (is_scalar n ≡ true) × (n ≡ c)
scalar_is n c told = by_test (is_scalar n) (Some n) None (Some c) told (λ e is. (e, some_is n c is)) (λ e is. none_is_not c is)

braces_step : (count value b : ℕ) (digits : List ℕ) (s : Escape × Option ℕ) → AreDigits count value digits → within_braces count value b ≡ Some s →
    Steps (92 ∷ 117 ∷ 123 ∷ digits) b s
braces_step count value b digits s are told =
    let begun : List ℕ = 92 ∷ 117 ∷ 123 ∷ digits in
    by_test (b == 125) _ _ (Some s) told
    (λ e is. by_test (nat_lt 0 count) _ _ (Some s) is
    (λ some is.
    let read = then_some whole (scalar value) s is in
    let number = scalar_is value read.0 read.1 in
    let one : 0 < length digits = omega (arith, ltb-true 0 count some, are.many) in
    let short : length digits ≤ 6 = omega (arith, are.many, are.few) in
    let char : SpellsCharacter (begun ++ 125 ∷ []) (digits_value 16 digits) =
    numbered digits are.hex one short (ap is_scalar are.is ∙ number.0) in
    a_whole begun b read.0 s read.2 (subst (λ c. SpellsCharacter (begun ++ b ∷ []) c) (are.is ∙ number.1)
    (subst (λ t. SpellsCharacter (begun ++ t ∷ []) (digits_value 16 digits)) (sym (eqb-true b 125 e)) char)))
    (λ none is. none_is_not s is))
    (λ e is.
    let read = then_some (one_digit_more count value) (hex_value b) s is in
    by_test (nat_lt count 6 && nat_le (16 * value + read.0) 0x10FFFF) _ _ (Some s) read.2
    (λ fits is. a_part begun b (escape.Digits (count + 1) (16 * value + read.0)) s is (
      digits ++ b ∷ [],
      refl,
      digits_step count value read.0 b digits are (ltb-true count 6 (and_parts _ _ fits).0) read.1,
    ))
    (λ fits is. none_is_not s is))

steps : (e : Escape) (begun : List ℕ) (b : ℕ) (s : Escape × Option ℕ) → IsBegun e begun → step e b ≡ Some s → Steps begun b s
steps escape.Outside begun b s is told = subst (λ t. Steps t b s) (sym is) (outside_steps b s told)
steps escape.Backslash begun b s is told = subst (λ t. Steps t b s) (sym is) (backslash_steps b s told)
steps escape.Code begun b s is told = subst (λ t. Steps t b s) (sym is) (code_steps b s told)
steps (escape.Digits count value) begun b s is told =
    subst (λ t. Steps t b s) (sym is.1) (braces_step count value b is.0 s is.2 told)

-- ---- whole texts

ends_outside : (e : Escape) (begun cs : List ℕ) → IsBegun e begun → (if is_outside e then Some [] else None) ≡ Some cs → SpellsCharacters (begun ++ []) cs
ends_outside escape.Outside begun cs is told = subst (λ t. SpellsCharacters (t ++ []) cs) (sym is) (subst (SpellsCharacters []) (some_is [] cs told) refl)
ends_outside escape.Backslash begun cs is told = absurd cc
ends_outside escape.Code begun cs is told = absurd cc
ends_outside (escape.Digits count value) begun cs is told = absurd cc

-- after one step, from what is then spelled
one_more : (begun : List ℕ) (b : ℕ) (bs cs ds : List ℕ) (e : Escape) (o : Option ℕ) → Steps begun b (e, o) → in_front o ds ≡ cs →
    ((more : List ℕ) → IsBegun e more → SpellsCharacters (more ++ bs) ds) → SpellsCharacters (begun ++ b ∷ bs) cs
one_more begun b bs cs ds e None step is rest =
    subst (SpellsCharacters (begun ++ b ∷ bs)) is
    (subst (λ t. SpellsCharacters t ds) (append_assoc begun (b ∷ []) bs) (rest (begun ++ b ∷ []) (step.goes refl)))
one_more begun b bs cs ds e (Some c) step is rest =
    let ends = step.ends c refl in
    subst (SpellsCharacters (begun ++ b ∷ bs)) is (begun ++ b ∷ [], bs, sym (append_assoc begun (b ∷ []) bs), ends.1, rest [] ends.0)

characters_spelled : (bs : List ℕ) (e : Escape) (begun cs : List ℕ) → IsBegun e begun → characters_from e bs ≡ Some cs → SpellsCharacters (begun ++ bs) cs
characters_spelled [] e begun cs is told = ends_outside e begun cs is told
characters_spelled (b ∷ bs) e begun cs is told =
    let read = then_some (λ s. option_map (in_front s.1) (characters_from s.0 bs)) (step e b) cs told in
    let more = map_some (in_front read.0.1) (characters_from read.0.0 bs) cs read.2 in
    one_more begun b bs cs more.0 read.0.0 read.0.1 (steps e begun b read.0 is read.1) more.2
    (λ front so. characters_spelled bs read.0.0 front more.0 so more.1)

-- a text that is read spells what was read
pub text_spelled : (bytes cs : List ℕ) → text_of bytes ≡ Some cs → SpellsText bytes cs
text_spelled bytes cs told =
    let read = then_some if_short (characters_from escape.Outside bytes) cs told in
    by_test (nat_le (length read.0) 4096) (Some read.0) None (Some cs) read.2
    (λ short is. subst (SpellsText bytes) (some_is read.0 cs is) (characters_spelled bytes escape.Outside [] read.0 refl read.1, leb-true _ _ short))
    (λ short is. none_is_not cs is)
