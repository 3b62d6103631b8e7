-- A text cut at a byte: the parts, and that the first lacks the byte.
use Rattle.std.proofs.Common.{◌≡◌, refl, sym, ap, subst, ◌∙◌, suc, ℕ, ◌+◌, ◌<◌, ◌==◌, inl, inr, Bool, true, false, not, cond, nat_lt, List, [], ◌∷◌, ◌++◌, length, take, drop, None, Some, arith}
use Rattle.std.proofs.lemmas.Bool.{cases_Bool, eqb-true, ltb-true, and_parts, and_from, not-true, not_from_false}
use Rattle.std.specs.List.{list_all, position_or_len}
use Rattle.mh_base.specs.Lines.{cut_at}
use Rattle.mh_texts.specs.Spells.{LacksByte}
use Rattle.mh_base.proofs.Inversion.{map_some, some_is}
use Rattle.mh_base.proofs.Cuts as trip

-- the two ways to say that a text lacks a byte
pub lacks_each : (byte : ℕ) (text : List ℕ) → LacksByte byte text → trip.Lacks byte text
lacks_each byte [] lacks = tt
lacks_each byte (b ∷ bs) lacks =
    let parts = and_parts (not (b == byte)) (list_all (λ b. not (b == byte)) bs) lacks in
    (not-true _ parts.0, lacks_each byte bs parts.1)

pub each_lacks : (byte : ℕ) (text : List ℕ) → trip.Lacks byte text → LacksByte byte text
each_lacks byte [] lacks = refl
each_lacks byte (b ∷ bs) lacks =
    and_from (not (b == byte)) (list_all (λ b. not (b == byte)) bs) (not_from_false (b == byte) lacks.0) (each_lacks byte bs lacks.1)

-- a text around the first place of a byte
record IsAround (byte : ℕ) (text : List ℕ) (n : ℕ) : Type 0 where
  is : text ≡ take n text ++ byte ∷ drop (n + 1) text
  lacks : LacksByte byte (take n text)

around_first : (byte : ℕ) (text : List ℕ) → position_or_len (λ b. b == byte) text < length text → IsAround byte text (position_or_len (λ b. b == byte) text)
around_first byte [] within = absurd (omega (arith, within))
around_first byte (b ∷ bs) within =
    let later : ℕ = position_or_len (λ b. b == byte) bs in
    elim (cases_Bool (b == byte)) [
      | inl e ↦
          let here : position_or_len (λ b. b == byte) (b ∷ bs) ≡ 0 = ap (λ t. cond (not t) (1 + later) 0) e in
          subst (IsAround byte (b ∷ bs)) (sym here) (record { is = ap (λ c. c ∷ bs) (eqb-true b byte e); lacks = refl })
      | inr e ↦
          let there : position_or_len (λ b. b == byte) (b ∷ bs) ≡ suc later = ap (λ t. cond (not t) (1 + later) 0) e ∙ omega arith in
          let rest = around_first byte bs (omega (arith, within, there)) in
          let next : suc later + 1 ≡ suc (later + 1) = omega arith in
          subst (IsAround byte (b ∷ bs)) (sym there) (record {
            is = ap (λ t. b ∷ t) rest.is ∙ ap (λ n. b ∷ (take later bs ++ byte ∷ drop n (b ∷ bs))) (sym next);
            lacks = and_from (not (b == byte)) (list_all (λ b. not (b == byte)) (take later bs)) (not_from_false (b == byte) e) rest.lacks;
          })
    ]

place_is : (t : Bool) (n at : ℕ) → cond t (Some n) None ≡ Some at → (t ≡ true) × (n ≡ at)
place_is true n at told = (refl, some_is n at told)
place_is false n at told = absurd cc

-- what a cut gives
pub cut_is : (byte : ℕ) (text : List ℕ) (parts : List ℕ × List ℕ) → cut_at byte text ≡ Some parts → (text ≡ parts.0 ++ byte ∷ parts.1) × LacksByte byte parts.0
cut_is byte text parts told =
    let first : ℕ = position_or_len (λ b. b == byte) text in
    let read = map_some (λ at. (take at text, drop (at + 1) text)) _ parts told in
    let place = place_is (nat_lt first (length text)) first read.0 read.1 in
    let around = around_first byte text (ltb-true first (length text) place.0) in
    let same : (take first text, drop (first + 1) text) ≡ parts = ap (λ n. (take n text, drop (n + 1) text)) place.1 ∙ read.2 in
    subst (λ p. (text ≡ p.0 ++ byte ∷ p.1) × LacksByte byte p.0) same (around.is, around.lacks)

pub cut_read : (byte : ℕ) (front rest : List ℕ) → LacksByte byte front → cut_at byte (front ++ byte ∷ rest) ≡ Some (front, rest)
cut_read byte front rest lacks = trip.cut_found byte front rest (lacks_each byte front lacks)
