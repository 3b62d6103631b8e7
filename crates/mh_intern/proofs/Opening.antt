-- The start of a table of holders, and its buckets dealt to keepers.
use Rattle.std.proofs.Common.{◌≡◌, ℕ, zero, suc, ◌+◌, ◌-◌, ◌<◌, ◌≤◌, ◌≢◌, ◌==◌, Bool, true, false, List, [], ◌∷◌, length, drop, slice_index, replicate, sym, refl, ap, ◌∙◌, subst, arith}
use Rattle.std.proofs.lemmas.List.{length-replicate, get_or-replicate}
use Rattle.std.proofs.lemmas.List.Elements.{All-nil}
use Rattle.std.proofs.lemmas.List.Sums.{sum_by-cons}
use Rattle.std.proofs.lemmas.Bool.{eqb-true, eq-eqb, ne_eqb}
use mathlib.Core.Option.{some, some-injective, some-ne-none}
use lib.ListN.{get_elem?}
use Rattle.atomic_table.specs.Table.{opening}
use Rattle.mh_intern.specs.declared.holding.Holding.{Holding}
use Rattle.mh_intern.specs.Held.{IsFull, Fits, Held}
use Rattle.mh_seats.specs.Room.{times}
use Rattle.mh_intern.specs.Kinds.{up_from, first, without_first, first_keeper, dealt, at_rest}
use Rattle.mh_intern.proofs.Measures.{count_cons}
use Rattle.mh_intern.proofs.Entries.{bit}

never_before : (b a n : ℕ) → b < a → times b (up_from a n) ≡ 0
never_before b a zero lt = refl
never_before b a (suc n) lt =
    let o : bit (a == b) ≡ 0 = ap bit (ne_eqb a b (λ e. omega arith)) in
    omega (arith, count_cons (λ (y : ℕ). y == b) a (up_from (suc a) n), never_before b (suc a) n (omega arith))

once_among : (b a n : ℕ) → a ≤ b → b < a + n → times b (up_from a n) ≡ 1
once_among b a zero le lt = absurd (omega arith)
once_among b a (suc n) le lt = at (a == b) refl (λ le'. once_among b (suc a) n le' (omega arith))
  where
    at : (t : Bool) → (a == b) ≡ t → (suc a ≤ b → times b (up_from (suc a) n) ≡ 1) → times b (a ∷ up_from (suc a) n) ≡ 1
    at true q later =
        let o : bit (a == b) ≡ 1 = ap bit q in let e : a ≡ b = eqb-true a b q in
        omega (arith, count_cons (λ (y : ℕ). y == b) a (up_from (suc a) n), never_before b (suc a) n (omega arith))
    at false q later =
        let o : bit (a == b) ≡ 0 = ap bit q in
        let apart : a ≢ b = λ e. let t : (a == b) ≡ true = eq-eqb a b e in cc in
        omega (arith, count_cons (λ (y : ℕ). y == b) a (up_from (suc a) n), later (omega arith))

fits_first : Fits first
fits_first = record { slots = λ k none. refl; types = λ t none. refl; zeros = λ k none. refl; full = All-nil IsFull; idle = λ none t. refl }

pub opens : Held (opening (replicate 2048 0) [] first)
opens = record {
  wide = length-replicate {A = ℕ} 2048 0;
  words = λ k lt. get_or-replicate 2048 k 0 0 lt;
  whole = refl;
  keepers = λ b lt. omega (arith, sum_by-cons (λ (u : Holding). times b u.keeps) first [], once_among b 0 64 (omega arith) (omega arith));
  slots = λ k. omega arith;
  types = λ t. omega arith;
  held = λ k t none. refl;
  zeros = λ k lt. absurd (omega arith);
  asked = λ t none. refl;
  each = only;
}
  where
    only : (i : ℕ) (u : Holding) → get_elem? (first ∷ []) i ≡ some u → Fits u
    only zero u e = subst Fits (some-injective first u e) fits_first
    only (suc i) u e = absurd (some-ne-none u (sym e))

pub head_and_rest : (l : List ℕ) → 0 < length l → l ≡ slice_index l 0 ∷ drop 1 l
head_and_rest [] lt = absurd (omega arith)
head_and_rest (x ∷ xs) lt = refl

-- the next keeper
pub deals : (b : ℕ) → b < 64 → (0 < length (dealt b).keeps) × (without_first (dealt b) ≡ dealt (b + 1)) × (first_keeper (dealt b) ≡ at_rest b [])
deals b lt =
    let e : up_from b (64 - b) ≡ b ∷ up_from (suc b) (63 - b) = ap (up_from b) (let q : 64 - b ≡ suc (63 - b) = omega arith in q) in
    let n : length (up_from b (64 - b)) ≡ suc (length (up_from (suc b) (63 - b))) = ap length e in
    let rest : drop 1 (up_from b (64 - b)) ≡ up_from (b + 1) (64 - (b + 1)) =
    ap (drop 1) e ∙ (λ i. up_from (let q : suc b ≡ b + 1 = omega arith in q i) (let q : 63 - b ≡ 64 - (b + 1) = omega arith in q i)) in
    let head : slice_index (up_from b (64 - b)) 0 ≡ b = ap (λ z. slice_index z 0) e in (
      omega arith,
      ap (λ (z : List ℕ). record first { keeps = z }) rest,
      ap (λ z. at_rest z []) head,
    )
