-- What two have learnt of the same cells, joined one cell after the other.
use Rattle.std.proofs.Common.{◌≡◌, refl, sym, ap, ◌∙◌, subst, ℕ, ◌+◌, ◌<◌, ◌≤◌, ◌⊎◌, inl, inr, ⊎_elim, List, length, set, get_or, Option, Some, None, arith}
use Rattle.std.specs.Prelude.{slice_get}
use native.Mathlib.Decide.{ℕ_discrete}
use Rattle.std.proofs.lemmas.List.{length-set}
use Rattle.std.proofs.lemmas.Option.{slice_get-get_or, slice_get_read, slice_get_within}
use Rattle.mh_setonce.specs.Learnings.{LearntView}
use Rattle.mh_setonce.proofs.Replaced.{set-here, set-there}
use Rattle.mh_cells.specs.Values.{JoinedOnly, Keeps}
use Rattle.mh_cells.specs.Learning.{AreLearnt, AreOfOne, HasBoth, values_of}
use Rattle.mh_cells.proofs.PlacedValues.{learnt-at, value-here}

module _ {V : Type 0} (first second : List (Option (LearntView V))) where
  -- before this place all is learnt that one or the other has learnt, and from it on both are as they were
  pub record Joining (mine theirs : List (Option (LearntView V))) (place : ℕ) : Type 0 where
    pub kept : length mine ≡ length first
    pub count : length theirs ≡ length second
    pub done : (i : ℕ) (a b k : Option (LearntView V)) → i < place → slice_get first i ≡ Some a → slice_get second i ≡ Some b →
        slice_get mine i ≡ Some k → HasBoth a b k
    pub own : (i : ℕ) → place ≤ i → slice_get mine i ≡ slice_get first i
    pub other : (i : ℕ) → place ≤ i → slice_get theirs i ≡ slice_get second i

  pub joining-first : Joining first second 0
  joining-first = record {
    kept = refl;
    count = refl;
    done = λ i a b k low. absurd (omega (arith, low));
    own = λ i high. refl;
    other = λ i high. refl;
  }

  module _ (key : V → ℕ) (cells others : List ℕ) (are : AreLearnt key cells first) (other : AreLearnt key others second) (one : others ≡ cells)
      (mine theirs : List (Option (LearntView V))) (place : ℕ) (so : Joining mine theirs place) where
    same : length second ≡ length first
    same = other.count ∙ (ap length one ∙ sym are.count)

    -- ---- one cell more

    module _ (low : place < length first) (a b : Option (LearntView V)) (is_a : a ≡ get_or mine place a) (is_b : b ≡ get_or theirs place b) where
      at_mine : slice_get mine place ≡ Some a
      at_mine = slice_get_read mine (length first) place a (sym so.kept) low is_a

      at_theirs : slice_get theirs place ≡ Some b
      at_theirs = slice_get_read theirs (length second) place b (sym so.count) (omega (arith, low, same)) is_b

      -- both were shown by one cell
      pub of-one-cell : AreOfOne a b
      of-one-cell k l is_k is_l =
          let k_cell = (are.noted place k (sym (so.own place (omega arith)) ∙ (at_mine ∙ ap Some is_k))).0 in
          let l_cell = (other.noted place l (sym (so.other place (omega arith)) ∙ (at_theirs ∙ ap Some is_l))).0 in
          let both : Some l.cell ≡ Some k.cell = sym l_cell ∙ (ap (λ cs. slice_get cs place) one ∙ k_cell) in
          cc

    module _ (low : place < length first) (a b k o : Option (LearntView V)) (is_a : a ≡ get_or mine place a) (is_b : b ≡ get_or theirs place b)
        (both : HasBoth a b k) where
      at_a : slice_get mine place ≡ Some a
      at_a = at_mine low a b is_a is_b

      at_b : slice_get theirs place ≡ Some b
      at_b = at_theirs low a b is_a is_b

      done-next : (i : ℕ) (a' b' k' : Option (LearntView V)) → i < place + 1 → slice_get first i ≡ Some a' → slice_get second i ≡ Some b' →
          slice_get (set mine place k) i ≡ Some k' → Dec (i ≡ place) → HasBoth a' b' k'
      done-next i a' b' k' within at_a' at_b' at_k' (yes here) =
          let e : Some a ≡ Some a' = sym at_a ∙ (so.own place (omega arith) ∙ (ap (slice_get first) (sym here) ∙ at_a')) in
          let f : Some b ≡ Some b' = sym at_b ∙ (so.other place (omega arith) ∙ (ap (slice_get second) (sym here) ∙ at_b')) in
          let g : Some k ≡ Some k' = sym (set-here mine place a k at_a) ∙ (ap (slice_get (set mine place k)) (sym here) ∙ at_k') in
          let e' : a ≡ a' = cc in let f' : b ≡ b' = cc in let g' : k ≡ k' = cc in
          subst (λ v. HasBoth v b' k') e' (subst (λ v. HasBoth a v k') f' (subst (HasBoth a b) g' both))
      done-next i a' b' k' within at_a' at_b' at_k' (no elsewhere) =
          so.done i a' b' k' (omega (arith, within, elsewhere)) at_a' at_b' (sym (set-there mine place i k elsewhere) ∙ at_k')

      pub joining-next : Joining (set mine place k) (set theirs place o) (place + 1)
      joining-next = record {
        kept = length-set mine place k ∙ so.kept;
        count = length-set theirs place o ∙ so.count;
        done = λ i a' b' k' within at_a' at_b' at_k'. done-next i a' b' k' within at_a' at_b' at_k' (ℕ_discrete i place);
        own = λ i high. set-there mine place i k (omega (arith, high)) ∙ so.own i (omega (arith, high));
        other = λ i high. set-there theirs place i o (omega (arith, high)) ∙ so.other i (omega (arith, high));
      }

    -- ---- at the end

    module _ (end : length first ≤ place) where
      -- what stands at a place in all three
      both-at : (i : ℕ) → i < length first → HasBoth (get_or first i None) (get_or second i None) (get_or mine i None)
      both-at i low =
          so.done i (get_or first i None) (get_or second i None) (get_or mine i None) (omega (arith, low, end)) (slice_get-get_or first i None low)
          (slice_get-get_or second i None (omega (arith, low, same))) (slice_get-get_or mine i None (omega (arith, low, so.kept)))

      mine-is : (i : ℕ) (k : Option (LearntView V)) → i < length first → get_or mine i None ≡ k → slice_get mine i ≡ Some k
      mine-is i k low is = slice_get-get_or mine i None (omega (arith, low, so.kept)) ∙ ap Some is

      -- what stands there was learnt by one or the other
      from-one : (i : ℕ) (l : LearntView V) → slice_get mine i ≡ Some (Some l) → (slice_get first i ≡ Some (Some l)) ⊎ (slice_get second i ≡ Some (Some l))
      from-one i l at = cases (get_or first i None) refl (both-at i low)
        where
          low : i < length first
          low = omega (arith, slice_get_within mine i (Some l) at, so.kept)

          is : get_or mine i None ≡ Some l
          is = let e : Some (get_or mine i None) ≡ Some (Some l) = sym (slice_get-get_or mine i None (omega (arith, low, so.kept))) ∙ at in cc

          cases : (a : Option (LearntView V)) → get_or first i None ≡ a → HasBoth a (get_or second i None) (get_or mine i None) →
              (slice_get first i ≡ Some (Some l)) ⊎ (slice_get second i ≡ Some (Some l))
          cases (Some x) e both = inl (slice_get-get_or first i None low ∙ ap Some (e ∙ (sym both.own ∙ is)))
          cases None e both = inr (slice_get-get_or second i None (omega (arith, low, same)) ∙ ap Some (sym (both.none refl) ∙ is))

      has-first : (i : ℕ) (l : LearntView V) → slice_get first i ≡ Some (Some l) → slice_get mine i ≡ Some (Some l)
      has-first i l at =
          let low : i < length first = slice_get_within first i (Some l) at in
          let e : Some (get_or first i None) ≡ Some (Some l) = sym (slice_get-get_or first i None low) ∙ at in
          let is : get_or first i None ≡ Some l = cc in
          mine-is i (Some l) low (subst (λ v. HasBoth v (get_or second i None) (get_or mine i None)) is (both-at i low)).own

      has-second : (i : ℕ) (l : LearntView V) → slice_get second i ≡ Some (Some l) → slice_get mine i ≡ Some (Some l)
      has-second i l at =
          let low : i < length first = omega (arith, slice_get_within second i (Some l) at, same) in
          let e : Some (get_or second i None) ≡ Some (Some l) = sym (slice_get-get_or second i None (omega (arith, low, same))) ∙ at in
          let is : get_or second i None ≡ Some l = cc in
          mine-is i (Some l) low (subst (λ v. HasBoth (get_or first i None) v (get_or mine i None)) is (both-at i low)).other

      pub joined-learnt : AreLearnt key cells mine
      joined-learnt = record {
        count = so.kept ∙ are.count;
        noted = λ i l at. ⊎_elim
            (λ (p : slice_get first i ≡ Some (Some l)). are.noted i l p)
            (λ (p : slice_get second i ≡ Some (Some l)).
            let n = other.noted i l p in
            (ap (λ cs. slice_get cs i) (sym one) ∙ n.0, n.1))
            (from-one i l at);
      }

      keeps : (old : List (Option (LearntView V))) → ((i : ℕ) (l : LearntView V) → slice_get old i ≡ Some (Some l) → slice_get mine i ≡ Some (Some l)) →
          Keeps (values_of old) (values_of mine)
      keeps old has i v is =
          let l = learnt-at old i v is in
          value-here mine i (Some l.0) (has i l.0 l.1) ∙ ap Some l.2

      pub joined-mine : Keeps (values_of first) (values_of mine)
      joined-mine = keeps first has-first

      pub joined-theirs : Keeps (values_of second) (values_of mine)
      joined-theirs = keeps second has-second

      pub joined-only : JoinedOnly (values_of first) (values_of second) (values_of mine)
      joined-only i v is =
          let l = learnt-at mine i v is in
          ⊎_elim
          (λ (p : slice_get first i ≡ Some (Some l.0)). inl (value-here first i (Some l.0) p ∙ ap Some l.2))
          (λ (p : slice_get second i ≡ Some (Some l.0)). inr (value-here second i (Some l.0) p ∙ ap Some l.2))
          (from-one i l.0 l.1)
