-- The view of the deque's own worker as thieves are forked off and gathered.
use Rattle.std.proofs.Common.{◌≡◌, ℕ, ◌+◌, ◌-◌, ◌∙◌, List, [], ◌∷◌, ◌++◌, length, flat_map, refl, ap, arith}
use Rattle.std.proofs.lemmas.List.{append-nil, flat_map_more, length_push}
use Rattle.mh_prelink.specs.declared.tally.Tally.{Tally}
use Rattle.mh_prelink.specs.Tallies.{tally, both_tallies, kept_back}

tally_is : (a b : ℕ) (p q s t : List ℕ) → a ≡ b → p ≡ q → s ≡ t → tally a p s ≡ tally b q t
tally_is a b p q s t x y z = ap (λ n. tally n p s) x ∙ ap (λ l. tally b l s) y ∙ ap (λ l. tally b q l) z

module _ {X : Type 0} (ys : List X) (x : X) (v0 v v' : Tally) where
  pub gathered : (f : X → List ℕ) (w : Tally) → v ≡ tally (v0.parts + length ys) v0.put (v0.taken ++ flat_map f ys) → w ≡ tally 1 [] (f x)
      → v' ≡ both_tallies v w → v' ≡ tally (v0.parts + length (ys ++ x ∷ [])) v0.put (v0.taken ++ flat_map f (ys ++ x ∷ []))
  gathered f w e d now =
      let l = length_push ys x in
      now ∙ ap (λ u. both_tallies u w) e ∙ ap (λ u. both_tallies (tally (v0.parts + length ys) v0.put (v0.taken ++ flat_map f ys)) u) d
      ∙ tally_is _ _ _ _ _ _ (omega arith) (append-nil v0.put) (flat_map_more f v0.taken ys x)

  pub cut_more : v ≡ tally (v0.parts - length ys) v0.put v0.taken → v' ≡ kept_back v → v' ≡ tally (v0.parts - length (ys ++ x ∷ [])) v0.put v0.taken
  cut_more e now =
      let l = length_push ys x in
      now ∙ ap kept_back e ∙ tally_is _ _ _ _ _ _ (omega arith) refl refl
