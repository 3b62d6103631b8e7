-- The text of leaf calls, one after another.
use Rattle.std.proofs.Common.{◌≡◌, refl, sym, ap, ◌∙◌, ℕ, zero, suc, ◌+◌, ◌≤◌, List, [], ◌∷◌, ◌++◌, Some, codes, take, append_assoc, arith}
use Rattle.std.specs.Prelude.{slice_get}
use Rattle.std.specs.List.{flat_map}
use Rattle.std.specs.Fmt.{decimal}
use Rattle.std.specs.Option.{option_map}
use Rattle.mh_values.specs.declared.calls.LeafCall.{LeafCall}
use Rattle.mh_values.specs.declared.value.LeafId.{LeafId}
use Rattle.mh_report.specs.Text.{calls_text}

others-next :
    (calls : List LeafCall) (j : ℕ) (leaf : LeafId) →
    option_map (λ call. call.leaf) (slice_get calls j) ≡ Some leaf →
    flat_map (λ next. codes " " ++ decimal next.leaf.0) (take (suc j) calls)
    ≡ flat_map (λ next. codes " " ++ decimal next.leaf.0) (take j calls) ++ (codes " " ++ decimal leaf.0)
others-next [] zero leaf h = absurd cc
others-next [] (suc j) leaf h = absurd cc
others-next (x ∷ calls) zero leaf h =
    let is : x.leaf ≡ leaf = cc in
    ap (λ (l : LeafId). (codes " " ++ decimal l.0) ++ []) is ∙ no_more (codes " " ++ decimal leaf.0)
  where
    no_more : (xs : List ℕ) → xs ++ [] ≡ xs
    no_more [] = refl
    no_more (y ∷ xs) = ap (λ q. y ∷ q) (no_more xs)
others-next (x ∷ calls) (suc j) leaf h =
    ap (λ q. (codes " " ++ decimal x.leaf.0) ++ q) (others-next calls j leaf h)
    ∙ sym (append_assoc (codes " " ++ decimal x.leaf.0) (flat_map (λ next. codes " " ++ decimal next.leaf.0) (take j calls)) (codes " " ++ decimal leaf.0))

-- one call more, after the first
pub text-next :
    (calls : List LeafCall) (at : ℕ) (leaf : LeafId) →
    1 ≤ at →
    option_map (λ call. call.leaf) (slice_get calls at) ≡ Some leaf →
    calls_text (take (at + 1) calls) ≡ calls_text (take at calls) ++ (codes " " ++ decimal leaf.0)
text-next [] at leaf some h = absurd cc
text-next calls zero leaf some h = absurd (omega (arith, some))
text-next (x ∷ calls) (suc j) leaf some h =
    let more : suc j + 1 ≡ suc (suc j) = omega arith in
    ap (λ k. calls_text (take k (x ∷ calls))) more
    ∙ (ap (λ q. decimal x.leaf.0 ++ q) (others-next calls j leaf h)
    ∙ sym (append_assoc (decimal x.leaf.0) (flat_map (λ next. codes " " ++ decimal next.leaf.0) (take j calls)) (codes " " ++ decimal leaf.0)))
