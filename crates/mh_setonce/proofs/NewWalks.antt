-- Walks that have learnt nothing.
use Rattle.std.proofs.Common.{◌≡◌, refl, sym, ap, ◌∙◌, ℕ, List, [], ◌∷◌, ◌++◌, length, Some, ⊎_elim}
use Rattle.std.specs.Prelude.{slice_get}
use Rattle.std.proofs.lemmas.List.{length-map, map-append}
use Rattle.mh_base.proofs.Slices.{slice_get-push}
use Rattle.mh_setonce.specs.Views.{ChainView, WalkView}
use Rattle.mh_setonce.specs.ManyWalks.{chains_of}

-- walks of these chains, which have learnt nothing
pub record AreNew {V : Type 0} (chains : List ChainView) (walks : List (WalkView V)) : Type 0 where
  pub chains_are : chains_of walks ≡ chains
  pub nodes : (c : ℕ) (w : WalkView V) → slice_get walks c ≡ Some w → w.nodes ≡ []

pub new-none : {V : Type 0} → AreNew {V = V} [] []
new-none = record { chains_are = refl; nodes = λ c w at. absurd cc }

pub new-push : {V : Type 0} (chains : List ChainView) (walks : List (WalkView V)) (chain : ChainView) (walk : WalkView V) → AreNew chains walks →
    walk.chain ≡ chain → walk.nodes ≡ [] → AreNew (chains ++ chain ∷ []) (walks ++ walk ∷ [])
new-push {V} chains walks chain walk are is none = record {
  chains_are = map-append (λ (w : WalkView V). w.chain) walks (walk ∷ []) ∙ (ap (λ cs. cs ++ walk.chain ∷ []) are.chains_are
      ∙ ap (λ c. chains ++ c ∷ []) is);
  nodes = λ c w at. ⊎_elim
      (λ (before : slice_get walks c ≡ Some w). are.nodes c w before)
      (λ (last : (c ≡ length walks) × (walk ≡ w)). ap (λ (v : WalkView V). v.nodes) (sym last.1) ∙ none)
      (slice_get-push walks walk c w at);
}

pub new-count : {V : Type 0} (chains : List ChainView) (walks : List (WalkView V)) → AreNew chains walks → length walks ≡ length chains
new-count {V} chains walks are = sym (length-map walks (λ (w : WalkView V). w.chain)) ∙ ap length are.chains_are
