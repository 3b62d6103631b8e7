-- What walks have learnt that are new: nothing.
use Rattle.std.proofs.Common.{◌≡◌, refl, sym, ap, ◌∙◌, ℕ, zero, suc, List, [], ◌∷◌, ◌++◌, length, Some}
use Rattle.std.specs.Prelude.{slice_get}
use Rattle.mh_setonce.specs.Views.{ChainView, WalkView}
use Rattle.mh_setonce.proofs.NewWalks.{AreNew, new-count}
use Rattle.mh_handle.specs.Form.{FormView}
use Rattle.mh_handle.specs.Chains.{AreWalks, chain_count, forms_of, learnt_by, learnt_from}

nothing-learnt : (first : ℕ) (walks : List (WalkView FormView)) → ((c : ℕ) (w : WalkView FormView) → slice_get walks c ≡ Some w → w.nodes ≡ []) →
    learnt_from first walks ≡ []
nothing-learnt first [] none = refl
nothing-learnt first (w ∷ walks) none =
    ap (λ nodes. forms_of first nodes ++ learnt_from (suc first) walks) (none zero w refl)
    ∙ nothing-learnt (suc first) walks (λ c v at. none (suc c) v at)

pub new-learnt : (chains : List ChainView) (walks : List (WalkView FormView)) → AreNew chains walks → learnt_by walks ≡ []
new-learnt chains walks are = nothing-learnt 0 walks are.nodes

pub new-walks : (chains : List ChainView) (walks : List (WalkView FormView)) → AreNew chains walks → length chains ≡ chain_count → AreWalks walks
new-walks chains walks are count = record {
  count = new-count chains walks are ∙ count;
  once = λ c w at i j f g at_i at_j same. absurd (nothing (are.nodes c w at) i f at_i);
}
  where
    nothing : {nodes : List FormView} → nodes ≡ [] → (i : ℕ) (f : FormView) → slice_get nodes i ≡ Some f → ⊥
    nothing {nodes} none i f at = let here : slice_get {X = FormView} [] i ≡ Some f = ap (λ v. slice_get v i) (sym none) ∙ at in cc
