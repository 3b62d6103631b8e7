-- Lists in which one item was replaced, and walks of which one has learnt more.
use Rattle.std.proofs.Common.{◌≡◌, ◌≢◌, refl, sym, ap, ◌∙◌, ℕ, zero, suc, List, [], ◌∷◌, set, Some, inl, inr, ◌⊎◌, ⊎_elim}
use Rattle.std.specs.Prelude.{slice_get}
use Rattle.std.proofs.lemmas.Option.{get_or_from_slice_get}
use Rattle.std.proofs.Math.Seq.{map-set_same}
use Rattle.mh_setonce.specs.Views.{WalkView}
use Rattle.mh_setonce.specs.ManyWalks.{chains_of}

pub set-here : {X : Type 0} (xs : List X) (c : ℕ) (old new : X) → slice_get xs c ≡ Some old → slice_get (set xs c new) c ≡ Some new
set-here [] c old new at = absurd cc
set-here (y ∷ xs) zero old new at = refl
set-here (y ∷ xs) (suc c) old new at = set-here xs c old new at

pub set-there : {X : Type 0} (xs : List X) (c k : ℕ) (new : X) → k ≢ c → slice_get (set xs c new) k ≡ slice_get xs k
set-there [] c k new other = refl
set-there (y ∷ xs) zero zero new other = absurd (other refl)
set-there (y ∷ xs) zero (suc k) new other = refl
set-there (y ∷ xs) (suc c) zero new other = refl
set-there (y ∷ xs) (suc c) (suc k) new other = set-there xs c k new (λ e. other (ap suc e))

-- what stands at a place then is the new item, or stood there before
pub set-either : {X : Type 0} (xs : List X) (c k : ℕ) (new x : X) → slice_get (set xs c new) k ≡ Some x → ((k ≡ c) × (new ≡ x)) ⊎ (slice_get xs k ≡ Some x)
set-either [] c k new x at = inr at
set-either (y ∷ xs) zero zero new x at = inl (refl, cc)
set-either (y ∷ xs) zero (suc k) new x at = inr at
set-either (y ∷ xs) (suc c) zero new x at = inr at
set-either (y ∷ xs) (suc c) (suc k) new x at = ⊎_elim (λ (h : (k ≡ c) × (new ≡ x)). inl (ap suc h.0, h.1)) (λ (t : slice_get xs k ≡ Some x). inr t)
    (set-either xs c k new x at)

-- the chains of walks stay, where the walk of one has learnt more
pub set-chains : {V : Type 0} (walks : List (WalkView V)) (chain : ℕ) (old new : WalkView V) → slice_get walks chain ≡ Some old → new.chain ≡ old.chain →
    chains_of (set walks chain new) ≡ chains_of walks
set-chains {V} walks chain old new stands same = map-set_same (λ (w : WalkView V). w.chain) walks chain new old
    (same ∙ ap (λ (w : WalkView V). w.chain) (sym (get_or_from_slice_get walks chain old old stands)))
