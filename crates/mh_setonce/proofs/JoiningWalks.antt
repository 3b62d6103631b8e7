-- The longer walks of all chains, one chain after the other.
use Rattle.std.proofs.Common.{◌≡◌, refl, sym, ap, ◌∙◌, subst, ℕ, ◌+◌, ◌<◌, ◌≤◌, List, [], ◌++◌, append-nil, length, set, take, drop, Some, ⊎_elim, arith}
use Rattle.std.specs.Prelude.{slice_get}
use Rattle.std.specs.Option.{option_map}
use native.Mathlib.Decide.{ℕ_discrete}
use Rattle.std.proofs.lemmas.List.{length-set, take-append-drop, take_all}
use Rattle.std.proofs.lemmas.Option.{slice_get-map}
use Rattle.mh_setonce.specs.Views.{WalkView}
use Rattle.mh_setonce.specs.Walks.{Meet, StartsWith}
use Rattle.mh_setonce.specs.ManyWalks.{IsLonger, chains_of}
use Rattle.mh_setonce.proofs.Replaced.{set-chains, set-here, set-there}

-- ---- the longer of two walks that meet begins with the nodes of both

-- a list begins with another one that is as long as their common front
begins : {V : Type 0} (xs ys : List V) (n : ℕ) → length xs ≤ n → take n xs ≡ take n ys → StartsWith ys xs
begins xs ys n few same = (drop n ys, sym (take-append-drop n ys) ∙ ap (λ v. v ++ drop n ys) (sym same ∙ take_all n xs few))

module _ {V : Type 0} (a b kept : WalkView V) (n : ℕ) (meet : Meet a.nodes b.nodes n) (longer : IsLonger a b kept) where
  pub longer-mine : StartsWith kept.nodes a.nodes
  longer-mine = ⊎_elim
      (λ (same : (kept ≡ a) × (length b.nodes ≤ length a.nodes)).
      subst (λ (w : WalkView V). StartsWith w.nodes a.nodes) (sym same.0) ([], sym (append-nil a.nodes)))
      (λ (other : (kept ≡ b) × (length a.nodes < length b.nodes)).
      subst (λ (w : WalkView V). StartsWith w.nodes a.nodes) (sym other.0)
      (begins a.nodes b.nodes n (omega (arith, meet.0, other.1)) meet.1))
      longer

  pub longer-theirs : StartsWith kept.nodes b.nodes
  longer-theirs = ⊎_elim
      (λ (same : (kept ≡ a) × (length b.nodes ≤ length a.nodes)).
      subst (λ (w : WalkView V). StartsWith w.nodes b.nodes) (sym same.0)
      (begins b.nodes a.nodes n (omega (arith, meet.0, same.1)) (sym meet.1)))
      (λ (other : (kept ≡ b) × (length a.nodes < length b.nodes)).
      subst (λ (w : WalkView V). StartsWith w.nodes b.nodes) (sym other.0) ([], sym (append-nil b.nodes)))
      longer

-- ---- all walks

module _ {V : Type 0} (first second : List (WalkView V)) where
  -- the walks of the chains before this place are the longer ones, and the others are as they were
  pub record Joining (walks others : List (WalkView V)) (place : ℕ) : Type 0 where
    pub chains : chains_of walks ≡ chains_of first
    pub kept : length walks ≡ length first
    pub count : length others ≡ length second
    pub done : (c : ℕ) (a b k : WalkView V) → c < place → slice_get first c ≡ Some a → slice_get second c ≡ Some b → slice_get walks c ≡ Some k →
        IsLonger a b k
    pub mine : (c : ℕ) → place ≤ c → slice_get walks c ≡ slice_get first c
    pub theirs : (c : ℕ) → place ≤ c → slice_get others c ≡ slice_get second c

  pub joining-first : Joining first second 0
  joining-first = record {
    chains = refl;
    kept = refl;
    count = refl;
    done = λ c a b k low. absurd (omega (arith, low));
    mine = λ c high. refl;
    theirs = λ c high. refl;
  }

  module _ (walks others : List (WalkView V)) (place : ℕ) (a b k o : WalkView V) (so : Joining walks others place)
      (chains : chains_of second ≡ chains_of first) (at_mine : slice_get walks place ≡ Some a) (at_theirs : slice_get others place ≡ Some b)
      (longer : IsLonger a b k) where
    mine-at : slice_get first place ≡ Some a
    mine-at = sym (so.mine place (omega arith)) ∙ at_mine

    pub theirs-at : slice_get second place ≡ Some b
    theirs-at = sym (so.theirs place (omega arith)) ∙ at_theirs

    chain-at : (ws : List (WalkView V)) (w : WalkView V) → slice_get ws place ≡ Some w → slice_get (chains_of ws) place ≡ Some w.chain
    chain-at ws w at = slice_get-map (λ (v : WalkView V). v.chain) ws place ∙ ap (option_map (λ (v : WalkView V). v.chain)) at

    one-chain : b.chain ≡ a.chain
    one-chain =
        let both : Some b.chain ≡ Some a.chain = sym (chain-at second b theirs-at) ∙ (ap (λ cs. slice_get cs place) chains ∙ chain-at first a mine-at) in
        cc

    kept-chain : k.chain ≡ a.chain
    kept-chain = ⊎_elim
        (λ (same : (k ≡ a) × (length b.nodes ≤ length a.nodes)). ap (λ (w : WalkView V). w.chain) same.0)
        (λ (other : (k ≡ b) × (length a.nodes < length b.nodes)). ap (λ (w : WalkView V). w.chain) other.0 ∙ one-chain)
        longer

    done-next : (c : ℕ) (a' b' k' : WalkView V) → c < place + 1 → slice_get first c ≡ Some a' → slice_get second c ≡ Some b' →
        slice_get (set walks place k) c ≡ Some k' → Dec (c ≡ place) → IsLonger a' b' k'
    done-next c a' b' k' low mine theirs kept (yes here) =
        let e : Some a ≡ Some a' = sym mine-at ∙ (ap (slice_get first) (sym here) ∙ mine) in
        let f : Some b ≡ Some b' = sym theirs-at ∙ (ap (slice_get second) (sym here) ∙ theirs) in
        let g : Some k ≡ Some k' = sym (set-here walks place a k at_mine) ∙ (ap (slice_get (set walks place k)) (sym here) ∙ kept) in
        let e' : a ≡ a' = cc in let f' : b ≡ b' = cc in let g' : k ≡ k' = cc in
        subst (λ v. IsLonger v b' k') e' (subst (λ v. IsLonger a v k') f' (subst (IsLonger a b) g' longer))
    done-next c a' b' k' low mine theirs kept (no other) =
        so.done c a' b' k' (omega (arith, low, other)) mine theirs (sym (set-there walks place c k other) ∙ kept)

    pub joining-next : Joining (set walks place k) (set others place o) (place + 1)
    joining-next = record {
      chains = set-chains walks place a k at_mine kept-chain ∙ so.chains;
      kept = length-set walks place k ∙ so.kept;
      count = length-set others place o ∙ so.count;
      done = λ c a' b' k' low mine theirs kept. done-next c a' b' k' low mine theirs kept (ℕ_discrete c place);
      mine = λ c high. set-there walks place c k (omega (arith, high)) ∙ so.mine c (omega (arith, high));
      theirs = λ c high. set-there others place c o (omega (arith, high)) ∙ so.theirs c (omega (arith, high));
    }
