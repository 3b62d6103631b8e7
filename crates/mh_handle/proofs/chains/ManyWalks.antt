-- What walks of all chains have learnt.
use Rattle.std.proofs.Common.{◌≡◌, refl, sym, ap, ◌∙◌, subst, ℕ, zero, suc, ◌+◌, ◌==◌, List, [], ◌∷◌, set, Option, Some, None, Result, Ok, Err, IfOk, ⊎_elim, arith}
use Rattle.std.specs.Prelude.{slice_get}
use Rattle.mh_setonce.specs.Views.{WalkView}
use Rattle.mh_setonce.specs.Walks.{Distinct, FindsNode, Has, Lacks, StartsWith}
use Rattle.mh_edit.specs.declared.key.Key.{Key}
use Rattle.mh_handle.specs.Form.{FormView}
use Rattle.mh_handle.specs.Index.{recipe_of}
use Rattle.mh_setonce.specs.declared.put.Put.{Put}
use Rattle.mh_setonce.specs.declared.put.Put.TheVariants.{Mine, Theirs}
use denote.Ref.{Bor}
use native.Mathlib.Decide.{ℕ_discrete}
use Rattle.std.proofs.lemmas.Bool.{eq-eqb, eqb-true}
use Rattle.std.proofs.lemmas.List.{length-set}
use Rattle.mh_handle.specs.Chains.{AreWalks, chain_of, forms_of, learnt_by, learnt_from}
use Rattle.mh_handle.specs.Passes.{AreLearnt, AreOneEach, IsPut}
use Rattle.mh_setonce.proofs.Replaced.{set-either, set-here, set-there}
use Rattle.mh_handle.proofs.chains.Members.{IsIn, in-either, in-left, in-passing, in-right, passing-in}

-- the walk of a chain has learnt the form, which belongs to the chain
pub record LearntAt (first : ℕ) (walks : List (WalkView FormView)) (form : FormView) : Type 0 where
  pub chain : ℕ
  pub walk : WalkView FormView
  pub stands : slice_get walks chain ≡ Some walk
  pub node : IsIn walk.nodes form
  pub own : chain_of form.recipe ≡ first + chain

plus-zero : (n : ℕ) → n + 0 ≡ n
plus-zero n = omega arith

pub learnt-at : (first : ℕ) (walks : List (WalkView FormView)) (form : FormView) → IsIn (learnt_from first walks) form → LearntAt first walks form
learnt-at first [] form at = absurd (nothing at.0 at.1)
  where
    nothing : (i : ℕ) → slice_get {X = FormView} [] i ≡ Some form → ⊥
    nothing i at = cc
learnt-at first (w ∷ walks) form at = ⊎_elim
    (λ (here : IsIn (forms_of first w.nodes) form).
    let is = passing-in (λ f. chain_of f.recipe == first) w.nodes form here in
    record { chain = zero; walk = w; stands = refl; node = is.0; own = eqb-true (chain_of form.recipe) first is.1 ∙ sym (plus-zero first) })
    (λ (there : IsIn (learnt_from (suc first) walks) form).
    let later = learnt-at (suc first) walks form there in
    record { chain = suc later.chain; walk = later.walk; stands = later.stands; node = later.node; own = omega (arith, later.own) })
    (in-either (forms_of first w.nodes) (learnt_from (suc first) walks) form at)

pub at-learnt : (first : ℕ) (walks : List (WalkView FormView)) (form : FormView) (chain : ℕ) (walk : WalkView FormView) → slice_get walks chain ≡ Some walk →
    IsIn walk.nodes form → chain_of form.recipe ≡ first + chain → IsIn (learnt_from first walks) form
at-learnt first [] form chain walk stands node own = absurd cc
at-learnt first (w ∷ walks) form zero walk stands node own =
    let is : w ≡ walk = cc in
    in-left (forms_of first w.nodes) (learnt_from (suc first) walks) form
    (in-passing (λ f. chain_of f.recipe == first) w.nodes form (subst (λ (v : WalkView FormView). IsIn v.nodes form) (sym is) node)
    (eq-eqb (chain_of form.recipe) first (own ∙ plus-zero first)))
at-learnt first (w ∷ walks) form (suc chain) walk stands node own =
    in-right (forms_of first w.nodes) (learnt_from (suc first) walks) form
    (at-learnt (suc first) walks form chain walk stands node (omega (arith, own)))

-- forms with one recipe are one, where no walk has two
pub one-each : (walks : List (WalkView FormView)) → AreWalks walks → AreOneEach (learnt_by walks)
one-each walks are i j f g at_i at_j same =
    let a = learnt-at 0 walks f (i, at_i) in
    let b = learnt-at 0 walks g (j, at_j) in
    let chain : a.chain ≡ b.chain = omega (arith, a.own, b.own, ap chain_of same) in
    let walk : Some a.walk ≡ Some b.walk = sym a.stands ∙ (ap (slice_get walks) chain ∙ b.stands) in
    let is : a.walk ≡ b.walk = cc in
    let there : IsIn a.walk.nodes g = subst (λ (w : WalkView FormView). IsIn w.nodes g) (sym is) b.node in
    let place : a.node.0 ≡ there.0 = are.once a.chain a.walk a.stands a.node.0 there.0 f g a.node.1 there.1 same in
    let both : Some f ≡ Some g = sym a.node.1 ∙ (ap (slice_get a.walk.nodes) place ∙ there.1) in
    cc

-- ---- one walk

module _ (walks : List (WalkView FormView)) (chain : ℕ) (walk : WalkView FormView) (stands : slice_get walks chain ≡ Some walk) where
  pub walk-has : (recipe : List Key) (form : FormView) → chain_of recipe ≡ chain → Has recipe_of walk.nodes recipe form →
      Has recipe_of (learnt_by walks) recipe form
  walk-has recipe form own has =
      let first : chain ≡ 0 + chain = omega arith in
      let at = at-learnt 0 walks form chain walk stands (has.0, has.1) (ap chain_of has.2 ∙ (own ∙ first)) in
      (at.0, at.1, has.2)

  pub walk-lacks : (recipe : List Key) → chain_of recipe ≡ chain → Lacks recipe_of walk.nodes recipe → Lacks recipe_of (learnt_by walks) recipe
  walk-lacks recipe own lacks i f at same =
      let a = learnt-at 0 walks f (i, at) in
      let here : a.chain ≡ chain = omega (arith, a.own, ap chain_of same, own) in
      let both : Some a.walk ≡ Some walk = sym a.stands ∙ (ap (slice_get walks) here ∙ stands) in
      let is : a.walk ≡ walk = cc in
      let node : IsIn walk.nodes f = subst (λ (w : WalkView FormView). IsIn w.nodes f) is a.node in
      lacks node.0 f node.1 same

-- the node with a recipe of the chain, or none
pub walk-finds : (walks : List (WalkView FormView)) (chain : ℕ) (walk : WalkView FormView) (recipe : List Key) (found : Option (Bor FormView)) →
    slice_get walks chain ≡ Some walk → chain_of recipe ≡ chain → FindsNode recipe_of walk.nodes recipe found →
    FindsNode recipe_of (learnt_by walks) recipe found
walk-finds walks chain walk recipe None stands own finds = walk-lacks walks chain walk stands recipe own finds
walk-finds walks chain walk recipe (Some form) stands own finds = walk-has walks chain walk stands recipe form.now own finds

-- the form that a chain has after a put
pub walk-put : (walks : List (WalkView FormView)) (chain : ℕ) (walk : WalkView FormView) (ours : FormView) (put : Put FormView) →
    slice_get walks chain ≡ Some walk → chain_of ours.recipe ≡ chain → IsPut walk.nodes ours put → IsPut (learnt_by walks) ours put
walk-put walks chain walk ours (Mine form) stands own is = (walk-has walks chain walk stands ours.recipe form.now own is.0, is.1)
walk-put walks chain walk ours (Theirs form back) stands own is = walk-has walks chain walk stands ours.recipe form.now own is

-- ---- one walk has learnt more

starts-in : (nodes more : List FormView) → StartsWith more nodes → AreLearnt more nodes
starts-in nodes more starts i f at = subst (λ v. IsIn v f) (sym starts.1) (in-left nodes starts.0 f (i, at))

module _ (walks : List (WalkView FormView)) (chain : ℕ) (old new : WalkView FormView) (stands : slice_get walks chain ≡ Some old) where
  kept-at : AreLearnt new.nodes old.nodes → (f : FormView) → (a : LearntAt 0 walks f) → Dec (a.chain ≡ chain) → IsIn (learnt_by (set walks chain new)) f
  kept-at more f a (yes here) =
      let both : Some a.walk ≡ Some old = sym a.stands ∙ (ap (slice_get walks) here ∙ stands) in
      let is : a.walk ≡ old = cc in
      let node : IsIn old.nodes f = subst (λ (w : WalkView FormView). IsIn w.nodes f) is a.node in
      at-learnt 0 (set walks chain new) f chain new (set-here walks chain old new stands) (more node.0 f node.1) (a.own ∙ ap (λ k. 0 + k) here)
  kept-at more f a (no other) = at-learnt 0 (set walks chain new) f a.chain a.walk (set-there walks chain a.chain new other ∙ a.stands) a.node a.own

  pub set-learnt : StartsWith new.nodes old.nodes → AreLearnt (learnt_by (set walks chain new)) (learnt_by walks)
  set-learnt more i f at =
      let a = learnt-at 0 walks f (i, at) in
      kept-at (starts-in old.nodes new.nodes more) f a (ℕ_discrete a.chain chain)

  pub set-walks : Distinct recipe_of new.nodes → AreWalks walks → AreWalks (set walks chain new)
  set-walks once are = record {
    count = length-set walks chain new ∙ are.count;
    once = λ c w at. ⊎_elim
        (λ (here : (c ≡ chain) × (new ≡ w)). subst (λ (v : WalkView FormView). Distinct recipe_of v.nodes) here.1 once)
        (λ (there : slice_get walks c ≡ Some w). are.once c w there)
        (set-either walks chain c new w at);
  }

-- the same of an answer that may be an error
pub found-finds : {E : Type 0} (walks : List (WalkView FormView)) (chain : ℕ) (old new : WalkView FormView) (recipe : List Key)
    (r : Result (Option (Bor FormView)) E) → slice_get walks chain ≡ Some old → chain ≡ chain_of recipe → IfOk r (FindsNode recipe_of new.nodes recipe) →
    IfOk r (FindsNode recipe_of (learnt_by (set walks chain new)) recipe)
found-finds walks chain old new recipe (Ok found) stands own finds =
    walk-finds (set walks chain new) chain new recipe found (set-here walks chain old new stands) (sym own) finds
found-finds walks chain old new recipe (Err e) stands own finds = tt

pub put-finds : {E : Type 0} (walks : List (WalkView FormView)) (chain : ℕ) (old new : WalkView FormView) (ours : FormView)
    (r : Result (Put FormView) E) → slice_get walks chain ≡ Some old → chain ≡ chain_of ours.recipe → IfOk r (IsPut new.nodes ours) →
    IfOk r (IsPut (learnt_by (set walks chain new)) ours)
put-finds walks chain old new ours (Ok put) stands own is =
    walk-put (set walks chain new) chain new ours put (set-here walks chain old new stands) (sym own) is
put-finds walks chain old new ours (Err e) stands own is = tt
