-- Walks of one table that meet, and the longer ones of them.
use Rattle.std.proofs.Common.{◌≡◌, refl, sym, ap, ◌∙◌, subst, ℕ, ◌<◌, List, length, Some, inl, inr, arith}
use Rattle.std.specs.Prelude.{slice_get}
use native.Mathlib.Decide.{dec_lt}
use Rattle.mh_setonce.specs.Views.{WalkView}
use Rattle.mh_setonce.specs.Walks.{Distinct, Meet, StartsWith}
use Rattle.mh_setonce.specs.ManyWalks.{DoMeet, IsLonger}
use Rattle.mh_handle.specs.Form.{FormView}
use Rattle.mh_handle.specs.Index.{recipe_of}
use Rattle.mh_handle.specs.Chains.{AreWalks, chain_of, learnt_by}
use Rattle.mh_handle.specs.Passes.{DoMatch}
use Rattle.mh_setonce.proofs.JoiningWalks.{longer-mine, longer-theirs}
use Rattle.mh_handle.proofs.chains.Members.{IsIn, in-left}
use Rattle.mh_handle.proofs.chains.ManyWalks.{learnt-at}

-- what begins with nodes has each of them
has-first : (more nodes : List FormView) (f : FormView) → StartsWith more nodes → IsIn nodes f → IsIn more f
has-first more nodes f starts at = subst (λ v. IsIn v f) (sym starts.1) (in-left nodes starts.0 f at)

-- the longer of two walks that meet has the nodes of both
module _ (a b kept : WalkView FormView) (n : ℕ) (meet : Meet a.nodes b.nodes n) (longer : IsLonger a b kept) (f : FormView) where
  pub has-mine : IsIn a.nodes f → IsIn kept.nodes f
  has-mine at = has-first kept.nodes a.nodes f (longer-mine a b kept n meet longer) at

  pub has-theirs : IsIn b.nodes f → IsIn kept.nodes f
  has-theirs at = has-first kept.nodes b.nodes f (longer-theirs a b kept n meet longer) at

-- ---- walks that meet have one form for a recipe

module _ (first second : List (WalkView FormView)) (mine : AreWalks first) (theirs : AreWalks second) (meet : DoMeet first second) where
  one-form : (a b kept : WalkView FormView) (n : ℕ) → Meet a.nodes b.nodes n → IsLonger a b kept → Distinct recipe_of kept.nodes → (f g : FormView) →
      IsIn a.nodes f → IsIn b.nodes g → f.recipe ≡ g.recipe → f ≡ g
  one-form a b kept n met longer once f g at_f at_g same =
      let f' = has-mine a b kept n met longer f at_f in
      let g' = has-theirs a b kept n met longer g at_g in
      let place : f'.0 ≡ g'.0 = once f'.0 g'.0 f g f'.1 g'.1 same in
      let both : Some f ≡ Some g = sym f'.1 ∙ (ap (slice_get kept.nodes) place ∙ g'.1) in
      cc

  pub walks-match : DoMatch (learnt_by first) (learnt_by second)
  walks-match i j f g at_f at_g same =
      let a = learnt-at 0 first f (i, at_f) in
      let b = learnt-at 0 second g (j, at_g) in
      let chain : a.chain ≡ b.chain = omega (arith, a.own, b.own, ap chain_of same) in
      let there : slice_get second a.chain ≡ Some b.walk = ap (slice_get second) chain ∙ b.stands in
      let met = meet a.chain a.walk b.walk a.stands there in
      cases a.walk b.walk met.0 met.1 (mine.once a.chain a.walk a.stands) (theirs.once a.chain b.walk there) a.node b.node
      (dec_lt (length a.walk.nodes) (length b.walk.nodes))
    where
      cases : (wa wb : WalkView FormView) (n : ℕ) → Meet wa.nodes wb.nodes n → Distinct recipe_of wa.nodes → Distinct recipe_of wb.nodes →
          IsIn wa.nodes f → IsIn wb.nodes g → Dec (length wa.nodes < length wb.nodes) → f ≡ g
      cases wa wb n met once once' at_a at_b (yes less) = one-form wa wb wb n met (inr (refl, less)) once' f g at_a at_b same
      cases wa wb n met once once' at_a at_b (no not) = one-form wa wb wa n met (inl (refl, omega arith)) once f g at_a at_b same
