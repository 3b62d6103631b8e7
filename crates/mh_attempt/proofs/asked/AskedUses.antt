-- What uses of a handle as another type leave of a pass, and spreads.
use Rattle.std.proofs.Common.{◌≡◌, refl, sym, ◌∙◌, ap, subst, Bool, true, false, ◌&&◌, ℕ, List, [], ◌∷◌, ◌++◌, map, length, Option, Result, Ok, codes, nat_le}
use Rattle.std.specs.Prelude.{if◌then◌else◌, is_some}
use Rattle.std.proofs.lemmas.List.{map-append}
use Rattle.mh_base.proofs.Inversion.{ok_is}
use Rattle.mh_values.specs.declared.types.Ty.{Ty}
use Rattle.mh_values.specs.declared.types.MethodTy.{MethodTy}
use Rattle.mh_convert.specs.declared.conv.Rules.{Rules}
use Rattle.mh_leaf.specs.LeafTable.{LeafTable}
use Rattle.mh_tree.specs.Rows.{component_of, illegal}
use Rattle.mh_tree.specs.Tree.{Tree}
use Rattle.mh_tree.specs.Tree as tree
use Rattle.mh_tree.specs.Typing.{type_of}
use Rattle.mh_tree.specs.Use.{items_used_as, used_by}
use Rattle.mh_handle.specs.declared.error.HandleError.{HandleError}
use Rattle.mh_handle.specs.declared.handle.Handle.{Handle}
use Rattle.mh_handle.specs.declared.work.Work.{Work}
use Rattle.mh_handle.specs.Recipe.{recipe}
use Rattle.mh_handle.specs.SameRecipes.{same_recipe}
use Rattle.mh_handle.specs.Stands.{Stands}
use Rattle.mh_astype.specs.Use.{MakesFrom}
use Rattle.mh_spread.specs.Spreading.{MakesSpread}
use Rattle.mh_jobs.specs.Thrown.{◌>>◌, require}
use Rattle.mh_jobs.proofs.Parts.{bound-parts, require-parts}
use Rattle.mh_link.specs.Operations.{spread_of, use_of}
use Rattle.mh_attempt.specs.declared.handle.HandleOperand.{HandleOperand}
use Rattle.mh_attempt.specs.Asked.{AsksIfMade, HasAskedMore}
use Rattle.mh_attempt.specs.Recipes.{recipes_made, spread_asked, use_asked}
use Rattle.mh_attempt.proofs.asked.AskedOperands.{asks-nodes}
use Rattle.mh_attempt.proofs.asked.AskedNodes.{asks-both, asks-from, unless_same}

-- ---- trees

use-made : (by : Rules) (leaves : LeafTable) (t u : Tree) (own asked : MethodTy) → type_of leaves t ≡ Ok own → use_of by leaves t asked ≡ Ok u → u ≡
    used_by by own asked t
use-made by leaves t u own asked typed is =
    let found = bound-parts (type_of leaves t) (λ o. Ok (used_by by o asked t)) u is in
    sym (ok_is (used_by by found.0 asked t) u found.2) ∙ ap (λ o. used_by by o asked t) (ok_is found.0 own (sym found.1 ∙ typed))

spread-made : (leaves : LeafTable) (t s : Tree) (own : MethodTy) (array : Option Ty) (count : ℕ) → type_of leaves t ≡ Ok own →
    spread_of leaves t array count ≡ Ok s → s ≡ tree.Spread (items_used_as own array count t) array count
spread-made leaves t s own array count typed is =
    let holds : MethodTy → Bool = λ o. is_some (component_of array) && nat_le count (length o.params) in
    let made : MethodTy → Tree = λ o. tree.Spread (items_used_as o array count t) array count in
    let found = bound-parts (type_of leaves t) (λ o. require (holds o) (illegal (codes "spread")) >> Ok (made o)) s is in
    let given = require-parts (holds found.0) (illegal (codes "spread")) (Ok (made found.0)) s found.2 in
    sym (ok_is (made found.0) s given.1) ∙ ap made (ok_is found.0 own (sym found.1 ∙ typed))

-- ---- recipes

map-unless : (leaves : LeafTable) (b : Bool) (u : Tree) → (if b then [] else recipe leaves u ∷ []) ≡ map (recipe leaves) (if b then [] else u ∷ [])
map-unless leaves true u = refl
map-unless leaves false u = refl

use-recipes : (leaves : LeafTable) (t u : Tree) → unless_same (recipe leaves t) (recipe leaves u) ≡ map (recipe leaves) (use_asked leaves t u)
use-recipes leaves t u = map-unless leaves (same_recipe (recipe leaves u) (recipe leaves t)) u

spread-recipes : (leaves : LeafTable) (t u : Tree) (array : Option Ty) (count : ℕ) →
    unless_same (recipe leaves t) (recipe leaves u) ++ recipe leaves (tree.Spread u array count) ∷ []
    ≡ map (recipe leaves) (spread_asked leaves t (tree.Spread u array count))
spread-recipes leaves t u array count =
    let s = tree.Spread u array count in
    ap (λ rs. rs ++ recipe leaves s ∷ []) (use-recipes leaves t u) ∙ sym (map-append (recipe leaves) (use_asked leaves t u) (s ∷ []))

-- ---- handles

module _ (operands : List HandleOperand) (old mid new : Work) (t : Tree) (h : Handle) (r : Result Handle HandleError) (same : mid.leaves ≡ old.leaves)
    (first : HasAskedMore (recipes_made old.leaves.now operands []) old.pass.now mid.pass.now) (stands : Stands old.leaves.now h t) where
  there : Stands mid.leaves.now h t
  there = subst (λ l. Stands l h t) (ap (λ l. l.now) (sym same)) stands

  pub asks-use : (by : Rules) (asked : MethodTy) (u : Tree) → use_of by old.leaves.now t asked ≡ Ok u →
      (Stands mid.leaves.now h t → MakesFrom (recipe mid.leaves.now t) (recipe mid.leaves.now (used_by by h.ty asked t)) mid new r) →
      AsksIfMade (recipes_made old.leaves.now operands (use_asked old.leaves.now t u)) old new r
  asks-use by asked u is makes =
      let leaves = mid.leaves.now in
      let v = used_by by h.ty asked t in
      asks-nodes operands (λ l. use_asked l t u) old mid new r same first
      (subst (λ w. AsksIfMade (map (recipe leaves) (use_asked leaves t w)) mid new r) (sym (use-made by old.leaves.now t u h.ty asked stands.typed is))
      (subst (λ rs. AsksIfMade rs mid new r) (use-recipes leaves t v) (asks-from (recipe leaves t) (recipe leaves v) mid new r (makes there))))

  pub asks-spread : (array : Option Ty) (count : ℕ) (s : Tree) → spread_of old.leaves.now t array count ≡ Ok s →
      (Stands mid.leaves.now h t → MakesSpread h.ty array count t mid new r) →
      AsksIfMade (recipes_made old.leaves.now operands (spread_asked old.leaves.now t s)) old new r
  asks-spread array count s is makes =
      let leaves = mid.leaves.now in
      let u = items_used_as h.ty array count t in
      let spread = tree.Spread u array count in
      asks-nodes operands (λ l. spread_asked l t s) old mid new r same first
      (subst (λ w. AsksIfMade (map (recipe leaves) (spread_asked leaves t w)) mid new r) (sym (spread-made old.leaves.now t s h.ty array count stands.typed is))
      (subst (λ rs. AsksIfMade rs mid new r) (spread-recipes leaves t u array count)
      (asks-both (recipe leaves t) (recipe leaves u) (recipe leaves spread) mid new r (makes there))))
