-- The node of a handle whose last arguments come in an array.
use Rattle.std.proofs.Common.{◌≡◌, sym, ap, subst, ◌∙◌, ℕ, Bool, ◌&&◌, List, length, Option, Result, Ok, IfOk, codes, nat_le}
use Rattle.std.specs.Prelude.{is_some}
use Rattle.mh_base.proofs.Inversion.{ok_is}
use Rattle.mh_values.specs.declared.class.Class.{Class}
use Rattle.mh_values.specs.declared.types.Ty.{Ty}
use Rattle.mh_values.specs.declared.types.MethodTy.{MethodTy}
use Rattle.mh_leaf.specs.LeafTable.{LeafTable}
use Rattle.mh_tree.specs.Rows.{TypeOrRefusal, component_of, illegal}
use Rattle.mh_tree.specs.Tree.{Tree, weight}
use Rattle.mh_tree.specs.Tree as tree
use Rattle.mh_tree.specs.Typing.{type_of}
use Rattle.mh_tree.specs.Use.{items_used_as, spread_use_row}
use Rattle.mh_handle.specs.declared.error.HandleError.{HandleError}
use Rattle.mh_handle.specs.declared.handle.Handle.{Handle}
use Rattle.mh_handle.specs.declared.work.Work.{Work}
use Rattle.mh_handle.specs.Obeys.{Obeys}
use Rattle.mh_handle.specs.Stands.{Stands}
use Rattle.mh_jobs.specs.Thrown.{OrThrown, ◌>>=◌, ◌>>◌, require}
use Rattle.mh_jobs.proofs.Parts.{bound-parts, require-parts}
use Rattle.mh_attempt.specs.Lines.{MakesNode, typed}
use Rattle.mh_link.specs.Operations.{spread_of}
use Rattle.mh_attempt.proofs.nodes.LineNodes.{made-node, same-node}
use Rattle.mh_link.proofs.typing.Uses.{spread_of-type}

module _ (leaves : LeafTable) (t : Tree) (own : MethodTy) (array : Option Ty) (count : ℕ) (typed-as : type_of leaves t ≡ Ok own) where
  -- what the rule says of types and weights
  pub spread-rule : (classes : List Class) (n : ℕ) → classes ≡ leaves.classes → n ≡ weight t →
      (spread_of leaves t array count >>= type_of leaves) ≡ spread_use_row classes own n array count
  spread-rule classes n same weighed =
      spread_of-type leaves t own array count typed-as ∙ (λ i. spread_use_row (sym same i) own (sym weighed i) array count)

  -- the spread that the rule accepts
  pub spread-is : (ty : MethodTy) → (spread_of leaves t array count >>= type_of leaves) ≡ Ok ty →
      (spread_of leaves t array count ≡ Ok (tree.Spread (items_used_as own array count t) array count))
      × (type_of leaves (tree.Spread (items_used_as own array count t) array count) ≡ Ok ty)
  spread-is ty h =
      let spread = tree.Spread (items_used_as own array count t) array count in
      let holds : MethodTy → Bool = λ o. is_some (component_of array) && nat_le count (length o.params) in
      let asked : MethodTy → OrThrown Tree = λ o. require (holds o) (illegal (codes "spread"))
      >> Ok (tree.Spread (items_used_as o array count t) array count) in
      let found = bound-parts (spread_of leaves t array count) (type_of leaves) ty h in
      let given = sym (ap (λ (m : TypeOrRefusal). m >>= asked) typed-as) ∙ found.1 in
      let is = require-parts (holds own) (illegal (codes "spread")) (Ok spread) found.0 given in
      let same = ok_is spread found.0 is.1 in
      (subst (λ u. spread_of leaves t array count ≡ Ok u) (sym same) found.1, subst (λ u. type_of leaves u ≡ Ok ty) (sym same) found.2)

-- the handle that a spread makes
pub node-of-spread : (old mid new : Work) (t : Tree) (h : Handle) (array : Option Ty) (count : ℕ) (ty : MethodTy) (r : Result Handle HandleError) →
    mid.leaves ≡ old.leaves → Stands old.leaves.now h t → (spread_of old.leaves.now t array count >>= type_of old.leaves.now) ≡ Ok ty →
    Obeys (spread_use_row mid.leaves.now.classes h.ty h.weight array count) r →
    (Stands mid.leaves.now h t → IfOk r (λ x. Stands mid.leaves.now x (tree.Spread (items_used_as h.ty array count t) array count))) →
    MakesNode (spread_of old.leaves.now t array count >>= typed old.leaves.now) old new r
node-of-spread old mid new t h array count ty r same stands checked obeys made =
    let leaves = old.leaves.now in
    let is = spread-is leaves t h.ty array count stands.typed ty checked in
    let rule = spread-rule leaves t h.ty array count stands.typed mid.leaves.now.classes h.weight (ap (λ l. l.now.classes) same) stands.weighed in
    same-node _ _ old new r (ap (λ m. m >>= typed leaves) is.0)
    (made-node old mid new (tree.Spread (items_used_as h.ty array count t) array count) ty
    (spread_use_row mid.leaves.now.classes h.ty h.weight array count) r same is.1 (is.1 ∙ (sym checked ∙ rule)) obeys
    (made (subst (λ l. Stands l h t) (ap (λ l. l.now) (sym same)) stands)))
