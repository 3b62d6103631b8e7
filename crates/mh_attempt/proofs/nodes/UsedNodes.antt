-- The node of a handle that is converted by the rules to a type.
use Rattle.std.proofs.Common.{◌≡◌, sym, ap, subst, ◌∙◌, ℕ, List, Result, Ok, IfOk}
use Rattle.mh_base.proofs.Inversion.{ok_is}
use Rattle.mh_values.specs.declared.class.Class.{Class}
use Rattle.mh_values.specs.declared.types.MethodTy.{MethodTy}
use Rattle.mh_convert.specs.declared.conv.Rules.{Rules}
use Rattle.mh_leaf.specs.LeafTable.{LeafTable}
use Rattle.mh_tree.specs.Rows.{TypeOrRefusal}
use Rattle.mh_tree.specs.Tree.{Tree, weight}
use Rattle.mh_tree.specs.Typing.{type_of}
use Rattle.mh_tree.specs.Use.{use_row_by, used_by}
use Rattle.mh_tree.proofs.Uses.{use-type-by}
use Rattle.mh_handle.specs.declared.error.HandleError.{HandleError}
use Rattle.mh_handle.specs.declared.handle.Handle.{Handle}
use Rattle.mh_handle.specs.declared.work.Work.{Work}
use Rattle.mh_handle.specs.Obeys.{Obeys}
use Rattle.mh_handle.specs.Stands.{Stands}
use Rattle.mh_jobs.specs.Thrown.{◌>>=◌}
use Rattle.mh_attempt.specs.Lines.{MakesNode, typed}
use Rattle.mh_link.specs.Operations.{use_of}
use Rattle.mh_attempt.proofs.nodes.LineNodes.{made-node, same-node}

-- a use is that of a tree whose type is known
pub use-given : (by : Rules) (leaves : LeafTable) (t : Tree) (own asked : MethodTy) → type_of leaves t ≡ Ok own → use_of by leaves t asked ≡ Ok
    (used_by by own asked t)
use-given by leaves t own asked h = ap (λ (m : TypeOrRefusal). m >>= (λ o. Ok (used_by by o asked t))) h

pub use-is : (by : Rules) (leaves : LeafTable) (t : Tree) (own asked : MethodTy) → type_of leaves t ≡ Ok own →
    (use_of by leaves t asked >>= typed leaves) ≡ typed leaves (used_by by own asked t)
use-is by leaves t own asked h = ap (λ m. m >>= typed leaves) (use-given by leaves t own asked h)

-- the type of a use is what the rule says of types and weights
pub use-rule : (by : Rules) (leaves : LeafTable) (classes : List Class) (t : Tree) (own asked : MethodTy) (n : ℕ) → classes ≡ leaves.classes →
    type_of leaves t ≡ Ok own →
    n ≡ weight t → type_of leaves (used_by by own asked t) ≡ use_row_by by classes own n asked
use-rule by leaves classes t own asked n same typed weighed = use-type-by leaves t own typed by asked ∙ (λ i. use_row_by by (sym same i) own (sym
    weighed i) asked)

-- the handle that a use makes
pub node-of-use : (by : Rules) (old mid new : Work) (t : Tree) (h : Handle) (own asked used : MethodTy) (r : Result Handle HandleError) → mid.leaves
    ≡ old.leaves →
    Stands old.leaves.now h t → type_of old.leaves.now t ≡ Ok own → type_of old.leaves.now (used_by by own asked t) ≡ Ok used →
    Obeys (use_row_by by mid.leaves.now.classes h.ty h.weight asked) r →
    (Stands mid.leaves.now h t → IfOk r (λ x. Stands mid.leaves.now x (used_by by h.ty asked t))) →
    MakesNode (use_of by old.leaves.now t asked >>= typed old.leaves.now) old new r
node-of-use by old mid new t h own asked used r same stands typed is obeys made =
    let own-is : own ≡ h.ty = ok_is own h.ty (sym typed ∙ stands.typed) in
    same-node _ _ old new r (use-is by old.leaves.now t h.ty asked stands.typed)
    (made-node old mid new (used_by by h.ty asked t) used (use_row_by by mid.leaves.now.classes h.ty h.weight asked) r same
    (subst (λ m. type_of old.leaves.now (used_by by m asked t) ≡ Ok used) own-is is)
    (use-rule by old.leaves.now mid.leaves.now.classes t h.ty asked h.weight (ap (λ l. l.now.classes) same) stands.typed stands.weighed) obeys
    (made (subst (λ l. Stands l h t) (ap (λ l. l.now) (sym same)) stands)))
