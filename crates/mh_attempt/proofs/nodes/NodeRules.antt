-- What the rules of combinators give, by the number of their handles.
use Rattle.std.proofs.Common.{◌≡◌, refl, sym, ◌∙◌, ℕ, List, [], ◌∷◌}
use Rattle.mh_values.specs.declared.class.Class.{Class}
use Rattle.mh_values.specs.declared.types.MethodTy.{MethodTy}
use Rattle.mh_leaf.specs.LeafTable.{LeafTable}
use Rattle.mh_tree.specs.declared.joints.Joint.TheVariants as joint
use Rattle.mh_tree.specs.Tree.{Tree, weight}
use Rattle.mh_tree.specs.Typing.{type_of, with_type}
use Rattle.mh_handle.specs.Stands.{HandleView, Stands}
use Rattle.mh_link.specs.Made.{nodes_of}
use Rattle.mh_attempt.specs.declared.lines.nodes.OfOne.{OfOne}
use Rattle.mh_attempt.specs.declared.lines.nodes.OfOne.TheVariants as one
use Rattle.mh_attempt.specs.declared.lines.nodes.OfThree.{OfThree}
use Rattle.mh_attempt.specs.declared.lines.nodes.OfThree.TheVariants as three
use Rattle.mh_attempt.specs.declared.lines.nodes.OfTwo.{OfTwo}
use Rattle.mh_attempt.specs.declared.lines.nodes.OfTwo.TheVariants as two
use Rattle.mh_attempt.specs.Nodes.{IsTypedAs, one_row, one_tree, three_row, three_tree, two_row, two_tree}

-- a handle has the type and the weight of its tree
pub typed-handle : (leaves : LeafTable) (h : HandleView) (t : Tree) → Stands leaves h t → IsTypedAs leaves t h.ty h.weight
typed-handle leaves h t stands = record { typed = stands.typed; weighed = stands.weighed }

-- ---- of one handle

-- the node makes no other
pub one-alone : (by : OfOne) (t : Tree) → nodes_of (one_tree by t) ≡ one_tree by t ∷ []
one-alone (one.Bind place v) t = refl
one-alone (one.Drop place types) t = refl
one-alone (one.Permute asked order) t = refl
one-alone (one.Gather array count) t = refl

one-typed : (leaves : LeafTable) (by : OfOne) (t : Tree) →
    type_of leaves (one_tree by t) ≡ with_type (type_of leaves t) (λ own. one_row leaves.classes by own (weight t))
one-typed leaves (one.Bind place v) t = refl
one-typed leaves (one.Drop place types) t = refl
one-typed leaves (one.Permute asked order) t = refl
one-typed leaves (one.Gather array count) t = refl

pub one-ruled : (leaves : LeafTable) (classes : List Class) (by : OfOne) (t : Tree) (ty : MethodTy) (n : ℕ) → classes ≡ leaves.classes →
    IsTypedAs leaves t ty n → type_of leaves (one_tree by t) ≡ one_row classes by ty n
one-ruled leaves classes by t ty n same is =
    one-typed leaves by t ∙ (λ i. with_type (is.typed i) (λ own. one_row (sym same i) by own (sym is.weighed i)))

-- ---- of two

pub two-alone : (by : OfTwo) (t p : Tree) → nodes_of (two_tree by t p) ≡ two_tree by t p ∷ []
two-alone (two.Joint (joint.Filter place)) t p = refl
two-alone (two.Joint joint.FilterReturn) t p = refl
two-alone (two.Joint (joint.Fold place)) t p = refl
two-alone (two.Joint (joint.Collect place)) t p = refl
two-alone (two.Catch class) t p = refl
two-alone two.TryFinally t p = refl

two-typed : (leaves : LeafTable) (by : OfTwo) (t p : Tree) →
    type_of leaves (two_tree by t p)
    ≡ with_type (type_of leaves t) (λ own. with_type (type_of leaves p) (λ other. two_row leaves.classes by own (weight t) other (weight p)))
two-typed leaves (two.Joint (joint.Filter place)) t p = refl
two-typed leaves (two.Joint joint.FilterReturn) t p = refl
two-typed leaves (two.Joint (joint.Fold place)) t p = refl
two-typed leaves (two.Joint (joint.Collect place)) t p = refl
two-typed leaves (two.Catch class) t p = refl
two-typed leaves two.TryFinally t p = refl

pub two-ruled : (leaves : LeafTable) (classes : List Class) (by : OfTwo) (t p : Tree) (ty part : MethodTy) (n m : ℕ) → classes ≡ leaves.classes →
    IsTypedAs leaves t ty n → IsTypedAs leaves p part m → type_of leaves (two_tree by t p) ≡ two_row classes by ty n part m
two-ruled leaves classes by t p ty part n m same first second =
    two-typed leaves by t p
    ∙ (λ i. with_type (first.typed i) (λ own. with_type (second.typed i)
    (λ other. two_row (sym same i) by own (sym first.weighed i) other (sym second.weighed i))))

-- ---- of three

pub three-alone : (by : OfThree) (a b c : Tree) → nodes_of (three_tree by a b c) ≡ three_tree by a b c ∷ []
three-alone three.Guard a b c = refl
three-alone three.Counted a b c = refl

three-typed : (leaves : LeafTable) (by : OfThree) (a b c : Tree) →
    type_of leaves (three_tree by a b c)
    ≡ with_type (type_of leaves a) (λ x. with_type (type_of leaves b) (λ y. with_type (type_of leaves c)
    (λ z. three_row by x (weight a) y (weight b) z (weight c))))
three-typed leaves three.Guard a b c = refl
three-typed leaves three.Counted a b c = refl

pub three-ruled : (leaves : LeafTable) (by : OfThree) (a b c : Tree) (x y z : MethodTy) (l n m : ℕ) → IsTypedAs leaves a x l → IsTypedAs leaves b y n →
    IsTypedAs leaves c z m → type_of leaves (three_tree by a b c) ≡ three_row by x l y n z m
three-ruled leaves by a b c x y z l n m first second third =
    three-typed leaves by a b c
    ∙ (λ i. with_type (first.typed i) (λ x. with_type (second.typed i) (λ y. with_type (third.typed i)
    (λ z. three_row by x (sym first.weighed i) y (sym second.weighed i) z (sym third.weighed i)))))
