-- A use of a tree as a type, and a spread of one, have the types that the rules by types alone say.
use Rattle.std.proofs.Common.{◌≡◌, refl, ap, ◌∙◌, Bool, true, false, ◌&&◌, ℕ, length, Option, Some, None, Ok, nat_le, codes}
use Rattle.std.specs.Prelude.{is_some}
use Rattle.mh_base.specs.Provided.{provided, provided_some}
use Rattle.mh_values.specs.declared.types.Comp.{Comp}
use Rattle.mh_values.specs.declared.types.Ty.{Ty}
use Rattle.mh_values.specs.declared.types.MethodTy.{MethodTy}
use Rattle.mh_values.specs.declared.value.Exc.{Exc}
use Rattle.mh_convert.specs.declared.conv.Rules.{Rules}
use Rattle.mh_leaf.specs.LeafTable.{LeafTable}
use Rattle.mh_tree.specs.Rows.{TypeOrRefusal, component_of, illegal, spread_row}
use Rattle.mh_tree.specs.Tree.{Tree, weight}
use Rattle.mh_tree.specs.Tree as tree
use Rattle.mh_tree.specs.Typing.{type_of, with_type}
use Rattle.mh_tree.specs.Use.{used_by, use_row, use_row_by, use_weight, taking_items, items_used_as, spread_use_row}
use Rattle.mh_tree.proofs.Uses.{use-type-by, spread-type}
use Rattle.mh_jobs.specs.Thrown.{OrThrown, ◌>>=◌, ◌>>◌, require}
use Rattle.mh_link.specs.Operations.{use_of, spread_of}

-- a conversion to a type has the type that the rule says, or is refused as it says
pub use_of-type : (by : Rules) (leaves : LeafTable) (t : Tree) (own asked : MethodTy) → type_of leaves t ≡ Ok own →
    (use_of by leaves t asked >>= type_of leaves) ≡ use_row_by by leaves.classes own (weight t) asked
use_of-type by leaves t own asked h =
    ap (λ (m : TypeOrRefusal). (m >>= (λ o. Ok (used_by by o asked t))) >>= type_of leaves) h ∙ use-type-by leaves t own h by asked

-- what asks for a component and for a condition
cases : (o : Option Comp) (b : Bool) (word : Exc) (m : OrThrown Tree) (typed : Tree → TypeOrRefusal) (row : Comp → TypeOrRefusal) →
    ((c : Comp) → o ≡ Some c → b ≡ true → (m >>= typed) ≡ row c) →
    ((require (is_some o && b) word >> m) >>= typed) ≡ provided_some o word (λ c. provided b word (row c))
cases None b word m typed row h = refl
cases (Some c) true word m typed row h = h c refl refl
cases (Some c) false word m typed row h = refl

-- a spread has the type that the rule says, or is refused as it says
pub spread_of-type : (leaves : LeafTable) (t : Tree) (own : MethodTy) (array : Option Ty) (count : ℕ) → type_of leaves t ≡ Ok own →
    (spread_of leaves t array count >>= type_of leaves) ≡ spread_use_row leaves.classes own (weight t) array count
spread_of-type leaves t own array count h =
    let word = illegal (codes "spread") in
    let within : MethodTy → Bool = λ o. nat_le count (length o.params) in
    let spread : MethodTy → OrThrown Tree = λ o. Ok (tree.Spread (items_used_as o array count t) array count) in
    let row : Comp → TypeOrRefusal = λ c. with_type (use_row leaves.classes own (weight t) (taking_items own c count))
    (λ asked. spread_row asked (use_weight own (weight t) (taking_items own c count)) array count) in
    let each : (c : Comp) → component_of array ≡ Some c → within own ≡ true → (spread own >>= type_of leaves) ≡ row c =
    λ c some fits. spread-type leaves t own h c array count some fits
    ∙ ap (λ o. provided_some o word (λ d. provided (within own) word (row d))) some ∙ ap (λ b. provided b word (row c)) fits in
    ap (λ (m : TypeOrRefusal). (m >>= (λ o. require (is_some (component_of array) && within o) word >> spread o)) >>= type_of leaves) h
    ∙ cases (component_of array) (within own) word (spread own) (type_of leaves) row each
