-- A tree that is used as a type, and a spread of one, have the types and the weights that the rules of their uses say.
use Rattle.std.proofs.Common.{◌≡◌, refl, sym, ap, ◌∙◌, Bool, true, false, cond, ℕ, ◌+◌, length, Option, Some, Ok, nat_le, codes}
use Rattle.std.specs.Option.{option_map_or}
use Rattle.mh_base.specs.Provided.{provided, provided_some}
use Rattle.mh_values.specs.declared.types.Comp.{Comp}
use Rattle.mh_values.specs.declared.types.Ty.{Ty}
use Rattle.mh_values.specs.declared.types.MethodTy.{MethodTy}
use Rattle.mh_values.specs.Same.{is_same_method_type}
use Rattle.mh_convert.specs.declared.conv.Rules.{Rules}
use Rattle.mh_convert.specs.declared.conv.Rules.TheVariants as rules
use Rattle.mh_leaf.specs.LeafTable.{LeafTable}
use Rattle.mh_tree.specs.Rows.{TypeOrRefusal, component_of, convert_row, illegal, spread_row}
use Rattle.mh_tree.specs.Tree.{Tree, converted, weight}
use Rattle.mh_tree.specs.Tree as tree
use Rattle.mh_tree.specs.Typing.{type_of, with_type}
use Rattle.mh_tree.specs.Use.{used_as, used_by, use_row, use_row_by, use_weight, taking_items, items_used_as, spread_use_row}
use Rattle.mh_tree.proofs.Converted.{type-converted, weight-converted}

module _ (leaves : LeafTable) (t : Tree) (own : MethodTy) (typed : type_of leaves t ≡ Ok own) where
  used-type : (by : Rules) (asked : MethodTy) (b : Bool) →
      type_of leaves (cond b t (converted by t asked)) ≡ cond b (Ok own) (convert_row by leaves.classes own (weight t) asked)
  used-type by asked true = typed
  used-type by asked false = type-converted by leaves t asked ∙ ap (λ m. with_type m (λ ty. convert_row by leaves.classes ty (weight t) asked)) typed

  -- the type of a tree that is converted by the rules to a type, or its refusal
  pub use-type-by : (by : Rules) (asked : MethodTy) → type_of leaves (used_by by own asked t) ≡ use_row_by by leaves.classes own (weight t) asked
  use-type-by by asked = used-type by asked (is_same_method_type own asked)

  -- the same of a tree that is used as a type
  pub use-type : (asked : MethodTy) → type_of leaves (used_as own asked t) ≡ use_row leaves.classes own (weight t) asked
  use-type asked = use-type-by rules.AsType asked

  used-weight : (by : Rules) (asked : MethodTy) (b : Bool) → weight (cond b t (converted by t asked)) ≡ cond b (weight t) (1 + weight t)
  used-weight by asked true = refl
  used-weight by asked false = weight-converted by t asked

  -- the weight of a tree that is converted by the rules to a type
  pub use-weight-by : (by : Rules) (asked : MethodTy) → weight (used_by by own asked t) ≡ use_weight own (weight t) asked
  use-weight-by by asked = used-weight by asked (is_same_method_type own asked)

  -- the same of a tree that is used as a type
  pub use-weight : (asked : MethodTy) → weight (used_as own asked t) ≡ use_weight own (weight t) asked
  use-weight asked = use-weight-by rules.AsType asked

  -- the type of a spread, or its refusal, where the type is an array's and there are so many parameters
  pub spread-type : (c : Comp) (array : Option Ty) (count : ℕ) → component_of array ≡ Some c → nat_le count (length own.params) ≡ true →
      type_of leaves (tree.Spread (items_used_as own array count t) array count) ≡ spread_use_row leaves.classes own (weight t) array count
  spread-type c array count some within =
      let asked = taking_items own c count in
      let items : Comp → Tree = λ d. used_as own (taking_items own d count) t in
      let uses : Comp → TypeOrRefusal = λ d. with_type (use_row leaves.classes own (weight t) (taking_items own d count))
      (λ ty. spread_row ty (use_weight own (weight t) (taking_items own d count)) array count) in
      let word = illegal (codes "spread") in
      ap (λ o. type_of leaves (tree.Spread (option_map_or items o t) array count)) some
      ∙ ((λ i. with_type (use-type asked i) (λ ty. spread_row ty (use-weight asked i) array count))
      ∙ (sym (ap (λ b. provided b word (uses c)) within)
      ∙ sym (ap (λ o. provided_some o word (λ d. provided (nat_le count (length own.params)) word (uses d))) some)))
