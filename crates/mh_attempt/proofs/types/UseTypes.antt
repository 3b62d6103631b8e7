-- Which types are asked for to use a handle as another type, or to spread it.
use Rattle.std.proofs.Common.{◌≡◌, refl, sym, ◌∙◌, ap, subst, ℕ, Bool, true, false, List, [], ◌∷◌, ◌++◌, Option, None, Some, Result, Ok}
use Rattle.std.specs.Prelude.{if◌then◌else◌}
use Rattle.std.specs.Option.{option_map_or}
use Rattle.mh_base.proofs.Inversion.{ok_is}
use Rattle.mh_values.specs.declared.class.Class.{Class}
use Rattle.mh_values.specs.declared.types.Comp.{Comp}
use Rattle.mh_values.specs.declared.types.Ty.{Ty}
use Rattle.mh_values.specs.declared.types.MethodTy.{MethodTy}
use Rattle.mh_values.specs.Same.{is_same_method_type}
use Rattle.mh_intern.specs.Views.{HoldView}
use Rattle.mh_convert.specs.declared.conv.Rules.{Rules}
use Rattle.mh_convert.specs.declared.conv.Rules.TheVariants as rules
use Rattle.mh_leaf.specs.LeafTable.{LeafTable}
use Rattle.mh_tree.specs.Rows.{component_of, convert_row}
use Rattle.mh_tree.specs.Tree.{Tree, converted, weight}
use Rattle.mh_tree.specs.Tree as tree
use Rattle.mh_tree.specs.Typing.{type_of, with_type}
use Rattle.mh_tree.specs.Use.{items_used_as, spread_use_row, taking_items, used_as, used_by}
use Rattle.mh_tree.proofs.Converted.{type-converted}
use Rattle.mh_handle.specs.declared.error.HandleError.{HandleError}
use Rattle.mh_handle.specs.declared.handle.Handle.{Handle}
use Rattle.mh_handle.specs.declared.work.Work.{Work}
use Rattle.mh_handle.specs.Stands.{Stands}
use Rattle.mh_handle.specs.Works.{TradesTypes, types_in}
use Rattle.mh_astype.specs.Use.{used_types, used_types_by}
use Rattle.mh_spread.specs.Spreading.{spread_types}
use Rattle.mh_jobs.specs.Thrown.{◌>>=◌}
use Rattle.mh_link.specs.Made.{nodes_of, types_of}
use Rattle.mh_link.specs.Operations.{spread_of, use_of}
use Rattle.mh_attempt.specs.declared.handle.HandleOperand.{HandleOperand}
use Rattle.mh_attempt.specs.AskedTypes.{AsksNoOther, AsksTypesOrThrows, node_types, types_made}
use Rattle.mh_attempt.specs.Lines.{typed}
use Rattle.mh_attempt.proofs.types.TypeLists.{IsWithin, within-both, within-equal, within-none}
use Rattle.mh_attempt.proofs.nodes.LineNodes.{typed-is}
use Rattle.mh_attempt.proofs.nodes.SpreadNodes.{spread-is, spread-rule}
use Rattle.mh_attempt.proofs.nodes.UsedNodes.{use-is}
use Rattle.mh_attempt.proofs.types.OperandTypes.{tree-types, types-both, types-nodes}

-- a conversion makes its node alone
converted-alone : (by : Rules) (t : Tree) (asked : MethodTy) → nodes_of (converted by t asked) ≡ converted by t asked ∷ []
converted-alone rules.AsType t asked = refl
converted-alone rules.Explicit t asked = refl

-- ---- uses and spreads

module _ (leaves : LeafTable) (t : Tree) (own : MethodTy) (classes : List Class) (n : ℕ) (same : classes ≡ leaves.classes)
    (typed-as : type_of leaves t ≡ Ok own) (weighed : n ≡ weight t) where
  -- the type of a use, where the tree has another
  use-types : (by : Rules) (asked : MethodTy) → types_in (convert_row by classes own n asked) ≡ types_of leaves (converted by t asked ∷ [])
  use-types by asked =
      let row : type_of leaves (converted by t asked) ≡ convert_row by classes own n asked =
      type-converted by leaves t asked ∙ (λ i. with_type (typed-as i) (λ o. convert_row by (sym same i) o (sym weighed i) asked)) in
      ap types_in (sym row) ∙ tree-types leaves (converted by t asked)

  -- a use asks for the type of its tree, where that is another
  within-use : (by : Rules) (nodes : Tree → List Tree) → ((asked : MethodTy) → nodes (converted by t asked) ≡ converted by t asked ∷ []) → (asked : MethodTy) →
      IsWithin (used_types_by by classes own n asked) (types_of leaves (nodes (used_by by own asked t)))
  within-use by nodes alone asked = by-test (is_same_method_type own asked)
    where
      by-test : (b : Bool) → IsWithin (if b then [] else types_in (convert_row by classes own n asked))
          (types_of leaves (nodes (if b then t else converted by t asked)))
      by-test true = within-none (types_of leaves (nodes t))
      by-test false =
          within-equal (types_in (convert_row by classes own n asked)) (types_of leaves (nodes (converted by t asked)))
          (use-types by asked ∙ ap (types_of leaves) (sym (alone asked)))

  -- a spread asks for that of its part, and then for its own
  within-spread : (array : Option Ty) (count : ℕ) → type_of leaves (tree.Spread (items_used_as own array count t) array count) ≡
      spread_use_row classes own n array count →
      IsWithin (spread_types classes own n array count)
      (types_of leaves (items_used_as own array count t ∷ tree.Spread (items_used_as own array count t) array count ∷ []))
  within-spread array count by =
      let u = items_used_as own array count t in
      let s = tree.Spread u array count in
      let row = spread_use_row classes own n array count in
      let asks = option_map_or (λ c. used_types classes own n (taking_items own c count)) (component_of array) [] in
      subst (IsWithin (asks ++ types_in row)) (sym (types-both leaves (u ∷ []) (s ∷ [])))
      (within-both asks (types_in row) (types_of leaves (u ∷ [])) (types_of leaves (s ∷ [])) (by-component (component_of array))
      (within-equal (types_in row) (types_of leaves (s ∷ [])) (ap types_in (sym by) ∙ tree-types leaves s)))
    where
      by-component : (o : Option Comp) → IsWithin (option_map_or (λ c. used_types classes own n (taking_items own c count)) o [])
          (types_of leaves (option_map_or (λ c. used_as own (taking_items own c count) t) o t ∷ []))
      by-component None = within-none (types_of leaves (t ∷ []))
      by-component (Some c) = within-use rules.AsType (λ u. u ∷ []) (λ asked. refl) (taking_items own c count)

module _ (operands : List HandleOperand) (old mid new : Work) (t : Tree) (h : Handle) (gone : List HoldView) (r : Result Handle HandleError)
    (same : mid.leaves ≡ old.leaves) (stands : Stands old.leaves.now h t)
    (first : AsksNoOther (types_made old.leaves.now operands []) old.seat.now mid.seat.now) where
  -- a use of what stands for a tree
  pub types-use : (by : Rules) (own asked used : MethodTy) → type_of old.leaves.now t ≡ Ok own → type_of old.leaves.now (used_by by own asked t) ≡ Ok used →
      TradesTypes (used_types_by by mid.leaves.now.classes h.ty h.weight asked) gone mid new r →
      AsksTypesOrThrows (node_types old.leaves.now operands (use_of by old.leaves.now t asked >>= typed old.leaves.now)) old new r
  types-use by own asked used typed-as is x =
      let leaves = old.leaves.now in
      let u = used_by by h.ty asked t in
      let same-type = ok_is own h.ty (sym typed-as ∙ stands.typed) in
      types-nodes operands (use_of by leaves t asked >>= typed leaves) u (used_types_by by mid.leaves.now.classes h.ty h.weight asked) gone old mid new r
      (use-is by leaves t h.ty asked stands.typed ∙ typed-is leaves u used (subst (λ o. type_of leaves (used_by by o asked t) ≡ Ok used) same-type is))
      (within-use leaves t h.ty mid.leaves.now.classes h.weight (ap (λ l. l.now.classes) same) stands.typed stands.weighed by nodes_of
      (converted-alone by t) asked) first x

  -- a spread of it
  pub types-spread : (array : Option Ty) (count : ℕ) (ty : MethodTy) → (spread_of old.leaves.now t array count >>= type_of old.leaves.now) ≡ Ok ty →
      TradesTypes (spread_types mid.leaves.now.classes h.ty h.weight array count) gone mid new r →
      AsksTypesOrThrows (node_types old.leaves.now operands (spread_of old.leaves.now t array count >>= typed old.leaves.now)) old new r
  types-spread array count ty checked x =
      let leaves = old.leaves.now in
      let now = ap (λ l. l.now.classes) same in
      let s = tree.Spread (items_used_as h.ty array count t) array count in
      let is = spread-is leaves t h.ty array count stands.typed ty checked in
      let rule = spread-rule leaves t h.ty array count stands.typed mid.leaves.now.classes h.weight now stands.weighed in
      types-nodes operands (spread_of leaves t array count >>= typed leaves) s (spread_types mid.leaves.now.classes h.ty h.weight array count) gone
      old mid new r
      (ap (λ m. m >>= typed leaves) is.0 ∙ typed-is leaves s ty is.1)
      (within-spread leaves t h.ty mid.leaves.now.classes h.weight now stands.typed stands.weighed array count (is.1 ∙ sym checked ∙ rule)) first x
