-- The rules of a spread that is used as its type.
use Rattle.std.proofs.Common.{◌≡◌, sym, subst, ap, ap₂, ◌∙◌, ℕ, true, List, [], ◌∷◌, ◌++◌, length, Option, Some, Result, Ok, Err, codes, nat_le, arith}
use Rattle.std.specs.Prelude.{IsErrAnd}
use Rattle.std.specs.Option.{option_map_or}
use Rattle.mh_base.specs.Provided.{provided, provided_some}
use Rattle.mh_values.specs.declared.class.Class.{Class}
use Rattle.mh_values.specs.declared.types.Comp.{Comp}
use Rattle.mh_values.specs.declared.types.Ty.{Ty}
use Rattle.mh_values.specs.declared.types.MethodTy.{MethodTy}
use Rattle.mh_values.specs.declared.value.Exc.{Exc}
use Rattle.mh_tree.specs.declared.error.CheckError.{CheckError}
use Rattle.mh_tree.specs.declared.error.CheckError.TheVariants as check
use Rattle.mh_tree.specs.Check.{TellsRow}
use Rattle.mh_tree.specs.Rows.{TypeOrRefusal, component_of, illegal, spread_row}
use Rattle.mh_tree.specs.Tree.{Tree}
use Rattle.mh_tree.specs.Typing.{with_type}
use Rattle.mh_tree.specs.Use.{items_used_as, spread_use_row, taking_items, use_row, use_weight, used_as}
use Rattle.mh_handle.specs.declared.error.HandleError.{HandleError}
use Rattle.mh_handle.specs.declared.error.HandleError.TheVariants.{NoMemory, FormsFull, TypesFull, Refused}
use Rattle.mh_handle.specs.declared.handle.Handle.{Handle}
use Rattle.mh_handle.specs.declared.work.Work.{Work}
use Rattle.mh_handle.specs.Errors.{of_check}
use Rattle.mh_handle.specs.Obeys.{Obeys}
use Rattle.mh_handle.specs.Works.{GoesOn, IsReady, types_in}
use Rattle.mh_astype.specs.Use.{used_types}
use Rattle.mh_spread.specs.declared.spreading.Spreading.{Spreading}
use Rattle.mh_spread.specs.Spreading.{IsSpreading, TellsSpreading, spread_types}

module _ (classes : List Class) (t : MethodTy) (weight : ℕ) (array : Option Ty) (count : ℕ) where
  refusal : Exc
  refusal = illegal (codes "spread")

  uses : Comp → TypeOrRefusal
  uses c = with_type (use_row classes t weight (taking_items t c count)) (λ a. spread_row a (use_weight t weight (taking_items t c count)) array count)

  -- the rule, where there is a component and there are so many parameters
  at-component : (c : Comp) → component_of array ≡ Some c → nat_le count (length t.params) ≡ true → spread_use_row classes t weight array count ≡ uses c
  unfolding uses refusal
  at-component c some within =
      ap (λ o. provided_some o refusal (λ d. provided (nat_le count (length t.params)) refusal (uses d))) some ∙ ap (λ b. provided b refusal (uses c)) within

  pub at-use : (c : Comp) (asked : MethodTy) → component_of array ≡ Some c → nat_le count (length t.params) ≡ true → asked ≡ taking_items t c count
      → spread_use_row classes t weight array count ≡ with_type (use_row classes t weight asked) (λ a. spread_row a (use_weight t weight asked) array count)
  unfolding uses
  at-use c asked some within is =
      at-component c some within ∙ ap (λ m. with_type (use_row classes t weight m) (λ a. spread_row a (use_weight t weight m) array count)) (sym is)

  pub spreading-row : (s : Spreading) → IsSpreading classes t weight array count s → spread_use_row classes t weight array count ≡ Ok s.own
  spreading-row s is =
      at-use s.component s.asked is.component is.within is.asked
      ∙ (ap (λ r. with_type r (λ a. spread_row a (use_weight t weight s.asked) array count)) is.used ∙ is.own)

  -- the types of the nodes that the spread makes
  pub types-are : (s : Spreading) → IsSpreading classes t weight array count s →
      spread_types classes t weight array count ≡ used_types classes t weight s.asked ++ s.own ∷ []
  types-are s is =
      let first : option_map_or (λ c. used_types classes t weight (taking_items t c count)) (component_of array) [] ≡ used_types classes t weight s.asked =
      ap (λ o. option_map_or (λ c. used_types classes t weight (taking_items t c count)) o []) is.component
      ∙ ap (λ m. used_types classes t weight m) (sym is.asked) in
      ap₂ (λ (a b : List MethodTy). a ++ b) first (ap types_in (spreading-row s is))

  pub refusal-tells : (e : CheckError) → TellsSpreading classes t weight array count (Err e) → TellsRow (Err e) (spread_use_row classes t weight array count)
  refusal-tells check.NoMemory tells = tt
  refusal-tells (check.Refused e) tells = tells

  refusal-obeys : (e : CheckError) → TellsSpreading classes t weight array count (Err e) →
      Obeys (spread_use_row classes t weight array count) (Err (of_check e))
  refusal-obeys check.NoMemory tells = tt
  refusal-obeys (check.Refused e) tells = tells

  pub spreading-refused : (e : CheckError) (r : Result Handle HandleError) → TellsSpreading classes t weight array count (Err e) → r ≡ Err (of_check e) →
      Obeys (spread_use_row classes t weight array count) r
  spreading-refused e r tells is = subst (λ v. Obeys (spread_use_row classes t weight array count) v) (sym is) (refusal-obeys e tells)

  -- an error of the use, where the use is not refused
  pub used-error : (u asked : MethodTy) (e : HandleError) (r : Result Handle HandleError) → spread_use_row classes t weight array count ≡ Ok u →
      use_row classes t weight asked ≡ Ok asked
      → Obeys (use_row classes t weight asked) (Err e) → IsErrAnd r (λ x. x ≡ e) → Obeys (spread_use_row classes t weight array count) r
  used-error u asked e (Ok h) row used obeys is = absurd is
  used-error u asked NoMemory (Err x) row used obeys is = subst (λ v. Obeys (spread_use_row classes t weight array count) (Err v)) (sym is) tt
  used-error u asked (FormsFull drawn) (Err x) row used obeys is = subst (λ v. Obeys (spread_use_row classes t weight array count) (Err v)) (sym is) (u, row)
  used-error u asked (TypesFull bucket) (Err x) row used obeys is = subst (λ v. Obeys (spread_use_row classes t weight array count) (Err v)) (sym is) (u, row)
  used-error u asked (Refused e) (Err x) row used obeys is = let both : ◌≡◌ {A = TypeOrRefusal} (Ok asked) (Err e) = sym used ∙ obeys in absurd cc

  -- a tree that is used as the type that was asked for takes the items
  pub items-are : (c : Comp) (asked : MethodTy) (a : Tree) → component_of array ≡ Some c → asked ≡ taking_items t c count →
      used_as t asked a ≡ items_used_as t array count a
  items-are c asked a some is = ap (λ m. used_as t m a) is ∙ sym (ap (λ o. option_map_or (λ d. used_as t (taking_items t d count) a) o a) some)

-- one number is left of two, and the types of one handle may be held
pub ready-left : (old mid : Work) → IsReady old 2 → GoesOn 1 old mid → IsReady mid 1
ready-left old mid ready goes = record {
  of_table = goes.table ∙ (ready.of_table ∙ sym (ap (λ f. f.now) goes.forms));
  room = omega (arith, ready.room, goes.room);
  of_types = goes.seat ∙ (ready.of_types ∙ sym (ap (λ t. t.now) goes.types));
  holds = omega (arith, ready.holds, goes.holds);
}
