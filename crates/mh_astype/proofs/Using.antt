-- What is known where a handle is used as another type.
use Rattle.std.proofs.Common.{◌≡◌, ◌≢◌, sym, ap, ◌∙◌, subst, ◌+◌, ◌≤◌, Bool, true, false, cond, List, [], ◌∷◌, ◌++◌, length, length-append, Result, Ok, Err, IfOk, inl, inr, arith}
use Rattle.std.proofs.lemmas.List.{append-nil}
use Rattle.mh_values.specs.declared.class.Class.{Class}
use Rattle.mh_values.specs.declared.types.MethodTy.{MethodTy}
use Rattle.mh_values.specs.Classes.{AreClasses}
use Rattle.mh_values.specs.Same.{is_same_method_type}
use Rattle.mh_convert.specs.declared.conv.Rules.{Rules}
use Rattle.mh_leaf.specs.LeafTable.{LeafTable}
use Rattle.mh_tree.specs.Tree.{Tree, converted}
use Rattle.mh_tree.specs.Rows.{convert_row}
use Rattle.mh_tree.specs.declared.error.CheckError.{CheckError}
use Rattle.mh_tree.specs.declared.error.CheckError.TheVariants as check
use Rattle.mh_tree.specs.Use.{used_by}
use Rattle.mh_edit.specs.declared.key.Key.{Key}
use Rattle.mh_handle.specs.declared.error.HandleError.{HandleError}
use Rattle.mh_handle.specs.declared.handle.Handle.{Handle}
use Rattle.mh_handle.specs.declared.work.Work.{Work}
use Rattle.mh_handle.specs.Converting.{IsUsedAs}
use Rattle.mh_handle.specs.Errors.{of_check}
use Rattle.mh_handle.specs.declared.growth.Growth.{Growth}
use Rattle.mh_handle.specs.Grows.{GrowsBy}
use Rattle.mh_handle.specs.Parts.{PartsView}
use Rattle.mh_handle.specs.Recipe.{convert_keys}
use Rattle.mh_handle.specs.Stands.{HandleView, IsShaped, Stands}
use Rattle.mh_handle.specs.Works.{HoldsTypes, IsUnchanged, Makes, TradesTypes}
use Rattle.mh_handle.proofs.conversions.AsTypeStands.{converted-stands}
use Rattle.mh_handle.proofs.obeying.Refusals.{check-makes}
use Rattle.mh_astype.specs.Use.{AddsConversions, AsksNothing, MakesFrom}
pub use Rattle.mh_astype.proofs.ConvertKeys.{convert-fits, convert-shaped, convert_key, fields-kept, kept-shaped, keys-changed, keys-kept, light, trivial}

-- ---- the handle

pub used-kept :
    (by : Rules) (classes : List Class) (asked : MethodTy) (old new : HandleView) → trivial classes asked old.ty ≡ true →
    new.ty ≡ asked → new.weight ≡ 1 + old.weight → new.sides ≡ old.sides → new.form ≡ old.form → new.fields ≡ old.fields →
    IsUsedAs by classes asked old new
used-kept by classes asked old new is t w s f fs = record {
  ty = t;
  weight = w;
  sides = s;
  recipe = ap (λ g. g.recipe) f ∙ sym (ap (λ ks. old.form.recipe ++ ks) (keys-kept classes asked old.ty is) ∙ append-nil old.form.recipe);
  fields = fs ∙ sym (ap (λ xs. old.fields ++ xs) (fields-kept by classes asked old.ty is) ∙ append-nil old.fields);
}

module _ (by : Rules) (classes : List Class) (asked : MethodTy) (old : HandleView) (growth : Growth) (adds : AddsConversions by classes asked old growth) where
  pub used-grown : (r : Result Handle HandleError) → trivial classes asked old.ty ≡ false → GrowsBy old growth r → IfOk r (IsUsedAs by classes asked old)
  used-grown (Ok new) is g = record {
    ty = g.typed ∙ adds.ty;
    weight = g.weighed ∙ adds.weight;
    sides = g.holds ∙ (ap (λ (p : PartsView). old.sides ++ p.sides) adds.parts ∙ append-nil old.sides);
    recipe = g.made ∙ ap (λ ks. old.form.recipe ++ ks) (ap (λ v. v ∷ []) adds.key ∙ sym (keys-changed classes asked old.ty is));
    fields = g.fielded ∙ ap (λ (p : PartsView). old.fields ++ p.fields) adds.parts;
  }
  used-grown (Err e) is g = tt

  -- the holds of the handle are all that are handed over
  pub used-trades : (w new : Work) (r : Result Handle HandleError) → TradesTypes (growth.ty ∷ []) (old.held ++ growth.parts.held) w new r →
      TradesTypes (asked ∷ []) old.held w new r
  used-trades w new r trades =
      let all : old.held ++ growth.parts.held ≡ old.held = ap (λ (p : PartsView). old.held ++ p.held) adds.parts ∙ append-nil old.held in
      subst (λ l. TradesTypes (asked ∷ []) l w new r) all
      (subst (λ (t : MethodTy). TradesTypes (t ∷ []) (old.held ++ growth.parts.held) w new r) adds.ty trades)

  -- it holds no more types than it has nodes
  pub used-few : IsShaped old → length old.held + length growth.parts.held ≤ growth.weight
  used-few shaped =
      let none : length growth.parts.held ≡ 0 = ap (λ (p : PartsView). length p.held) adds.parts in
      omega (arith, none, shaped.few, adds.weight)

  -- the holds that are handed over are those of the handle
  pub used-held : (w : Work) → HoldsTypes w old.held → HoldsTypes w (old.held ++ growth.parts.held)
  used-held w held =
      let all : old.held ++ growth.parts.held ≡ old.held = ap (λ (p : PartsView). old.held ++ p.held) adds.parts ∙ append-nil old.held in
      subst (HoldsTypes w) (sym all) held

-- ---- the work

-- a key more makes another recipe
differs : (recipe keys : List Key) (k : Key) → recipe ++ k ∷ keys ≢ recipe
differs recipe keys k same = omega (arith, ap length same, length-append recipe (k ∷ keys))

pub makes-changed :
    (classes : List Class) (asked own : MethodTy) (recipe : List Key) (key : Key) (old new : Work) (r : Result Handle HandleError) →
    trivial classes asked own ≡ false → key ≡ convert_key classes asked own → Makes (recipe ++ key ∷ []) old new r →
    MakesFrom recipe (recipe ++ convert_keys classes asked own) old new r
makes-changed classes asked own recipe key old new r is k makes =
    let keys : key ∷ [] ≡ convert_keys classes asked own = ap (λ v. v ∷ []) k ∙ sym (keys-changed classes asked own is) in
    subst (λ ks. MakesFrom recipe (recipe ++ ks) old new r) keys (inr (differs recipe [] key, makes))

-- what leaves all but the seat of types asks for nothing
asks-nothing : (old new : Work) (e : CheckError) → IsUnchanged old new → AsksNothing old new (Err (of_check e))
asks-nothing old new check.NoMemory same = same
asks-nothing old new (check.Refused e) same = same

-- a refusal, or want of memory before any edit
pub makes-refused : (recipe keys : List Key) (old new : Work) (e : CheckError) (r : Result Handle HandleError) → r ≡ Err (of_check e) →
    IsUnchanged old new → MakesFrom recipe (recipe ++ keys) old new r
makes-refused recipe [] old new e r is same =
    subst (λ v. MakesFrom recipe (recipe ++ []) old new v) (sym is) (inl (append-nil recipe, asks-nothing old new e same))
makes-refused recipe (k ∷ keys) old new e r is same =
    inr (differs recipe keys k, check-makes old new e r is (recipe ++ k ∷ keys) same)

-- ---- the tree

pub used-stands :
    (by : Rules) (table : LeafTable) (asked u : MethodTy) (old : HandleView) (t : Tree) (r : Result Handle HandleError) →
    AreClasses table.classes → is_same_method_type old.ty asked ≡ false → convert_row by table.classes old.ty old.weight asked ≡ Ok u → Stands table old t →
    IfOk r (IsUsedAs by table.classes asked old) → IfOk r (λ new. Stands table new (used_by by old.ty asked t))
used-stands by table asked u old t (Ok new) are other row st used =
    let P : Bool → Type 0 = λ b. Stands table new (cond b t (converted by t asked)) in
    subst P (sym other) (converted-stands by table are asked u old new t row used st)
used-stands by table asked u old t (Err e) are other row st used = tt
