-- A handle of a concatenation stands for the concatenation.
use Rattle.std.proofs.Common.{◌≡◌, refl, sym, subst, ap, ◌∙◌, Bool, true, false, cond, List, [], ◌∷◌, Some, Result, Ok, Err, IfOk, map, length, codes}
use Rattle.std.proofs.lemmas.List.{length-map}
use Rattle.mh_values.specs.declared.class.Class.{Class}
use Rattle.mh_values.specs.declared.types.MethodTy.{MethodTy}
use Rattle.mh_values.specs.declared.value.Exc.{Exc}
use Rattle.mh_values.specs.declared.value.Outcome.TheVariants.{Throw}
use Rattle.mh_values.specs.declared.value.Value.{Value}
use Rattle.mh_values.specs.declared.value.Value.TheVariants as value
use Rattle.mh_values.specs.Class.{internal_error_class}
use Rattle.mh_values.specs.Classes.{AreClasses}
use Rattle.mh_values.specs.Computation.{found, mapped}
use Rattle.mh_values.specs.Exception.{saying}
use Rattle.mh_values.specs.HasType.{HaveTypes}
use Rattle.mh_values.specs.ValueLimits.{is_short_text}
use Rattle.mh_values.proofs.SameTypes.{same_types-is}
use Rattle.mh_leaf.specs.LeafTable.{LeafTable}
use Rattle.mh_leaf.specs.Outcome.{ran_of, returned as result}
use Rattle.mh_pieces.specs.declared.piece.Piece.{Piece}
use Rattle.mh_pieces.specs.Joined.{arg_types, joined, joined_text}
use Rattle.mh_tree.specs.Rows.{concat_row}
use Rattle.mh_tree.specs.Tree as tree
use Rattle.mh_tree.specs.Meaning.{mean}
use Rattle.mh_tree.proofs.Concatenated.{concat-sound}
use Rattle.mh_tree.proofs.RowParts.{concat_row-parts}
use Rattle.mh_tree.proofs.TypedLists.{types-length}
use Rattle.mh_form.specs.declared.basic.Shape.{Shape}
use Rattle.mh_form.specs.declared.field.Field.{Field}
use Rattle.mh_form.specs.declared.field.Field.TheVariants as field
use Rattle.mh_form.specs.Body.{nothing}
use Rattle.mh_form.specs.Erasure.{basic_of, basic_ret_of, erased, erased_ran, shape_of}
use Rattle.mh_form.specs.Run.{run_on}
use Rattle.mh_form.specs.Slots.{filled, joined_slots}
use Rattle.mh_form.proofs.ErasureLaws.{erased-all_typed}
use Rattle.mh_form.proofs.Refines.{refined}
use Rattle.mh_edit.specs.declared.key.Key.TheVariants as key
use Rattle.mh_edit.specs.Applied.{applied}
use Rattle.mh_edit.specs.Law.{returned}
use Rattle.mh_edit.proofs.RootLaws.{law-ConcatRoot}
use Rattle.mh_handle.specs.declared.error.HandleError.{HandleError}
use Rattle.mh_handle.specs.Grows.{Grows, base_handle}
use Rattle.mh_handle.specs.Stands.{HandleView, Stands}
use Rattle.mh_handle.proofs.standing.Erasing.{returns-runs, returned-erased}
use Rattle.mh_handle.proofs.standing.Standing.{stands-rooted}

-- a text, or the exception of one that is too long, is a slot or an exception
text-given : (b : Bool) (v : Value) (e : Exc) →
    mapped Some (filled (erased_ran (ran_of (cond b (result v) (Throw e)) []))) ≡ erased_ran (ran_of (cond b (result v) (Throw e)) [])
text-given true v e = refl
text-given false v e = refl

-- pieces are joined with erased arguments as with these
joined-erased : (classes : List Class) (pieces : List Piece) (args : List Value) → HaveTypes classes args (arg_types pieces) →
    mapped Some (joined_slots classes pieces (map erased args)) ≡ erased_ran (ran_of (joined classes pieces args) [])
joined-erased classes pieces args have =
    let s = joined_text classes pieces args in
    ap (λ o. mapped Some (found o (λ vs. filled (erased_ran (ran_of (joined classes pieces vs) []))))) (erased-all_typed classes (arg_types pieces) args have)
    ∙ text-given (is_short_text s) (value.Text s) (saying internal_error_class (codes "string too long"))

pub concat-stands :
    (table : LeafTable) → AreClasses table.classes → (asked : MethodTy) (pieces : List Piece) (h : HandleView) →
    concat_row table.classes asked pieces ≡ Ok asked →
    Grows base_handle h asked 1 [] (key.ConcatRoot (shape_of asked)) (field.Joined pieces ∷ []) →
    Stands table h (tree.Concat asked pieces)
concat-stands table are asked pieces h row g =
    let t = tree.Concat asked pieces in
    let sound = concat-sound table.classes are asked pieces asked row in
    let parts = concat_row-parts table.classes asked pieces asked row in
    let takes : arg_types pieces ≡ asked.params = same_types-is (arg_types pieces) asked.params parts.0 in
    let new = applied (key.ConcatRoot (shape_of asked)) nothing in
    stands-rooted table h t asked 1 [] (key.ConcatRoot (shape_of asked)) (field.Joined pieces ∷ []) g (record {
      typed = row;
      weighed = refl;
      holds = refl;
      keyed = refl;
      fielded = refl;
      shaped = refl;
      begun = refl;
      runs = λ args n have low.
          let law = mapped Some (joined_slots table.classes pieces (map erased args)) in
          let does : law ≡ erased_ran (mean table t args n) = joined-erased table.classes pieces args (subst (HaveTypes table.classes args) (sym takes) have) in
          let whole = ap (returned (basic_ret_of asked.ret)) does ∙ returned-erased table.classes (mean table t args n) asked.ret (sound args n have) in
          let size : length (map erased args) ≡ length (map basic_of asked.params) = length-map args erased
          ∙ (types-length table.classes args asked.params have ∙ sym (length-map asked.params basic_of)) in
          refined (returned (basic_ret_of asked.ret) law) (run_on table new (field.Joined pieces ∷ []) (map erased args) n)
          (λ e. returns-runs table.classes (mean table t args n) asked.ret (sound args n have) (sym whole ∙ e))
          (law-ConcatRoot (shape_of asked) nothing table pieces (map erased args) n size)
          ∙ whole;
      returns = sound;
    })

-- what the call of a concatenation answers
pub concat-answers :
    (table : LeafTable) → AreClasses table.classes → (asked own : MethodTy) (pieces copied : List Piece) (s : Shape) (sides : List MethodTy)
    (fields : List Field) (r : Result HandleView HandleError) →
    concat_row table.classes asked pieces ≡ Ok asked →
    own ≡ asked →
    copied ≡ pieces →
    s ≡ shape_of own →
    sides ≡ [] →
    fields ≡ field.Joined copied ∷ [] →
    IfOk r (λ h. Grows base_handle h own 1 sides (key.ConcatRoot s) fields) →
    IfOk r (λ h. Stands table h (tree.Concat asked pieces))
concat-answers table are asked own pieces copied s sides fields (Ok h) row same copy shape none one g =
    concat-stands table are asked pieces h row (record {
      typed = g.typed ∙ same;
      weighed = g.weighed;
      holds = g.holds ∙ none;
      made = g.made ∙ ap (λ x. key.ConcatRoot x ∷ []) (shape ∙ ap shape_of same);
      fielded = g.fielded ∙ (one ∙ ap (λ ps. field.Joined ps ∷ []) copy);
    })
concat-answers table are asked own pieces copied s sides fields (Err e) row same copy shape none one g = g
