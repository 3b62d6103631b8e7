-- The handle of a cleanup stands for its tree.
use Rattle.std.proofs.Common.{◌≡◌, refl, sym, subst, ap, ap₂, ◌∙◌, ℕ, ◌+◌, ◌<◌, ◌^◌, true, List, [], ◌∷◌, ◌++◌, take, length, map, Option, Ok}
use Rattle.std.specs.Prelude.{option_to_list, IsTrue}
use Rattle.std.specs.Option.{option_map}
use Rattle.std.proofs.lemmas.List.{length-map, map-append, take-map}
use Rattle.std.specs.declared.sync.Arc.{Arc}
use Rattle.std.specs.declared.alloc.Global.{Global}
use Rattle.mh_values.specs.declared.types.Ty.TheVariants as ty
use Rattle.mh_values.specs.declared.types.MethodTy.{MethodTy}
use Rattle.mh_values.specs.declared.value.Exc.{Exc}
use Rattle.mh_values.specs.declared.value.Value.{Value}
use Rattle.mh_values.specs.declared.value.Value.TheVariants as value
use Rattle.mh_values.specs.Class.{is_subclass, throwable_class}
use Rattle.mh_values.specs.Computation.{Ran, Refines}
use Rattle.mh_leaf.specs.Ending.{ended_by}
use Rattle.mh_values.specs.HasType.{has_type, HaveTypes}
use Rattle.mh_values.specs.Returns.{Returns}
use Rattle.mh_values.proofs.SameTypes.{same_return-is}
use Rattle.mh_convert.specs.Conversion.{default_of}
use Rattle.mh_leaf.specs.LeafTable.{LeafTable}
use Rattle.mh_tree.specs.Rows.{TypeOrRefusal, end_types, kept_by, tryfinally_row}
use Rattle.mh_tree.specs.Tree.{Tree, weight}
use Rattle.mh_tree.specs.Tree as tree
use Rattle.mh_tree.specs.Typing.{type_of, with_type, held_before, sides}
use Rattle.mh_tree.specs.Meaning.{Done, known, mean}
use Rattle.mh_tree.specs.Sound.{Body, IsSound}
use Rattle.mh_tree.proofs.RowParts.{tryfinally_row-parts}
use Rattle.mh_tree.proofs.SoundFinally.{begun-typed, default-result, tryfinally-sound}
use Rattle.mh_tree.proofs.TypedLists.{types-length}
use Rattle.mh_form.specs.declared.slot.Slot.{Slot}
use Rattle.mh_form.specs.declared.slot.Slot.TheVariants as slot
use Rattle.mh_form.specs.declared.field.Bound.{Bound}
use Rattle.mh_form.specs.declared.field.Field.{Field}
use Rattle.mh_form.specs.declared.field.Field.TheVariants as field
use Rattle.mh_form.specs.Body.{nothing}
use Rattle.mh_form.specs.Erasure.{basic_of, basic_ret_of, shape_of, erased, erased_option, erased_ran}
use Rattle.mh_form.specs.Run.{run_bound, run_on}
use Rattle.mh_form.specs.Slots.{default_slots, filled, given, none_as_zero}
use Rattle.mh_form.proofs.Refines.{refines-is, refines-trans}
use Rattle.mh_edit.specs.Applied.{try_body}
use Rattle.mh_edit.proofs.RootEndings.{law-TryRoot}
use Rattle.mh_handle.specs.Form.{body_of}
use Rattle.mh_handle.specs.Grows.{Grows, base_handle}
use Rattle.mh_handle.specs.Parts.{IsPartOf}
use Rattle.mh_handle.specs.Recipe.{at_type, recipe, try_key}
use Rattle.mh_handle.specs.Stands.{HandleView, Stands}
use Rattle.mh_branch.proofs.Rooted.{part-runs, stands-rooted}
use Rattle.mh_more.proofs.ErasedEndings.{as_result, default-erased, ended-erased, given-slots, result-erased}

pub try-stands :
    (table : LeafTable) (h : HandleView) (t c : Tree) (u : MethodTy) (body cleanup : HandleView) (body_field cleanup_field : Field) →
    Stands table body t →
    Stands table cleanup c →
    IsPartOf body body_field →
    IsPartOf cleanup cleanup_field →
    tryfinally_row body.ty body.weight cleanup.ty cleanup.weight ≡ Ok u →
    Grows base_handle h u (1 + body.weight + cleanup.weight) ((body.ty ∷ body.sides) ++ (cleanup.ty ∷ cleanup.sides)) (try_key body.ty cleanup.ty)
    (body_field ∷ cleanup_field ∷ []) →
    Stands table h (tree.TryFinally t c)
try-stands table h t c u body cleanup body_field cleanup_field stands cleans body_part cleanup_part row grows =
    let classes = table.classes in
    let parts = tryfinally_row-parts body.ty body.weight cleanup.ty cleanup.weight u row in
    let own : h.ty ≡ body.ty = grows.typed ∙ parts.3 in
    let own_row : tryfinally_row body.ty body.weight cleanup.ty cleanup.weight ≡ Ok h.ty = row ∙ ap Ok (sym grows.typed) in
    let body_box : Arc Bound Global = body_part.0 in
    let cleanup_box : Arc Bound Global = cleanup_part.0 in
    let fields : h.fields ≡ field.Part body_box ∷ field.Part cleanup_box ∷ [] = grows.fielded ∙ (λ i. body_part.1 i ∷ cleanup_part.1 i ∷ []) in
    let kept = kept_by cleanup.ty body.ty.ret in
    let ret = basic_ret_of body.ty.ret in
    let made_body = try_body (shape_of body.ty) kept in
    let typed : type_of table (tree.TryFinally t c) ≡ tryfinally_row body.ty body.weight cleanup.ty cleanup.weight =
    λ i. with_type (stands.typed i) (λ bt. with_type (cleans.typed i) (λ ct. tryfinally_row bt (sym stands.weighed i) ct (sym cleans.weighed i))) in
    let heavy : 1 + body.weight + cleanup.weight ≡ 1 + weight t + weight c = λ i. 1 + stands.weighed i + cleans.weighed i in
    let keys : recipe table (tree.TryFinally t c) ≡ try_key body.ty cleanup.ty ∷ [] =
    λ i. at_type (stands.typed i) (λ bt. at_type (cleans.typed i) (λ ct. try_key bt ct ∷ [])) in
    let held : sides table (tree.TryFinally t c) ≡ (body.ty ∷ body.sides) ++ (cleanup.ty ∷ cleanup.sides) =
    λ i. held_before (stands.typed i) (sym stands.holds i) ++ held_before (cleans.typed i) (sym cleans.holds i) in
    let run : TypeOrRefusal → TypeOrRefusal → Body = λ o p args n. known o (λ bt. known p (λ ct. ended_by (mean table t args n) n
    (λ w k. mean table c (value.Null ∷ (option_to_list w ++ take (kept_by ct bt.ret) args)) k)
    (λ e k. mean table c (value.Thrown e ∷ (option_to_list (option_map default_of bt.ret) ++ take (kept_by ct bt.ret) args)) k))) in
    let sound : IsSound classes (mean table (tree.TryFinally t c)) h.ty =
    subst (λ o. IsSound classes (run o (type_of table c)) h.ty) (sym stands.typed)
    (subst (λ p. IsSound classes (run (Ok body.ty) p) h.ty) (sym cleans.typed)
    (tryfinally-sound classes (mean table t) (mean table c) body.ty body.weight cleanup.ty cleanup.weight h.ty stands.returns cleans.returns own_row)) in
    let does : (args : List Value) (n : ℕ) → HaveTypes classes args h.ty.params → n < 2 ^ 32 →
    Refines (erased_ran (mean table (tree.TryFinally t c) args n)) (run_on table made_body h.fields (map erased args) n) =
    λ args n have low.
    let have_body : HaveTypes classes args body.ty.params = subst (λ (m : MethodTy). HaveTypes classes args m.params) own have in
    let slots = map erased args in
    let r : Done = mean table t args n in
    let taken : Value → Option Value → List Value = λ v w. v ∷ (option_to_list w ++ take kept args) in
    let f : Option Value → ℕ → Done = λ w k. mean table c (taken value.Null w) k in
    let g : Exc → ℕ → Done = λ e k. mean table c (taken (value.Thrown e) (option_map default_of body.ty.ret)) k in
    let part = run_bound table cleanup_box.value in
    let on_result : Slot → ℕ → Ran Slot = λ s k. filled (part (slot.L value.Null ∷ (given ret s ++ take kept slots)) k) in
    let on_exception : Exc → ℕ → Ran Slot = λ e k. filled (part (slot.L (value.Thrown e) ∷ (default_slots ret ++ take kept slots)) k) in
    let ran : run_bound table body_box.value slots n ≡ erased_ran r =
    ap (λ x. x slots n) (part-runs table body body_field body_part) ∙ stands.runs args n have_body low in
    let means : mean table (tree.TryFinally t c) args n ≡ ended_by r n f g =
    λ i. known (stands.typed i) (λ bt. known (cleans.typed i) (λ ct. ended_by r n
    (λ w k. mean table c (value.Null ∷ (option_to_list w ++ take (kept_by ct bt.ret) args)) k)
    (λ e k. mean table c (value.Thrown e ∷ (option_to_list (option_map default_of bt.ret) ++ take (kept_by ct bt.ret) args)) k))) in
    let typed_args : (v : Value) (w : Option Value) → has_type classes v (ty.Class throwable_class) ≡ true →
    HaveTypes classes (option_to_list w) (option_to_list body.ty.ret) → HaveTypes classes (taken v w) cleanup.ty.params =
    λ v w is given_type.
    begun-typed classes (v ∷ option_to_list w) args (end_types body.ty.ret) body.ty.params cleanup.ty.params parts.1 parts.2 (is, given_type) have_body in
    let cleaned : (v : Value) (w : Option Value) (k : ℕ) → has_type classes v (ty.Class throwable_class) ≡ true →
    HaveTypes classes (option_to_list w) (option_to_list body.ty.ret) → k < 2 ^ 32 →
    as_result ret (filled (part (map erased (taken v w)) k)) ≡ erased_ran (mean table c (taken v w) k) =
    λ v w k is given_type small.
    let have_cleanup = typed_args v w is given_type in
    ap (λ x. as_result ret (filled x))
    (ap (λ x. x (map erased (taken v w)) k) (part-runs table cleanup cleanup_field cleanup_part) ∙ cleans.runs (taken v w) k have_cleanup small)
    ∙ result-erased classes (mean table c (taken v w) k) body.ty.ret
    (subst (Returns classes (mean table c (taken v w) k)) (same_return-is cleanup.ty.ret body.ty.ret parts.0) (cleans.returns (taken v w) k have_cleanup)) in
    let kept_slots : (before : List Slot) (w : Option Value) → before ≡ map erased (option_to_list w) →
    before ++ take kept slots ≡ map erased (option_to_list w ++ take kept args) =
    λ before w is. ap₂ (λ (a b : List Slot). a ++ b) is (take-map erased kept args) ∙ sym (map-append erased (option_to_list w) (take kept args)) in
    let result_does : (w : Option Value) (k : ℕ) → HaveTypes classes (option_to_list w) (option_to_list body.ty.ret) → k < 2 ^ 32 →
    Refines (erased_ran (f w k)) (as_result ret (on_result (none_as_zero (erased_option w)) k)) =
    λ w k given_type small.
    refines-is _ _ (sym (ap (λ xs. as_result ret (filled (part (slot.L value.Null ∷ xs) k)))
    (kept_slots (given ret (none_as_zero (erased_option w))) w (given-slots classes w body.ty.ret given_type)) ∙ cleaned value.Null w k refl
    given_type small)) in
    let exception_does : (e : Exc) (k : ℕ) → IsTrue (is_subclass classes e.class throwable_class) → k < 2 ^ 32 →
    Refines (erased_ran (g e k)) (as_result ret (on_exception e k)) =
    λ e k below small.
    let w = option_map default_of body.ty.ret in
    refines-is _ _ (sym (ap (λ xs. as_result ret (filled (part (slot.L (value.Thrown e) ∷ xs) k)))
    (kept_slots (default_slots ret) w (default-erased body.ty.ret)) ∙ cleaned (value.Thrown e) w k below (default-result classes body.ty.ret) small)) in
    let all : Refines (erased_ran (ended_by r n f g)) (as_result ret (ended_by (filled (erased_ran r)) n on_result on_exception)) =
    ended-erased classes r n body.ty.ret ret f g on_result on_exception (stands.returns args n have_body) low result_does exception_does in
    let long : length slots ≡ length (shape_of body.ty).params =
    length-map args erased ∙ (types-length classes args body.ty.params have_body ∙ sym (length-map body.ty.params basic_of)) in
    let law = law-TryRoot (shape_of body.ty) kept nothing table body_box cleanup_box slots n long in
    refines-trans _ _ _ (refines-is _ _ (ap erased_ran means))
    (refines-trans _ _ _ all
    (refines-trans _ _ _ (refines-is _ _ (ap (λ x. as_result ret (ended_by (filled x) n on_result on_exception)) (sym ran)))
    (refines-trans _ _ _ law (refines-is _ _ (ap (λ fs. run_on table made_body fs slots n) (sym fields)))))) in
    stands-rooted table h (tree.TryFinally t c) made_body sound (typed ∙ own_row) (grows.weighed ∙ heavy) (grows.made ∙ sym keys)
    (grows.holds ∙ sym held) (ap body_of grows.made) (ap length fields) (ap (λ (m : MethodTy). map basic_of m.params) (sym own)) refl does
