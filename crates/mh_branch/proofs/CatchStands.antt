-- The handle of a catch stands for its tree.
use Rattle.std.proofs.Common.{◌≡◌, refl, sym, subst, ap, ◌∙◌, ℕ, ◌+◌, ◌-◌, ◌<◌, ◌≤◌, ◌^◌, true, List, [], ◌∷◌, ◌++◌, take, length, map, Option, Ok, arith}
use Rattle.std.specs.Prelude.{IsTrue}
use Rattle.std.proofs.lemmas.List.{length-map, take-map}
use Rattle.std.proofs.lemmas.Bool.{and_parts, le-leb}
use Rattle.std.specs.declared.sync.Arc.{Arc}
use Rattle.std.specs.declared.alloc.Global.{Global}
use Rattle.mh_values.specs.declared.class.Class.{Class}
use Rattle.mh_values.specs.declared.class.ClassId.{ClassId}
use Rattle.mh_values.specs.declared.types.Ty.{Ty}
use Rattle.mh_values.specs.declared.types.Ty.TheVariants as ty
use Rattle.mh_values.specs.declared.types.MethodTy.{MethodTy}
use Rattle.mh_values.specs.declared.value.Exc.{Exc}
use Rattle.mh_values.specs.declared.value.Value.{Value}
use Rattle.mh_values.specs.declared.value.Value.TheVariants as value
use Rattle.mh_values.specs.Classes.{AreClasses}
use Rattle.mh_values.specs.Computation.{Ran, Refines, guarded, is_caught}
use Rattle.mh_values.specs.HasType.{HaveTypes, is_type_below}
use Rattle.mh_values.specs.Same.{begins_with_types}
use Rattle.mh_leaf.specs.LeafTable.{LeafTable}
use Rattle.mh_tree.specs.Rows.{catch_row, takes_exception}
use Rattle.mh_tree.specs.Tree.{Tree, weight}
use Rattle.mh_tree.specs.Tree as tree
use Rattle.mh_tree.specs.Typing.{type_of, arity_of, with_type, held_before, sides}
use Rattle.mh_tree.specs.Meaning.{Done, mean}
use Rattle.mh_tree.proofs.RowParts.{catch_row-parts}
use Rattle.mh_tree.proofs.SoundBranches.{catch-sound, handler-typed}
use Rattle.mh_tree.specs.Sound.{IsSound}
use Rattle.mh_tree.proofs.TypedLists.{types-length}
use Rattle.mh_form.specs.declared.slot.Slot.{Slot}
use Rattle.mh_form.specs.declared.slot.Slot.TheVariants as slot
use Rattle.mh_form.specs.declared.field.Bound.{Bound}
use Rattle.mh_form.specs.declared.field.Field.{Field}
use Rattle.mh_form.specs.declared.field.Field.TheVariants as field
use Rattle.mh_form.specs.Body.{nothing}
use Rattle.mh_form.specs.Erasure.{basic_of, basic_ret_of, shape_of, erased, erased_ran}
use Rattle.mh_form.specs.Run.{run_bound, run_on}
use Rattle.mh_form.proofs.Refines.{refines-is, refines-mapped, refines-trans}
use Rattle.mh_edit.specs.declared.key.Key.TheVariants as key
use Rattle.mh_edit.specs.Applied.{catch_body}
use Rattle.mh_edit.specs.Fit.{fits}
use Rattle.mh_edit.specs.Law.{result_as, returned}
use Rattle.mh_edit.proofs.RootLaws.{law-CatchRoot}
use Rattle.mh_handle.specs.Form.{body_of}
use Rattle.mh_handle.specs.Grows.{Grows, base_handle}
use Rattle.mh_handle.specs.Parts.{IsPartOf}
use Rattle.mh_handle.specs.Recipe.{at_type, recipe}
use Rattle.mh_handle.specs.Stands.{HandleView, Stands, handle_run}
use Rattle.mh_handle.proofs.standing.Erasing.{returned-erased}
use Rattle.mh_branch.proofs.Computing.{guarded-erased}
use Rattle.mh_branch.proofs.Rooted.{part-runs, stands-rooted}
use Rattle.mh_branch.proofs.Branching.{first-few}

-- beside the exception a handler takes no more arguments than there are
pub handler-few : (classes : List Class) (class : ClassId) (params types : List Ty) → takes_exception classes class params types ≡ true →
    length params - 1 ≤ length (map basic_of types)
handler-few classes class [] types takes = absurd cc
handler-few classes class (first ∷ others) types takes =
    let q = and_parts (is_type_below classes (ty.Class class) first) (begins_with_types types others) takes in
    let few = first-few types others q.1 in
    omega arith

-- the key of a catch fits the body that is nothing
pub catch-fits :
    (classes : List Class) (body : MethodTy) (body_weight : ℕ) (class : ClassId) (handler : MethodTy) (handler_weight : ℕ) (u : MethodTy) →
    catch_row classes body body_weight class handler handler_weight ≡ Ok u →
    IsTrue (fits (key.CatchRoot (shape_of body) (length handler.params - 1)) nothing)
catch-fits classes body body_weight class handler handler_weight u row =
    let parts = catch_row-parts classes body body_weight class handler handler_weight u row in
    le-leb (length handler.params - 1) (length (map basic_of body.params)) (handler-few classes class handler.params body.params parts.1)

pub catch-stands :
    (table : LeafTable) (h : HandleView) (t : Tree) (class : ClassId) (u : Tree) (m : MethodTy) (body handler : HandleView) (body_field handler_field : Field) →
    AreClasses table.classes →
    Stands table body t →
    Stands table handler u →
    IsPartOf body body_field →
    IsPartOf handler handler_field →
    catch_row table.classes body.ty body.weight class handler.ty handler.weight ≡ Ok m →
    Grows base_handle h m (1 + body.weight + handler.weight)
    ((body.ty ∷ body.sides) ++ (handler.ty ∷ handler.sides))
    (key.CatchRoot (shape_of body.ty) (length handler.ty.params - 1))
    (body_field ∷ field.Class class ∷ handler_field ∷ []) →
    Stands table h (tree.Catch t class u)
catch-stands table h t class u m body handler body_field handler_field are stands handles body_part handler_part given grows =
    let row : catch_row table.classes body.ty body.weight class handler.ty handler.weight ≡ Ok h.ty = given ∙ ap Ok (sym grows.typed) in
    let parts = catch_row-parts table.classes body.ty body.weight class handler.ty handler.weight h.ty row in
    let own : h.ty ≡ body.ty = parts.3 in
    let body_box : Arc Bound Global = body_part.0 in
    let handler_box : Arc Bound Global = handler_part.0 in
    let fields : h.fields ≡ field.Part body_box ∷ field.Class class ∷ field.Part handler_box ∷ [] =
    grows.fielded ∙ (λ i. body_part.1 i ∷ field.Class class ∷ handler_part.1 i ∷ []) in
    let kept = length handler.ty.params - 1 in
    let made_body = catch_body (shape_of body.ty) kept in
    let typed : type_of table (tree.Catch t class u) ≡ catch_row table.classes body.ty body.weight class handler.ty handler.weight =
    λ i. with_type (stands.typed i) (λ bt. with_type (handles.typed i) (λ ht. catch_row table.classes bt (sym stands.weighed i) class ht
    (sym handles.weighed i))) in
    let heavy : 1 + body.weight + handler.weight ≡ 1 + weight t + weight u = λ i. 1 + stands.weighed i + handles.weighed i in
    let keys : recipe table (tree.Catch t class u) ≡ key.CatchRoot (shape_of body.ty) kept ∷ [] =
    λ i. at_type (stands.typed i) (λ bt. at_type (handles.typed i) (λ ht. key.CatchRoot (shape_of bt) (length ht.params - 1) ∷ [])) in
    let held : sides table (tree.Catch t class u) ≡ (body.ty ∷ body.sides) ++ (handler.ty ∷ handler.sides) =
    λ i. held_before (stands.typed i) (sym stands.holds i) ++ held_before (handles.typed i) (sym handles.holds i) in
    let sound : IsSound table.classes (mean table (tree.Catch t class u)) h.ty =
    subst (λ o. IsSound table.classes (λ args n. guarded (mean table t args n) (is_caught table.classes class) n
    (λ e k. mean table u (value.Thrown e ∷ take (arity_of o - 1) args) k)) h.ty) (sym handles.typed)
    (catch-sound table.classes are (mean table t) (mean table u) body.ty body.weight class handler.ty handler.weight h.ty stands.returns handles.returns row) in
    let does : (args : List Value) (n : ℕ) → HaveTypes table.classes args h.ty.params → n < 2 ^ 32 →
    Refines (erased_ran (mean table (tree.Catch t class u) args n)) (run_on table made_body h.fields (map erased args) n) =
    λ args n have low.
    let have_body : HaveTypes table.classes args body.ty.params = subst (λ (m : MethodTy). HaveTypes table.classes args m.params) own have in
    let slots = map erased args in
    let ret = basic_ret_of body.ty.ret in
    let test = is_caught table.classes class in
    let r : Done = mean table t args n in
    let next : Exc → ℕ → Done = λ e k. mean table u (value.Thrown e ∷ take kept args) k in
    let run : Exc → ℕ → Ran (Option Slot) = λ e k. run_bound table handler_box.value (slot.L (value.Thrown e) ∷ take kept slots) k in
    let ran : run_bound table body_box.value slots n ≡ erased_ran r = ap (λ f. f slots n) (part-runs table body body_field body_part) ∙
    stands.runs args n have_body low in
    let means : mean table (tree.Catch t class u) args n ≡ guarded r test n next =
    ap (λ o. guarded r test n (λ e k. mean table u (value.Thrown e ∷ take (arity_of o - 1) args) k)) handles.typed in
    let handled : (e : Exc) (k : ℕ) → test e ≡ true → k < 2 ^ 32 → Refines (erased_ran (next e k)) (run e k) =
    λ e k below small.
    let xs = value.Thrown e ∷ take kept args in
    let have_handler : HaveTypes table.classes xs handler.ty.params = handler-typed table.classes are class handler.ty.params body.ty.params args e parts.1
    below have_body in
    refines-is _ _ (sym (ap (λ f. f (slot.L (value.Thrown e) ∷ take kept slots) k) (part-runs table handler handler_field handler_part)
    ∙ (ap (λ ys. handle_run table handler (slot.L (value.Thrown e) ∷ ys) k) (take-map erased kept args) ∙ handles.runs xs k have_handler small))) in
    let all : Refines (erased_ran (guarded r test n next)) (guarded (erased_ran r) test n run) =
    guarded-erased table.classes r n body.ty.ret test run next (stands.returns args n have_body) low handled in
    let whole : returned ret (erased_ran (mean table (tree.Catch t class u) args n)) ≡ erased_ran (mean table (tree.Catch t class u) args n) =
    ap (λ (m : MethodTy). returned (basic_ret_of m.ret) (erased_ran (mean table (tree.Catch t class u) args n))) (sym own)
    ∙ returned-erased table.classes (mean table (tree.Catch t class u) args n) h.ty.ret (sound args n have) in
    let long : length slots ≡ length (shape_of body.ty).params =
    length-map args erased ∙ (types-length table.classes args body.ty.params have_body ∙ sym (length-map body.ty.params basic_of)) in
    let law = law-CatchRoot (shape_of body.ty) kept nothing table body_box class handler_box slots n long in
    refines-trans _ _ _ (refines-is _ _ (sym whole ∙ ap (λ x. returned ret (erased_ran x)) means))
    (refines-trans _ _ _ (refines-mapped (result_as ret) _ _ all)
    (refines-trans _ _ _ (refines-is _ _ (ap (λ x. returned ret (guarded x test n run)) (sym ran)))
    (refines-trans _ _ _ law (refines-is _ _ (ap (λ fs. run_on table made_body fs slots n) (sym fields)))))) in
    stands-rooted table h (tree.Catch t class u) made_body sound (typed ∙ row) (grows.weighed ∙ heavy) (grows.made ∙ sym keys) (grows.holds ∙ sym held)
    (ap body_of grows.made)
    (ap length fields) (ap (λ (m : MethodTy). map basic_of m.params) (sym own)) refl does
