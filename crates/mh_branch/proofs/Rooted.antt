-- A handle whose form is a root stands for a tree of which its body does what the tree does.
use Rattle.std.proofs.Common.{◌≡◌, ◌≢◌, sym, subst, ap, ap₂, ◌∙◌, ℕ, ◌<◌, ◌^◌, ◌∷◌, ◌&&◌, not, List, length, map, Ok}
use Rattle.std.specs.Prelude.{◌==◌, is_some}
use Rattle.mh_values.specs.declared.value.Value.{Value}
use Rattle.mh_values.specs.Computation.{Stuck, Refines}
use Rattle.mh_values.specs.HasType.{HaveTypes}
use Rattle.mh_leaf.specs.LeafTable.{LeafTable}
use Rattle.mh_tree.specs.Tree.{Tree, weight}
use Rattle.mh_tree.specs.Typing.{type_of, sides}
use Rattle.mh_tree.specs.Meaning.{mean}
use Rattle.mh_tree.specs.Sound.{IsSound}
use Rattle.mh_form.specs.declared.body.FormBody.{FormBody}
use Rattle.mh_form.specs.declared.field.Field.{Field}
use Rattle.mh_form.specs.declared.name.Name.{Name}
use Rattle.mh_form.specs.Erasure.{basic_of, erased, erased_ran}
use Rattle.mh_form.specs.Run.{run_bound, run_on}
use Rattle.mh_form.proofs.Refines.{refined}
use Rattle.mh_handle.specs.Parts.{IsPartOf}
use Rattle.mh_handle.specs.Recipe.{recipe}
use Rattle.mh_handle.specs.Stands.{HandleView, IsMade, Stands, handle_body, handle_run}
use Rattle.mh_handle.proofs.standing.Erasing.{returns-runs}
use Rattle.mh_handle.proofs.standing.Standing.{suc-positive}

-- a body with a name does something
pub made-named : (body : FormBody) (x : Name) (xs : List Name) → body.names ≡ x ∷ xs → IsMade body
made-named body x xs named = ap (λ names. length names == 0 && not (is_some body.out)) named ∙ ap (λ b. b && not (is_some body.out)) (suc-positive (length xs))

-- a part runs as its handle does
pub part-runs : (table : LeafTable) (h : HandleView) (f : Field) (part : IsPartOf h f) → run_bound table part.0.value ≡ handle_run table h
part-runs table h f part = ap₂ (run_on table) part.2 part.3

pub stands-rooted :
    (table : LeafTable) (h : HandleView) (t : Tree) (body : FormBody) →
    IsSound table.classes (mean table t) h.ty →
    type_of table t ≡ Ok h.ty →
    h.weight ≡ weight t →
    h.form.recipe ≡ recipe table t →
    h.sides ≡ sides table t →
    handle_body h ≡ body →
    length h.fields ≡ body.fields →
    body.params ≡ map basic_of h.ty.params →
    IsMade body →
    ((args : List Value) (n : ℕ) → HaveTypes table.classes args h.ty.params → n < 2 ^ 32 →
    Refines (erased_ran (mean table t args n)) (run_on table body h.fields (map erased args) n)) →
    Stands table h t
stands-rooted table h t body sound typed weighed made holds is fielded shaped begun does =
    let runs : (args : List Value) (n : ℕ) → HaveTypes table.classes args h.ty.params → erased_ran (mean table t args n) ≢ Stuck =
    λ args n have. returns-runs table.classes (mean table t args n) h.ty.ret (sound args n have) in
    let run : (args : List Value) (n : ℕ) → HaveTypes table.classes args h.ty.params → n < 2 ^ 32 →
    handle_run table h (map erased args) n ≡ erased_ran (mean table t args n) =
    λ args n have low. ap (λ b. run_on table b h.fields (map erased args) n) is ∙ refined _ _ (runs args n have) (does args n have low) in
    record {
      typed = typed;
      weighed = weighed;
      made = made;
      holds = holds;
      fielded = fielded ∙ ap (λ (b : FormBody). b.fields) (sym is);
      shaped = ap (λ (b : FormBody). b.params) is ∙ shaped;
      begun = subst IsMade (sym is) begun;
      runs = run;
      well_formed = λ args n have low e. runs args n have (sym (run args n have low) ∙ e);
      returns = sound;
    }
