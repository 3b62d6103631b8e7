-- Where the row of an adapter with a part gives a type, its key fits the handle's form and edits it to that type's shape.
use Rattle.std.proofs.Common.{◌≡◌, sym, ap, ◌∙◌, ℕ, ◌+◌, ◌≤◌, true, ◌&&◌, [], drop, length, map, Ok, not, codes, arith}
use Rattle.mh_values.specs.declared.types.MethodTy.{MethodTy}
use Rattle.mh_values.specs.Computation.{spliced}
use Rattle.mh_values.specs.Same.{begins_with_types}
use Rattle.mh_tree.specs.Rows.{collect_row, count_of, filter_row, fold_row, folded, gives_at, illegal, limited, taking}
use Rattle.mh_tree.proofs.Provided.{provided-parts}
use Rattle.mh_tree.proofs.RowParts.{collect_row-parts, filter_row-parts, fold_row-parts}
use Rattle.mh_tree.proofs.SoundAdapters.{result-counts}
use Rattle.mh_form.specs.Erasure.{basic_of}
use Rattle.mh_edit.specs.Fit.{is_nothing}
use Rattle.mh_edit.proofs.Places.{length-spliced}
use Rattle.mh_handle.specs.Stands.{HandleView, IsShaped, handle_body}
use Rattle.mh_handle.proofs.obeying.Limits.{limited-low}
use Rattle.mh_adapt.specs.Parts.{collect_key, fold_key}
use Rattle.mh_adapt.proofs.PartAnswers.{IsSuited}
use Rattle.mh_adapt.proofs.PartFits.{collect-fits, fold-fits, fold-room, gives-room, parted-shape}

module _ (t f : HandleView) (shaped : IsShaped t) where
  made : not (is_nothing (handle_body t)) ≡ true
  made = ap not shaped.made

  pub collect-suited : (place : ℕ) (u : MethodTy) → collect_row t.ty t.weight place f.ty f.weight ≡ Ok u → IsSuited u t (collect_key place f.ty)
  collect-suited place u row =
      let q = collect_row-parts t.ty t.weight place f.ty f.weight u row in
      record {
        fit = collect-fits t.ty.params place (map basic_of f.ty.params) f.ty.ret (handle_body t) q.0 made shaped.params;
        shaped = parted-shape t.ty.params f.ty.params place f.ty.ret (handle_body t).params shaped.params ∙ ap (λ (m : MethodTy). map basic_of m.params)
            (sym q.1);
      }

  pub filter-suited : (place : ℕ) (u : MethodTy) → filter_row t.ty t.weight place f.ty f.weight ≡ Ok u → IsSuited u t (collect_key place f.ty)
  filter-suited place u row =
      let q = filter_row-parts t.ty t.weight place f.ty f.weight u row in
      record {
        fit = collect-fits t.ty.params place (map basic_of f.ty.params) f.ty.ret (handle_body t) q.2 made shaped.params;
        shaped =
            parted-shape t.ty.params f.ty.params place f.ty.ret (handle_body t).params shaped.params
            ∙ (ap (λ c. map basic_of (spliced place c f.ty.params t.ty.params)) (result-counts f.ty.ret q.1) ∙ ap (λ (m : MethodTy). map basic_of m.params)
            (sym q.3));
      }

  pub fold-few : (place : ℕ) (u : MethodTy) → fold_row t.ty t.weight place f.ty f.weight ≡ Ok u → length f.ty.params ≤ 255
  fold-few place u row =
      let weight = 1 + t.weight + f.weight in
      let type = taking (folded t.ty place f.ty) t.ty in
      let gives = gives_at f.ty.ret place t.ty.params && begins_with_types (drop place (folded t.ty place f.ty)) f.ty.params in
      let within = provided-parts gives (illegal (codes "fold")) (limited (codes "fold") weight type) u row in
      let few = (limited-low (codes "fold") weight type u within.1).0 in
      let q = fold_row-parts t.ty t.weight place f.ty f.weight u row in
      let room = fold-room t.ty place f.ty q.0 q.1 in
      let all = length-spliced place (count_of f.ty.ret) [] t.ty.params (gives-room f.ty.ret place t.ty.params q.0) in
      omega (arith, few, room, all)

  pub fold-suited : (place : ℕ) (u : MethodTy) → fold_row t.ty t.weight place f.ty f.weight ≡ Ok u → IsSuited u t (fold_key place f.ty)
  fold-suited place u row =
      let q = fold_row-parts t.ty t.weight place f.ty f.weight u row in
      record {
        fit = fold-fits t.ty place f.ty (handle_body t) q.0 q.1 made shaped.params;
        shaped = parted-shape t.ty.params [] place f.ty.ret (handle_body t).params shaped.params ∙ ap (λ (m : MethodTy). map basic_of m.params) (sym q.2);
      }
