-- A handle with a filtered argument stands for the FilterArg of the trees.
use Rattle.std.proofs.Common.{◌≡◌, refl, sym, subst, ap, ◌∙◌, ℕ, ◌+◌, List, ◌∷◌, [], length, Ok}
use Rattle.mh_values.specs.declared.types.MethodTy.{MethodTy}
use Rattle.mh_values.specs.declared.value.Value.{Value}
use Rattle.mh_values.specs.Computation.{spliced}
use Rattle.mh_leaf.specs.LeafTable.{LeafTable}
use Rattle.mh_tree.specs.Tree.{Tree}
use Rattle.mh_tree.specs.Tree as tree
use Rattle.mh_tree.specs.Rows.{count_of, filter_row, taking}
use Rattle.mh_tree.specs.Meaning.{mean}
use Rattle.mh_tree.specs.Sound.{IsSound}
use Rattle.mh_tree.proofs.RowParts.{filter_row-parts}
use Rattle.mh_tree.proofs.SoundAdapters.{filter-sound, result-counts}
use Rattle.mh_form.specs.declared.field.Field.{Field}
use Rattle.mh_handle.specs.Grows.{Grows}
use Rattle.mh_handle.specs.Parts.{IsPartOf}
use Rattle.mh_handle.specs.Stands.{HandleView, Stands}
use Rattle.mh_adapt.specs.Parts.{collect_key}
use Rattle.mh_adapt.proofs.CollectStands.{collected, collect-does}
use Rattle.mh_adapt.proofs.Parted.{stands-parted}

pub filter-stands :
    (table : LeafTable) (h h' g : HandleView) (a b : Tree) (place : ℕ) (f : Field) (u : MethodTy) →
    filter_row h.ty h.weight place g.ty g.weight ≡ Ok u →
    IsPartOf g f →
    Grows h h' u (1 + h.weight + g.weight) (g.ty ∷ g.sides) (collect_key place g.ty) (f ∷ []) →
    Stands table h a →
    Stands table g b →
    Stands table h' (tree.FilterArg a place b)
filter-stands table h h' g a b place f u row part grows st sp =
    let q = filter_row-parts h.ty h.weight place g.ty g.weight u row in
    let t = tree.FilterArg a place b in
    let made : u ≡ taking (spliced place (count_of g.ty.ret) g.ty.params h.ty.params) h.ty =
    q.3 ∙ ap (λ c. taking (spliced place c g.ty.params h.ty.params) h.ty) (sym (result-counts g.ty.ret q.1)) in
    let means : (args : List Value) (n : ℕ) → mean table t args n ≡ collected table a b place (length g.ty.params) args n =
    λ args n. ap (λ c. collected table a b place c args n) (sym q.0) in
    let sound : IsSound table.classes (collected table a b place (length g.ty.params)) u =
    subst (λ c. IsSound table.classes (collected table a b place c) u) (sym q.0)
    (filter-sound table.classes (mean table a) (mean table b) h.ty h.weight place g.ty g.weight u st.returns sp.returns row) in
    stands-parted table h h' g a b t (λ ty m part k. filter_row ty m place part k) (collect_key place) u f
    (record { typed = refl; weighed = refl; holds = refl; keyed = refl }) row grows st sp (collect-does table h g a b place f u part st sp q.2 made sound t
    means)
