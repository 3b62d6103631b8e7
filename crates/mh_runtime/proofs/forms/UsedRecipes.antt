-- The recipes of a use as another type.
use Rattle.std.proofs.Common.{◌≡◌, refl, sym, ◌∙◌, ap, ap₂, subst, ℕ, Bool, true, false, if◌then◌else◌, List, [], ◌∷◌, ◌++◌, Ok, Err, ◌⊎◌, inl, inr}
use Rattle.mh_values.specs.declared.types.MethodTy.{MethodTy}
use Rattle.mh_values.specs.Same.{is_same_method_type}
use Rattle.mh_leaf.specs.LeafTable.{LeafTable}
use Rattle.mh_tree.specs.Tree.{Tree, weight}
use Rattle.mh_tree.specs.Rows.{TypeOrRefusal, astype_row}
use Rattle.mh_tree.specs.Typing.{with_type}
use Rattle.mh_edit.specs.declared.key.Key.{Key}
use Rattle.mh_handle.specs.Recipe.{at_type as keys_at, convert_keys, recipe}
use Rattle.mh_handle.specs.Stands.{HandleView, Stands}
use Rattle.mh_astype.specs.Calls.{call_keys, unless_refused}
use Rattle.mh_report.specs.Forms.{at_type, used_edits}

-- ---- recipes of a use as another type

-- the recipes of a use, from the type of what is used
abbrev edits_at : LeafTable → List Key → ℕ → MethodTy → TypeOrRefusal → List (List Key)
edits_at table r w asked c =
    at_type c (λ own.
    if is_same_method_type own asked then []
    else at_type (with_type c (λ ty. astype_row table.classes ty w asked)) (λ _. (r ++ keys_at c (convert_keys table.classes asked)) ∷ []))

-- nothing is added and no recipe is made, or the recipe is followed by what is added
abbrev pub Uses : List Key → List Key → List (List Key) → Type 0
Uses r keys edits = ((keys ≡ []) × (edits ≡ [])) ⊎ (edits ≡ (r ++ keys) ∷ [])

uses-by : (same : Bool) (row : TypeOrRefusal) (r keys : List Key) →
    Uses r (if same then [] else unless_refused row keys) (if same then [] else at_type row (λ _. (r ++ keys) ∷ []))
uses-by true row r keys = inl (refl, refl)
uses-by false (Err e) r keys = inl (refl, refl)
uses-by false (Ok t) r keys = inr refl

pub uses : (table : LeafTable) (t : Tree) (h : HandleView) (asked : MethodTy) → Stands table h t →
    Uses h.form.recipe (call_keys table.classes h.ty h.weight asked) (used_edits table t asked)
uses table t h asked st =
    let edits : used_edits table t asked ≡ edits_at table h.form.recipe h.weight asked (Ok h.ty) =
    ap (edits_at table (recipe table t) (weight t) asked) st.typed
    ∙ ap₂ (λ r w. edits_at table r w asked (Ok h.ty)) (sym st.made) (sym st.weighed) in
    subst (Uses h.form.recipe (call_keys table.classes h.ty h.weight asked)) (sym edits)
    (uses-by (is_same_method_type h.ty asked) (astype_row table.classes h.ty h.weight asked) h.form.recipe (convert_keys table.classes asked h.ty))
