-- The keys of Bind, Drop and Permute fit the bodies of handles and keep to their types, where their rows give a type.
use Rattle.std.proofs.Common.{◌≡◌, refl, sym, subst, ap, ◌∙◌, ℕ, ◌<◌, true, false, not, List, [], ◌∷◌, length, map, Some, Ok, nat_le}
use Rattle.std.specs.Prelude.{slice_get, IsTrue}
use Rattle.std.specs.Option.{option_map, option_map_or}
use Rattle.std.proofs.lemmas.Bool.{and_from, and_parts, lt-ltb}
use Rattle.std.proofs.lemmas.List.{length-map}
use Rattle.std.proofs.lemmas.Option.{slice_get-map, slice_get_within}
use Rattle.mh_values.specs.declared.class.Class.{Class}
use Rattle.mh_values.specs.declared.types.MethodTy.{MethodTy}
use Rattle.mh_values.specs.declared.types.Ty.{Ty}
use Rattle.mh_values.specs.declared.value.Value.{Value}
use Rattle.mh_values.specs.Computation.{spliced}
use Rattle.mh_values.specs.Same.{is_same_return}
use Rattle.mh_values.proofs.SameTypes.{same_return-is}
use Rattle.mh_tree.specs.Rows.{bind_row, drop_row, permute_row, names_types}
use Rattle.mh_tree.proofs.RowParts.{bind_row-parts, drop_row-parts, permute_row-parts}
use Rattle.mh_form.specs.Erasure.{basic_of}
use Rattle.mh_edit.specs.declared.key.Key.TheVariants as key
use Rattle.mh_edit.specs.Applied.{applied}
use Rattle.mh_edit.specs.Fit.{fits, is_basic_at, is_same_basic, names_each}
use Rattle.mh_handle.specs.Stands.{HandleView, HasShape, IsShaped, handle_body}
use Rattle.mh_handle.proofs.standing.Erasing.{spliced-map}
use Rattle.mh_handle.proofs.recipes.Basics.{same_basic-itself}

arity : (h : HandleView) → IsShaped h → length (handle_body h).params ≡ length h.ty.params
arity h shaped = ap length shaped.params ∙ length-map h.ty.params basic_of

-- ---- Bind

module _ (classes : List Class) (h : HandleView) (place : ℕ) (v : Value) (u : MethodTy) (row : bind_row classes h.ty h.weight place v ≡ Ok u) where
  bind-inside : place < length h.ty.params
  bind-inside = let q = bind_row-parts classes h.ty h.weight place v u row in slice_get_within h.ty.params place q.0 q.2

  pub bind-fits : IsShaped h → IsTrue (fits (key.Bind place) (handle_body h))
  bind-fits shaped =
      let inside : place < length (handle_body h).params = subst (λ n. place < n) (sym (arity h shaped)) bind-inside in
      and_from _ _ (ap not shaped.made) (lt-ltb _ _ inside)

  pub bind-shaped : IsShaped h → HasShape (applied (key.Bind place) (handle_body h)) u
  bind-shaped shaped =
      ap (spliced place 1 []) shaped.params
      ∙ (sym (spliced-map basic_of place 1 [] h.ty.params) ∙ ap (λ (m : MethodTy). map basic_of m.params)
      (sym (bind_row-parts classes h.ty h.weight place v u row).4))

-- ---- Drop

module _ (h : HandleView) (place : ℕ) (types : List Ty) (u : MethodTy) (row : drop_row h.ty h.weight place types ≡ Ok u) (shaped : IsShaped h) where
  pub drop-fits : IsTrue (fits (key.Add place (map basic_of types)) (handle_body h))
  drop-fits = and_from _ _ (ap not shaped.made) (ap (nat_le place) (arity h shaped) ∙ (drop_row-parts h.ty h.weight place types u row).0)

  pub drop-shaped : HasShape (applied (key.Add place (map basic_of types)) (handle_body h)) u
  drop-shaped =
      ap (spliced place 0 (map basic_of types)) shaped.params
      ∙ (sym (spliced-map basic_of place 0 types h.ty.params) ∙ ap (λ (m : MethodTy). map basic_of m.params)
      (sym (drop_row-parts h.ty h.weight place types u row).1))

-- ---- Permute

-- what names types names their basic types
each-named : (params : List Ty) (reorder : List ℕ) (types : List Ty) → names_types params reorder types ≡ true →
    names_each (map basic_of params) reorder (map basic_of types) ≡ true
each-named params [] [] named = refl
each-named params [] (t ∷ types) named = absurd cc
each-named params (i ∷ reorder) [] named = absurd cc
each-named params (i ∷ reorder) (t ∷ types) named =
    let q = and_parts (is_same_return (slice_get params i) (Some t)) (names_types params reorder types) named in
    let at : slice_get params i ≡ Some t = same_return-is (slice_get params i) (Some t) q.0 in
    let here : is_basic_at (map basic_of params) i (basic_of t) ≡ true =
    ap (λ o. option_map_or (is_same_basic (basic_of t)) o false) (slice_get-map basic_of params i ∙ ap (option_map basic_of) at) ∙
    same_basic-itself (basic_of t) in
    and_from _ _ here (each-named params reorder types q.1)

module _ (h : HandleView) (asked : MethodTy) (reorder : List ℕ) (u : MethodTy) (row : permute_row h.ty h.weight asked reorder ≡ Ok u) (shaped : IsShaped h)
  where
    pub permute-fits : IsTrue (fits (key.Permute (map basic_of asked.params) reorder) (handle_body h))
    permute-fits =
        let q = permute_row-parts h.ty h.weight asked reorder u row in
        and_from _ _ (ap not shaped.made)
        (ap (names_each (map basic_of asked.params) reorder) shaped.params ∙ each-named asked.params reorder h.ty.params q.0)

    pub permute-shaped : HasShape (applied (key.Permute (map basic_of asked.params) reorder) (handle_body h)) u
    permute-shaped = ap (λ (m : MethodTy). map basic_of m.params) (sym (permute_row-parts h.ty h.weight asked reorder u row).2)
