-- The recipe of a tree that has a type has a key.
use Rattle.std.proofs.Common.{◌≡◌, refl, sym, ap, subst, true, List, [], ◌∷◌, ◌++◌, map, flat_map, Option, Some, Ok}
use Rattle.std.specs.Prelude.{All}
use Rattle.std.proofs.lemmas.List.Elements.{All-head, All-tail}
use Rattle.mh_values.specs.declared.types.MethodTy.{MethodTy}
use Rattle.mh_leaf.specs.LeafTable.{LeafTable}
use Rattle.mh_tree.specs.Rows.{TypeOrRefusal}
use Rattle.mh_tree.specs.Tree.{Tree}
use Rattle.mh_tree.specs.Tree as tree
use Rattle.mh_tree.specs.Typing.{type_of, with_type}
use Rattle.mh_tree.proofs.Provided.{provided_some-parts, with_type-parts}
use Rattle.mh_form.specs.Erasure.{basic_of}
use Rattle.mh_edit.specs.declared.key.Key.{Key}
use Rattle.mh_edit.specs.declared.key.Key.TheVariants as key
use Rattle.mh_handle.specs.Recipe.{at_some, at_type, recipe}
use Rattle.mh_link.specs.Made.{beginnings}
use Rattle.mh_link.proofs.typing.Nodes.{IsTyped}
use Rattle.mh_attempt.proofs.beginnings.RecipeBeginnings.{whole-beginning}
use Rattle.mh_attempt.proofs.asked.RecipeCounts.{is_one}
use Rattle.mh_attempt.proofs.asked.RecipeSets.{AreAmong, each-among, none-among, one-among}

-- there is a key
abbrev HasKey : List Key → Type 0
HasKey keys = (k : Key) × (others : List Key) × (keys ≡ k ∷ others)

more-key : (r keys : List Key) → HasKey r → HasKey (r ++ keys)
more-key r keys some = (some.0, some.1 ++ keys, ap (λ ks. ks ++ keys) some.2)

typed-key : (m : TypeOrRefusal) (keys : MethodTy → List Key) (own : MethodTy) → m ≡ Ok own → HasKey (keys own) → HasKey (at_type m keys)
typed-key m keys own is some = subst (λ o. HasKey (at_type o keys)) (sym is) some

some-key : {A : Type 0} (o : Option A) (k : A → Key) (a : A) → o ≡ Some a → HasKey (at_some o k)
some-key o k a is = subst (λ p. HasKey (at_some p k)) (sym is) (k a, [], refl)

-- a part of a tree that has a type has one
part-typed : (c : TypeOrRefusal) (next : MethodTy → TypeOrRefusal) → ((t : MethodTy) × (with_type c next ≡ Ok t)) → (t : MethodTy) × (c ≡ Ok t)
part-typed c next typed = let parts = with_type-parts c next typed.0 typed.1 in (parts.0, parts.1)

pub recipe-key : (leaves : LeafTable) (t : Tree) → IsTyped leaves t → HasKey (recipe leaves t)
recipe-key leaves (tree.Leaf l) typed = typed-key (type_of leaves (tree.Leaf l)) _ typed.0 typed.1 (_, [], refl)
recipe-key leaves (tree.Constant t v) typed =
    let some = provided_some-parts t _ _ typed.0 typed.1 in some-key t (λ r. key.ConstRoot (basic_of r)) some.0 some.1
recipe-key leaves (tree.Identity t) typed =
    let some = provided_some-parts t _ _ typed.0 typed.1 in some-key t (λ r. key.IdentityRoot (basic_of r)) some.0 some.1
recipe-key leaves (tree.Throw ret class) typed = (_, [], refl)
recipe-key leaves (tree.Concat asked pieces) typed = (_, [], refl)
recipe-key leaves (tree.Bind t place v) typed = more-key (recipe leaves t) _ (recipe-key leaves t (part-typed (type_of leaves t) _ typed))
recipe-key leaves (tree.Drop t place types) typed = more-key (recipe leaves t) _ (recipe-key leaves t (part-typed (type_of leaves t) _ typed))
recipe-key leaves (tree.Permute t asked reorder) typed = more-key (recipe leaves t) _ (recipe-key leaves t (part-typed (type_of leaves t) _ typed))
recipe-key leaves (tree.FilterArg t place f) typed = more-key (recipe leaves t) _ (recipe-key leaves t (part-typed (type_of leaves t) _ typed))
recipe-key leaves (tree.FilterRet t f) typed = more-key (recipe leaves t) _ (recipe-key leaves t (part-typed (type_of leaves t) _ typed))
recipe-key leaves (tree.Fold t place c) typed = more-key (recipe leaves t) _ (recipe-key leaves t (part-typed (type_of leaves t) _ typed))
recipe-key leaves (tree.Collect t place f) typed = more-key (recipe leaves t) _ (recipe-key leaves t (part-typed (type_of leaves t) _ typed))
recipe-key leaves (tree.Spread t array count) typed = more-key (recipe leaves t) _ (recipe-key leaves t (part-typed (type_of leaves t) _ typed))
recipe-key leaves (tree.Gather t array count) typed = more-key (recipe leaves t) _ (recipe-key leaves t (part-typed (type_of leaves t) _ typed))
recipe-key leaves (tree.AsType t asked) typed = more-key (recipe leaves t) _ (recipe-key leaves t (part-typed (type_of leaves t) _ typed))
recipe-key leaves (tree.Explicit t asked) typed = more-key (recipe leaves t) _ (recipe-key leaves t (part-typed (type_of leaves t) _ typed))
recipe-key leaves (tree.Guard c t e) typed =
    let test = with_type-parts (type_of leaves c) _ typed.0 typed.1 in
    let own = with_type-parts (type_of leaves t) _ typed.0 test.2 in
    typed-key (type_of leaves t) _ own.0 own.1 (typed-key (type_of leaves c) _ test.0 test.1 (_, [], refl))
recipe-key leaves (tree.Catch t class h) typed =
    let own = with_type-parts (type_of leaves t) _ typed.0 typed.1 in
    let handler = with_type-parts (type_of leaves h) _ typed.0 own.2 in
    typed-key (type_of leaves t) _ own.0 own.1 (typed-key (type_of leaves h) _ handler.0 handler.1 (_, [], refl))
recipe-key leaves (tree.TryFinally t c) typed =
    let own = with_type-parts (type_of leaves t) _ typed.0 typed.1 in
    let cleanup = with_type-parts (type_of leaves c) _ typed.0 own.2 in
    typed-key (type_of leaves t) _ own.0 own.1 (typed-key (type_of leaves c) _ cleanup.0 cleanup.1 (_, [], refl))
recipe-key leaves (tree.Switch f cases) typed =
    let own = with_type-parts (type_of leaves f) _ typed.0 typed.1 in
    typed-key (type_of leaves f) _ own.0 own.1 (_, [], refl)
recipe-key leaves (tree.Counted n i b) typed =
    let counts = with_type-parts (type_of leaves n) _ typed.0 typed.1 in
    let starts = with_type-parts (type_of leaves i) _ typed.0 counts.2 in
    let turns = with_type-parts (type_of leaves b) _ typed.0 starts.2 in
    typed-key (type_of leaves n) _ counts.0 counts.1
    (typed-key (type_of leaves i) _ starts.0 starts.1 (typed-key (type_of leaves b) _ turns.0 turns.1 (_, [], refl)))

-- the recipe of a tree that has a type is one of its beginnings
pub recipe-whole : (leaves : LeafTable) (t : Tree) → IsTyped leaves t → is_one (beginnings (recipe leaves t)) (recipe leaves t) ≡ true
recipe-whole leaves t typed =
    let some = recipe-key leaves t typed in
    subst (λ r. is_one (beginnings r) r ≡ true) (sym some.2) (whole-beginning some.0 some.1)

-- the recipes of trees that have types are among their beginnings
pub recipes-among : (leaves : LeafTable) (ts : List Tree) → All (IsTyped leaves) ts →
    AreAmong (map (recipe leaves) ts) (flat_map (λ t. beginnings (recipe leaves t)) ts)
recipes-among leaves [] typed = none-among []
recipes-among leaves (t ∷ ts) typed =
    let r = recipe leaves t in
    each-among (r ∷ []) (map (recipe leaves) ts) (beginnings r) (flat_map (λ u. beginnings (recipe leaves u)) ts)
    (one-among r (beginnings r) (recipe-whole leaves t (All-head (IsTyped leaves) t ts typed)))
    (recipes-among leaves ts (All-tail (IsTyped leaves) t ts typed))
