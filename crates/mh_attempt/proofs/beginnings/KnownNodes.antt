-- Every beginning of the recipe of a node that a line makes was asked for, or is by the line.
use Rattle.std.proofs.Common.{◌≡◌, refl, sym, ◌∙◌, ap, subst, ℕ, Option, Bool, true, false, List, [], ◌∷◌, ◌++◌, append_assoc, Ok}
use Rattle.std.specs.Prelude.{if◌then◌else◌}
use Rattle.std.proofs.lemmas.List.{map-append}
use Rattle.mh_base.proofs.Inversion.{ok_is}
use Rattle.mh_values.specs.declared.types.Ty.{Ty}
use Rattle.mh_values.specs.Array.{item_type}
use Rattle.mh_leaf.specs.LeafTable.{LeafTable}
use Rattle.mh_tree.specs.Tree.{Tree}
use Rattle.mh_tree.specs.Tree as tree
use Rattle.mh_tree.specs.Rows.{component_of}
use Rattle.mh_form.specs.Erasure.{basic_of}
use Rattle.mh_edit.specs.declared.key.Key.{Key}
use Rattle.mh_edit.specs.declared.key.Key.TheVariants as key
use Rattle.mh_handle.specs.Recipe.{recipe}
use Rattle.mh_handle.specs.SameRecipes.{same_recipe}
use Rattle.mh_handle.proofs.recipes.SameRecipes.{same_recipe-decides}
use Rattle.mh_jobs.specs.Thrown.{OrThrown, ◌>>=◌}
use Rattle.mh_jobs.proofs.Parts.{bound-parts}
use Rattle.mh_script.specs.declared.operand.Register.{Register}
use Rattle.mh_link.specs.Made.{beginnings, node_of_use, nodes_of_uses}
use Rattle.mh_link.specs.Operands.{Frame, handle_in}
use Rattle.mh_attempt.specs.Recipes.{spread_asked, use_asked}
use Rattle.mh_attempt.proofs.beginnings.KnownHandles.{AreKnown, handle-known, recipes_of}
use Rattle.mh_attempt.proofs.beginnings.RecipeBeginnings.{IsShort, short-beginnings}
use Rattle.mh_attempt.proofs.beginnings.RecipeKeys.{HasOneMore, has-some, more-among}
use Rattle.mh_attempt.proofs.asked.RecipeSets.{AreAmong, among-among, among-first, among-last, each-among, same-among}

-- ---- what a line makes of its operands

pub one-part : {A : Type 0} (m : OrThrown A) (make : A → Tree) (n : Tree) → (m >>= (λ a. Ok (make a))) ≡ Ok n → (a : A) × (m ≡ Ok a) × (make a ≡ n)
one-part m make n h = let found = bound-parts m (λ a. Ok (make a)) n h in (found.0, found.1, ok_is (make found.0) n found.2)

pub two-parts : {A B : Type 0} (m : OrThrown A) (k : OrThrown B) (make : A → B → Tree) (n : Tree) → (m >>= (λ a. k >>= (λ b. Ok (make a b)))) ≡ Ok n →
    (a : A) × (m ≡ Ok a) × (b : B) × (make a b ≡ n)
two-parts m k make n h =
    let first = bound-parts m (λ a. k >>= (λ b. Ok (make a b))) n h in
    let second = one-part k (make first.0) n first.2 in
    (first.0, first.1, second.0, second.2)

pub three-parts : {A B C : Type 0} (l : OrThrown A) (m : OrThrown B) (k : OrThrown C) (make : A → B → C → Tree) (n : Tree) →
    (l >>= (λ a. m >>= (λ b. k >>= (λ c. Ok (make a b c))))) ≡ Ok n → (a : A) × (b : B) × (c : C) × (make a b c ≡ n)
three-parts l m k make n h =
    let first = bound-parts l (λ a. m >>= (λ b. k >>= (λ c. Ok (make a b c)))) n h in
    let others = two-parts m k (make first.0) n first.2 in
    (first.0, others.0, others.2, others.3)

-- ---- beginnings

-- of a node with at most one key
pub root-known : (leaves : LeafTable) (known : List (List Key)) (n : Tree) → IsShort (recipe leaves n) →
    AreAmong (beginnings (recipe leaves n)) (known ++ recipe leaves n ∷ [])
root-known leaves known n short =
    among-among (beginnings (recipe leaves n)) (recipe leaves n ∷ []) (known ++ recipe leaves n ∷ []) (short-beginnings (recipe leaves n) short)
    (among-last known (recipe leaves n ∷ []))

-- of the first operand of a line
pub first-known : (leaves : LeafTable) (known : List (List Key)) (frame : Frame) (h : Register) (rest : List Register) (t : Tree) →
    AreKnown leaves known frame.assigned → handle_in frame h ≡ Ok t →
    AreAmong (beginnings (recipe leaves t)) (known ++ recipes_of leaves (nodes_of_uses frame (h ∷ rest)))
first-known leaves known frame h rest t are held =
    let first = node_of_use frame h in
    let others = nodes_of_uses frame rest in
    among-among (beginnings (recipe leaves t)) (known ++ recipes_of leaves first) (known ++ recipes_of leaves (first ++ others))
    (handle-known leaves known frame h t are held)
    (each-among known (recipes_of leaves first) known (recipes_of leaves (first ++ others)) (same-among known known refl)
    (among-among (recipes_of leaves first) (recipes_of leaves first ++ recipes_of leaves others) (recipes_of leaves (first ++ others))
    (among-first (recipes_of leaves first) (recipes_of leaves others))
    (same-among (recipes_of leaves first ++ recipes_of leaves others) (recipes_of leaves (first ++ others)) (sym (map-append (recipe leaves) first others)))))

-- of a node that adapts the first operand
pub adapter-known : {B : Type 0} (leaves : LeafTable) (known : List (List Key)) (frame : Frame) (h : Register) (rest : List Register) (n : Tree)
    (make : Tree → B → Tree) → AreKnown leaves known frame.assigned → (t : Tree) × (handle_in frame h ≡ Ok t) × (b : B) × (make t b ≡ n) →
    ((t : Tree) (b : B) → HasOneMore leaves t (make t b)) →
    AreAmong (beginnings (recipe leaves n)) ((known ++ recipes_of leaves (nodes_of_uses frame (h ∷ rest))) ++ recipe leaves n ∷ [])
adapter-known leaves known frame h rest n make are parts more =
    more-among leaves parts.0 n (known ++ recipes_of leaves (nodes_of_uses frame (h ∷ rest)))
    (subst (HasOneMore leaves parts.0) parts.3 (more parts.0 parts.2)) (first-known leaves known frame h rest parts.0 are parts.1)

-- of a use of a tree
pub use-known : (leaves : LeafTable) (known : List (List Key)) (t u : Tree) → HasOneMore leaves t u → AreAmong (beginnings (recipe leaves t)) known →
    AreAmong (beginnings (recipe leaves u)) (known ++ recipes_of leaves (use_asked leaves t u))
use-known leaves known t u more among = cases (same_recipe (recipe leaves u) (recipe leaves t)) refl
  where
    cases : (b : Bool) → same_recipe (recipe leaves u) (recipe leaves t) ≡ b →
        AreAmong (beginnings (recipe leaves u)) (known ++ recipes_of leaves (if b then [] else u ∷ []))
    cases true same =
        among-among (beginnings (recipe leaves u)) known (known ++ [])
        (subst (λ r. AreAmong (beginnings r) known) (sym ((same_recipe-decides (recipe leaves u) (recipe leaves t)).0 same)) among) (among-first known [])
    cases false other = more-among leaves t u known more among

-- of a spread of a tree, whose part is a use of the tree
pub spread-known : (leaves : LeafTable) (known : List (List Key)) (t u : Tree) (array : Option Ty) (count : ℕ) → HasOneMore leaves t u →
    AreAmong (beginnings (recipe leaves t)) known →
    AreAmong (beginnings (recipe leaves (tree.Spread u array count))) (known ++ recipes_of leaves (spread_asked leaves t (tree.Spread u array count)))
spread-known leaves known t u array count more among =
    let n = tree.Spread u array count in
    let uses = recipes_of leaves (use_asked leaves t u) in
    among-among (beginnings (recipe leaves n)) ((known ++ uses) ++ recipe leaves n ∷ []) (known ++ recipes_of leaves (spread_asked leaves t n))
    (more-among leaves u n (known ++ uses) (has-some leaves u n (component_of array) (λ c. key.Spread count (basic_of (item_type c))) refl)
    (use-known leaves known t u more among))
    (same-among ((known ++ uses) ++ recipe leaves n ∷ []) (known ++ recipes_of leaves (spread_asked leaves t n))
    (append_assoc known uses (recipe leaves n ∷ []) ∙ ap (λ rs. known ++ rs) (sym (map-append (recipe leaves) (use_asked leaves t u) (n ∷ [])))))
