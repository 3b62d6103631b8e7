-- The method handles that the registers of a script hold: every beginning of their recipes was asked for, or is by their use.
use Rattle.std.proofs.Common.{◌≡◌, sym, ◌∙◌, ap, subst, ℕ, Bool, true, false, List, [], ◌∷◌, ◌++◌, append-nil, map, flat_map, Option, Some, None, Ok}
use Rattle.std.specs.Prelude.{if◌then◌else◌, slice_get, option_map, ok_or}
use Rattle.std.specs.Str.{bytes_eq}
use Rattle.std.proofs.lemmas.List.{map-append}
use Rattle.std.proofs.lemmas.List.Concat.{flat_map-append}
use Rattle.mh_base.proofs.Inversion.{some_is}
use Rattle.mh_values.specs.declared.value.Exc.{Exc}
use Rattle.mh_values.specs.declared.value.LeafId.{LeafId}
use Rattle.mh_leaf.specs.LeafTable.{LeafTable}
use Rattle.mh_tree.specs.Tree.{Tree}
use Rattle.mh_tree.specs.Tree as tree
use Rattle.mh_tree.specs.Typing.{type_of}
use Rattle.mh_edit.specs.declared.key.Key.{Key}
use Rattle.mh_handle.specs.Recipe.{recipe}
use Rattle.mh_jobs.specs.declared.job.Argument.{Argument}
use Rattle.mh_jobs.specs.declared.job.Argument.TheVariants as argument
use Rattle.mh_jobs.proofs.Parts.{bound-parts}
use Rattle.mh_script.specs.declared.operand.Register.{Register}
use Rattle.mh_script.specs.declared.operand.Register.TheVariants as register
use Rattle.mh_link.specs.Made.{beginnings, leaf_among, node_of_use, nodes_of_uses}
use Rattle.mh_link.specs.Operands.{Content, Frame, as_handle, class, content, content_of, handle, handle_in, held_in, last_assigned, method_type, no_argument, value}
use Rattle.mh_attempt.proofs.beginnings.RecipeBeginnings.{short-beginnings}
use Rattle.mh_attempt.proofs.beginnings.RecipeKeys.{at_type-short, short-one}
use Rattle.mh_attempt.proofs.asked.RecipeSets.{AreAmong, among-among, among-first, among-last, each-among, none-among, same-among}

-- the recipes of trees, and all beginnings of these
abbrev pub recipes_of : LeafTable → List Tree → List (List Key)
recipes_of leaves ts = map (recipe leaves) ts

abbrev pub edits_of : LeafTable → List Tree → List (List Key)
edits_of leaves ts = flat_map (λ t. beginnings (recipe leaves t)) ts

-- the beginnings of what a register holds are among these, if it holds a method handle
abbrev pub IsKnown : LeafTable → List (List Key) → Content → Type 0
IsKnown leaves known (handle t) = AreAmong (beginnings (recipe leaves t)) known
IsKnown leaves known other = Unit {0}

-- so it is with all that was assigned
abbrev pub AreKnown : LeafTable → List (List Key) → List (List ℕ × Content) → Type 0
AreKnown leaves known [] = Unit {0}
AreKnown leaves known (a ∷ assigned) = IsKnown leaves known a.1 × AreKnown leaves known assigned

is_known-more : (leaves : LeafTable) (known more : List (List Key)) (c : Content) → AreAmong known more → IsKnown leaves known c → IsKnown leaves more c
is_known-more leaves known more (handle t) among is = among-among (beginnings (recipe leaves t)) known more is among
is_known-more leaves known more (value v) among is = tt
is_known-more leaves known more (method_type t) among is = tt
is_known-more leaves known more (class t) among is = tt

pub known-more : (leaves : LeafTable) (known more : List (List Key)) (assigned : List (List ℕ × Content)) → AreAmong known more →
    AreKnown leaves known assigned → AreKnown leaves more assigned
known-more leaves known more [] among are = tt
known-more leaves known more (a ∷ assigned) among are =
    (is_known-more leaves known more a.1 among are.0, known-more leaves known more assigned among are.1)

-- ---- static arguments that are leaves

leaf-among : (leaves : LeafTable) (l : LeafId) → AreAmong (beginnings (recipe leaves (tree.Leaf l))) (recipe leaves (tree.Leaf l) ∷ [])
leaf-among leaves l =
    short-beginnings (recipe leaves (tree.Leaf l)) (at_type-short (type_of leaves (tree.Leaf l)) _ (λ ty. short-one _))

argument-among : (leaves : LeafTable) (o : Option Argument) → AreAmong (edits_of leaves (leaf_among o)) (recipes_of leaves (leaf_among o))
argument-among leaves (Some (argument.Leaf l)) =
    let r = recipe leaves (tree.Leaf l) in
    among-among (beginnings r ++ []) (beginnings r) (r ∷ []) (same-among (beginnings r ++ []) (beginnings r) (append-nil (beginnings r))) (leaf-among leaves l)
argument-among leaves o = none-among []

use-among : (leaves : LeafTable) (frame : Frame) (r : Register) → AreAmong (edits_of leaves (node_of_use frame r)) (recipes_of leaves (node_of_use frame r))
use-among leaves frame (register.Argument n) = argument-among leaves (slice_get frame.call.arguments n)
use-among leaves frame r = none-among []

-- the beginnings of leaves that are used are the recipes of those
pub uses-among : (leaves : LeafTable) (frame : Frame) (rs : List Register) →
    AreAmong (edits_of leaves (nodes_of_uses frame rs)) (recipes_of leaves (nodes_of_uses frame rs))
uses-among leaves frame [] = none-among []
uses-among leaves frame (r ∷ rs) =
    let first = node_of_use frame r in
    let others = nodes_of_uses frame rs in
    among-among (edits_of leaves (first ++ others)) (edits_of leaves first ++ edits_of leaves others) (recipes_of leaves (first ++ others))
    (same-among _ _ (flat_map-append (λ t. beginnings (recipe leaves t)) first others))
    (among-among (edits_of leaves first ++ edits_of leaves others) (recipes_of leaves first ++ recipes_of leaves others) (recipes_of leaves (first ++ others))
    (each-among (edits_of leaves first) (edits_of leaves others) (recipes_of leaves first) (recipes_of leaves others) (use-among leaves frame r)
    (uses-among leaves frame rs))
    (same-among _ _ (sym (map-append (recipe leaves) first others))))

-- ---- method handles that registers hold

none-there : (c : Content) → ◌≡◌ {A = Option Content} None (Some c) → ⊥
none-there c h = absurd cc

same-handle : (t u : Tree) → ◌≡◌ {A = Content} (handle t) (handle u) → t ≡ u
same-handle t u h = cc

-- the latest assignment, or one before it
latest : (leaves : LeafTable) (known : List (List Key)) (first : Content) (before : Option Content) (b : Bool) (c : Content) → IsKnown leaves known first →
    ((d : Content) → before ≡ Some d → IsKnown leaves known d) → (if b then Some first else before) ≡ Some c → IsKnown leaves known c
latest leaves known first before true c is others h = subst (IsKnown leaves known) (some_is first c h) is
latest leaves known first before false c is others h = others c h

last-known : (leaves : LeafTable) (known : List (List Key)) (name : List ℕ) (assigned : List (List ℕ × Content)) (c : Content) →
    AreKnown leaves known assigned → last_assigned name assigned ≡ Some c → IsKnown leaves known c
last-known leaves known name [] c are h = absurd (none-there c h)
last-known leaves known name (a ∷ assigned) c are h =
    latest leaves known a.1 (last_assigned name assigned) (bytes_eq a.0 name) c are.0 (λ d there. last-known leaves known name assigned d are.1 there) h

argument-known : (leaves : LeafTable) (known : List (List Key)) (o : Option Argument) (t : Tree) → option_map content_of o ≡ Some (handle t) →
    AreAmong (beginnings (recipe leaves t)) (known ++ recipes_of leaves (leaf_among o))
argument-known leaves known (Some (argument.Leaf l)) t h =
    let is = same-handle (tree.Leaf l) t (some_is (handle (tree.Leaf l)) (handle t) h) in
    subst (λ u. AreAmong (beginnings (recipe leaves u)) (known ++ recipe leaves (tree.Leaf l) ∷ [])) is
    (among-among (beginnings (recipe leaves (tree.Leaf l))) (recipe leaves (tree.Leaf l) ∷ []) (known ++ recipe leaves (tree.Leaf l) ∷ [])
    (leaf-among leaves l) (among-last known (recipe leaves (tree.Leaf l) ∷ [])))
argument-known leaves known (Some (argument.Value v)) t h = absurd cc
argument-known leaves known (Some (argument.MethodType ty)) t h = absurd cc
argument-known leaves known (Some (argument.Class ty)) t h = absurd cc
argument-known leaves known None t h = absurd cc

held-known : (leaves : LeafTable) (known : List (List Key)) (frame : Frame) (r : Register) (t : Tree) → AreKnown leaves known frame.assigned →
    held_in frame r ≡ Some (handle t) → AreAmong (beginnings (recipe leaves t)) (known ++ recipes_of leaves (node_of_use frame r))
held-known leaves known frame (register.Argument n) t are h = argument-known leaves known (slice_get frame.call.arguments n) t h
held-known leaves known frame (register.Assigned name) t are h =
    among-among (beginnings (recipe leaves t)) known (known ++ []) (last-known leaves known name frame.assigned (handle t) are h) (among-first known [])
held-known leaves known frame register.SiteType t are h = absurd cc
held-known leaves known frame register.SiteName t are h = absurd cc

is-handle : (c : Content) (t : Tree) → as_handle c ≡ Ok t → c ≡ handle t
is-handle (handle u) t h = cc
is-handle (value v) t h = absurd cc
is-handle (method_type ty) t h = absurd cc
is-handle (class ty) t h = absurd cc

is-there : (o : Option Content) (e : Exc) (c : Content) → ok_or o e ≡ Ok c → o ≡ Some c
is-there (Some d) e c h = cc
is-there None e c h = absurd cc

-- the beginnings of what a register holds were asked for, or are by its use
pub handle-known : (leaves : LeafTable) (known : List (List Key)) (frame : Frame) (r : Register) (t : Tree) → AreKnown leaves known frame.assigned →
    handle_in frame r ≡ Ok t → AreAmong (beginnings (recipe leaves t)) (known ++ recipes_of leaves (node_of_use frame r))
handle-known leaves known frame r t are h =
    let held = bound-parts (content frame r) as_handle t h in
    held-known leaves known frame r t are (is-there (held_in frame r) no_argument held.0 held.1 ∙ ap Some (is-handle held.0 t held.2))
