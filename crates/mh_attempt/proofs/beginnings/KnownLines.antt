-- Every beginning of the recipe of the node of an operation was asked for before, or is by the operation.
use Rattle.std.proofs.Common.{◌≡◌, refl, sym, subst, Bool, ◌&&◌, ℕ, List, [], ◌∷◌, ◌++◌, length, Option, Ok, codes, nat_le}
use Rattle.std.specs.Prelude.{is_some}
use Rattle.mh_base.proofs.Inversion.{ok_is}
use Rattle.mh_values.specs.declared.types.MethodTy.{MethodTy}
use Rattle.mh_values.specs.declared.types.Ty.{Ty}
use Rattle.mh_convert.specs.declared.conv.Rules.{Rules}
use Rattle.mh_convert.specs.declared.conv.Rules.TheVariants as rules
use Rattle.mh_leaf.specs.LeafTable.{LeafTable}
use Rattle.mh_leaves.specs.declared.naming.How.TheVariants.{Any}
use Rattle.mh_tree.specs.Tree.{Tree, cases_of}
use Rattle.mh_tree.specs.Tree as tree
use Rattle.mh_tree.specs.Rows.{component_of, illegal}
use Rattle.mh_tree.specs.Typing.{type_of}
use Rattle.mh_tree.specs.Use.{items_used_as, used_by}
use Rattle.mh_edit.specs.declared.key.Key.{Key}
use Rattle.mh_handle.specs.Recipe.{recipe}
use Rattle.mh_jobs.specs.Names.{class_of, leaf_named, types_of_text}
use Rattle.mh_jobs.specs.Thrown.{OrThrown, ◌>>=◌, ◌>>◌, plainly, require}
use Rattle.mh_jobs.proofs.Parts.{bound-parts, require-parts}
use Rattle.mh_script.specs.declared.operand.MethodTypeOperand.{MethodTypeOperand}
use Rattle.mh_script.specs.declared.operand.Register.{Register}
use Rattle.mh_script.specs.declared.operand.TypeOperand.{TypeOperand}
use Rattle.mh_script.specs.declared.script.Operation.{Operation}
use Rattle.mh_script.specs.declared.script.Operation.TheVariants as operation
use Rattle.mh_link.specs.Made.{beginnings, handles_of, nodes_of_uses, unless_thrown}
use Rattle.mh_link.specs.Operands.{Frame, handle_in, method_type_in, type_in, value_in}
use Rattle.mh_link.specs.Operations.{asked_by, handles_in, node_of, spread_of, use_of}
use Rattle.mh_attempt.specs.Recipes.{asked_itself, spread_asked, use_asked}
use Rattle.mh_attempt.proofs.beginnings.KnownHandles.{AreKnown, recipes_of}
use Rattle.mh_attempt.proofs.beginnings.KnownNodes.{adapter-known, first-known, one-part, root-known, spread-known, three-parts, two-parts, use-known}
use Rattle.mh_attempt.proofs.beginnings.RecipeBeginnings.{IsShort}
use Rattle.mh_attempt.proofs.beginnings.RecipeKeys.{HasOneMore, at_some-short, at_type-short, has-one, has-some, has-typed, items-more, short-one, use-more}
use Rattle.mh_attempt.proofs.asked.RecipeSets.{AreAmong}

-- a node is what is asked for
node-asked : (leaves : LeafTable) (frame : Frame) (op : Operation) (n : Tree) → node_of leaves frame op ≡ Ok n → asked_by leaves frame op ≡ Ok n
node-asked leaves frame op n h =
    let asked = bound-parts (asked_by leaves frame op) (λ u. type_of leaves u >>= (λ own. Ok u)) n h in
    let typed = bound-parts (type_of leaves asked.0) (λ own. Ok asked.0) n asked.2 in
    subst (λ u. asked_by leaves frame op ≡ Ok u) (ok_is asked.0 n typed.2) asked.1

-- the beginnings of the recipe of a node are among those that were asked for, those of leaves that are used, and those that the operation asks for itself
abbrev IsKnownOf : LeafTable → List (List Key) → Frame → Operation → Tree → Type 0
IsKnownOf leaves known frame op n =
    AreAmong (beginnings (recipe leaves n)) ((known ++ recipes_of leaves (nodes_of_uses frame (handles_of op))) ++ recipes_of leaves
    (asked_itself leaves frame op n))

module _ (leaves : LeafTable) (known : List (List Key)) (frame : Frame) (are : AreKnown leaves known frame.assigned) where
  root : (n m : Tree) → m ≡ n → IsShort (recipe leaves m) → AreAmong (beginnings (recipe leaves n)) ((known ++ []) ++ recipe leaves n ∷ [])
  root n m is short = root-known leaves (known ++ []) n (subst (λ t. IsShort (recipe leaves t)) is short)

  branch : (uses : List (List Key)) (n m : Tree) → m ≡ n → IsShort (recipe leaves m) →
      AreAmong (beginnings (recipe leaves n)) ((known ++ uses) ++ recipe leaves n ∷ [])
  branch uses n m is short = root-known leaves (known ++ uses) n (subst (λ t. IsShort (recipe leaves t)) is short)

  spread : (h : Register) (ty : TypeOperand) (count : ℕ) (n : Tree) → asked_by leaves frame (operation.Spread h ty count) ≡ Ok n →
      IsKnownOf leaves known frame (operation.Spread h ty count) n
  spread h ty count n is =
      let next : Tree → Option Ty → OrThrown Tree = λ t array. spread_of leaves t array count in
      let held = bound-parts (handle_in frame h) (λ t. type_in leaves.classes frame ty >>= next t) n is in
      let array = bound-parts (type_in leaves.classes frame ty) (next held.0) n held.2 in
      let holds : MethodTy → Bool = λ own. is_some (component_of array.0) && nat_le count (length own.params) in
      let made : MethodTy → Tree = λ own. tree.Spread (items_used_as own array.0 count held.0) array.0 count in
      let typed = bound-parts (type_of leaves held.0) (λ own. require (holds own) (illegal (codes "spread")) >> Ok (made own)) n array.2 in
      let given = require-parts (holds typed.0) (illegal (codes "spread")) (Ok (made typed.0)) n typed.2 in
      let all = known ++ recipes_of leaves (nodes_of_uses frame (h ∷ [])) in
      subst (λ m. AreAmong (beginnings (recipe leaves n)) (all ++ recipes_of leaves (unless_thrown m (λ t. spread_asked leaves t n)))) (sym held.1)
      (subst (λ s. AreAmong (beginnings (recipe leaves s)) (all ++ recipes_of leaves (spread_asked leaves held.0 s))) (ok_is (made typed.0) n given.1)
      (spread-known leaves all held.0 (items_used_as typed.0 array.0 count held.0) array.0 count (items-more leaves typed.0 array.0 count held.0)
      (first-known leaves known frame h [] held.0 are held.1)))

  -- a conversion by the rules, whichever operation asks for it
  used : (by : Rules) (h : Register) (ty : MethodTypeOperand) (n : Tree) →
      (handle_in frame h >>= (λ t. method_type_in leaves.classes frame ty >>= (λ asked. use_of by leaves t asked))) ≡ Ok n →
      AreAmong (beginnings (recipe leaves n)) ((known ++ recipes_of leaves (nodes_of_uses frame (h ∷ []))) ++ recipes_of leaves
      (unless_thrown (handle_in frame h) (λ t. use_asked leaves t n)))
  used by h ty n is =
      let held = bound-parts (handle_in frame h) (λ t. method_type_in leaves.classes frame ty >>= (λ asked. use_of by leaves t asked)) n is in
      let asked = bound-parts (method_type_in leaves.classes frame ty) (λ asked. use_of by leaves held.0 asked) n held.2 in
      let typed = bound-parts (type_of leaves held.0) (λ own. Ok (used_by by own asked.0 held.0)) n asked.2 in
      let all = known ++ recipes_of leaves (nodes_of_uses frame (h ∷ [])) in
      subst (λ m. AreAmong (beginnings (recipe leaves n)) (all ++ recipes_of leaves (unless_thrown m (λ t. use_asked leaves t n)))) (sym held.1)
      (use-known leaves all held.0 n
      (subst (HasOneMore leaves held.0) (ok_is (used_by by typed.0 asked.0 held.0) n typed.2) (use-more by leaves typed.0 asked.0 held.0))
      (first-known leaves known frame h [] held.0 are held.1))

  asked-known : (op : Operation) (n : Tree) → asked_by leaves frame op ≡ Ok n → IsKnownOf leaves known frame op n
  asked-known (operation.Leaf method) n is =
      let made = one-part (leaf_named plainly leaves Any method) (λ l. tree.Leaf l) n is in
      root n (tree.Leaf made.0) made.2 (at_type-short (type_of leaves (tree.Leaf made.0)) _ (λ ty. short-one _))
  asked-known (operation.Constant ty v) n is =
      let made = two-parts (type_in leaves.classes frame ty) (value_in frame v) (λ t w. tree.Constant t w) n is in
      root n (tree.Constant made.0 made.2) made.3 (at_some-short made.0 _)
  asked-known (operation.Identity ty) n is =
      let made = one-part (type_in leaves.classes frame ty) (λ t. tree.Identity t) n is in
      root n (tree.Identity made.0) made.2 (at_some-short made.0 _)
  asked-known (operation.Throw ret class) n is =
      let made = two-parts (type_in leaves.classes frame ret) (class_of plainly leaves.classes class) (λ t c. tree.Throw t c) n is in
      root n (tree.Throw made.0 made.2) made.3 (short-one _)
  asked-known (operation.Bind h place v) n is =
      adapter-known leaves known frame h [] n (λ t w. tree.Bind t place w) are
      (two-parts (handle_in frame h) (value_in frame v) (λ t w. tree.Bind t place w) n is) (λ t w. has-one leaves t (tree.Bind t place w) _ refl)
  asked-known (operation.Drop h place types) n is =
      adapter-known leaves known frame h [] n (λ t ts. tree.Drop t place ts) are
      (two-parts (handle_in frame h) (types_of_text plainly leaves.classes types) (λ t ts. tree.Drop t place ts) n is)
      (λ t ts. has-one leaves t (tree.Drop t place ts) _ refl)
  asked-known (operation.Permute h ty order) n is =
      adapter-known leaves known frame h [] n (λ t asked. tree.Permute t asked order) are
      (two-parts (handle_in frame h) (method_type_in leaves.classes frame ty) (λ t asked. tree.Permute t asked order) n is)
      (λ t asked. has-one leaves t (tree.Permute t asked order) _ refl)
  asked-known (operation.Filter h place f) n is =
      adapter-known leaves known frame h (f ∷ []) n (λ t p. tree.FilterArg t place p) are
      (two-parts (handle_in frame h) (handle_in frame f) (λ t p. tree.FilterArg t place p) n is)
      (λ t p. has-typed leaves t (tree.FilterArg t place p) (type_of leaves p) _ refl)
  asked-known (operation.FilterReturn h f) n is =
      adapter-known leaves known frame h (f ∷ []) n (λ t p. tree.FilterRet t p) are
      (two-parts (handle_in frame h) (handle_in frame f) (λ t p. tree.FilterRet t p) n is)
      (λ t p. has-typed leaves t (tree.FilterRet t p) (type_of leaves p) _ refl)
  asked-known (operation.Fold h place f) n is =
      adapter-known leaves known frame h (f ∷ []) n (λ t p. tree.Fold t place p) are
      (two-parts (handle_in frame h) (handle_in frame f) (λ t p. tree.Fold t place p) n is)
      (λ t p. has-typed leaves t (tree.Fold t place p) (type_of leaves p) _ refl)
  asked-known (operation.Collect h place f) n is =
      adapter-known leaves known frame h (f ∷ []) n (λ t p. tree.Collect t place p) are
      (two-parts (handle_in frame h) (handle_in frame f) (λ t p. tree.Collect t place p) n is)
      (λ t p. has-typed leaves t (tree.Collect t place p) (type_of leaves p) _ refl)
  asked-known (operation.Spread h ty count) n is = spread h ty count n is
  asked-known (operation.Gather h ty count) n is =
      adapter-known leaves known frame h [] n (λ t array. tree.Gather t array count) are
      (two-parts (handle_in frame h) (type_in leaves.classes frame ty) (λ t array. tree.Gather t array count) n is)
      (λ t array. has-some leaves t (tree.Gather t array count) (component_of array) _ refl)
  asked-known (operation.AsType h ty) n is = used rules.AsType h ty n is
  asked-known (operation.Explicit h ty) n is = used rules.Explicit h ty n is
  asked-known (operation.Guard c h e) n is =
      let made = three-parts (handle_in frame c) (handle_in frame h) (handle_in frame e) (λ test t other. tree.Guard test t other) n is in
      branch (recipes_of leaves (nodes_of_uses frame (c ∷ h ∷ e ∷ []))) n (tree.Guard made.0 made.1 made.2) made.3
      (at_type-short (type_of leaves made.1) _ (λ ty. at_type-short (type_of leaves made.0) _ (λ test. short-one _)))
  asked-known (operation.Catch h class f) n is =
      let made = three-parts (handle_in frame h) (class_of plainly leaves.classes class) (handle_in frame f) (λ t c p. tree.Catch t c p) n is in
      branch (recipes_of leaves (nodes_of_uses frame (h ∷ f ∷ []))) n (tree.Catch made.0 made.1 made.2) made.3
      (at_type-short (type_of leaves made.0) _ (λ ty. at_type-short (type_of leaves made.2) _ (λ handler. short-one _)))
  asked-known (operation.TryFinally h f) n is =
      let made = two-parts (handle_in frame h) (handle_in frame f) (λ t c. tree.TryFinally t c) n is in
      branch (recipes_of leaves (nodes_of_uses frame (h ∷ f ∷ []))) n (tree.TryFinally made.0 made.2) made.3
      (at_type-short (type_of leaves made.0) _ (λ ty. at_type-short (type_of leaves made.2) _ (λ cleanup. short-one _)))
  asked-known (operation.Switch f cases) n is =
      let made = two-parts (handle_in frame f) (handles_in frame cases) (λ t ts. tree.Switch t (cases_of ts)) n is in
      branch (recipes_of leaves (nodes_of_uses frame (f ∷ cases))) n (tree.Switch made.0 (cases_of made.2)) made.3
      (at_type-short (type_of leaves made.0) _ (λ ty. short-one _))
  asked-known (operation.Counted c i b) n is =
      let made = three-parts (handle_in frame c) (handle_in frame i) (handle_in frame b) (λ x y z. tree.Counted x y z) n is in
      branch (recipes_of leaves (nodes_of_uses frame (c ∷ i ∷ b ∷ []))) n (tree.Counted made.0 made.1 made.2) made.3
      (at_type-short (type_of leaves made.0) _ (λ counts. at_type-short (type_of leaves made.1) _ (λ starts.
      at_type-short (type_of leaves made.2) _ (λ turns. short-one _))))

  -- the beginnings of a node
  pub line-known : (op : Operation) (n : Tree) → node_of leaves frame op ≡ Ok n → IsKnownOf leaves known frame op n
  line-known op n h = asked-known op n (node-asked leaves frame op n h)
