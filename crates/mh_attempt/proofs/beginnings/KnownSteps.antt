-- Every beginning of the recipes of the nodes that one line makes was asked for before, or is by the line.
use Rattle.std.proofs.Common.{◌≡◌, refl, sym, ap, subst, ◌∙◌, ◌%◌, ◌==◌, not, List, [], ◌∷◌, ◌++◌, append-nil, append_assoc, Ok, Err, codes}
use Rattle.std.proofs.lemmas.List.{map-append}
use Rattle.std.proofs.lemmas.List.Concat.{flat_map-append}
use Rattle.mh_base.proofs.Inversion.{ok_is}
use Rattle.mh_values.specs.Exception.{saying}
use Rattle.mh_leaf.specs.LeafTable.{LeafTable}
use Rattle.mh_tree.specs.Tree.{Tree}
use Rattle.mh_tree.specs.Tree as tree
use Rattle.mh_tree.specs.Rows.{component_of}
use Rattle.mh_form.specs.Erasure.{basic_of}
use Rattle.mh_values.specs.Array.{item_type}
use Rattle.mh_edit.specs.declared.key.Key.{Key}
use Rattle.mh_edit.specs.declared.key.Key.TheVariants as key
use Rattle.mh_handle.specs.Recipe.{recipe}
use Rattle.mh_jobs.specs.Thrown.{OrThrown, runtime_class}
use Rattle.mh_jobs.proofs.Parts.{bound-parts, require-parts}
use Rattle.mh_script.specs.declared.operand.Register.{Register}
use Rattle.mh_script.specs.declared.script.Operation.{Operation}
use Rattle.mh_script.specs.declared.script.Step.{Step}
use Rattle.mh_script.specs.declared.script.Step.TheVariants as step
use Rattle.mh_link.specs.Linked.{assigning, stepped}
use Rattle.mh_link.specs.Made.{beginnings, handles_of, nodes_of, nodes_of_step, nodes_of_uses, unless_thrown}
use Rattle.mh_link.specs.Operands.{Frame, handle}
use Rattle.mh_link.specs.Operations.{node_of}
use Rattle.mh_attempt.specs.Recipes.{asked_itself, step_asked}
use Rattle.mh_attempt.proofs.beginnings.KnownHandles.{AreKnown, edits_of, known-more, recipes_of, uses-among}
use Rattle.mh_attempt.proofs.beginnings.KnownLines.{line-known}
use Rattle.mh_attempt.proofs.beginnings.RecipeKeys.{has-some, part-among}
use Rattle.mh_attempt.proofs.asked.RecipeSets.{AreAmong, among-among, among-first, among-last, both-among, none-among, same-among}

module _ (leaves : LeafTable) where
  pub all-edits : (ts us : List Tree) → edits_of leaves (ts ++ us) ≡ edits_of leaves ts ++ edits_of leaves us
  all-edits ts us = flat_map-append (λ t. beginnings (recipe leaves t)) ts us

  -- ---- one line

  itself-among : (n : Tree) → AreAmong (beginnings (recipe leaves n) ++ []) (beginnings (recipe leaves n))
  itself-among n = same-among (beginnings (recipe leaves n) ++ []) (beginnings (recipe leaves n)) (append-nil (beginnings (recipe leaves n)))

  -- the beginnings of the nodes that an operation makes itself are those of its own node
  nodes-among : (n : Tree) → AreAmong (edits_of leaves (nodes_of n)) (beginnings (recipe leaves n))
  nodes-among (tree.Spread u array count) =
      let n = tree.Spread u array count in
      both-among (beginnings (recipe leaves u)) (beginnings (recipe leaves n) ++ []) (beginnings (recipe leaves n))
      (part-among leaves u n (has-some leaves u n (component_of array) (λ c. key.Spread count (basic_of (item_type c))) refl))
      (itself-among n)
  nodes-among n = itself-among n

module _ (leaves : LeafTable) (known : List (List Key)) (frame : Frame) (are : AreKnown leaves known frame.assigned) where
  -- the beginnings of the recipe of the node of a line
  node-known : (op : Operation) (n : Tree) → node_of leaves frame op ≡ Ok n →
      AreAmong (beginnings (recipe leaves n)) (known ++ recipes_of leaves (nodes_of_uses frame (handles_of op) ++ asked_itself leaves frame op n))
  node-known op n is =
      let uses = nodes_of_uses frame (handles_of op) in
      let own = asked_itself leaves frame op n in
      among-among (beginnings (recipe leaves n)) ((known ++ recipes_of leaves uses) ++ recipes_of leaves own) (known ++ recipes_of leaves (uses ++ own))
      (line-known leaves known frame are op n is)
      (same-among ((known ++ recipes_of leaves uses) ++ recipes_of leaves own) (known ++ recipes_of leaves (uses ++ own))
      (append_assoc known (recipes_of leaves uses) (recipes_of leaves own) ∙ ap (λ rs. known ++ rs) (sym (map-append (recipe leaves) uses own))))

  uses-known : (rs : List Register) (own : List Tree) →
      AreAmong (edits_of leaves (nodes_of_uses frame rs)) (known ++ recipes_of leaves (nodes_of_uses frame rs ++ own))
  uses-known rs own =
      let uses = nodes_of_uses frame rs in
      among-among (edits_of leaves uses) (recipes_of leaves uses) (known ++ recipes_of leaves (uses ++ own)) (uses-among leaves frame rs)
      (among-among (recipes_of leaves uses) (recipes_of leaves uses ++ recipes_of leaves own) (known ++ recipes_of leaves (uses ++ own))
      (among-first (recipes_of leaves uses) (recipes_of leaves own))
      (among-among (recipes_of leaves uses ++ recipes_of leaves own) (recipes_of leaves (uses ++ own)) (known ++ recipes_of leaves (uses ++ own))
      (same-among _ _ (sym (map-append (recipe leaves) uses own))) (among-last known (recipes_of leaves (uses ++ own)))))

  made-known : (op : Operation) (m : OrThrown Tree) → node_of leaves frame op ≡ m →
      AreAmong (edits_of leaves (unless_thrown m (λ t. nodes_of_uses frame (handles_of op) ++ nodes_of t)))
      (known ++ recipes_of leaves (unless_thrown m (λ t. nodes_of_uses frame (handles_of op) ++ asked_itself leaves frame op t)))
  made-known op (Ok n) is =
      let uses = nodes_of_uses frame (handles_of op) in
      let all = known ++ recipes_of leaves (uses ++ asked_itself leaves frame op n) in
      among-among (edits_of leaves (uses ++ nodes_of n)) (edits_of leaves uses ++ edits_of leaves (nodes_of n)) all
      (same-among _ _ (all-edits leaves uses (nodes_of n)))
      (both-among (edits_of leaves uses) (edits_of leaves (nodes_of n)) all (uses-known (handles_of op) (asked_itself leaves frame op n))
      (among-among (edits_of leaves (nodes_of n)) (beginnings (recipe leaves n)) all (nodes-among leaves n) (node-known op n is)))
  made-known op (Err e) is = none-among _

  pub step-known : (s : Step) → AreAmong (edits_of leaves (nodes_of_step leaves s frame)) (known ++ recipes_of leaves (step_asked leaves s frame))
  step-known (step.Let name op) = made-known op (node_of leaves frame op) refl
  step-known (step.Serial name) = none-among (known ++ [])
  step-known (step.FailMod modulus remainder) = none-among (known ++ [])

  pub end-known : (m : OrThrown Tree) (rs : List Register) → AreAmong (edits_of leaves (unless_thrown m (λ t. nodes_of_uses frame rs)))
      (known ++ recipes_of leaves (unless_thrown m (λ t. nodes_of_uses frame rs)))
  end-known (Ok t) rs =
      among-among (edits_of leaves (nodes_of_uses frame rs)) (recipes_of leaves (nodes_of_uses frame rs)) (known ++ recipes_of leaves (nodes_of_uses frame rs))
      (uses-among leaves frame rs) (among-last known (recipes_of leaves (nodes_of_uses frame rs)))
  end-known (Err e) rs = none-among _

  -- what the next line finds in the registers
  pub next-known : (s : Step) (next : Frame) → stepped leaves s frame ≡ Ok next →
      AreKnown leaves (known ++ recipes_of leaves (step_asked leaves s frame)) next.assigned
  next-known (step.Let name op) next h =
      let made = bound-parts (node_of leaves frame op) (λ t. Ok (assigning name (handle t) frame)) next h in
      let all : OrThrown Tree → List (List Key) = λ m.
      known ++ recipes_of leaves (unless_thrown m (λ t. nodes_of_uses frame (handles_of op) ++ asked_itself leaves frame op t)) in
      subst (λ (f : Frame). AreKnown leaves (all (node_of leaves frame op)) f.assigned) (ok_is _ next made.2)
      (subst (λ m. AreKnown leaves (all m) ((name, handle made.0) ∷ frame.assigned)) (sym made.1)
      (node-known op made.0 made.1, known-more leaves known (all (Ok made.0)) frame.assigned (among-first known _) are))
  next-known (step.Serial name) next h =
      subst (λ (f : Frame). AreKnown leaves (known ++ []) f.assigned) (ok_is _ next h)
      (tt, known-more leaves known (known ++ []) frame.assigned (among-first known []) are)
  next-known (step.FailMod modulus remainder) next h =
      let other = require-parts (not (frame.serial % modulus == remainder)) (saying runtime_class (codes "failmod")) (Ok frame) next h in
      subst (λ (f : Frame). AreKnown leaves (known ++ []) f.assigned) (ok_is frame next other.1)
      (known-more leaves known (known ++ []) frame.assigned (among-first known []) are)
