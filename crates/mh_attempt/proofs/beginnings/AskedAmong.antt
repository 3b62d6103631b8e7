-- The nodes whose forms are asked for are among the nodes that are made.
use Rattle.std.proofs.Common.{refl, sym, true, Bool, false, ℕ, List, [], ◌∷◌, ◌++◌, Ok, Err}
use Rattle.std.specs.Prelude.{if◌then◌else◌}
use Rattle.std.proofs.lemmas.List.{map-append}
use Rattle.mh_leaf.specs.LeafTable.{LeafTable}
use Rattle.mh_tree.specs.Tree.{Tree}
use Rattle.mh_tree.specs.Tree as tree
use Rattle.mh_handle.specs.Recipe.{recipe}
use Rattle.mh_handle.specs.SameRecipes.{same_recipe}
use Rattle.mh_jobs.specs.declared.job.BootstrapCall.{BootstrapCall}
use Rattle.mh_jobs.specs.declared.job.Method.{Method}
use Rattle.mh_jobs.specs.declared.job.Method.TheVariants as method
use Rattle.mh_jobs.specs.Thrown.{OrThrown}
use Rattle.mh_script.specs.declared.script.End.{End}
use Rattle.mh_script.specs.declared.script.Operation.{Operation}
use Rattle.mh_script.specs.declared.script.Operation.TheVariants as operation
use Rattle.mh_script.specs.declared.script.Script.{Script}
use Rattle.mh_script.specs.declared.script.Step.{Step}
use Rattle.mh_script.specs.declared.script.Step.TheVariants as step
use Rattle.mh_link.specs.Linked.{at_start, called_script, stepped}
use Rattle.mh_link.specs.Made.{concat_nodes, handles_of, nodes, nodes_from, nodes_of, nodes_of_method, nodes_of_step, nodes_of_uses, unless_thrown}
use Rattle.mh_link.specs.Operands.{Frame, handle_in}
use Rattle.mh_link.specs.Operations.{node_of}
use Rattle.mh_attempt.specs.Recipes.{asked_itself, attempt_asked, method_asked, script_asked, spread_asked, step_asked, use_asked}
use Rattle.mh_attempt.proofs.beginnings.KnownHandles.{recipes_of}
use Rattle.mh_attempt.proofs.asked.RecipeSets.{AreAmong, among-among, among-last, each-among, none-among, same-among}

module _ (leaves : LeafTable) where
  -- the recipes of these trees are among those of the others
  abbrev AreTreesAmong : List Tree → List Tree → Type 0
  AreTreesAmong ts us = AreAmong (recipes_of leaves ts) (recipes_of leaves us)

  each-tree : (ts us vs ws : List Tree) → AreTreesAmong ts vs → AreTreesAmong us ws → AreTreesAmong (ts ++ us) (vs ++ ws)
  each-tree ts us vs ws h k =
      among-among (recipes_of leaves (ts ++ us)) (recipes_of leaves ts ++ recipes_of leaves us) (recipes_of leaves (vs ++ ws))
      (same-among _ _ (map-append (recipe leaves) ts us))
      (among-among (recipes_of leaves ts ++ recipes_of leaves us) (recipes_of leaves vs ++ recipes_of leaves ws) (recipes_of leaves (vs ++ ws))
      (each-among (recipes_of leaves ts) (recipes_of leaves us) (recipes_of leaves vs) (recipes_of leaves ws) h k)
      (same-among _ _ (sym (map-append (recipe leaves) vs ws))))

  same-trees : (ts : List Tree) → AreTreesAmong ts ts
  same-trees ts = same-among (recipes_of leaves ts) (recipes_of leaves ts) refl

  -- a node is one of those that an operation makes itself
  own-among : (n : Tree) → AreTreesAmong (n ∷ []) (nodes_of n)
  own-among (tree.Spread u array count) =
      among-last (recipe leaves u ∷ []) (recipe leaves (tree.Spread u array count) ∷ [])
  own-among n = same-trees (n ∷ [])

  -- a use of a tree, if its form is asked for
  use-among : (t u : Tree) → AreTreesAmong (use_asked leaves t u) (u ∷ [])
  use-among t u = cases (same_recipe (recipe leaves u) (recipe leaves t))
    where
      cases : (b : Bool) → AreAmong (recipes_of leaves (if b then [] else u ∷ [])) (recipe leaves u ∷ [])
      cases true = none-among (recipe leaves u ∷ [])
      cases false = same-among (recipe leaves u ∷ []) (recipe leaves u ∷ []) refl

  -- a spread, and the use of its part, if the form of that is asked for
  spread-among : (t n : Tree) → AreTreesAmong (spread_asked leaves t n) (nodes_of n)
  spread-among t (tree.Spread u array count) =
      let n = tree.Spread u array count in each-tree (use_asked leaves t u) (n ∷ []) (u ∷ []) (n ∷ []) (use-among t u) (same-trees (n ∷ []))
  spread-among t n = same-trees (n ∷ [])

  unless-among : {A : Type 0} (m : OrThrown A) (asked made : A → List Tree) → ((a : A) → AreTreesAmong (asked a) (made a)) →
      AreTreesAmong (unless_thrown m asked) (unless_thrown m made)
  unless-among (Ok a) asked made among = among a
  unless-among (Err e) asked made among = none-among []

  part-among : (m : OrThrown Tree) (asked : Tree → List Tree) (n : Tree) → ((t : Tree) → AreTreesAmong (asked t) (nodes_of n)) →
      AreTreesAmong (unless_thrown m asked) (nodes_of n)
  part-among (Ok t) asked n among = among t
  part-among (Err e) asked n among = none-among (recipes_of leaves (nodes_of n))

  itself-among : (frame : Frame) (op : Operation) (n : Tree) → AreTreesAmong (asked_itself leaves frame op n) (nodes_of n)
  itself-among frame (operation.Spread h ty count) n = part-among (handle_in frame h) (λ t. spread_asked leaves t n) n (λ t. spread-among t n)
  itself-among frame (operation.AsType h ty) n =
      part-among (handle_in frame h) (λ t. use_asked leaves t n) n
      (λ t. among-among (recipes_of leaves (use_asked leaves t n)) (recipe leaves n ∷ []) (recipes_of leaves (nodes_of n)) (use-among t n) (own-among n))
  itself-among frame (operation.Explicit h ty) n =
      part-among (handle_in frame h) (λ t. use_asked leaves t n) n
      (λ t. among-among (recipes_of leaves (use_asked leaves t n)) (recipe leaves n ∷ []) (recipes_of leaves (nodes_of n)) (use-among t n) (own-among n))
  itself-among frame op n = own-among n

  step-among : (s : Step) (frame : Frame) → AreTreesAmong (step_asked leaves s frame) (nodes_of_step leaves s frame)
  step-among (step.Let name op) frame =
      let uses = nodes_of_uses frame (handles_of op) in
      unless-among (node_of leaves frame op) (λ n. uses ++ asked_itself leaves frame op n) (λ n. uses ++ nodes_of n)
      (λ n. each-tree uses (asked_itself leaves frame op n) uses (nodes_of n) (same-trees uses) (itself-among frame op n))
  step-among (step.Serial name) frame = none-among []
  step-among (step.FailMod modulus remainder) frame = none-among []

  -- of the lines from where a script stands
  pub script-among : (steps : List Step) (e : End) (frame : Frame) → AreTreesAmong (script_asked leaves steps e frame) (nodes_from leaves steps e frame)
  script-among [] e frame = same-trees (script_asked leaves [] e frame)
  script-among (s ∷ steps) e frame =
      each-tree (step_asked leaves s frame) (unless_thrown (stepped leaves s frame) (script_asked leaves steps e)) (nodes_of_step leaves s frame)
      (unless_thrown (stepped leaves s frame) (nodes_from leaves steps e)) (step-among s frame)
      (unless-among (stepped leaves s frame) (script_asked leaves steps e) (nodes_from leaves steps e) (λ next. script-among steps e next))

  method-among : (scripts : List Script) (serial : ℕ) (call : BootstrapCall) (m : Method) →
      AreTreesAmong (method_asked leaves scripts serial call m) (nodes_of_method leaves scripts serial call m)
  method-among scripts serial call (method.Script id) =
      unless-among (called_script scripts id) _ _ (λ script. script-among script.steps script.end (at_start call serial))
  method-among scripts serial call method.Concat = same-trees (concat_nodes leaves.classes call)

  -- of an attempt
  pub attempt-among : (scripts : List Script) (made : OrThrown BootstrapCall) (serial : ℕ) →
      AreTreesAmong (attempt_asked leaves scripts made serial) (nodes leaves scripts made serial)
  attempt-among scripts made serial = unless-among made _ _ (λ call. method-among scripts serial call call.method)
