-- The forms that a run makes and can need: one for each recipe.
use Rattle.std.specs.Prelude.{ℕ, zero, suc, ◌*◌, if◌then◌else◌, List, [], ◌∷◌, ◌++◌, length, map, Some, Ok, Err}
use Rattle.std.specs.List.{flat_map, range_with_len}
use Rattle.std.specs.Set.{distinct_count}
use Rattle.mh_values.specs.declared.types.MethodTy.{MethodTy}
use Rattle.mh_values.specs.Same.{is_same_method_type}
use Rattle.mh_leaf.specs.LeafTable.{LeafTable}
use Rattle.mh_tree.specs.Tree.{Tree}
use Rattle.mh_tree.specs.Tree as tree
use Rattle.mh_tree.specs.Rows.{TypeOrRefusal}
use Rattle.mh_tree.specs.Typing.{type_of}
use Rattle.mh_edit.specs.declared.key.Key.{Key}
use Rattle.mh_handle.specs.Recipe.{recipe}
use Rattle.mh_handle.specs.SameRecipes.{same_recipe}
use Rattle.mh_jobs.specs.Given.{Given}
use Rattle.mh_link.specs.Constants.{Serials}
use Rattle.mh_link.specs.Sites.{edits_at, with_serials}
use Rattle.mh_plan.specs.declared.call.Call.{Call}
use Rattle.mh_plan.specs.declared.call.Call.TheVariants.{Exact, Generic, Indy}
use Rattle.mh_plan.specs.Naming.{naming_of, pairs_named}
use Rattle.mh_report.specs.declared.attempt.Attempt.{Attempt}

-- edits that depend on a type: none if it is refused
abbrev pub at_type : TypeOrRefusal → (MethodTy → List (List Key)) → List (List Key)
at_type (Ok t) edits = edits t
at_type (Err e) edits = []

-- The recipe of a tree after its conversion to another type, if that is allowed. It is the tree's own recipe if nothing is converted.
abbrev pub used_edits : LeafTable → Tree → MethodTy → List (List Key)
used_edits table t asked =
    at_type (type_of table t) (λ own.
    if is_same_method_type own asked then []
    else at_type (type_of table (tree.AsType t asked)) (λ _. recipe table (tree.AsType t asked) ∷ []))

-- The recipes that a call asks for: that of its leaf, whatever its type is, and for a generic call that of the leaf's conversion.
-- A call of a site asks for none, because the attempt that linked the site did.
abbrev pub call_edits : LeafTable → Call → List (List Key)
call_edits table (Exact leaf ty args) = recipe table (tree.Leaf leaf) ∷ []
call_edits table (Generic leaf ty args) = recipe table (tree.Leaf leaf) ∷ used_edits table (tree.Leaf leaf) ty
call_edits table (Indy site args) = []

-- the recipes that the calls of one thread ask for
abbrev pub thread_edits : LeafTable → List Call → List (List Key)
thread_edits table calls = flat_map (λ call. call_edits table call) calls

-- the recipes that all calls ask for
abbrev pub plan_edits : LeafTable → List (List Call) → List (List Key)
plan_edits table threads = flat_map (λ calls. thread_edits table calls) threads

-- the recipes that an attempt asks for
abbrev pub attempt_edits : Given → Attempt → List (List Key)
attempt_edits given attempt = edits_at (recipe given.leaves) given attempt.site attempt.serial

-- how many forms a run makes: the number of different recipes that its attempts and calls ask for
abbrev pub forms : Given → List (List Call) → List Attempt → ℕ
forms given threads attempts = distinct_count same_recipe (flat_map (attempt_edits given) attempts ++ plan_edits given.leaves threads)

-- the tables that give each of so many dynamic constants a serial from 1 to `most`
abbrev pub tables : ℕ → ℕ → List Serials
tables zero most = [] ∷ []
tables (suc constants) most = flat_map (λ table. map (λ serial. Some serial ∷ table) (range_with_len 1 most)) (tables constants most)

-- those of the constants of a run, of which each of so many threads attempts each at most once; where a run has none, this is one table
abbrev pub const_tables : Given → ℕ → List Serials
const_tables given threads = tables (length given.constants) (threads * length given.constants)

-- the recipes that attempts to link a site can ask for, if their serials are at most `most`
abbrev pub site_edits : Given → ℕ → ℕ → List (List Key)
site_edits given most site = flat_map (λ serial. edits_at (recipe given.leaves) given site serial) (range_with_len 1 most)

-- the same for several sites
abbrev pub sites_edits : Given → ℕ → List ℕ → List (List Key)
sites_edits given most sites = flat_map (λ site. site_edits given most site) sites

-- The recipes that attempts to link the sites that calls name can ask for. Each thread attempts each site that it names at most once.
-- So no serial exceeds the number of pairs of a thread and a site that it names.
abbrev pub named_edits : Given → List (List Call) → List (List Key)
named_edits given threads = flat_map (λ sites. sites_edits given (pairs_named threads) sites) (naming_of threads)

-- The recipes that a run can ask for, whichever attempts link its sites and resolve its dynamic constants: those of its calls, and of attempts to link the
-- sites that calls name, where each constant has any serial. Each thread attempts each constant at most once.
abbrev pub all_edits : Given → List (List Call) → List (List Key)
all_edits given threads =
    plan_edits given.leaves threads ++ flat_map (λ table. named_edits (with_serials table given) threads) (const_tables given (length threads))

-- how many forms a run can need: the number of different recipes that it can ask for
abbrev pub forms_needed : Given → List (List Call) → ℕ
forms_needed given threads = distinct_count same_recipe (all_edits given threads)

-- How many form numbers the threads of a run can draw: each thread at most one for each form that the run can need.
-- It is a product because racing threads may each draw a number for the same form. One form is kept, and the other numbers are spent.
abbrev pub draws_needed : Given → List (List Call) → ℕ
draws_needed given threads = length threads * forms_needed given threads
