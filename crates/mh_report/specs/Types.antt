-- The types that a run can need, and whether a table of types has slots for them.
use Rattle.std.specs.Prelude.{ℕ, ◌==◌, ◌<◌, ◌≤◌, List, [], ◌∷◌, ◌++◌, filter, length}
use Rattle.std.specs.List.{flat_map, range_with_len}
use Rattle.std.specs.Set.{distinct_count}
use Rattle.mh_values.specs.declared.types.MethodTy.{MethodTy}
use Rattle.mh_values.specs.Same.{is_same_method_type}
use Rattle.mh_intern.specs.Buckets.{bucket_of, bucket_slots}
use Rattle.mh_leaf.specs.LeafTable.{LeafTable}
use Rattle.mh_tree.specs.Tree as tree
use Rattle.mh_jobs.specs.Given.{Given}
use Rattle.mh_link.specs.Made.{types_of}
use Rattle.mh_link.specs.Sites.{types_at, with_serials}
use Rattle.mh_plan.specs.declared.call.Call.{Call}
use Rattle.mh_plan.specs.declared.call.Call.TheVariants.{Exact, Generic, Indy}
use Rattle.mh_plan.specs.Naming.{naming_of, pairs_named}
use Rattle.mh_report.specs.declared.attempt.Attempt.{Attempt}
use Rattle.mh_report.specs.Forms.{const_tables}

-- ---- the types that a run can need

-- The types that a call asks for: that of its leaf. A call of a site asks for none, because the attempt that linked the site did.
abbrev pub call_types : LeafTable → Call → List MethodTy
call_types table (Exact leaf ty args) = types_of table (tree.Leaf leaf ∷ [])
call_types table (Generic leaf ty args) = types_of table (tree.Leaf leaf ∷ [])
call_types table (Indy site args) = []

-- the types of the leaves that one thread calls
abbrev pub thread_types : LeafTable → List Call → List MethodTy
thread_types table calls = flat_map (λ call. call_types table call) calls

-- the types of the leaves that all threads call
abbrev pub plan_types : LeafTable → List (List Call) → List MethodTy
plan_types table threads = flat_map (λ calls. thread_types table calls) threads

-- the types of the nodes that an attempt makes
abbrev pub attempt_types : Given → Attempt → List MethodTy
attempt_types given attempt = types_at given attempt.site attempt.serial

-- the types of the nodes that attempts to link a site can make, if their serials are at most `most`
abbrev pub site_types : Given → ℕ → ℕ → List MethodTy
site_types given most site = flat_map (λ serial. types_at given site serial) (range_with_len 1 most)

-- the same for several sites
abbrev pub sites_types : Given → ℕ → List ℕ → List MethodTy
sites_types given most sites = flat_map (λ site. site_types given most site) sites

-- The types of the nodes that attempts to link the sites that calls name can make. Each thread attempts each site that it names at most once.
-- So no serial exceeds the number of pairs of a thread and a site that it names.
abbrev pub named_types : Given → List (List Call) → List MethodTy
named_types given threads = flat_map (λ sites. sites_types given (pairs_named threads) sites) (naming_of threads)

-- The types that a run can need, whichever attempts link its sites and resolve its dynamic constants: those of the leaves that it calls, and of the nodes
-- that attempts make, where each constant has any serial. Each thread attempts each constant at most once.
abbrev pub all_types : Given → List (List Call) → List MethodTy
all_types given threads =
    plan_types given.leaves threads ++ flat_map (λ table. named_types (with_serials table given) threads) (const_tables given (length threads))

-- ---- whether there are slots for them

-- how many of these types belong to a bucket
abbrev pub in_bucket : ℕ → List MethodTy → ℕ
in_bucket bucket types = distinct_count is_same_method_type (filter (λ t. bucket_of t == bucket) types)

-- each bucket has slots for its types
abbrev pub FitBuckets : List MethodTy → Type 0
FitBuckets types = (bucket : ℕ) → in_bucket bucket types ≤ bucket_slots

-- this bucket has fewer slots than types
abbrev pub Overfill : ℕ → List MethodTy → Type 0
Overfill bucket types = bucket_slots < in_bucket bucket types

-- some bucket has fewer slots than types
abbrev pub OverfillBucket : List MethodTy → Type 0
OverfillBucket types = (bucket : ℕ) × Overfill bucket types
