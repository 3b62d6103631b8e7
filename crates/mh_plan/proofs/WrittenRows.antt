-- Plans as they are written again, by computation.
use Rattle.std.specs.Prelude.{◌≡◌, refl, List, [], ◌∷◌, codes, Ok}
use Rattle.std.specs.Fmt.{digits}
use Rattle.mh_jobs.proofs.Host.{host, link}
use Rattle.mh_plan.specs.declared.call.Call.{Call}
use Rattle.mh_plan.specs.declared.call.Call.TheVariants.{Exact, Generic, Indy}
use Rattle.mh_plan.specs.Plan.{plan}
use Rattle.mh_plan.specs.Written.{plan_text}
use Rattle.mh_plan.proofs.Host.{add_leaf, adds, given_with, int}

-- a thread that calls a leaf and a site, and a thread that calls a leaf by its type
abbrev calls : List (List Call)
calls =
    (Exact add_leaf adds (int 1 ∷ int 0 ∷ []) ∷ Indy 0 (int 7 ∷ []) ∷ [])
    ∷ (Generic add_leaf adds (int 3 ∷ int 4 ∷ []) ∷ []) ∷ []

written :
    plan_text host calls
    ≡ codes "thread\nexact leaf:demo/Host.add:(II)I (II)I i:1 i:0\nindy 0 i:7\nthread\ngeneric leaf:demo/Host.add:(II)I (II)I i:3 i:4\n"
unfolding digits
written = refl

-- the same calls, from lines with a comment, an empty line and another literal of 0
read : plan
    (codes "# demo\nthread\nexact leaf:demo/Host.add:(II)I (II)I i:1 i:-0\n\nindy 0 i:7\nthread\ngeneric leaf:demo/Host.add:(II)I (II)I i:3 i:4")
    host (given_with link (codes "(I)I" ∷ [])).jobs
    ≡ Ok calls
unfolding digits
read = refl
