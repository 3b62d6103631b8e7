-- Tokens in numbers that are no call's or no thread's.
use Rattle.std.proofs.Common.{◌≡◌, refl, ℕ, ◌<◌, false, List, [], ◌∷◌, ◌++◌, length, Ok, arith}
use Rattle.mh_leaf.specs.LeafTable.{LeafTable}
use Rattle.mh_jobs.specs.declared.job.Job.{Job}
use Rattle.mh_plan.specs.declared.call.Call.{Call}
use Rattle.mh_plan.specs.Plan.{is_call, tokens_meaning}

pub is_call-few : (tokens : List (List ℕ)) → length tokens < 2 → is_call tokens ≡ false
is_call-few [] few = refl
is_call-few (word ∷ []) few = refl
is_call-few (word ∷ subject ∷ rest) few = absurd (omega arith)

-- fewer tokens than a call has begin a thread
pub tokens_meaning-few : (leaves : LeafTable) (jobs : List Job) (threads : List (List Call)) (tokens : List (List ℕ)) → length tokens < 2 →
    tokens_meaning leaves jobs threads tokens ≡ Ok (threads ++ [] ∷ [])
tokens_meaning-few leaves jobs threads [] few = refl
tokens_meaning-few leaves jobs threads (word ∷ []) few = refl
tokens_meaning-few leaves jobs threads (word ∷ subject ∷ rest) few = absurd (omega arith)
