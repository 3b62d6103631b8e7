-- Calls that are put after those of the last thread.
use Rattle.std.proofs.Common.{◌≡◌, refl, sym, ◌∙◌, ap, List, [], ◌∷◌, ◌++◌}
use Rattle.mh_plan.specs.declared.call.Call.{Call}
use Rattle.mh_plan.specs.Plan.{with_call}

pub with_call-end : (front : List (List Call)) (calls : List Call) (call : Call) → with_call (front ++ calls ∷ []) call ≡ front ++ (calls ++ call ∷ []) ∷ []
with_call-end [] calls call = refl
with_call-end (thread ∷ []) calls call = refl
with_call-end (thread ∷ next ∷ front) calls call = ap (λ xs. thread ∷ xs) (with_call-end (next ∷ front) calls call)

-- the last thread is taken out, gets the call, and is put back
pub with_call-last : (old front new : List (List Call)) (calls more : List Call) (call : Call) → old ≡ front ++ calls ∷ [] → more ≡ calls ++ call ∷ [] →
    new ≡ front ++ more ∷ [] → new ≡ with_call old call
with_call-last old front new calls more call popped pushed put =
    put ∙ ap (λ xs. front ++ xs ∷ []) pushed ∙ sym (ap (λ xs. with_call xs call) popped ∙ with_call-end front calls call)
