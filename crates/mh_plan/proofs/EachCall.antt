-- What holds of each call of threads, where a call or a thread more is put after them.
use Rattle.std.proofs.Common.{List, [], ◌∷◌, ◌++◌}
use Rattle.std.specs.List.{All}
use Rattle.std.proofs.lemmas.List.Elements.{All-nil, All-cons, All-head, All-tail, All-push}
use Rattle.mh_plan.specs.declared.call.Call.{Call}
use Rattle.mh_plan.specs.Plan.{with_call}

-- it holds of each call of each thread
abbrev pub OfEach : (Call → Type 0) → List (List Call) → Type 0
OfEach P threads = All (All P) threads

pub each-call : (P : Call → Type 0) (threads : List (List Call)) (call : Call) → OfEach P threads → P call → OfEach P (with_call threads call)
each-call P [] call all is = all
each-call P (calls ∷ []) call all is =
    All-cons (All P) _ [] (All-push P calls call (All-head (All P) calls [] all) is) (All-nil (All P))
each-call P (calls ∷ next ∷ more) call all is =
    All-cons (All P) calls _ (All-head (All P) calls (next ∷ more) all) (each-call P (next ∷ more) call (All-tail (All P) calls (next ∷ more) all) is)

pub each-thread : (P : Call → Type 0) (threads : List (List Call)) → OfEach P threads → OfEach P (threads ++ [] ∷ [])
each-thread P threads all = All-push (All P) threads [] all (All-nil P)
