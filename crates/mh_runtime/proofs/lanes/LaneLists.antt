-- What is made of lanes, one after the other, where there is one more.
use Rattle.std.proofs.Common.{◌≡◌, sym, ◌∙◌, ap, List, [], ◌∷◌, ◌++◌, append-nil, append_assoc, map}
use Rattle.std.specs.List.{flat_map}
use Rattle.std.proofs.lemmas.Grind.{flat_map-append}
use Rattle.std.proofs.lemmas.List.{map_push}
use Rattle.mh_jobs.specs.Given.{Given}
use Rattle.mh_report.specs.Forms.{thread_edits}
use Rattle.mh_report.specs.Types.{thread_types}
use Rattle.mh_runtime.specs.declared.lane.Lane.{Lane}
use Rattle.mh_runtime.specs.Asking.{run_edits, run_types}
use Rattle.mh_runtime.specs.Joined.{ThreadPasses}
use Rattle.mh_runtime.specs.Joining.{lanes_edits, lanes_types}
use Rattle.mh_runtime.specs.Lanes.{passes_of}

pub edits-push : {J : Type 0} (given : Given) (lanes : List (Lane J)) (lane : Lane J) →
    lanes_edits given (lanes ++ lane ∷ []) ≡ lanes_edits given lanes ++ run_edits given lane.pass.links.attempts (thread_edits given.leaves lane.calls.now)
edits-push {J} given lanes lane =
    flat_map-append (λ (l : Lane J). run_edits given l.pass.links.attempts (thread_edits given.leaves l.calls.now)) lanes (lane ∷ [])
    ∙ ap (λ rs. lanes_edits given lanes ++ rs) (append-nil (run_edits given lane.pass.links.attempts (thread_edits given.leaves lane.calls.now)))

-- the types of one lane more
pub types-push : {J : Type 0} (given : Given) (lanes : List (Lane J)) (lane : Lane J) →
    lanes_types given (lanes ++ lane ∷ []) ≡ lanes_types given lanes ++ run_types given lane.pass.links.attempts (thread_types given.leaves lane.calls.now)
types-push {J} given lanes lane =
    flat_map-append (λ (l : Lane J). run_types given l.pass.links.attempts (thread_types given.leaves l.calls.now)) lanes (lane ∷ [])
    ∙ ap (λ ts. lanes_types given lanes ++ ts) (append-nil (run_types given lane.pass.links.attempts (thread_types given.leaves lane.calls.now)))

flat-push : {J X : Type 0} (f : ThreadPasses → List X) (lanes : List (Lane J)) (lane : Lane J) →
    flat_map f (map passes_of (lanes ++ lane ∷ [])) ≡ flat_map f (map passes_of lanes) ++ f (passes_of lane)
flat-push f lanes lane =
    ap (flat_map f) (map_push passes_of lanes lane)
    ∙ (flat_map-append f (map passes_of lanes) (passes_of lane ∷ []) ∙ ap (λ xs. flat_map f (map passes_of lanes) ++ xs) (append-nil (f (passes_of lane))))

-- what they have after other items
pub after-push : {J X : Type 0} (f : ThreadPasses → List X) (before : List X) (lanes : List (Lane J)) (lane : Lane J) →
    (before ++ flat_map f (map passes_of lanes)) ++ f (passes_of lane) ≡ before ++ flat_map f (map passes_of (lanes ++ lane ∷ []))
after-push f before lanes lane =
    append_assoc before (flat_map f (map passes_of lanes)) (f (passes_of lane)) ∙ ap (λ xs. before ++ xs) (sym (flat-push f lanes lane))
