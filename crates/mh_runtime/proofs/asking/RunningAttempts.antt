-- What an attempt leaves of a thread's pass over the forms.
use Rattle.std.proofs.Common.{◌≡◌, sym, ◌∙◌, ap, ℕ, subst, List, [], ◌∷◌, ◌++◌, append-nil, Ok, Err}
use Rattle.std.specs.List.{flat_map}
use Rattle.std.proofs.lemmas.Grind.{flat_map-append}
use Rattle.mh_edit.specs.declared.key.Key.{Key}
use Rattle.mh_attempt.specs.declared.error.WorkError.{WorkError}
use Rattle.mh_attempt.specs.declared.error.WorkError.TheVariants.{NoMemory, FormsFull, TypesFull}
use Rattle.mh_handle.specs.declared.work.Work.{Work}
use Rattle.mh_handle.specs.Passes.{PassView}
use Rattle.mh_handle.specs.Recipe.{recipe}
use Rattle.mh_jobs.specs.Given.{Given}
use Rattle.mh_link.specs.Sites.{edits_at}
use Rattle.mh_attempt.specs.Asked.{Asks, HasAsked, HasAskedMore, HasStoppedAt}
use Rattle.mh_attempt.proofs.asked.RecipeCounts.{drawn-within}
use Rattle.mh_attempt.proofs.asked.RecipeSets.{AreAmong, among-among, among-first, among-last, among-same, both-among, each-among, same-among}
use Rattle.mh_report.specs.declared.attempt.Attempt.{Attempt}
use Rattle.mh_report.specs.Forms.{attempt_edits}
use Rattle.mh_runtime.specs.Asking.{HasRunOn, HasRunOut, RunStops, run_edits}

-- ---- recipes as sets

pub asked-same : (xs ys : List (List Key)) (pass : PassView) → AreAmong xs ys → AreAmong ys xs → HasAsked xs pass → HasAsked ys pass
asked-same xs ys pass h k has = record { once = has.once; same = λ q. has.same q ∙ among-same xs ys h k q }

-- ---- the recipes of a run

module _ (given : Given) where
  attempts-edits : (attempts more : List Attempt) →
      flat_map (attempt_edits given) (attempts ++ more) ≡ flat_map (attempt_edits given) attempts ++ flat_map (attempt_edits given) more
  attempts-edits attempts more = flat_map-append (attempt_edits given) attempts more

  -- more attempts and more calls make more recipes
  pub edits-among : (attempts more : List Attempt) (edits others : List (List Key)) → AreAmong edits others →
      AreAmong (run_edits given attempts edits) (run_edits given (attempts ++ more) others)
  edits-among attempts more edits others among =
      let made : List (List Key) = flat_map (attempt_edits given) attempts in
      let all : List (List Key) = flat_map (attempt_edits given) (attempts ++ more) in
      each-among made edits all others
      (among-among made (made ++ flat_map (attempt_edits given) more) all (among-first made (flat_map (attempt_edits given) more))
      (same-among _ _ (sym (attempts-edits attempts more))))
      among

  -- the recipes of an attempt more may stand last
  attempt-last : (attempts : List Attempt) (a : Attempt) (edits : List (List Key)) →
      AreAmong (run_edits given attempts edits ++ attempt_edits given a) (run_edits given (attempts ++ a ∷ []) (edits ++ []))
  attempt-last attempts a edits =
      let made : List (List Key) = flat_map (attempt_edits given) attempts in
      let all : List (List Key) = flat_map (attempt_edits given) (attempts ++ a ∷ []) in
      both-among (run_edits given attempts edits) (attempt_edits given a) (run_edits given (attempts ++ a ∷ []) (edits ++ []))
      (edits-among attempts (a ∷ []) edits (edits ++ []) (among-first edits []))
      (among-among (attempt_edits given a) all (all ++ (edits ++ []))
      (among-among (attempt_edits given a) (made ++ flat_map (attempt_edits given) (a ∷ [])) all
      (among-among (attempt_edits given a) (flat_map (attempt_edits given) (a ∷ [])) (made ++ flat_map (attempt_edits given) (a ∷ []))
      (same-among _ _ (sym (append-nil (attempt_edits given a)))) (among-last made (flat_map (attempt_edits given) (a ∷ []))))
      (same-among _ _ (sym (attempts-edits attempts (a ∷ [])))))
      (among-first all (edits ++ [])))

  attempt-first : (attempts : List Attempt) (a : Attempt) (edits : List (List Key)) →
      AreAmong (run_edits given (attempts ++ a ∷ []) (edits ++ [])) (run_edits given attempts edits ++ attempt_edits given a)
  attempt-first attempts a edits =
      let made : List (List Key) = flat_map (attempt_edits given) attempts in
      let all : List (List Key) = flat_map (attempt_edits given) (attempts ++ a ∷ []) in
      let whole : List (List Key) = run_edits given attempts edits ++ attempt_edits given a in
      both-among all (edits ++ []) whole
      (among-among all (made ++ flat_map (attempt_edits given) (a ∷ [])) whole (same-among _ _ (attempts-edits attempts (a ∷ [])))
      (both-among made (flat_map (attempt_edits given) (a ∷ [])) whole
      (among-among made (run_edits given attempts edits) whole (among-first made edits) (among-first (run_edits given attempts edits) (attempt_edits given a)))
      (among-among (flat_map (attempt_edits given) (a ∷ [])) (attempt_edits given a) whole (same-among _ _ (append-nil (attempt_edits given a)))
      (among-last (run_edits given attempts edits) (attempt_edits given a)))))
      (among-among (edits ++ []) edits whole (same-among _ _ (append-nil edits))
      (among-among edits (run_edits given attempts edits) whole (among-last made edits) (among-first (run_edits given attempts edits) (attempt_edits given a))))

  -- ---- what one step leaves

  -- an attempt
  pub runs-attempt : (attempts : List Attempt) (a : Attempt) (old new : PassView) → HasAskedMore (attempt_edits given a) old new →
      HasRunOn given attempts (attempts ++ a ∷ []) [] old new
  runs-attempt attempts a old new asks = record {
    asked = λ edits has. asked-same (run_edits given attempts edits ++ attempt_edits given a) (run_edits given (attempts ++ a ∷ []) (edits ++ [])) new
        (attempt-last attempts a edits) (attempt-first attempts a edits) (asks.asked (run_edits given attempts edits) has);
    within = asks.within;
  }

  pub out-attempt : (attempts : List Attempt) (a : Attempt) (old new : PassView) → HasStoppedAt (attempt_edits given a) old new →
      HasRunOut given attempts (attempts ++ a ∷ []) [] old new
  out-attempt attempts a old new stopped whole within edits has =
      drawn-within whole (run_edits given attempts edits ++ attempt_edits given a) (run_edits given (attempts ++ a ∷ []) (edits ++ [])) new
      (attempt-last attempts a edits) (stopped whole within (run_edits given attempts edits) has)

  -- ---- what it answers

  module _ (attempts : List Attempt) (a : Attempt) (site : ℕ) (own : site ≡ a.site) (old new : Work) where
    same-edits : edits_at (recipe given.leaves) given site a.serial ≡ attempt_edits given a
    same-edits = ap (λ s. edits_at (recipe given.leaves) given s a.serial) own

    pub attempt-runs : {A : Type 0} (made : A) → Asks (edits_at (recipe given.leaves) given site a.serial) old new (Ok made) →
        HasRunOn given attempts (attempts ++ a ∷ []) [] old.pass.now new.pass.now
    attempt-runs made asks =
        runs-attempt attempts a old.pass.now new.pass.now (subst (λ rs. Asks rs old new (Ok made)) same-edits asks)

    pub attempt-stops : (A : Type 0) (e : WorkError) → Asks {A = A} (edits_at (recipe given.leaves) given site a.serial) old new (Err e) →
        RunStops given attempts (attempts ++ a ∷ []) [] old.pass.now new.pass.now e
    attempt-stops A NoMemory asks = tt
    attempt-stops A (FormsFull drawn) asks =
        let full = subst (λ rs. Asks {A = A} rs old new (Err (FormsFull drawn))) same-edits asks in
        (out-attempt attempts a old.pass.now new.pass.now full.0, full.1)
    attempt-stops A (TypesFull bucket) asks =
        out-attempt attempts a old.pass.now new.pass.now (subst (λ rs. Asks {A = A} rs old new (Err (TypesFull bucket))) same-edits asks)
