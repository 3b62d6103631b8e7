-- Lists that have the same recipes: what is asked for by the one is asked for by the other.
use Rattle.std.proofs.Common.{◌≡◌, sym, ◌∙◌, ap, ◌||◌, List, ◌++◌, Result, Ok, Err}
use Rattle.std.proofs.lemmas.List.Folds.{list_any-append}
use Rattle.mh_edit.specs.declared.key.Key.{Key}
use Rattle.mh_attempt.specs.declared.error.WorkError.{WorkError}
use Rattle.mh_attempt.specs.declared.error.WorkError.TheVariants.{NoMemory, FormsFull, TypesFull}
use Rattle.mh_handle.specs.declared.work.Work.{Work}
use Rattle.mh_handle.specs.SameRecipes.{same_recipe}
use Rattle.mh_attempt.specs.Asked.{Asks}
use Rattle.mh_attempt.proofs.asked.RecipeCounts.{drawn-within, is_one}

-- the same recipes stand in both
abbrev pub HaveSame : List (List Key) → List (List Key) → Type 0
HaveSame one other = (r : List Key) → is_one one r ≡ is_one other r

-- so they do after others
same-after : (before one other : List (List Key)) → HaveSame one other → HaveSame (before ++ one) (before ++ other)
same-after before one other same r =
    list_any-append (same_recipe r) before one ∙ ap (λ b. is_one before r || b) (same r) ∙ sym (list_any-append (same_recipe r) before other)

pub same-asked : {A : Type 0} (one other : List (List Key)) (old new : Work) (result : Result A WorkError) → HaveSame one other → Asks one old new result →
    Asks other old new result
same-asked one other old new (Ok a) same asks = record {
  asked = λ before has. let more = asks.asked before has in record { once = more.once; same = λ r. more.same r ∙ same-after before one other same r };
  within = asks.within;
}
same-asked one other old new (Err (FormsFull drawn)) same full = (
  λ whole within before has.
      drawn-within whole (before ++ one) (before ++ other) new.pass.now (λ r there. sym (same-after before one other same r) ∙ there)
      (full.0 whole within before has),
  full.1,
)
same-asked one other old new (Err (TypesFull bucket)) same stopped = λ whole within before has.
    drawn-within whole (before ++ one) (before ++ other) new.pass.now (λ r there. sym (same-after before one other same r) ∙ there)
    (stopped whole within before has)
same-asked one other old new (Err NoMemory) same asks = tt
