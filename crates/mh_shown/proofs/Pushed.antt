-- A text to which two others are added.
use Rattle.std.proofs.Common.{◌≡◌, ◌∙◌, ap, ℕ, List, ◌++◌, append_assoc, Result, Ok, Err}
use Rattle.std.specs.Prelude.{OnOk}

pub pushed-both : {A E : Type 0} (r : Result A E) (old mid new first second : List ℕ) → mid ≡ old ++ first → OnOk r (new ≡ mid ++ second) →
    OnOk r (new ≡ old ++ (first ++ second))
pushed-both (Ok a) old mid new first second one other = other ∙ ap (λ text. text ++ second) one ∙ append_assoc old first second
pushed-both (Err e) old mid new first second one other = tt
