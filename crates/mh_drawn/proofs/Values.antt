-- Values of dynamic constants that agree with what is known of them: an attempt links the same under them, and asks for the same.
use Rattle.std.proofs.Common.{◌≡◌, refl, sym, ◌∙◌, ap, subst, inl, inr, ℕ, List, [], ◌∷◌, Option, None, Some}
use Rattle.std.specs.Prelude.{All, if◌then◌else◌, option_map, slice_get}
use Rattle.std.proofs.lemmas.Bool.{both_ways, cases_eq, eq-eqb, ne_eqb}
use Rattle.std.proofs.lemmas.List.Elements.{All-head, All-tail}
use Rattle.std.proofs.lemmas.Option.{none-some, same_Some}
use Rattle.mh_handle.specs.Recipe.{recipe}
use Rattle.mh_jobs.specs.declared.job.Job.{Job}
use Rattle.mh_jobs.specs.Given.{Found, Given, under}
use Rattle.mh_link.specs.Asking.{asked_at}
use Rattle.mh_link.specs.Places.{Has, is_in}
use Rattle.mh_link.specs.Resolved.{Agree}
use Rattle.mh_link.specs.Sites.{edits_at, linked_at, types_at}
use Rattle.mh_link.proofs.constants.Asked.{agree-each}
use Rattle.mh_link.proofs.constants.SameCalls.{AgreeFor, edits-same, linked-same, types-same}
use Rattle.mh_link.proofs.walking.Places.{has-cons}
use Rattle.mh_condy.specs.Nodes.{Keeps, Knows, Nodes, found_in, node_in}
use Rattle.mh_condy.specs.Passes.{PassView}
use Rattle.mh_condy.specs.Recorded.{ConstView, FindingView, constants_of, found_of}
use Rattle.mh_condy.proofs.Trails.{noted}
use Rattle.mh_attempt.specs.Constants.{AsksConstants, given_in}
use Rattle.mh_attempt.specs.Linkage.{HasFound, LinkageView, own_given}
use Rattle.mh_drawn.specs.Linked.{Gives, GivesNodes}

-- ---- what is known

-- values that agree with what is known agree with what was known before
pub gives-before : (known : Found) (old new : Nodes) → Keeps old new → GivesNodes known new → GivesNodes known old
gives-before known old new keeps gives c node at = gives c node (keeps.kept c node at)

-- what an attempt has found of a constant is found as it is known
pub found-known : (nodes : Nodes) (f : FindingView) → Knows nodes f → Gives (found_in nodes) f
found-known nodes f k = ap (λ o. option_map (λ (node : ConstView). node.value) o) k.at ∙ ap (λ v. Some v) k.value

-- and stays so
pub found-later : (old new : Nodes) → Keeps old new → (f : FindingView) → Gives (found_in old) f → Gives (found_in new) f
found-later old new keeps f gives = by (node_in old f.constant) refl gives
  where
    by : (o : Option ConstView) → node_in old f.constant ≡ o → option_map (λ (node : ConstView). node.value) o ≡ Some f.value → Gives (found_in new) f
    by None none is = absurd (none-some f.value is)
    by (Some node) at is = ap (λ o. option_map (λ (n : ConstView). n.value) o) (keeps.kept f.constant node at) ∙ is

-- ---- attempts

-- a job's call finds the same of the constants that it looks at, as where constants are what a pass has learnt of them
asked-agrees : (given : Given) (known : Found) (job : Job) (old new : PassView) (findings : List FindingView) →
    AsksConstants given job old new findings → GivesNodes known new.known → Agree (found_in new.known) known (asked_at (found_in new.known) job)
asked-agrees given known job old new findings asks gives =
    agree-each (found_in new.known) known (asked_at (found_in new.known) job)
    (λ c h. let known_at = noted new.known c (asks.goes.known c h) in
    ap (λ o. option_map (λ (node : ConstView). node.value) o) known_at.at ∙ sym (gives c known_at.node known_at.at))

-- what an attempt asks for is the same where constants are what its pass has learnt and under these values
module _ (given : Given) (known : Found) (site serial : ℕ) (job : Job) (named : slice_get given.jobs site ≡ Some job) (old new : PassView)
    (findings : List FindingView) (asks : AsksConstants given job old new findings) (gives : GivesNodes known new.known) where
  agree-for : AgreeFor given (found_in new.known) known site
  agree-for other at =
      subst (λ j. Agree (found_in new.known) known (asked_at (found_in new.known) j)) (same_Some job other (sym named ∙ at))
      (asked-agrees given known job old new findings asks gives)

  pub edits-agree : edits_at (recipe given.leaves) (given_in new given) site serial ≡ edits_at (recipe given.leaves) (under known given) site serial
  edits-agree = edits-same given (found_in new.known) known site serial agree-for (recipe given.leaves)

  pub types-agree : types_at (given_in new given) site serial ≡ types_at (under known given) site serial
  types-agree = types-same given (found_in new.known) known site serial agree-for

-- ---- linkages

-- what an attempt has found of a constant is what these values say, where they say it of each that it has found
found-gives : (known : Found) (findings : List FindingView) → All (Gives known) findings → (c : ℕ) → Has (constants_of findings) c →
    found_of findings c ≡ known c
found-gives known [] gives c h = absurd (both_ways (is_in [] c) refl h)
found-gives known (f ∷ findings) gives c h = elim (cases_eq f.constant c) [
  | inl e ↦
      ap (λ b. if b then Some f.value else found_of findings c) (eq-eqb f.constant c e)
      ∙ (sym (All-head (Gives known) f findings gives) ∙ ap known e)
  | inr other ↦
      ap (λ b. if b then Some f.value else found_of findings c) (ne_eqb f.constant c other)
      ∙ found-gives known findings (All-tail (Gives known) f findings gives) c (elim (has-cons f.constant (constants_of findings) c h) [
        | inl e ↦ absurd (other e)
        | inr there ↦ there
      ])
]

linkage-agrees : (given : Given) (known : Found) (site : ℕ) (l : LinkageView) → slice_get given.jobs site ≡ Some l.job → HasFound l →
    All (Gives known) l.under → AgreeFor given (found_of l.under) known site
linkage-agrees given known site l named found gives job at =
    let same : l.job ≡ job = same_Some l.job job (sym named ∙ at) in
    subst (λ j. Agree (found_of l.under) known (asked_at (found_of l.under) j)) same
    (agree-each (found_of l.under) known (asked_at (found_of l.under) l.job)
    (λ c h. found-gives known l.under gives c (subst (λ cs. Has cs c) (sym found) h)))

-- a linkage is the same under what its attempt has found and under values that say this of each constant that it has found
pub linkage-same : (given : Given) (known : Found) (site : ℕ) (l : LinkageView) → slice_get given.jobs site ≡ Some l.job → HasFound l →
    All (Gives known) l.under → linked_at (own_given l given) site l.serial ≡ linked_at (under known given) site l.serial
linkage-same given known site l named found gives =
    linked-same given (found_of l.under) known site l.serial (linkage-agrees given known site l named found gives)
