-- Values of dynamic constants that agree with what a pass has seen: with what it had seen before, and with what attempts have found.
use Rattle.std.proofs.Common.{◌≡◌, refl, sym, ◌∙◌, ap, subst, ℕ, inl, inr, List, [], ◌∷◌, Some}
use Rattle.std.specs.Prelude.{All, if◌then◌else◌, option_map, slice_get}
use Rattle.std.proofs.lemmas.Bool.{both_ways, cases_eq, eq-eqb, ne_eqb}
use Rattle.std.proofs.lemmas.List.Elements.{All-head, All-tail}
use Rattle.mh_base.proofs.Inversion.{some_is}
use Rattle.mh_cells.specs.Values.{Keeps}
use Rattle.mh_tree.specs.Tree.{Tree}
use Rattle.mh_jobs.specs.declared.job.Job.{Job}
use Rattle.mh_jobs.specs.Given.{Found, Given, under}
use Rattle.mh_link.specs.Asking.{asked_at}
use Rattle.mh_link.specs.Places.{is_in, Has}
use Rattle.mh_link.specs.Resolved.{Agree}
use Rattle.mh_link.specs.Sites.{edits_at, linked_at, types_at}
use Rattle.mh_link.proofs.constants.Asked.{agree-each}
use Rattle.mh_link.proofs.walking.Places.{has-cons}
use Rattle.mh_link.proofs.constants.SameCalls.{AgreeFor, edits-same, linked-same, types-same}
use Rattle.mh_condy.specs.Nodes as consts
use Rattle.mh_condy.specs.Nodes.{Nodes, found_in, is_known, node_in}
use Rattle.mh_condy.specs.Passes.{PassView}
use Rattle.mh_condy.specs.Recorded.{ConstView, FindingView, constants_of, found_of}
use Rattle.mh_condy.proofs.Trails.{noted}
use Rattle.mh_attempt.specs.Constants.{AsksConstants, given_in}
use Rattle.mh_attempt.specs.Linkage.{HasFound, LinkageView, own_given}
use Rattle.mh_runtime.specs.Attempts.{GoesOnLinking}
use Rattle.mh_runtime.specs.Passes.{HasBoth, LinkPass}
use Rattle.mh_runtime.specs.Values.{Agrees, Gives, GivesNodes}

-- what agrees with a pass agrees with what it was before
pub agrees-before : (known : Found) (old new : LinkPass) → consts.Keeps old.constants.known new.constants.known → Keeps old.linkages new.linkages →
    Agrees known new → Agrees known old
agrees-before known old new nodes linkages is = record {
  nodes = λ c node at. is.nodes c node (nodes.kept c node at);
  found = λ site l at. is.found site l (linkages site l at);
}

-- and with what it was before more sites were linked
pub agrees-linked : (n : ℕ) (known : Found) (old new : LinkPass) → GoesOnLinking n old new → Agrees known new → Agrees known old
agrees-linked n known old new goes is = agrees-before known old new goes.constants.known goes.linkages is

-- and with passes that were joined to it
pub agrees-mine : (known : Found) (old other new : LinkPass) → HasBoth old other new → Agrees known new → Agrees known old
agrees-mine known old other new both is = agrees-before known old new both.constants.mine both.my_linkages is

pub agrees-theirs : (known : Found) (old other new : LinkPass) → HasBoth old other new → Agrees known new → Agrees known other
agrees-theirs known old other new both is = agrees-before known other new both.constants.theirs both.their_linkages is

-- a job's call looks at the same constants, and finds the same of them, as where constants are what a pass has learnt of them
pub asked-agrees : (given : Given) (known : Found) (job : Job) (old new : PassView) (findings : List FindingView) →
    AsksConstants given job old new findings → GivesNodes known new.known → Agree (found_in new.known) known (asked_at (found_in new.known) job)
asked-agrees given known job old new findings asks gives =
    agree-each (found_in new.known) known (asked_at (found_in new.known) job)
    (λ c h. let known_at = noted new.known c (asks.goes.known c h) in
    ap (λ o. option_map (λ (node : ConstView). node.value) o) known_at.at ∙ sym (gives c known_at.node known_at.at))

-- what an attempt has found of a constant is what these values say, where they say it of each that it has found
pub found-gives : (known : Found) (findings : List FindingView) → All (Gives known) findings → (c : ℕ) → Has (constants_of findings) c →
    found_of findings c ≡ known c
found-gives known [] gives c h = absurd (both_ways (is_in [] c) refl h)
found-gives known (f ∷ findings) gives c h = elim (cases_eq f.constant c) [
  | inl e ↦
      ap (λ b. if b then Some f.value else found_of findings c) (eq-eqb f.constant c e)
      ∙ (sym (All-head (Gives known) f findings gives) ∙ ap known e)
  | inr other ↦
      ap (λ b. if b then Some f.value else found_of findings c) (ne_eqb f.constant c other)
      ∙ found-gives known findings (All-tail (Gives known) f findings gives) c (elim (has-cons f.constant (constants_of findings) c h) [
        | inl e ↦ absurd (other e)
        | inr there ↦ there
      ])
]

-- so a linkage is the same under what its attempt has found and under these values
pub linkage-agrees : (given : Given) (known : Found) (site : ℕ) (l : LinkageView) → slice_get given.jobs site ≡ Some l.job → HasFound l →
    All (Gives known) l.under → AgreeFor given (found_of l.under) known site
linkage-agrees given known site l named found gives job at =
    let same : l.job ≡ job = some_is l.job job (sym named ∙ at) in
    subst (λ j. Agree (found_of l.under) known (asked_at (found_of l.under) j)) same
    (agree-each (found_of l.under) known (asked_at (found_of l.under) l.job)
    (λ c h. found-gives known l.under gives c (subst (λ cs. Has cs c) (sym found) h)))

pub linkage-same : (given : Given) (known : Found) (site : ℕ) (l : LinkageView) → slice_get given.jobs site ≡ Some l.job → HasFound l →
    All (Gives known) l.under → linked_at (own_given l given) site l.serial ≡ linked_at (under known given) site l.serial
linkage-same given known site l named found gives =
    linked-same given (found_of l.under) known site l.serial (linkage-agrees given known site l named found gives)

-- what an attempt asks for is the same where constants are what its pass has learnt and under these values
module _ (given : Given) (known : Found) (site serial : ℕ) (job : Job) (named : slice_get given.jobs site ≡ Some job) (old new : PassView)
    (findings : List FindingView) (asks : AsksConstants given job old new findings) (gives : GivesNodes known new.known) where
  agree-for : AgreeFor given (found_in new.known) known site
  agree-for other at =
      subst (λ j. Agree (found_in new.known) known (asked_at (found_in new.known) j)) (some_is job other (sym named ∙ at))
      (asked-agrees given known job old new findings asks gives)

  pub edits-agree : {K : Type 0} (recipe : Tree → List K) → edits_at recipe (given_in new given) site serial ≡ edits_at recipe (under known given) site serial
  edits-agree {K} recipe = edits-same given (found_in new.known) known site serial agree-for recipe

  pub types-agree : types_at (given_in new given) site serial ≡ types_at (under known given) site serial
  types-agree = types-same given (found_in new.known) known site serial agree-for
