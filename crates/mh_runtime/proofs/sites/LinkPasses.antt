-- What a pass over the call sites keeps.
use Rattle.std.proofs.Common.{◌≡◌, refl, sym, ap, ◌∙◌, subst, ℕ, ◌<◌, List, [], ◌∷◌, ◌++◌, length, Option, Some}
use Rattle.std.specs.Prelude.{All, Contains}
use Rattle.std.proofs.lemmas.List.Elements.{All-append, All-push, All-weaker, Contains-append_left, Contains-append_right}
use Rattle.mh_cells.specs.Values.{Keeps, KnownView, value_at}
use Rattle.mh_condy.specs.Nodes as consts
use Rattle.mh_condy.specs.Nodes.{Knows, Nodes}
use Rattle.mh_condy.specs.Passes.{PassView}
use Rattle.mh_condy.proofs.Passes.{all-knows}
use Rattle.mh_jobs.specs.Given.{Given}
use Rattle.mh_attempt.specs.Linkage.{LinkageView}
use Rattle.mh_report.specs.declared.attempt.Attempt.{Attempt}
use Rattle.mh_report.specs.Results.{serial_at}
use Rattle.mh_runtime.specs.Passes.{HasFoundKnown, HasSerials, IsLinkageOf, IsLinkPass, IsRecorded, attempt_of, linked_by}

-- what the attempt of a recorded linkage has found stays known
found-kept : (known known' : Nodes) (linkages linkages' : List (Option LinkageView)) → consts.Keeps known known' → Keeps linkages linkages' → (a : Attempt) →
    HasFoundKnown known linkages a → HasFoundKnown known' linkages' a
found-kept known known' linkages linkages' nodes keeps a is = record {
  linkage = is.linkage;
  at = keeps a.site is.linkage is.at;
  serial = is.serial;
  knows = all-knows known known' nodes is.linkage.under is.knows;
}

module _ (given : Given) (known known' : KnownView LinkageView) (attempts recorded : List Attempt) (constants constants' : PassView)
    (has : HasSerials (linked_by known) (linked_by known')) (keeps : Keeps known.values known'.values)
    (nodes : consts.Keeps constants.known constants'.known) (is : IsLinkPass given known attempts recorded constants) where
  -- more is learnt
  pub pass-learns : IsLinkPass given known' attempts recorded constants'
  pass-learns = record {
    within = is.within;
    recorded_are = All-weaker (IsRecorded (linked_by known) attempts) (IsRecorded (linked_by known') attempts)
        (λ a r. (r.0, has a.site a.serial r.1)) recorded is.recorded_are;
    found_are = All-weaker (HasFoundKnown constants.known known.values) (HasFoundKnown constants'.known known'.values)
        (found-kept constants.known constants'.known known.values known'.values nodes keeps) recorded is.found_are;
  }

  -- one more is recorded
  pub pass-records : (a : Attempt) (recorded' : List Attempt) → Contains attempts a → serial_at (linked_by known') a.site ≡ Some a.serial →
      HasFoundKnown constants'.known known'.values a → recorded' ≡ recorded ++ a ∷ [] → IsLinkPass given known' attempts recorded' constants'
  pass-records a recorded' made linked found more = subst (λ r. IsLinkPass given known' attempts r constants') (sym more) (record {
    within = is.within;
    recorded_are = All-push (IsRecorded (linked_by known') attempts) recorded a pass-learns.recorded_are (made, linked);
    found_are = All-push (HasFoundKnown constants'.known known'.values) recorded a pass-learns.found_are found;
  })

  -- the linkage of an attempt is put into the cell of its site
  pub pass-puts : (thread : ℕ) (ours l : LinkageView) (a : Attempt) (recorded' : List Attempt) → Contains attempts (attempt_of thread ours) → l ≡ ours →
      IsLinkageOf (linked_by known') ours.job.site l → value_at known'.values ours.job.site ≡ Some l → All (Knows constants'.known) ours.under →
      a ≡ attempt_of thread ours → recorded' ≡ recorded ++ a ∷ [] → IsLinkPass given known' attempts recorded' constants'
  pass-puts thread ours l a recorded' made same linkage at found own more =
      pass-records (attempt_of thread ours) recorded' made (linkage.1 ∙ ap (λ (v : LinkageView). Some v.serial) same)
      (record { linkage = ours; at = at ∙ ap (λ v. Some v) same; serial = refl; knows = found })
      (more ∙ ap (λ b. recorded ++ b ∷ []) own)

  -- all that another pass has attempted and recorded is added
  pub pass-joins : (others : KnownView LinkageView) (more more_recorded attempts' recorded' : List Attempt) (their_constants : PassView) →
      HasSerials (linked_by others) (linked_by known') → Keeps others.values known'.values → consts.Keeps their_constants.known constants'.known →
      IsLinkPass given others more more_recorded their_constants → attempts' ≡ attempts ++ more →
      recorded' ≡ recorded ++ more_recorded → IsLinkPass given known' attempts' recorded' constants'
  pass-joins others more more_recorded attempts' recorded' their_constants theirs their_values their_nodes other made kept =
      subst (λ v. IsLinkPass given known' v recorded' constants') (sym made)
      (subst (λ r. IsLinkPass given known' (attempts ++ more) r constants') (sym kept) (record {
        within = All-append (λ a. a.site < length given.jobs) attempts more is.within other.within;
        recorded_are = All-append (IsRecorded (linked_by known') (attempts ++ more)) recorded more_recorded
            (All-weaker (IsRecorded (linked_by known) attempts) (IsRecorded (linked_by known') (attempts ++ more))
            (λ a r. (Contains-append_left attempts more a r.0, has a.site a.serial r.1)) recorded is.recorded_are)
            (All-weaker (IsRecorded (linked_by others) more) (IsRecorded (linked_by known') (attempts ++ more))
            (λ a r. (Contains-append_right attempts more a r.0, theirs a.site a.serial r.1)) more_recorded other.recorded_are);
        found_are = All-append (HasFoundKnown constants'.known known'.values) recorded more_recorded pass-learns.found_are
            (All-weaker (HasFoundKnown their_constants.known others.values) (HasFoundKnown constants'.known known'.values)
            (found-kept their_constants.known constants'.known others.values known'.values their_nodes their_values) more_recorded other.found_are);
      }))

-- one more is attempted
pub pass-begins : (given : Given) (known : KnownView LinkageView) (attempts recorded : List Attempt) (constants : PassView) (a : Attempt) →
    IsLinkPass given known attempts recorded constants → a.site < length given.jobs → IsLinkPass given known (attempts ++ a ∷ []) recorded constants
pass-begins given known attempts recorded constants a is low = record {
  found_are = is.found_are;
  within = All-push (λ b. b.site < length given.jobs) attempts a is.within low;
  recorded_are = All-weaker (IsRecorded (linked_by known) attempts) (IsRecorded (linked_by known) (attempts ++ a ∷ []))
      (λ b r. (Contains-append_left attempts (a ∷ []) b r.0, r.1)) recorded is.recorded_are;
}
