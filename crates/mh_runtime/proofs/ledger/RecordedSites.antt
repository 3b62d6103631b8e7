-- What is recorded at the sites of a pass, where one site more is looked at.
use Rattle.std.proofs.Common.{◌≡◌, refl, sym, ◌∙◌, ap, ap₂, ℕ, zero, suc, ◌+◌, ◌<◌, [], ◌∷◌, ◌++◌, length, take, Option, None, Some, ⊎_elim, arith}
use Rattle.std.specs.Prelude.{option_map, slice_get}
use Rattle.std.specs.Option.{option_flatten}
use Rattle.std.proofs.lemmas.Bool.{cases_eq}
use Rattle.std.proofs.lemmas.Option.{slice_get_within}
use Rattle.mh_cells.specs.Values.{value_at}
use Rattle.mh_jobs.specs.Given.{Given, under}
use Rattle.mh_link.specs.Linked.{Linked}
use Rattle.mh_attempt.specs.Linkage.{HasFound, LinkageView, own_given}
use Rattle.mh_report.specs.declared.table.Recorded.{Recorded}
use Rattle.mh_report.specs.Recorded.{recorded, recorded_at, recorded_from, serials_of, shown_of}
use Rattle.mh_report.specs.Results.{Serials, serial_at}
use Rattle.mh_runtime.specs.Attempts.{AreRecorded, HasRecorded}
use Rattle.mh_runtime.specs.Passes.{IsLinkageOf, LinkPass}
use Rattle.mh_runtime.specs.Values.{AtLinks}
use Rattle.mh_runtime.proofs.constants.Agreeing.{linkage-same}

module _ (given : Given) where
  -- what is recorded from a site on, one site after the other
  more-from : (from : ℕ) (linked : Serials) (site : ℕ) → site < length linked →
      recorded_from given from (take (site + 1) linked)
      ≡ recorded_from given from (take site linked) ++ option_map (recorded_at given (from + site)) (serial_at linked site) ∷ []
  more-from from [] site within = absurd (omega (arith, within))
  more-from from (s ∷ linked) zero within = let here : from + 0 ≡ from = omega arith in ap (λ k. option_map (recorded_at given k) s ∷ []) (sym here)
  more-from from (s ∷ linked) (suc site) within =
      let next : suc site + 1 ≡ suc (site + 1) = omega arith in
      let there : (from + 1) + site ≡ from + suc site = omega arith in
      ap (λ n. recorded_from given from (take n (s ∷ linked))) next
      ∙ ap (λ rs. option_map (recorded_at given from) s ∷ rs)
      (more-from (from + 1) linked site (omega (arith, within))
      ∙ ap (λ k. recorded_from given (from + 1) (take site linked) ++ option_map (recorded_at given k) (serial_at linked site) ∷ []) there)

  pub recorded-more : (linked : Serials) (site : ℕ) → site < length linked →
      recorded given (take (site + 1) linked)
      ≡ recorded given (take site linked) ++ option_map (recorded_at given site) (serial_at linked site) ∷ []
  recorded-more linked site within =
      let here : 0 + site ≡ site = omega arith in
      more-from 0 linked site within
      ∙ ap (λ k. recorded given (take site linked) ++ option_map (recorded_at given k) (serial_at linked site) ∷ []) here

  -- the serials of what is recorded are those of the table
  serials-from : (site : ℕ) (table : Serials) → serials_of (recorded_from given site table) ≡ table
  serials-from site [] = refl
  serials-from site (s ∷ table) = ap₂ (λ x xs. x ∷ xs) (one s) (serials-from (site + 1) table)
    where
      one : (o : Option ℕ) → option_map (λ (r : Recorded). r.serial) (option_map (recorded_at given site) o) ≡ o
      one None = refl
      one (Some n) = refl

  pub serials-recorded : (table : Serials) → serials_of (recorded given table) ≡ table
  serials-recorded table = serials-from 0 table

-- what is recorded at a site by the attempt of the linkage that is learnt there
pub entry-found : (given : Given) (links : LinkPass) (site : ℕ) (l : LinkageView) (r : Recorded) → IsLinkageOf links.linked site l →
    value_at links.linkages site ≡ Some l → slice_get given.jobs l.job.site ≡ Some l.job → HasFound l →
    r ≡ recorded_at (own_given l given) l.job.site l.serial →
    AtLinks given links (λ g. Some r ≡ option_map (recorded_at g site) (serial_at links.linked site))
entry-found given links site l r of value named found is known agrees =
    ap (λ e. Some e)
    (is
    ∙ (ap (λ (x : Linked). record { serial = l.serial; shown = shown_of given.leaves x })
    (linkage-same given known l.job.site l named found (agrees.found site l value))
    ∙ ap (λ k. recorded_at (under known given) k l.serial) of.0))
    ∙ ap (option_map (recorded_at (under known given) site)) (sym of.1)

-- ---- the serials of recorded attempts, at their sites

-- an entry that is a serial
pub entry-at : (table : Serials) (site serial : ℕ) → serial_at table site ≡ Some serial → slice_get table site ≡ Some (Some serial)
entry-at table site serial is = cases (slice_get table site) is
  where
    cases : (o : Option (Option ℕ)) → option_flatten o ≡ Some serial → o ≡ Some (Some serial)
    cases None is = cc
    cases (Some entry) is = ap (λ e. Some e) is

pub entry-within : (table : Serials) (site serial : ℕ) → serial_at table site ≡ Some serial → site < length table
entry-within table site serial is = slice_get_within table site (Some serial) (entry-at table site serial is)

module _ (pass : LinkPass) where
  -- the sites before one of them, and that one
  pub owned-more : (linked owners : Serials) (i : ℕ) (owner : Option ℕ) → AreRecorded pass owners → slice_get owners i ≡ Some owner →
      ((serial : ℕ) → serial_at linked i ≡ Some serial → owner ≡ Some serial) →
      ((site serial : ℕ) → site < i → serial_at linked site ≡ Some serial → HasRecorded pass site serial) →
      (site serial : ℕ) → site < i + 1 → serial_at linked site ≡ Some serial → HasRecorded pass site serial
  owned-more linked owners i owner are at own before site serial within is = ⊎_elim
      (λ (here : site ≡ i).
      let same : owner ≡ Some serial = own serial (ap (serial_at linked) (sym here) ∙ is) in
      are site serial (ap (serial_at owners) here ∙ (ap option_flatten at ∙ same)))
      (λ (other : site ≡ i → ⊥). before site serial (omega (arith, within, other)) is)
      (cases_eq site i)
