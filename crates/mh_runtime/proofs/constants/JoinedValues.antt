-- Where all passes were joined, constants are what they are by the serials of their nodes, and these values are those that the joined pass has seen.
use Rattle.std.proofs.Common.{◌≡◌, refl, sym, ◌∙◌, ap, ap₂, subst, ℕ, suc, ◌+◌, [], ◌∷◌, None, Some, map, arith}
use Rattle.std.specs.Prelude.{All, option_map, slice_get}
use Rattle.std.specs.Option.{option_flatten}
use Rattle.std.proofs.lemmas.List.Elements.{All-contains, All-weaker}
use Rattle.mh_cells.specs.Values.{KnownView, value_at}
use Rattle.mh_jobs.specs.Given.{Found, Given}
use Rattle.mh_link.specs.Constants.{const_under, values_of}
use Rattle.mh_link.specs.Named.{AreConstJobs, Constants, run_of}
use Rattle.mh_link.specs.Asking.{asked_by}
use Rattle.mh_link.proofs.constants.Asked.{agree-each, under-same}
use Rattle.mh_condy.specs.Nodes.{AreNodes, Knows, Nodes, found_in, serials_in}
use Rattle.mh_condy.specs.Passes.{IsPass}
use Rattle.mh_condy.specs.Recorded.{ConstView, FindingView}
use Rattle.mh_condy.specs.Trails.{HasPutAll, trail_of}
use Rattle.mh_condy.proofs.Ends.{all-put}
use Rattle.mh_condy.proofs.WholeTrails.{found-values}
use Rattle.mh_attempt.specs.Linkage.{LinkageView}
use Rattle.mh_report.specs.declared.table.ConstRow.{ConstRow}
use Rattle.mh_report.specs.Recorded.{row_serials, rows, rows_from}
use Rattle.mh_report.specs.Results.{Serials, serial_at}
use Rattle.mh_runtime.specs.Attempts.{AreRecorded}
use Rattle.mh_runtime.specs.Passes.{HasFoundKnown, LinkPass, serial_of}
use Rattle.mh_runtime.specs.Report.{AreAllFound, row_in, rows_in}
use Rattle.mh_runtime.specs.Values.{Agrees, Gives}
use Rattle.mh_runtime.proofs.sites.SiteSerials.{serial-at}

-- ---- values

-- what an attempt has found of a constant is found as it is known
found-known : (known : Nodes) (f : FindingView) → Knows known f → found_in known f.constant ≡ Some f.value
found-known known f k = ap (λ o. option_map (λ (node : ConstView). node.value) o) k.at ∙ ap (λ v. Some v) k.value

-- the values by the serials of the nodes agree with the joined pass
pub agrees-joined : (given : Given) (links : LinkPass) → AreConstJobs (run_of given) → IsPass (run_of given) links.constants →
    HasPutAll (trail_of links.constants) → AreAllFound links → Agrees (values_of (run_of given) (serials_in links.constants.known)) links
agrees-joined given links named is put found =
    let run : Constants = run_of given in
    let known : Nodes = links.constants.known in
    let values : Found = values_of run (serials_in known) in
    let nodes = all-put run links.constants is put in
    record {
      nodes = λ c node at.
          sym (found-values run named known nodes c) ∙ ap (λ o. option_map (λ (n : ConstView). n.value) o) at;
      found = λ site l at.
          All-weaker (Knows known) (Gives values) (λ f k. sym (found-values run named known nodes f.constant) ∙ found-known known f k) l.under
          (found site l at);
    }

-- ---- rows

module _ (run : Constants) (values : Found) where
  -- nodes are what their attempts record where constants have these values
  abbrev AreBy : ℕ → Nodes → Type 0
  AreBy from nodes = (i : ℕ) (node : ConstView) → slice_get nodes i ≡ Some (Some node) → node.value ≡ const_under run values (from + i) node.serial

  rows-by : (from : ℕ) (nodes : Nodes) → AreBy from nodes → map (option_map row_in) nodes ≡ rows_from run values from (serials_in nodes)
  rows-by from [] are = refl
  rows-by from (None ∷ nodes) are =
      ap (λ rest. None ∷ rest) (rows-by (from + 1) nodes (λ i node at.
      let next : from + suc i ≡ (from + 1) + i = omega arith in
      are (suc i) node at ∙ ap (λ c. const_under run values c node.serial) next))
  rows-by from (Some node ∷ nodes) are =
      let here : from + 0 ≡ from = omega arith in
      ap₂ (λ (r : ConstRow) rest. Some r ∷ rest)
      (ap (λ v. record { serial = node.serial; value = v }) (are 0 node refl ∙ ap (λ c. const_under run values c node.serial) here))
      (rows-by (from + 1) nodes (λ i n at.
      let next : from + suc i ≡ (from + 1) + i = omega arith in
      are (suc i) n at ∙ ap (λ c. const_under run values c n.serial) next))

-- what is known of constants, as it is reported, is what their serials say
pub rows-known : (given : Given) (known : Nodes) → AreConstJobs (run_of given) → AreNodes (run_of given) known → rows_in known ≡ rows given (serials_in known)
rows-known given known named nodes =
    let run : Constants = run_of given in
    let values : Found = values_of run (serials_in known) in
    rows-by run values 0 known (λ c node at.
    let here : c ≡ 0 + c = omega arith in
    (nodes.each c node (ap option_flatten at)).is
    ∙ ((under-same run (found_in known) values c
    (agree-each (found_in known) values (asked_by run (found_in known) c) (λ d h. found-values run named known nodes d))).0 node.serial
    ∙ ap (λ k. const_under run values k node.serial) here))

-- and it tells their serials
pub rows-serials : (known : Nodes) → row_serials (rows_in known) ≡ serials_in known
rows-serials [] = refl
rows-serials (None ∷ known) = ap (λ rest. None ∷ rest) (rows-serials known)
rows-serials (Some node ∷ known) = ap (λ rest. Some node.serial ∷ rest) (rows-serials known)

-- ---- linkages

-- where each linkage that is learnt was recorded by an attempt of the pass, what each has found is known
pub all-found : (links : LinkPass) → All (HasFoundKnown links.constants.known links.linkages) links.recorded →
    links.linked ≡ map (option_map serial_of) links.linkages → AreRecorded links links.linked → AreAllFound links
all-found links found linked own site l at =
    let known : KnownView LinkageView = record { cells = []; values = links.linkages } in
    let serial : serial_at links.linked site ≡ Some l.serial =
    ap (λ (table : Serials). serial_at table site) linked ∙ (serial-at known site ∙ ap (option_map serial_of) at) in
    let r = own site l.serial serial in
    let f = All-contains (HasFoundKnown links.constants.known links.linkages) links.recorded r.0 found r.1 in
    let same : Some f.linkage ≡ Some l = sym f.at ∙ (ap (value_at links.linkages) r.4 ∙ at) in
    let one : f.linkage ≡ l = cc same in
    subst (λ (x : LinkageView). All (Knows links.constants.known) x.under) one f.knows
