-- What passes have made together.
use Rattle.std.proofs.Common.{◌≡◌, refl, sym, ◌∙◌, ap, subst, ℕ, true, [], Option, Some, None}
use Rattle.std.specs.Prelude.{is_some, option_map}
use Rattle.mh_condy.specs.Recorded.{ConstView}
use Rattle.mh_jobs.specs.Thrown.{OrThrown}
use Rattle.mh_jobs.specs.declared.unresolved.StaticArguments.{StaticArguments}
use Rattle.mh_jobs.specs.Given.{Found}
use Rattle.mh_link.specs.Resolved.{Agree, asked, resolved}
use Rattle.mh_link.proofs.constants.Resolving.{resolving}
use Rattle.mh_link.specs.Named.{Constants, AreConstJobs}
use Rattle.mh_link.specs.Depth.{most_depth}
use Rattle.mh_link.specs.Constants.{serial_at, values_of}
use Rattle.mh_link.specs.Places.{is_in, Has}
use Rattle.mh_link.specs.Asking.{asked_by, asked_of_call, asks, with_below}
use Rattle.mh_condy.specs.Nodes.{Nodes, node_in, found_in, is_known, serials_in, AreNodes, Keeps}
use Rattle.mh_condy.specs.Trails.{Trail, GoesBeside}
use Rattle.mh_link.proofs.walking.Places.{in-first}
use Rattle.mh_link.proofs.constants.Asked.{agree-each}
use Rattle.mh_link.proofs.walking.Asking.{asked-same}
use Rattle.mh_condy.proofs.Trails.{all-known, found-kept}
use Rattle.mh_condy.proofs.WholeTrails.{below-values, call-values, found-values, serial-in}

module _ (run : Constants) (named : AreConstJobs run) (all : Nodes) (nodes : AreNodes run all) (call : OrThrown StaticArguments) where
  -- what a call asks, by the nodes and by their serials
  asked-all : (c : ℕ) → is_in (asks run (serials_in all) call) c
      ≡ is_in (with_below (asked_by run (found_in all)) most_depth (asked_of_call (found_in all) call)) c
  asked-all c =
      in-first [] (with_below (asked_by run (values_of run (serials_in all))) most_depth (asked_of_call (values_of run (serials_in all)) call)) c
      ∙ ap (λ cs. is_in cs c) (sym (below-values run named all nodes (asked_of_call (found_in all) call)
      ∙ ap (with_below (asked_by run (values_of run (serials_in all))) most_depth) (call-values run named all nodes call)))

  -- each constant that a call asks has a serial, where those that it looks at are known
  pub asked-serials : ((c : ℕ) → Has (asked_of_call (found_in all) call) c → is_known all c ≡ true) →
      (c : ℕ) → Has (asks run (serials_in all) call) c → is_some (serial_at (serials_in all) c) ≡ true
  asked-serials looked c h =
      ap is_some (serial-in all c)
      ∙ (some-map (node_in all c) ∙ all-known run all nodes (asked_of_call (found_in all) call) looked c (sym (asked-all c) ∙ h))
    where
      some-map : (o : Option ConstView) → is_some (option_map (λ (node : ConstView). node.serial) o) ≡ is_some o
      some-map None = refl
      some-map (Some n) = refl

  -- each constant that a pass attempted for a call is one that the call asks
  pub attempts-asked : (p q : Trail) (goes : GoesBeside run (asked_of_call (found_in q.known) call) p q) → Keeps q.known all →
      (c : ℕ) → Has goes.attempts.more c → Has (asks run (serials_in all) call) c
  attempts-asked p q goes keeps c h =
      asked-all c
      ∙ subst (λ cs. Has (with_below (asked_by run (found_in all)) most_depth cs) c)
      (asked-same (found_in q.known) (found_in all) call (agree-each (found_in q.known) (found_in all) (asked_of_call (found_in q.known) call)
      (λ d is. found-kept q.known all keeps d (goes.known d is))))
      (goes.attempts.asked all keeps nodes c h)

-- arguments by what a maker found are those by the serials of all nodes, where the nodes have what it found
pub under-all : (run : Constants) → AreConstJobs run → (all : Nodes) → AreNodes run all → (under : Found) (arguments : StaticArguments) →
    Agree under (found_in all) (asked under arguments.parts) → resolved under arguments ≡ resolved (values_of run (serials_in all)) arguments
under-all run named all nodes under arguments agree =
    (resolving under (found_in all) arguments agree).0
    ∙ (resolving (found_in all) (values_of run (serials_in all)) arguments
    (agree-each (found_in all) (values_of run (serials_in all)) (asked (found_in all) arguments.parts) (λ d h. found-values run named all nodes d))).0
