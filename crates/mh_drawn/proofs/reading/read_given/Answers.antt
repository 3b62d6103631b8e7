use Rattle.std.proofs.Common.{◌∙◌, inl, inr}
use Rattle.mh_script.specs.Kinds.{kind_word as script_word}
use Rattle.mh_script.specs.Scripts.{scripts}
use Rattle.mh_words.specs.Words.{held_names}
use Rattle.mh_drawn.specs.Reading.{AddsClasses, HasMeaning, StopsClasses, StopsReading, StopsText, no_sites, text_limit}
use Rattle.mh_drawn.proofs.ReadOn.{at_start, handed, of_files}
use Rattle.mh_drawn.proofs.reading.read_given.Goals as goal

pub returns-in_err-scripts-clause-stop : goal.returns-in_err-scripts-clause-stop
returns-in_err-scripts-clause-stop g c =
    let names = held_names c.args.names.now in
    let files = g.I.Inputs.contents c.args.inputs.now in
    let faults = g.I.Inputs.faults c.args.inputs.now in
    let now = g.I.Inputs.faults c.read_scripts.new.inputs in
    let one = c.in_ok-leaves.ensures in
    let stop = c.in_err-scripts.field-0.0 in
    handed c.from_residual-in_err-scripts.result stop (StopsReading names files faults now) c.from_residual-in_err-scripts.ensures.1
    (inr (
      c.in_ok-leaves.leaves,
      one.ok,
      inl
          (at_start (λ fs b. StopsText names.scripts script_word scripts (fs names.scripts) (b names.scripts) (now names.scripts) stop)
          files (g.I.Inputs.contents c.read_leaves.new.inputs) faults (g.I.Inputs.faults c.read_leaves.new.inputs) one.contents one.no_fault
          c.in_err-scripts.ensures.stop),
    ))

pub returns-in_err-sites-clause-stop : goal.returns-in_err-sites-clause-stop
returns-in_err-sites-clause-stop g c =
    let names = held_names c.args.names.now in
    let files = g.I.Inputs.contents c.args.inputs.now in
    let faults = g.I.Inputs.faults c.args.inputs.now in
    let now = g.I.Inputs.faults c.read_classes.new.inputs in
    let one = c.in_ok-leaves.ensures in
    let two = c.in_ok-scripts.ensures in
    let leaves = c.in_ok-leaves.leaves in
    let all = c.in_ok-scripts.scripts in
    let stop = c.in_err-sites.field-0.0 in
    handed c.from_residual-in_err-sites.result stop (StopsReading names files faults now) c.from_residual-in_err-sites.ensures.1
    (inr (
      leaves,
      one.ok,
      inr (
        all,
        of_files (λ fs. HasMeaning text_limit scripts (fs names.scripts) all) files (g.I.Inputs.contents c.read_leaves.new.inputs) one.contents two.ok,
        at_start (λ fs b. StopsClasses leaves all names.classes fs b now no_sites stop)
            files (g.I.Inputs.contents c.read_scripts.new.inputs) faults (g.I.Inputs.faults c.read_scripts.new.inputs)
            (λ n. two.contents n ∙ one.contents n) (λ n. two.no_fault n ∙ one.no_fault n)
            (rw c.no_sites-none.ensures.none at (rw c.deref.ensures.value at c.in_err-sites.ensures.stop)),
      ),
    ))

pub returns-clause-ok : goal.returns-clause-ok
returns-clause-ok g c =
    let names = held_names c.args.names.now in
    let files = g.I.Inputs.contents c.args.inputs.now in
    let one = c.in_ok-leaves.ensures in
    let two = c.in_ok-scripts.ensures in
    let leaves = c.in_ok-leaves.leaves in
    let all = c.in_ok-scripts.scripts in
    record {
      leaves = one.ok;
      scripts_are = of_files (λ fs. HasMeaning text_limit scripts (fs names.scripts) all) files
          (g.I.Inputs.contents c.read_leaves.new.inputs) one.contents two.ok;
      sites = of_files (λ fs. AddsClasses leaves all names.classes fs no_sites c.in_ok-sites.sites) files (g.I.Inputs.contents c.read_scripts.new.inputs)
          (λ n. two.contents n ∙ one.contents n) (rw c.no_sites-none.ensures.none at (rw c.deref.ensures.value at c.in_ok-sites.ensures.ok));
    }
