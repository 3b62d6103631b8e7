use Rattle.std.proofs.Common.{◌≡◌, sym, ap, ◌∙◌, List, [], append-nil, subst, Option, Result, Ok, Err, OnOk, OnErr}
use Rattle.mh_cells.specs.Values.{Keeps}
use Rattle.mh_attempt.specs.Linkage.{LinkageView}
use Rattle.mh_handle.specs.Joins.{KnowsBoth, with_seat as with_forms_seat}
use Rattle.mh_handle.specs.Passes.{PassView, StaysLearnt}
use Rattle.mh_report.specs.Results.{Serials}
use Rattle.mh_runtime.specs.Passes.{HasSerials}
use Rattle.mh_runtime.proofs.linker.Linker.join.Goals as goal

-- whichever way the join of the passes over the forms ended, what was learnt stays so
stays-learnt : {A E : Type 0} (ended : Result A E) (old other new : PassView) → OnOk ended (KnowsBoth old other new) →
    OnErr ended (new ≡ with_forms_seat new.seat old) → StaysLearnt old new
stays-learnt (Ok x) old other new ok err = ok.mine
stays-learnt (Err e) old other new ok err = subst (StaysLearnt old) (sym err) (λ recipe form is. is)

pub returns-in_err-linked-clause-kept : goal.returns-in_err-linked-clause-kept
returns-in_err-linked-clause-kept g c =
    let start = c.args.pass.now.links in
    let is = c.in_err-linked.ensures.err.is in
    record {
      thread = c.join-linked.ensures.thread;
      linked = subst (λ (s : Serials). HasSerials start.linked s) (sym (ap (λ links. links.linked) is)) (λ site serial at. at);
      attempts = ([], ap (λ links. links.attempts) is ∙ sym (append-nil start.attempts));
      recorded = ([], ap (λ links. links.recorded) is ∙ sym (append-nil start.recorded));
      linkages = subst (λ (ls : List (Option LinkageView)). Keeps start.linkages ls) (sym (ap (λ links. links.linkages) is)) (λ site l at. at);
      constants = c.in_err-linked.ensures.err.known;
      forms = stays-learnt c.join-formed.result c.args.pass.now.forms c.args.other.forms c.join-formed.new.pass c.join-formed.ensures.ok
          c.join-formed.ensures.err;
    }
