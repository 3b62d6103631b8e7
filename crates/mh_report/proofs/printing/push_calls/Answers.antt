use Rattle.std.proofs.Common.{◌++◌, ap, sym, ◌∙◌, arith, append_assoc, codes, take}
use Rattle.std.specs.Fmt.{decimal}
use Rattle.mh_report.specs.Text.{calls_text}
use Rattle.mh_report.proofs.CallTexts.{text-next}
use Rattle.mh_report.proofs.printing.push_calls.Goals as goal

pub loop-at-preserved : goal.loop-at-preserved
loop-at-preserved c =
    let calls = c.args.calls.now in
    let at = c.loop-at.at in
    let leaf = c.leaf-in-loop-at.result in
    let before = c.args.text.now.items in
    record {
      some = omega arith;
      text = c.in_ok-push_next.ensures
          ∙ (ap (λ t. t ++ (codes " " ++ decimal leaf.0)) c.loop-at.invariant.text
          ∙ (append_assoc before (calls_text (take at calls)) (codes " " ++ decimal leaf.0)
          ∙ ap (λ t. before ++ t) (sym (text-next calls at leaf c.loop-at.invariant.some c.leaf-in-loop-at.ensures))));
    }
