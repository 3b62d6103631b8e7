use Rattle.std.proofs.Common.{◌≡◌, sym, ◌∙◌, ap₂, subst, List, [], ◌∷◌, ◌++◌, Option, ◌<◌, length, Some, arith, rules}
use Rattle.std.specs.Prelude.{option_map}
use Rattle.std.proofs.lemmas.Option.{slice_get_read}
use Rattle.mh_condy.specs.Nodes.{Nodes, node_in}
use Rattle.mh_condy.specs.Recorded.{ConstView}
use Rattle.mh_report.specs.declared.table.ConstRow.{ConstRow}
use Rattle.mh_runtime.specs.Report.{row_in}
use Rattle.mh_runtime.proofs.constants.RecordedRows.{put-all, put-more, put-none, rows-more}
use Rattle.mh_runtime.proofs.recording.rows.Goals as goal

pub loop-c-init : goal.loop-c-init
loop-c-init g c = record { rows = search rules; own = put-none c.args.pass.now }

pub loop-c-preserved : goal.loop-c-preserved
loop-c-preserved g c =
    let known : Nodes = c.args.pass.now.known in
    let number : c.in_ok-number.number ≡ c.loop-c.c = search rules in
    let inside : c.loop-c.c < length g.J.ConstRun.run.jobs = omega (arith, c.constants-c-end.ensures.constants, c.loop-c-test.true) in
    let within : c.loop-c.c < length known = omega (arith, inside, c.constants-c-end.ensures.known) in
    record {
      rows = c.in_ok-push.ensures.ok
          ∙ (ap₂ (λ (rows : List (Option ConstRow)) entry. rows ++ entry ∷ []) c.loop-c.invariant.rows
          (subst (λ k. c.in_ok-row.field-0 ≡ option_map row_in (node_in known k)) number c.in_ok-row.ensures.row)
          ∙ sym (rows-more known c.loop-c.c within));
      own = put-more c.args.pass.now c.in_ok-makers.makers.items c.loop-c.c c.index.result.now c.in_ok-makers.ensures.own
          (slice_get_read c.in_ok-makers.makers.items (length g.J.ConstRun.run.jobs) c.loop-c.c c.index.result.now (sym c.in_ok-makers.ensures.count) inside
          c.index.ensures)
          (subst (λ k. (node : ConstView) → node_in known k ≡ Some node → c.index.result.now ≡ Some node.serial) number c.in_ok-row.ensures.own)
          c.loop-c.invariant.own;
    }

pub returns-clause-own : goal.returns-clause-own
returns-clause-own g c =
    put-all c.args.pass.now c.loop-c.c (omega (arith, c.constants-c-end.ensures.constants, c.constants-c-end.ensures.known, c.loop-c-test.false))
    c.loop-c.invariant.own
