use Rattle.std.proofs.Common.{◌≢◌, rules, refl, inl, arith}
use Rattle.mh_main.specs.Status.{write_failed}
use Rattle.mh_main.specs.Due.{forms_line, types_line}
use Rattle.mh_main.proofs.running.run_program.Goals as goal

pub returns-in-Ok-clause-report : goal.returns-in-Ok-clause-report
returns-in-Ok-clause-report g c = λ done. (
  c.in-Ok.report,
  (search rules, search rules, search rules, search rules),
  search rules,
)

pub returns-in-Ok-clause-broken : goal.returns-in-Ok-clause-broken
returns-in-Ok-clause-broken g c = λ failed. (
  c.in-Ok.report,
  inl (search rules, search rules, search rules, search rules),
  search rules,
)

pub returns-in-Err-FormsFull-clause-full : goal.returns-in-Err-FormsFull-clause-full
returns-in-Err-FormsFull-clause-full g c = λ full.
    let ok : c.answer_line.result.status ≢ write_failed = λ bad. omega (arith, full, bad) in
    (forms_line, (search rules, refl), rw c.as_bytes.ensures.value at c.answer_line.ensures.written ok)

pub returns-in-Err-TypesFull-clause-types : goal.returns-in-Err-TypesFull-clause-types
returns-in-Err-TypesFull-clause-types g c = λ full.
    let ok : c.answer_line-in-Err-TypesFull.result.status ≢ write_failed = λ bad. omega (arith, full, bad) in
    (types_line, (search rules, refl), rw c.as_bytes-in-Err-TypesFull.ensures.value at c.answer_line-in-Err-TypesFull.ensures.written ok)
