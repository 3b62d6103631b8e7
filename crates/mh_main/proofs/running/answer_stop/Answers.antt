use Rattle.std.proofs.Common.{List, ℕ, subst}
use Rattle.std.specs.Io.KnownBytes.{Appends}
use Rattle.mh_outside.specs.Causes.{AppendsPart}
use Rattle.mh_main.proofs.Refusals.{unread-pieces, fault-pieces, place-pieces}
use Rattle.mh_main.proofs.running.answer_stop.Goals as goal

pub returns-in-ReadFault-clause-written : goal.returns-in-ReadFault-clause-written
returns-in-ReadFault-clause-written g c = λ ok spoken.
    rw c.in-ReadFault.is (subst (λ (l : List ℕ). Appends (g.S.Sink.taken c.args.sink.now) (g.S.Sink.taken c.answer_line.new.sink) l)
    (unread-pieces c.in-ReadFault.name.now) (rw c.as_bytes.ensures.value at c.answer_line.ensures.written ok))

pub returns-in-ReadFault-clause-broken : goal.returns-in-ReadFault-clause-broken
returns-in-ReadFault-clause-broken g c = λ failed.
    rw c.in-ReadFault.is (subst (λ (l : List ℕ). AppendsPart (g.S.Sink.taken c.args.sink.now) (g.S.Sink.taken c.answer_line.new.sink) l)
    (unread-pieces c.in-ReadFault.name.now) (rw c.as_bytes.ensures.value at c.answer_line.ensures.part failed))

pub returns-in-Place-clause-broken : goal.returns-in-Place-clause-broken
returns-in-Place-clause-broken g c = λ failed.
    rw c.in-Place.is (subst (λ (l : List ℕ). AppendsPart (g.S.Sink.taken c.args.sink.now) (g.S.Sink.taken c.answer_line-in-Place.new.sink) l)
    (place-pieces c.in-Place.name.now c.in-Place.at c.in-Place.kind.now)
    (rw (c.as_bytes-in-Place.ensures.value, c.as_bytes-in-Place-2.ensures.value, c.as_bytes-in-Place-3.ensures.value, c.format.ensures.text) at
    c.answer_line-in-Place.ensures.part failed))

pub returns-in-Fault-clause-broken : goal.returns-in-Fault-clause-broken
returns-in-Fault-clause-broken g c = λ failed.
    rw c.in-Fault.is (subst (λ (l : List ℕ). AppendsPart (g.S.Sink.taken c.args.sink.now) (g.S.Sink.taken c.answer_line-in-Fault.new.sink) l)
    (fault-pieces c.in-Fault.name.now c.in-Fault.line c.in-Fault.kind.now)
    (rw (c.as_bytes-in-Fault.ensures.value, c.as_bytes-in-Fault-2.ensures.value, c.as_bytes-in-Fault-3.ensures.value, c.format-in-Fault.ensures.text) at
    c.answer_line-in-Fault.ensures.part failed))
