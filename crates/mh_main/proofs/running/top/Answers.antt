use Rattle.std.proofs.Common.{◌≡◌, ◌≢◌, List, arith}
use Rattle.mh_classfile.specs.Class.{Class}
use Rattle.mh_listing.specs.Listing.{listing}
use Rattle.mh_words.specs.Options.{said}
use Rattle.mh_words.specs.Words.{command_of, run, sites, held_names}
use Rattle.mh_main.specs.Due.{AreAnswers, IsOutputOf}
use Rattle.mh_main.specs.Input.{AreListed}
use Rattle.mh_main.specs.Status.{write_failed}
use Rattle.mh_main.proofs.Answered.{RunEnds, StopEnds, run-ends, stop-ends}
use Rattle.mh_main.proofs.Asked.{run-asked, run-few, sites-asked}
use Rattle.mh_main.proofs.Endings.{due-of-listing, listed-of}
use Rattle.mh_main.proofs.Taken.{taken-there, taken-unrefused}
use Rattle.mh_main.proofs.running.top.Given as given
use Rattle.mh_main.proofs.running.top.Goals as goal

-- where a program was run, and where the reading of a run or of class files stopped
run-end : (g : given.Over) (c : goal.After-drop-names g) → RunEnds
    (said c.args.words.now) (g.I.Inputs.contents c.args.inputs.now) (g.I.Inputs.faults c.args.inputs.now) (g.I.Inputs.faults c.read_program.new.inputs)
    (g.S.Sink.taken c.args.sink.now) (g.S.Sink.taken c.run_program.new.sink)
    (g.S.Sink.faults c.args.sink.now) (g.S.Sink.faults c.run_program.new.sink) c.run_program.result
run-end g c =
    run-ends _ _ _ _ _ _ _ _ _ (run (held_names c.in-Run.names)) c.in-Ok-read_program.program
    (run-asked c.in-Ok.command c.in-Some.command c.in-Run.names (command_of (said c.args.words.now)) c.in-Ok.ensures.command c.in-Some.is c.in-Run.is)
    c.in-Ok-read_program.ensures.ok c.in-Ok-read_program.ensures.no_fault c.run_program.ensures.report c.run_program.ensures.answers c.run_program.ensures.full
    c.run_program.ensures.types c.run_program.ensures.broken c.run_program.ensures.status c.run_program.ensures.fails.failed

run-stop : (g : given.Over) (c : goal.After-drop-names-in-Run g) → StopEnds
    (said c.args.words.now) (g.I.Inputs.contents c.args.inputs.now) (g.I.Inputs.faults c.args.inputs.now) (g.I.Inputs.faults c.read_program.new.inputs)
    (g.S.Sink.taken c.args.sink.now) (g.S.Sink.taken c.answer_stop.new.sink)
    (g.S.Sink.faults c.args.sink.now) (g.S.Sink.faults c.answer_stop.new.sink) c.answer_stop.result
run-stop g c =
    stop-ends _ _ _ _ _ _ _ _ _ (run (held_names c.in-Run.names)) c.in-Err.stop
    (run-asked c.in-Ok.command c.in-Some.command c.in-Run.names (command_of (said c.args.words.now)) c.in-Ok.ensures.command c.in-Some.is c.in-Run.is)
    c.in-Err.ensures.stop c.in-Err.ensures.refuses c.answer_stop.ensures.idle c.answer_stop.ensures.status c.answer_stop.ensures.written
    c.answer_stop.ensures.broken c.answer_stop.ensures.spoken c.answer_stop.ensures.fails.failed

sites-stop : (g : given.Over) (c : goal.After-drop-names-in-Sites g) → StopEnds
    (said c.args.words.now) (g.I.Inputs.contents c.args.inputs.now) (g.I.Inputs.faults c.args.inputs.now) (g.I.Inputs.faults c.list_sites.new.inputs)
    (g.S.Sink.taken c.args.sink.now) (g.S.Sink.taken c.answer_stop-in-Err-list_sites.new.sink)
    (g.S.Sink.faults c.args.sink.now) (g.S.Sink.faults c.answer_stop-in-Err-list_sites.new.sink) c.answer_stop-in-Err-list_sites.result
sites-stop g c =
    stop-ends _ _ _ _ _ _ _ _ _ (sites (said c.in-Sites.names.items)) c.in-Err-list_sites.stop
    (sites-asked c.in-Ok.command c.in-Some.command c.in-Sites.names (command_of (said c.args.words.now)) c.in-Ok.ensures.command c.in-Some.is c.in-Sites.is)
    (rw c.deref.ensures.value at c.in-Err-list_sites.ensures.stop) (rw c.deref.ensures.value at c.in-Err-list_sites.ensures.refuses)
    c.answer_stop-in-Err-list_sites.ensures.idle c.answer_stop-in-Err-list_sites.ensures.status c.answer_stop-in-Err-list_sites.ensures.written
    c.answer_stop-in-Err-list_sites.ensures.broken c.answer_stop-in-Err-list_sites.ensures.spoken c.answer_stop-in-Err-list_sites.ensures.fails.failed

pub read_program-requires : goal.read_program-requires
read_program-requires g c = run-few c.in-Ok.command c.in-Some.command c.in-Run.names c.in-Ok.ensures.within c.in-Some.is c.in-Run.is

pub returns-in-Ok-read_program-clause-headline : goal.returns-in-Ok-read_program-clause-headline
returns-in-Ok-read_program-clause-headline g c = (run-end g c).headline

pub returns-in-Ok-read_program-clause-answers : goal.returns-in-Ok-read_program-clause-answers
returns-in-Ok-read_program-clause-answers g c = (run-end g c).answers

pub returns-in-Ok-read_program-clause-full : goal.returns-in-Ok-read_program-clause-full
returns-in-Ok-read_program-clause-full g c = (run-end g c).full

pub returns-in-Ok-read_program-clause-types : goal.returns-in-Ok-read_program-clause-types
returns-in-Ok-read_program-clause-types g c = (run-end g c).types

pub returns-in-Ok-read_program-clause-broken : goal.returns-in-Ok-read_program-clause-broken
returns-in-Ok-read_program-clause-broken g c = (run-end g c).broken

pub returns-in-Ok-read_program-clause-refusal_wanted : goal.returns-in-Ok-read_program-clause-refusal_wanted
returns-in-Ok-read_program-clause-refusal_wanted g c = (run-end g c).refusal_wanted

pub returns-in-Ok-read_program-clause-complete : goal.returns-in-Ok-read_program-clause-complete
returns-in-Ok-read_program-clause-complete g c = (run-end g c).complete

pub returns-in-Ok-read_program-clause-unread_wanted : goal.returns-in-Ok-read_program-clause-unread_wanted
returns-in-Ok-read_program-clause-unread_wanted g c = (run-end g c).unread_wanted

pub returns-in-Run-clause-refusal : goal.returns-in-Run-clause-refusal
returns-in-Run-clause-refusal g c = (run-stop g c).refusal

pub returns-in-Run-clause-unreadable : goal.returns-in-Run-clause-unreadable
returns-in-Run-clause-unreadable g c = (run-stop g c).unreadable

pub returns-in-Run-clause-broken : goal.returns-in-Run-clause-broken
returns-in-Run-clause-broken g c = (run-stop g c).broken

pub returns-in-Run-clause-refusal_wanted : goal.returns-in-Run-clause-refusal_wanted
returns-in-Run-clause-refusal_wanted g c = (run-stop g c).refusal_wanted

pub returns-in-Run-clause-complete : goal.returns-in-Run-clause-complete
returns-in-Run-clause-complete g c = (run-stop g c).complete

pub returns-in-Run-clause-unread_wanted : goal.returns-in-Run-clause-unread_wanted
returns-in-Run-clause-unread_wanted g c = (run-stop g c).unread_wanted

pub returns-in-Sites-clause-refusal : goal.returns-in-Sites-clause-refusal
returns-in-Sites-clause-refusal g c = (sites-stop g c).refusal

pub returns-in-Sites-clause-unreadable : goal.returns-in-Sites-clause-unreadable
returns-in-Sites-clause-unreadable g c = (sites-stop g c).unreadable

pub returns-in-Sites-clause-broken : goal.returns-in-Sites-clause-broken
returns-in-Sites-clause-broken g c = (sites-stop g c).broken

pub returns-in-Sites-clause-refusal_wanted : goal.returns-in-Sites-clause-refusal_wanted
returns-in-Sites-clause-refusal_wanted g c = (sites-stop g c).refusal_wanted

pub returns-in-Sites-clause-complete : goal.returns-in-Sites-clause-complete
returns-in-Sites-clause-complete g c = (sites-stop g c).complete

pub returns-in-Sites-clause-unread_wanted : goal.returns-in-Sites-clause-unread_wanted
returns-in-Sites-clause-unread_wanted g c = (sites-stop g c).unread_wanted

pub returns-in-Ok-list_sites-clause-headline : goal.returns-in-Ok-list_sites-clause-headline
returns-in-Ok-list_sites-clause-headline g c = λ done.
    let spoken : c.answer_listing.result.status ≢ write_failed = λ bad. omega (arith, done, bad) in (
      c.in-Ok-list_sites.text.items,
      listed-of (said c.args.words.now) (g.I.Inputs.contents c.args.inputs.now) (said c.in-Sites.names.items)
          (λ (classes : List Class). c.in-Ok-list_sites.text.items ≡ listing classes)
          (λ a. IsOutputOf a c.answer_listing.result c.in-Ok-list_sites.text.items) (λ classes same. (c.answer_listing.ensures.idle, same))
          (sites-asked c.in-Ok.command c.in-Some.command c.in-Sites.names _ c.in-Ok.ensures.command c.in-Some.is c.in-Sites.is)
          (rw c.deref.ensures.value at c.in-Ok-list_sites.ensures.ok),
      rw c.deref-in-Ok-list_sites.ensures.value at c.answer_listing.ensures.written spoken,
    )

pub returns-in-Ok-list_sites-clause-answers : goal.returns-in-Ok-list_sites-clause-answers
returns-in-Ok-list_sites-clause-answers g c = λ done.
    listed-of (said c.args.words.now) (g.I.Inputs.contents c.args.inputs.now) (said c.in-Sites.names.items) (λ cs. c.in-Ok-list_sites.text.items ≡ listing cs)
    (λ a. AreAnswers a c.answer_listing.result) (λ classes same. c.answer_listing.ensures.idle.2)
    (sites-asked c.in-Ok.command c.in-Some.command c.in-Sites.names (command_of (said c.args.words.now)) c.in-Ok.ensures.command c.in-Some.is c.in-Sites.is)
    (rw c.deref.ensures.value at c.in-Ok-list_sites.ensures.ok)

pub returns-in-Ok-list_sites-clause-broken : goal.returns-in-Ok-list_sites-clause-broken
returns-in-Ok-list_sites-clause-broken g c = λ failed. (
  c.in-Ok-list_sites.text.items,
  due-of-listing (said c.args.words.now) (g.I.Inputs.contents c.args.inputs.now) (g.I.Inputs.faults c.args.inputs.now)
      (g.I.Inputs.faults c.list_sites.new.inputs) c.answer_listing.result (said c.in-Sites.names.items) c.in-Ok-list_sites.text.items
      (sites-asked c.in-Ok.command c.in-Some.command c.in-Sites.names (command_of (said c.args.words.now)) c.in-Ok.ensures.command c.in-Some.is c.in-Sites.is)
      (rw c.deref.ensures.value at c.in-Ok-list_sites.ensures.ok) c.in-Ok-list_sites.ensures.no_fault c.answer_listing.ensures.idle,
  rw c.deref-in-Ok-list_sites.ensures.value at c.answer_listing.ensures.part failed,
)

pub returns-in-Ok-list_sites-clause-refusal_wanted : goal.returns-in-Ok-list_sites-clause-refusal_wanted
returns-in-Ok-list_sites-clause-refusal_wanted g c = λ wanted still quiet.
    absurd (taken-unrefused (command_of (said c.args.words.now)) (sites (said c.in-Sites.names.items)) (g.I.Inputs.contents c.args.inputs.now)
    (AreListed (λ (classes : List Class). c.in-Ok-list_sites.text.items ≡ listing classes))
    (sites-asked c.in-Ok.command c.in-Some.command c.in-Sites.names (command_of (said c.args.words.now)) c.in-Ok.ensures.command c.in-Some.is c.in-Sites.is)
    (rw c.deref.ensures.value at c.in-Ok-list_sites.ensures.ok) wanted)

pub returns-in-Ok-list_sites-clause-unread_wanted : goal.returns-in-Ok-list_sites-clause-unread_wanted
returns-in-Ok-list_sites-clause-unread_wanted g c = λ missing quiet.
    absurd (taken-there (command_of (said c.args.words.now)) (sites (said c.in-Sites.names.items)) (g.I.Inputs.contents c.args.inputs.now)
    (AreListed (λ (classes : List Class). c.in-Ok-list_sites.text.items ≡ listing classes))
    (sites-asked c.in-Ok.command c.in-Some.command c.in-Sites.names (command_of (said c.args.words.now)) c.in-Ok.ensures.command c.in-Some.is c.in-Sites.is)
    (rw c.deref.ensures.value at c.in-Ok-list_sites.ensures.ok) missing)
