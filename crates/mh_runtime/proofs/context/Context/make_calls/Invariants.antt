use Rattle.std.proofs.Common.{◌≡◌, ◌≤◌, length, take}
use Rattle.std.specs.List.{flat_map}
use Rattle.mh_handle.specs.Works.{GoesOn}
use Rattle.mh_plan.specs.Naming.{sites_named}
use Rattle.mh_report.specs.Forms.{call_edits}
use Rattle.mh_report.specs.Results.{Serials, thread_said, thread_results, thread_keys_said}
use Rattle.mh_report.specs.Types.{call_types}
use Rattle.mh_runtime.specs.Asking.{HasAskedOn, HasRunOn, thread_draws}
use Rattle.mh_runtime.specs.Attempts.{AreLinked, AsksMore, AttemptsMore, GoesOnLinking, HasRoomForConstants, ResolvesForAttempts}
use Rattle.mh_runtime.specs.Keys.{thread_keys}
use Rattle.mh_runtime.specs.Linking.{KeepsOthers, StaysWhole}
use Rattle.mh_runtime.specs.Passes.{AttemptsUnlearnt, HasSerials}
use Rattle.mh_runtime.specs.Values.{AtLinks}
use Rattle.mh_runtime.proofs.context.Context.make_calls.Given as goal

abbrev pub invariant-loop-next : goal.invariant-loop-next
invariant-loop-next g l = record {
  within : l.next-index ≤ length l.next-items;
  count : length l.answers ≡ l.next-index;
  goes_on : GoesOn (thread_draws (take l.next-index l.next-items)) l.initial.w l.w;
  pass : GoesOnLinking l.next-index l.initial.pass l.pass;
  attempts : AttemptsMore (flat_map sites_named (take l.next-index l.next-items)) l.initial.pass l.pass;
  unlearnt : AttemptsUnlearnt l.initial.pass l.pass;
  linked : AreLinked l.pass.linked (flat_map sites_named (take l.next-index l.next-items));
  asks : AsksMore g.J.Run.given l.initial.pass l.pass;
  quiet : ResolvesForAttempts l.initial.pass l.pass;
  constants_room : HasRoomForConstants l.pass;
  seat : StaysWhole l.initial.w.seat.now l.w.seat.now;
  types : AtLinks g.J.Run.given l.pass (λ given. KeepsOthers given l.initial.pass.recorded l.pass.recorded l.initial.w l.w);
  results : AtLinks g.J.Run.given l.pass (λ given. (table : Serials) → HasSerials l.pass.linked table →
      thread_said l.answers ≡ thread_results given table (take l.next-index l.next-items));
  keys : AtLinks g.J.Run.given l.pass (λ given. (table : Serials) → HasSerials l.pass.linked table →
      thread_keys_said l.answers ≡ thread_keys given table (take l.next-index l.next-items));
  runs : AtLinks g.J.Run.given l.pass (λ given. HasRunOn given l.initial.pass.attempts l.pass.attempts
      (flat_map (call_edits g.J.Run.given.leaves) (take l.next-index l.next-items)) l.initial.w.pass.now l.w.pass.now);
  asked : AtLinks g.J.Run.given l.pass (λ given. HasAskedOn given l.initial.pass.attempts l.pass.attempts
      (flat_map (call_types g.J.Run.given.leaves) (take l.next-index l.next-items)) l.initial.w.seat.now l.w.seat.now);
}
