-- What the calls of a thread leave of its pass, by what they leave of the work that borrows parts of it.
use Rattle.std.proofs.Common.{◌≡◌, ◌∙◌, ap, ℕ, ◌*◌, ◌<◌, List, length, take, get_or, arith}
use Rattle.mh_handle.specs.declared.work.Work.{Work}
use Rattle.mh_handle.specs.Works.{GoesOn}
use Rattle.mh_jobs.specs.Given.{Given}
use Rattle.mh_plan.specs.declared.call.Call.{Call}
use Rattle.mh_runtime.specs.declared.linker.Linker.{Linker}
use Rattle.mh_runtime.specs.declared.pass.Pass.{Pass}
use Rattle.mh_runtime.specs.Asking.{call_draws, thread_draws}
use Rattle.mh_runtime.specs.Attempts.{GoesOnLinking, HasRoomForConstants}
use Rattle.mh_runtime.specs.Linkers.{GoesOnCalling, IsOf, IsReadyFor, pass_in}
use Rattle.mh_runtime.specs.Passes.{LinkPass, LinkerView}
use Rattle.mh_runtime.proofs.lanes.Room.{calls-draw, ready-next}

module _ {J : Type 0} where
  pub goes-calling : (calls : ℕ) (old new : LinkPass) (w w' : Work) → GoesOnLinking calls old new → GoesOn (call_draws * calls) w w' →
      GoesOnCalling {J = J} calls (pass_in old w) (pass_in new w')
  goes-calling calls old new w w' links goes =
      record { links = links; table = goes.table; learnt = goes.learnt; room = goes.room; seat = goes.seat; holds = goes.holds }

  -- the pass is of the linker still
  pub still-of : (given : Given) (linker : Linker J) (calls : ℕ) (old new : Pass J) → IsOf given linker old → GoesOnCalling calls old new →
      IsOf given linker new
  still-of given linker calls old new is goes =
      record { leaves = is.leaves; links = goes.links.linker ∙ is.links; forms = goes.table ∙ is.forms; types = goes.seat ∙ is.types }

-- there is room for the next call
pub ready-for-next : (given : Given) (linker : LinkerView) (calls : List Call) (i : ℕ) (call : Call) (old mid : LinkPass) (w w' : Work) →
    i < length calls → call ≡ get_or calls i call → IsReadyFor given linker (length calls) old w → GoesOnLinking i old mid →
    GoesOn (thread_draws (take i calls)) w w' → HasRoomForConstants mid → IsReadyFor given linker 1 mid w'
ready-for-next given linker calls i call old mid w w' within is ready links goes constants = record {
  leaves = ap (λ leaves. leaves.now) goes.leaves ∙ ready.leaves;
  linker_is = links.linker ∙ ready.linker_is;
  ready = ready-next (λ call. call_draws) thread_draws calls-draw calls i call w w' within is ready.ready goes;
  serials = let room = links.room in let has = ready.serials in omega (arith, within, room, has);
  constants = constants;
}
