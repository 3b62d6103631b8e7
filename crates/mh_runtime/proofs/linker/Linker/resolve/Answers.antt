use Rattle.mh_runtime.proofs.lanes.CallRoom.{room_left}
use Rattle.mh_runtime.proofs.asking.WorkPasses.{still-of}
use Rattle.mh_runtime.proofs.linker.Linker.resolve.Goals as goal

pub resolve-linkage-requires-clause-ready : goal.resolve-linkage-requires-clause-ready
resolve-linkage-requires-clause-ready g c =
    let is = c.requires.pass in
    let room = c.requires.room in
    record {
      leaves = is.leaves;
      linker_is = is.links;
      ready = record { of_table = is.forms; room = room.forms; of_types = is.types; holds = room.holds };
      serials = room.serials;
      constants = c.requires.constants;
    }

pub returns-clause-resolves : goal.returns-clause-resolves
returns-clause-resolves g c = c.resolve-linkage.ensures.resolves

pub returns-clause-pass : goal.returns-clause-pass
returns-clause-pass g c =
    still-of g.J.Run.given c.args.self.now 1 c.args.pass.now _ c.requires.pass c.resolve-linkage.ensures.resolves.goes_on

pub returns-clause-left : goal.returns-clause-left
returns-clause-left g c = room_left _ _ c.resolve-linkage.ensures.resolves.goes_on
