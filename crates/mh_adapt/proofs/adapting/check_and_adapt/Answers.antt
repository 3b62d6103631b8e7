use Rattle.mh_tree.specs.Adapters.{adapter_row}
use Rattle.mh_handle.specs.Works.{types_in}
use Rattle.mh_handle.proofs.obeying.Obeying.{given-obeys}
use Rattle.mh_handle.proofs.holding.Trading.{trades-checked, trades-row}
use Rattle.mh_adapt.proofs.adapting.check_and_adapt.Goals as goal

pub returns-in-Ok-clause-obeys : goal.returns-in-Ok-clause-obeys
returns-in-Ok-clause-obeys g c = given-obeys _ c.in-Ok.ty c.adapt.result c.in-Ok.ensures.tells c.adapt.ensures.accepted c.adapt.ensures.typed

pub returns-in-Ok-clause-types : goal.returns-in-Ok-clause-types
returns-in-Ok-clause-types g c =
    trades-row _ c.in-Ok.ty c.args.target.held c.args.w.now c.adapt.new.w c.adapt.result c.in-Ok.ensures.tells c.adapt.ensures.types

pub returns-clause-types : goal.returns-clause-types
returns-clause-types g c =
    trades-checked (types_in (adapter_row c.args.w.now.leaves.now.classes c.args.adapter c.args.target.ty c.args.target.weight)) c.args.target.held
    c.args.w.now c.refuse.new.w c.in-Err.error c.refuse.result c.refuse.ensures.error c.refuse.ensures.types
