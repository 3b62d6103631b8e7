use Rattle.std.proofs.Common.{◌++◌}
use Rattle.mh_tree.specs.Rows.{switch_row}
use Rattle.mh_handle.specs.Works.{types_in}
use Rattle.mh_handle.proofs.obeying.Obeying.{given-obeys}
use Rattle.mh_handle.proofs.holding.Trading.{trades-checked, trades-row}
use Rattle.mh_more.specs.Several.{holds_of, own_types, weights_of}
use Rattle.mh_more.proofs.switches.switch.Goals as goal

pub returns-in-Ok-clause-obeys : goal.returns-in-Ok-clause-obeys
returns-in-Ok-clause-obeys g c = given-obeys _ c.in-Ok.ty c.switch_of.result c.in-Ok.ensures c.switch_of.ensures.accepted c.switch_of.ensures.typed

pub returns-in-Ok-clause-types : goal.returns-in-Ok-clause-types
returns-in-Ok-clause-types g c =
    trades-row _ c.in-Ok.ty (c.args.fallback.held ++ holds_of c.args.cases) c.args.w.now c.switch_of.new.w c.switch_of.result c.in-Ok.ensures
    c.switch_of.ensures.types

pub returns-in-Err-clause-types : goal.returns-in-Err-clause-types
returns-in-Err-clause-types g c =
    trades-checked (types_in (switch_row c.args.fallback.ty c.args.fallback.weight (own_types c.args.cases) (weights_of c.args.cases)))
    (c.args.fallback.held ++ holds_of c.args.cases) c.args.w.now c.refuse.new.w c.in-Err.error c.refuse.result c.refuse.ensures.error
    c.refuse.ensures.types
