use Rattle.std.proofs.Common.{◌∙◌, ap, sym, subst, [], ◌∷◌, length, arith}
use Rattle.mh_intern.specs.Exchanges.{AreHeld, Exchanges}
use Rattle.mh_handle.proofs.obeying.Going.{goes_on-after, makes-after, seated-still}
use Rattle.mh_branch.proofs.Trading.{held-same, ready-still, trades-parts, trades-short}
use Rattle.mh_more.specs.Several.{holds_of}
use Rattle.mh_more.proofs.Lists.{none-before}
use Rattle.mh_more.proofs.Rooting.{roots-made}
use Rattle.mh_more.proofs.several.make_rooted_of.Goals as goal

pub with_all-requires-clause-held : goal.with_all-requires-clause-held
with_all-requires-clause-held g c =
    subst (AreHeld c.args.w.now.seat.now)
    (sym (none-before c.new-none.result c.into_vec.result.items c.args.handles c.new-none.ensures c.into_vec.ensures)) c.requires.held

pub make_rooted-requires-clause-few : goal.make_rooted-requires-clause-few
make_rooted-requires-clause-few g c =
    let all = ap length (c.in_ok-parts.ensures.adds.held
    ∙ none-before c.new-none.result c.into_vec.result.items c.args.handles c.new-none.ensures c.into_vec.ensures) in
    omega (arith, all, c.requires.can.few)

pub make_rooted-requires-clause-ready : goal.make_rooted-requires-clause-ready
make_rooted-requires-clause-ready g c =
    ready-still 1 c.args.w.now c.with_all.new.w c.in_ok-parts.ensures.unchanged c.in_ok-parts.ensures.types c.requires.ready

pub make_rooted-requires-clause-held : goal.make_rooted-requires-clause-held
make_rooted-requires-clause-held g c =
    held-same c.in_ok-parts.parts.held (holds_of c.args.handles) c.args.w.now.seat.now c.with_all.new.w.seat.now c.in_ok-parts.ensures.types
    (c.in_ok-parts.ensures.adds.held
    ∙ none-before c.new-none.result c.into_vec.result.items c.args.handles c.new-none.ensures c.into_vec.ensures) c.requires.held

pub returns-clause-goes_on : goal.returns-clause-goes_on
returns-clause-goes_on g c =
    goes_on-after 1 c.args.w.now c.with_all.new.w c.make_rooted.new.w c.in_ok-parts.ensures.unchanged
    (seated-still c.args.w.now c.with_all.new.w c.in_ok-parts.ensures.types) c.make_rooted.ensures.goes_on

pub returns-clause-makes : goal.returns-clause-makes
returns-clause-makes g c =
    makes-after (c.args.root.key ∷ []) c.args.w.now c.with_all.new.w c.make_rooted.new.w c.make_rooted.result c.in_ok-parts.ensures.unchanged
    c.make_rooted.ensures.makes

pub returns-clause-roots : goal.returns-clause-roots
returns-clause-roots g c =
    roots-made c.args.root c.args.handles c.into_vec.result.items c.new-none.result c.in_ok-parts.parts c.make_rooted.result c.new-none.ensures
    c.into_vec.ensures c.in_ok-parts.ensures.adds c.make_rooted.ensures.grows

pub returns-clause-types : goal.returns-clause-types
returns-clause-types g c =
    trades-parts c.args.root.ty c.in_ok-parts.parts.held (holds_of c.args.handles) c.args.w.now c.with_all.new.w c.make_rooted.new.w c.make_rooted.result
    (c.in_ok-parts.ensures.adds.held
    ∙ none-before c.new-none.result c.into_vec.result.items c.args.handles c.new-none.ensures c.into_vec.ensures) c.in_ok-parts.ensures.types
    c.make_rooted.ensures.types

pub returns-in_err-parts-clause-types : goal.returns-in_err-parts-clause-types
returns-in_err-parts-clause-types g c =
    let same = none-before c.new-none.result c.into_vec.result.items c.args.handles c.new-none.ensures c.into_vec.ensures in
    let seat = c.args.w.now.seat.now in
    let new = c.with_all.new.w.seat.now in
    trades-short (c.args.root.ty ∷ []) (holds_of c.args.handles) c.args.w.now c.with_all.new.w c.from_residual.result c.from_residual.ensures.1
    (subst (λ l. Exchanges [] l [] seat new) same c.in_err-parts.ensures.types)
