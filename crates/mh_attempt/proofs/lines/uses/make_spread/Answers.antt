use Rattle.std.proofs.Common.{◌∙◌, arith, [], ◌∷◌}
use Rattle.mh_tree.specs.Tree as tree
use Rattle.mh_tree.specs.Use.{items_used_as}
use Rattle.mh_handle.specs.declared.handle.Handle.{Handle}
use Rattle.mh_handle.proofs.obeying.Going.{goes_on-more}
use Rattle.mh_handle.proofs.obeying.Rooms.{goes_on-sum, ready-after}
use Rattle.mh_link.specs.Operations.{spread_of}
use Rattle.mh_attempt.specs.Recipes.{spread_asked}
use Rattle.mh_attempt.proofs.types.Adding.{adds-then, holds-came}
use Rattle.mh_attempt.proofs.asked.AskedUses.{asks-spread}
use Rattle.mh_attempt.proofs.nodes.MadeNodes.{of-refused, of-unmade}
use Rattle.mh_attempt.proofs.nodes.SpreadNodes.{node-of-spread, spread-is, spread-rule}
use Rattle.mh_attempt.proofs.types.UseTypes.{types-spread}
use Rattle.mh_attempt.proofs.lines.uses.make_spread.Goals as goal

pub returns-in_err-check_spread_use : goal.returns-in_err-check_spread_use
returns-in_err-check_spread_use g c t stands =
    let w = c.args.w.now in
    let own = c.typed-own.ensures.typed t stands in
    of-refused (c.args.target.now ∷ []) w (spread_of w.leaves.now t c.args.array c.args.count) (spread_asked w.leaves.now t) _
    c.in_err-check_spread_use.field-0.0 c.from_residual.result c.from_residual.ensures.1
    (spread-rule w.leaves.now t c.typed-own.result.ty.now c.args.array c.args.count own.typed _ _ c.classes.ensures.classes own.weighed)
    c.in_err-check_spread_use.ensures

pub returns-in_err-target : goal.returns-in_err-target
returns-in_err-target g c t stands =
    let w = c.args.w.now in
    let mid = c.make.new.w in
    let own = c.typed-own.ensures.typed t stands in
    let ty = c.typed-own.result.ty.now in
    let is = spread-is w.leaves.now t ty c.args.array c.args.count own.typed _
    (spread-rule w.leaves.now t ty c.args.array c.args.count own.typed _ _ c.classes.ensures.classes own.weighed ∙ c.in_ok-check_spread_use.ensures) in
    of-unmade (c.args.target.now ∷ []) w (spread_of w.leaves.now t c.args.array c.args.count) (spread_asked w.leaves.now t) Handle mid
    (tree.Spread (items_used_as ty c.args.array c.args.count t) c.args.array c.args.count) _ c.in_err-target.field-0.0
    c.from_residual-in_err-target.result c.from_residual-in_err-target.ensures.1 is.0 is.1 (goes_on-more 1 4 w mid (omega arith) c.make.ensures.goes_on)
    c.in_err-target.ensures.types c.in_err-target.ensures.accepted c.in_err-target.ensures.asks c.in_err-target.ensures.asked

pub returns : goal.returns
returns g c t stands =
    let w = c.args.w.now in
    let mid = c.make.new.w in
    let new = c.spread.new.w in
    let h = c.in_ok-target.target in
    let same = c.make.ensures.goes_on.leaves in
    let there = c.in_ok-target.ensures.stands t stands in
    let own = c.typed-own.ensures.typed t stands in
    let rule = spread-rule w.leaves.now t c.typed-own.result.ty.now c.args.array c.args.count own.typed _ _ c.classes.ensures.classes own.weighed
    ∙ c.in_ok-check_spread_use.ensures in
    record {
      goes_on = goes_on-sum 1 2 4 w mid new (omega arith) c.make.ensures.goes_on c.spread.ensures.goes_on;
      types = adds-then _ h.held w mid new c.spread.result c.in_ok-target.ensures.types c.spread.ensures.types;
      node = node-of-spread w mid new t h c.args.array c.args.count _ c.spread.result same there rule c.spread.ensures.obeys (c.spread.ensures.stands t);
      asks =
          λ s is. asks-spread (c.args.target.now ∷ []) w mid new t h c.spread.result same c.in_ok-target.ensures.asks there c.args.array c.args.count s is
          (c.spread.ensures.makes t);
      asked =
          types-spread (c.args.target.now ∷ []) w mid new t h _ c.spread.result same there c.in_ok-target.ensures.asked c.args.array c.args.count _ rule
          c.spread.ensures.types;
    }

pub spread-requires-clause-ready : goal.spread-requires-clause-ready
spread-requires-clause-ready g c = ready-after 1 2 4 c.args.w.now c.make.new.w (omega arith) c.make.ensures.goes_on c.requires.ready

pub spread-requires-clause-held : goal.spread-requires-clause-held
spread-requires-clause-held g c = holds-came c.in_ok-target.target.held c.args.w.now c.make.new.w c.in_ok-target.ensures.types
