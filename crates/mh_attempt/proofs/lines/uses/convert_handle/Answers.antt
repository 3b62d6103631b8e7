use Rattle.std.proofs.Common.{◌∙◌, ap, arith, [], ◌∷◌}
use Rattle.mh_tree.specs.Typing.{type_of}
use Rattle.mh_tree.specs.Use.{used_by}
use Rattle.mh_handle.specs.declared.handle.Handle.{Handle}
use Rattle.mh_handle.proofs.obeying.Going.{goes_on-more}
use Rattle.mh_handle.proofs.obeying.Rooms.{goes_on-sum, ready-after}
use Rattle.mh_jobs.specs.Thrown.{◌>>=◌}
use Rattle.mh_link.specs.Operations.{use_of}
use Rattle.mh_attempt.specs.Recipes.{use_asked}
use Rattle.mh_attempt.proofs.types.Adding.{adds-then, holds-came}
use Rattle.mh_attempt.proofs.asked.AskedUses.{asks-use}
use Rattle.mh_attempt.proofs.nodes.MadeNodes.{of-refused, of-unmade}
use Rattle.mh_attempt.proofs.nodes.UsedNodes.{node-of-use, use-given, use-rule}
use Rattle.mh_attempt.proofs.types.UseTypes.{types-use}
use Rattle.mh_attempt.proofs.lines.uses.convert_handle.Goals as goal

pub returns-in_err-check_use : goal.returns-in_err-check_use
returns-in_err-check_use g c t stands =
    let w = c.args.w.now in
    let own = c.typed-own.ensures.typed t stands in
    let ty = c.typed-own.result.ty.now in
    of-refused (c.args.target.now ∷ []) w (use_of c.args.rules w.leaves.now t c.args.asked.now) (use_asked w.leaves.now t) _ c.in_err-check_use.field-0.0
    c.from_residual.result c.from_residual.ensures.1
    (ap (λ m. m >>= type_of w.leaves.now) (use-given c.args.rules w.leaves.now t ty c.args.asked.now own.typed)
    ∙ use-rule c.args.rules w.leaves.now _ t ty c.args.asked.now _ c.classes.ensures.classes own.typed own.weighed) c.in_err-check_use.ensures

pub returns-in_err-target : goal.returns-in_err-target
returns-in_err-target g c t stands =
    let w = c.args.w.now in
    let mid = c.make.new.w in
    let own = c.typed-own.ensures.typed t stands in
    let ty = c.typed-own.result.ty.now in
    of-unmade (c.args.target.now ∷ []) w (use_of c.args.rules w.leaves.now t c.args.asked.now) (use_asked w.leaves.now t) Handle mid (used_by
    c.args.rules ty c.args.asked.now t) _
    c.in_err-target.field-0.0 c.from_residual-in_err-target.result c.from_residual-in_err-target.ensures.1
    (use-given c.args.rules w.leaves.now t ty c.args.asked.now own.typed)
    (use-rule c.args.rules w.leaves.now _ t ty c.args.asked.now _ c.classes.ensures.classes own.typed own.weighed ∙ c.in_ok-check_use.ensures)
    (goes_on-more 1 4 w mid (omega arith) c.make.ensures.goes_on) c.in_err-target.ensures.types c.in_err-target.ensures.accepted
    c.in_err-target.ensures.asks c.in_err-target.ensures.asked

pub returns : goal.returns
returns g c t stands =
    let w = c.args.w.now in
    let mid = c.make.new.w in
    let new = c.use_by.new.w in
    let h = c.in_ok-target.target in
    let same = c.make.ensures.goes_on.leaves in
    let there = c.in_ok-target.ensures.stands t stands in
    let own = c.typed-own.ensures.typed t stands in
    let ty = c.typed-own.result.ty.now in
    let rule = use-rule c.args.rules w.leaves.now _ t ty c.args.asked.now _ c.classes.ensures.classes own.typed own.weighed ∙ c.in_ok-check_use.ensures in
    record {
      goes_on = goes_on-sum 1 1 4 w mid new (omega arith) c.make.ensures.goes_on c.use_by.ensures.goes_on;
      types = adds-then _ h.held w mid new c.use_by.result c.in_ok-target.ensures.types c.use_by.ensures.types;
      node = node-of-use c.args.rules w mid new t h ty c.args.asked.now _ c.use_by.result same there own.typed rule c.use_by.ensures.obeys
          (c.use_by.ensures.stands t);
      asks =
          λ u is. asks-use (c.args.target.now ∷ []) w mid new t h c.use_by.result same c.in_ok-target.ensures.asks there c.args.rules c.args.asked.now u is
          (c.use_by.ensures.makes t);
      asked =
          types-use (c.args.target.now ∷ []) w mid new t h _ c.use_by.result same there c.in_ok-target.ensures.asked c.args.rules ty c.args.asked.now
          _ own.typed rule
          c.use_by.ensures.types;
    }

pub use_by-requires-clause-ready : goal.use_by-requires-clause-ready
use_by-requires-clause-ready g c = ready-after 1 1 4 c.args.w.now c.make.new.w (omega arith) c.make.ensures.goes_on c.requires.ready

pub use_by-requires-clause-held : goal.use_by-requires-clause-held
use_by-requires-clause-held g c = holds-came c.in_ok-target.target.held c.args.w.now c.make.new.w c.in_ok-target.ensures.types
