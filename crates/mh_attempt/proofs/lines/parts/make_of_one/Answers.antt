use Rattle.std.proofs.Common.{◌∙◌, sym, ap, refl, arith, [], ◌∷◌, Ok}
use Rattle.mh_handle.specs.declared.handle.Handle.{Handle}
use Rattle.mh_handle.proofs.obeying.Going.{goes_on-more}
use Rattle.mh_handle.proofs.obeying.Rooms.{goes_on-sum, ready-after}
use Rattle.mh_attempt.specs.Nodes.{one_tree}
use Rattle.mh_attempt.proofs.types.Adding.{holds-came}
use Rattle.mh_attempt.proofs.nodes.LineNodes.{stands-yet}
use Rattle.mh_attempt.proofs.nodes.MadeNodes.{of-refused, of-ruled, of-unmade}
use Rattle.mh_attempt.proofs.nodes.NodeRules.{one-alone, one-ruled, typed-handle}
use Rattle.mh_attempt.proofs.lines.parts.make_of_one.Goals as goal

pub returns-in_err-ty : goal.returns-in_err-ty
returns-in_err-ty g c t stands =
    let w = c.args.w.now in
    of-refused (c.args.target.now ∷ []) w (Ok (one_tree c.args.by t)) (λ n. n ∷ []) _ c.in_err-ty.field-0.0 c.from_residual.result c.from_residual.ensures.1
    (one-ruled w.leaves.now _ c.args.by t _ _ c.classes.ensures.classes (c.typed-own.ensures.typed t stands)) c.in_err-ty.ensures

pub returns-in_err-target : goal.returns-in_err-target
returns-in_err-target g c t stands =
    let w = c.args.w.now in
    let mid = c.make.new.w in
    let n = one_tree c.args.by t in
    of-unmade (c.args.target.now ∷ []) w (Ok n) (λ n. n ∷ []) Handle mid n _ c.in_err-target.field-0.0
    c.from_residual-in_err-target.result c.from_residual-in_err-target.ensures.1 refl
    (one-ruled w.leaves.now _ c.args.by t _ _ c.classes.ensures.classes (c.typed-own.ensures.typed t stands) ∙ c.in_ok-ty.ensures)
    (goes_on-more 1 4 w mid (omega arith) c.make.ensures.goes_on) c.in_err-target.ensures.types c.in_err-target.ensures.accepted
    c.in_err-target.ensures.asks c.in_err-target.ensures.asked

pub of_one-requires-clause-ruled : goal.of_one-requires-clause-ruled
of_one-requires-clause-ruled g c =
    let leaves = c.args.w.now.leaves.now in
    let t = c.requires.target.stands in
    sym (one-ruled leaves _ c.args.by t.0 _ _ (ap (λ l. l.now.classes) c.make.ensures.goes_on.leaves)
    (typed-handle leaves c.in_ok-target.target t.0 (c.in_ok-target.ensures.stands t.0 t.1)))
    ∙ (one-ruled leaves _ c.args.by t.0 _ _ c.classes.ensures.classes (c.typed-own.ensures.typed t.0 t.1) ∙ c.in_ok-ty.ensures)

pub returns : goal.returns
returns g c t stands =
    let w = c.args.w.now in
    let mid = c.make.new.w in
    let same = c.make.ensures.goes_on.leaves in
    let there = stands-yet w mid c.in_ok-target.target t same (c.in_ok-target.ensures.stands t stands) in
    of-ruled (c.args.target.now ∷ []) w mid c.of_one.new.w c.in_ok-ty.ty c.in_ok-target.target.held c.of_one.result
    (goes_on-sum 1 1 4 w mid c.of_one.new.w (omega arith) c.make.ensures.goes_on c.of_one.ensures.goes_on) same
    c.in_ok-target.ensures.types c.in_ok-target.ensures.asks c.in_ok-target.ensures.asked (one_tree c.args.by t) (one-alone c.args.by t)
    (one-ruled w.leaves.now _ c.args.by t _ _ c.classes.ensures.classes (c.typed-own.ensures.typed t stands) ∙ c.in_ok-ty.ensures)
    c.of_one.ensures.accepted (c.of_one.ensures.makes t there) (c.of_one.ensures.stands t there) c.of_one.ensures.types

pub of_one-requires-clause-ready : goal.of_one-requires-clause-ready
of_one-requires-clause-ready g c = ready-after 1 1 4 c.args.w.now c.make.new.w (omega arith) c.make.ensures.goes_on c.requires.ready

pub of_one-requires-clause-held : goal.of_one-requires-clause-held
of_one-requires-clause-held g c = holds-came c.in_ok-target.target.held c.args.w.now c.make.new.w c.in_ok-target.ensures.types
