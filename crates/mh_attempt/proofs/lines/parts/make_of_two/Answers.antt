use Rattle.std.proofs.Common.{◌∙◌, sym, ap, refl, arith, [], ◌∷◌, ◌++◌, Ok}
use Rattle.mh_handle.specs.declared.handle.Handle.{Handle}
use Rattle.mh_handle.proofs.obeying.Going.{goes_on-more}
use Rattle.mh_handle.proofs.obeying.Rooms.{goes_on-sum, ready-after}
use Rattle.mh_attempt.specs.Nodes.{two_tree}
use Rattle.mh_attempt.proofs.types.Adding.{holds-came}
use Rattle.mh_attempt.proofs.nodes.LineNodes.{stands-yet}
use Rattle.mh_attempt.proofs.nodes.MadeNodes.{of-refused, of-ruled, of-unmade}
use Rattle.mh_attempt.proofs.nodes.NodeRules.{two-alone, two-ruled, typed-handle}
use Rattle.mh_attempt.proofs.lines.parts.make_of_two.Goals as goal

pub returns-in_err-ty : goal.returns-in_err-ty
returns-in_err-ty g c t p stands others =
    let w = c.args.w.now in
    of-refused (c.args.target.now ∷ c.args.part.now ∷ []) w (Ok (two_tree c.args.by t p)) (λ n. n ∷ []) _ c.in_err-ty.field-0.0 c.from_residual.result
    c.from_residual.ensures.1
    (two-ruled w.leaves.now _ c.args.by t p _ _ _ _ c.classes.ensures.classes (c.typed-own.ensures.typed t stands) (c.typed-other.ensures.typed p others))
    c.in_err-ty.ensures

pub returns-in_err-made : goal.returns-in_err-made
returns-in_err-made g c t p stands others =
    let w = c.args.w.now in
    let mid = c.make_both.new.w in
    let n = two_tree c.args.by t p in
    of-unmade (c.args.target.now ∷ c.args.part.now ∷ []) w (Ok n) (λ n. n ∷ []) (Handle × Handle) mid n _ c.in_err-made.field-0.0
    c.from_residual-in_err-made.result c.from_residual-in_err-made.ensures.1 refl
    (two-ruled w.leaves.now _ c.args.by t p _ _ _ _ c.classes.ensures.classes (c.typed-own.ensures.typed t stands) (c.typed-other.ensures.typed p others)
    ∙ c.in_ok-ty.ensures) (goes_on-more 2 4 w mid (omega arith) c.make_both.ensures.goes_on) c.in_err-made.ensures.types c.in_err-made.ensures.accepted
    c.in_err-made.ensures.asks c.in_err-made.ensures.asked

pub of_two-requires-clause-ruled : goal.of_two-requires-clause-ruled
of_two-requires-clause-ruled g c =
    let leaves = c.args.w.now.leaves.now in
    let t = c.requires.target.stands in
    let p = c.requires.part.stands in
    sym (two-ruled leaves _ c.args.by t.0 p.0 _ _ _ _ (ap (λ l. l.now.classes) c.make_both.ensures.goes_on.leaves)
    (typed-handle leaves c.in_ok-made.made.0 t.0 (c.in_ok-made.ensures.first t.0 t.1))
    (typed-handle leaves c.in_ok-made.made.1 p.0 (c.in_ok-made.ensures.second p.0 p.1)))
    ∙ (two-ruled leaves _ c.args.by t.0 p.0 _ _ _ _ c.classes.ensures.classes (c.typed-own.ensures.typed t.0 t.1) (c.typed-other.ensures.typed p.0 p.1)
    ∙ c.in_ok-ty.ensures)

pub returns : goal.returns
returns g c t p stands others =
    let w = c.args.w.now in
    let mid = c.make_both.new.w in
    let same = c.make_both.ensures.goes_on.leaves in
    let first = stands-yet w mid c.in_ok-made.made.0 t same (c.in_ok-made.ensures.first t stands) in
    let second = stands-yet w mid c.in_ok-made.made.1 p same (c.in_ok-made.ensures.second p others) in
    of-ruled (c.args.target.now ∷ c.args.part.now ∷ []) w mid c.of_two.new.w c.in_ok-ty.ty (c.in_ok-made.made.0.held ++ c.in_ok-made.made.1.held)
    c.of_two.result (goes_on-sum 2 1 4 w mid c.of_two.new.w (omega arith) c.make_both.ensures.goes_on c.of_two.ensures.goes_on) same
    c.in_ok-made.ensures.types c.in_ok-made.ensures.asks c.in_ok-made.ensures.asked (two_tree c.args.by t p) (two-alone c.args.by t p)
    (two-ruled w.leaves.now _ c.args.by t p _ _ _ _ c.classes.ensures.classes (c.typed-own.ensures.typed t stands) (c.typed-other.ensures.typed p others)
    ∙ c.in_ok-ty.ensures) c.of_two.ensures.accepted (c.of_two.ensures.makes t p first second) (c.of_two.ensures.stands t p first second)
    c.of_two.ensures.types

pub of_two-requires-clause-ready : goal.of_two-requires-clause-ready
of_two-requires-clause-ready g c = ready-after 2 1 4 c.args.w.now c.make_both.new.w (omega arith) c.make_both.ensures.goes_on c.requires.ready

pub of_two-requires-clause-held : goal.of_two-requires-clause-held
of_two-requires-clause-held g c =
    holds-came (c.in_ok-made.made.0.held ++ c.in_ok-made.made.1.held) c.args.w.now c.make_both.new.w c.in_ok-made.ensures.types
