use Rattle.std.proofs.Common.{◌∙◌, sym, refl, arith, [], ◌∷◌, ◌++◌, Ok}
use Rattle.mh_handle.specs.declared.handle.Handle.{Handle}
use Rattle.mh_handle.proofs.obeying.Going.{goes_on-more}
use Rattle.mh_handle.proofs.obeying.Rooms.{goes_on-sum, ready-after}
use Rattle.mh_attempt.specs.Nodes.{three_tree}
use Rattle.mh_attempt.proofs.types.Adding.{holds-came}
use Rattle.mh_attempt.proofs.nodes.LineNodes.{stands-yet}
use Rattle.mh_attempt.proofs.nodes.MadeNodes.{of-refused, of-ruled, of-unmade}
use Rattle.mh_attempt.proofs.nodes.NodeRules.{three-alone, three-ruled, typed-handle}
use Rattle.mh_attempt.proofs.lines.parts.make_of_three.Goals as goal

pub returns-in_err-ty : goal.returns-in_err-ty
returns-in_err-ty g c a t e tests stands others =
    let w = c.args.w.now in
    of-refused (c.args.parts.0.now ∷ c.args.parts.1.now ∷ c.args.parts.2.now ∷ []) w (Ok (three_tree c.args.by a t e)) (λ n. n ∷ []) _ c.in_err-ty.field-0.0
    c.from_residual.result c.from_residual.ensures.1
    (three-ruled w.leaves.now c.args.by a t e _ _ _ _ _ _ (c.typed-a.ensures.typed a tests) (c.typed-b.ensures.typed t stands)
    (c.typed-c.ensures.typed e others)) c.in_err-ty.ensures

pub returns-in_err-made : goal.returns-in_err-made
returns-in_err-made g c a t e tests stands others =
    let w = c.args.w.now in
    let mid = c.make_three.new.w in
    let n = three_tree c.args.by a t e in
    of-unmade (c.args.parts.0.now ∷ c.args.parts.1.now ∷ c.args.parts.2.now ∷ []) w (Ok n) (λ n. n ∷ []) (Handle × Handle × Handle) mid n _
    c.in_err-made.field-0.0 c.from_residual-in_err-made.result c.from_residual-in_err-made.ensures.1 refl
    (three-ruled w.leaves.now c.args.by a t e _ _ _ _ _ _ (c.typed-a.ensures.typed a tests) (c.typed-b.ensures.typed t stands)
    (c.typed-c.ensures.typed e others) ∙ c.in_ok-ty.ensures) (goes_on-more 3 4 w mid (omega arith) c.make_three.ensures.goes_on)
    c.in_err-made.ensures.types c.in_err-made.ensures.accepted c.in_err-made.ensures.asks c.in_err-made.ensures.asked

pub of_three-requires-clause-ruled : goal.of_three-requires-clause-ruled
of_three-requires-clause-ruled g c =
    let leaves = c.args.w.now.leaves.now in
    let a = c.requires.first.stands in
    let t = c.requires.second.stands in
    let e = c.requires.third.stands in
    sym (three-ruled leaves c.args.by a.0 t.0 e.0 _ _ _ _ _ _ (typed-handle leaves c.in_ok-made.made.0 a.0 (c.in_ok-made.ensures.first a.0 a.1))
    (typed-handle leaves c.in_ok-made.made.1 t.0 (c.in_ok-made.ensures.second t.0 t.1))
    (typed-handle leaves c.in_ok-made.made.2 e.0 (c.in_ok-made.ensures.third e.0 e.1)))
    ∙ (three-ruled leaves c.args.by a.0 t.0 e.0 _ _ _ _ _ _ (c.typed-a.ensures.typed a.0 a.1) (c.typed-b.ensures.typed t.0 t.1)
    (c.typed-c.ensures.typed e.0 e.1) ∙ c.in_ok-ty.ensures)

pub returns : goal.returns
returns g c a t e tests stands others =
    let w = c.args.w.now in
    let mid = c.make_three.new.w in
    let new = c.of_three.new.w in
    let same = c.make_three.ensures.goes_on.leaves in
    let x = stands-yet w mid c.in_ok-made.made.0 a same (c.in_ok-made.ensures.first a tests) in
    let y = stands-yet w mid c.in_ok-made.made.1 t same (c.in_ok-made.ensures.second t stands) in
    let z = stands-yet w mid c.in_ok-made.made.2 e same (c.in_ok-made.ensures.third e others) in
    of-ruled (c.args.parts.0.now ∷ c.args.parts.1.now ∷ c.args.parts.2.now ∷ []) w mid new c.in_ok-ty.ty
    (c.in_ok-made.made.0.held ++ c.in_ok-made.made.1.held ++ c.in_ok-made.made.2.held) c.of_three.result
    (goes_on-sum 3 1 4 w mid new (omega arith) c.make_three.ensures.goes_on c.of_three.ensures.goes_on) same
    c.in_ok-made.ensures.types c.in_ok-made.ensures.asks c.in_ok-made.ensures.asked (three_tree c.args.by a t e) (three-alone c.args.by a t e)
    (three-ruled w.leaves.now c.args.by a t e _ _ _ _ _ _ (c.typed-a.ensures.typed a tests) (c.typed-b.ensures.typed t stands)
    (c.typed-c.ensures.typed e others) ∙ c.in_ok-ty.ensures) c.of_three.ensures.accepted (c.of_three.ensures.makes a t e x y z)
    (c.of_three.ensures.stands a t e x y z) c.of_three.ensures.types

pub of_three-requires-clause-ready : goal.of_three-requires-clause-ready
of_three-requires-clause-ready g c = ready-after 3 1 4 c.args.w.now c.make_three.new.w (omega arith) c.make_three.ensures.goes_on c.requires.ready

pub of_three-requires-clause-held : goal.of_three-requires-clause-held
of_three-requires-clause-held g c =
    holds-came (c.in_ok-made.made.0.held ++ c.in_ok-made.made.1.held ++ c.in_ok-made.made.2.held) c.args.w.now c.make_three.new.w c.in_ok-made.ensures.types
