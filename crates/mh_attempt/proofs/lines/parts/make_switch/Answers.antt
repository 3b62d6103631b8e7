use Rattle.std.proofs.Common.{◌∙◌, sym, ap, refl, arith, [], ◌∷◌, ◌++◌, Ok}
use Rattle.mh_tree.specs.Tree as tree
use Rattle.mh_handle.proofs.obeying.Going.{goes_on-more}
use Rattle.mh_handle.proofs.obeying.Rooms.{goes_on-sum, ready-after, ready-less}
use Rattle.mh_more.specs.declared.switches.Switched.{Switched}
use Rattle.mh_more.specs.Several.{holds_of}
use Rattle.mh_attempt.proofs.types.Adding.{holds-came}
use Rattle.mh_attempt.proofs.nodes.LineNodes.{stands-yet}
use Rattle.mh_attempt.proofs.nodes.MadeNodes.{of-refused, of-ruled, of-unmade}
use Rattle.mh_attempt.proofs.nodes.SwitchNodes.{all-stand, cases-yet, switch-alike, switch-light, switch-ruled}
use Rattle.mh_attempt.proofs.lines.parts.make_switch.Goals as goal

pub switch_type-requires-clause-cases : goal.switch_type-requires-clause-cases
switch_type-requires-clause-cases g c = all-stand c.args.w.now.leaves.now c.args.w.now.seat.now c.args.cases.now c.requires.cases

pub returns-in_err-ty : goal.returns-in_err-ty
returns-in_err-ty g c t ts stands stand =
    let w = c.args.w.now in
    of-refused (c.args.fallback.now ∷ c.args.cases.now) w (Ok (tree.Switch t ts)) (λ n. n ∷ []) _ c.in_err-ty.field-0.0 c.from_residual.result
    c.from_residual.ensures.1 refl (c.in_err-ty.ensures t ts stands stand)

pub make_cases-requires-clause-ready : goal.make_cases-requires-clause-ready
make_cases-requires-clause-ready g c = ready-less c.args.w.now 4 3 (omega arith) c.requires.ready

pub make_cases-requires-clause-alike : goal.make_cases-requires-clause-alike
make_cases-requires-clause-alike g c =
    let leaves = c.args.w.now.leaves.now in
    let t = c.requires.fallback.stands in
    let ts = all-stand leaves c.args.w.now.seat.now c.args.cases.now c.requires.cases in
    switch-alike leaves c.args.fallback.now c.args.cases.now t.0 ts.0 c.in_ok-ty.ty t.1 ts.1 (c.in_ok-ty.ensures t.0 ts.0 t.1 ts.1)

pub make_cases-requires-clause-light : goal.make_cases-requires-clause-light
make_cases-requires-clause-light g c =
    let leaves = c.args.w.now.leaves.now in
    let t = c.requires.fallback.stands in
    let ts = all-stand leaves c.args.w.now.seat.now c.args.cases.now c.requires.cases in
    switch-light leaves c.args.fallback.now c.args.cases.now t.0 ts.0 c.in_ok-ty.ty t.1 ts.1 (c.in_ok-ty.ensures t.0 ts.0 t.1 ts.1)

pub returns-in_err-made : goal.returns-in_err-made
returns-in_err-made g c t ts stands stand =
    let w = c.args.w.now in
    let mid = c.make_cases.new.w in
    let n = tree.Switch t ts in
    of-unmade (c.args.fallback.now ∷ c.args.cases.now) w (Ok n) (λ n. n ∷ []) Switched mid n c.in_ok-ty.ty c.in_err-made.field-0.0
    c.from_residual-in_err-made.result c.from_residual-in_err-made.ensures.1 refl (c.in_ok-ty.ensures t ts stands stand)
    (goes_on-more 1 4 w mid (omega arith) c.make_cases.ensures.goes_on) c.in_err-made.ensures.types c.in_err-made.ensures.accepted
    c.in_err-made.ensures.asks c.in_err-made.ensures.asked

pub switch_of-requires-clause-ruled : goal.switch_of-requires-clause-ruled
switch_of-requires-clause-ruled g c =
    let leaves = c.args.w.now.leaves.now in
    let t = c.requires.fallback.stands in
    let ts = all-stand leaves c.args.w.now.seat.now c.args.cases.now c.requires.cases in
    let made = c.in_ok-made.made in
    sym (switch-ruled leaves made.fallback made.cases t.0 ts.0 (c.in_ok-made.ensures.fallback t.0 t.1) (c.in_ok-made.ensures.cases ts.0 ts.1))
    ∙ c.in_ok-ty.ensures t.0 ts.0 t.1 ts.1

pub switch_of-requires-clause-ready : goal.switch_of-requires-clause-ready
switch_of-requires-clause-ready g c = ready-after 1 1 4 c.args.w.now c.make_cases.new.w (omega arith) c.make_cases.ensures.goes_on c.requires.ready

pub switch_of-requires-clause-held : goal.switch_of-requires-clause-held
switch_of-requires-clause-held g c =
    holds-came (c.in_ok-made.made.fallback.held ++ holds_of c.in_ok-made.made.cases) c.args.w.now c.make_cases.new.w c.in_ok-made.ensures.types

pub returns : goal.returns
returns g c t ts stands stand =
    let w = c.args.w.now in
    let mid = c.make_cases.new.w in
    let new = c.switch_of.new.w in
    let made = c.in_ok-made.made in
    let same = c.make_cases.ensures.goes_on.leaves in
    let x = stands-yet w mid made.fallback t same (c.in_ok-made.ensures.fallback t stands) in
    let y = cases-yet w.leaves.now mid.leaves.now made.cases ts (ap (λ l. l.now) same) (c.in_ok-made.ensures.cases ts stand) in
    of-ruled (c.args.fallback.now ∷ c.args.cases.now) w mid new c.in_ok-ty.ty (made.fallback.held ++ holds_of made.cases) c.switch_of.result
    (goes_on-sum 1 1 4 w mid new (omega arith) c.make_cases.ensures.goes_on c.switch_of.ensures.goes_on) same c.in_ok-made.ensures.types
    c.in_ok-made.ensures.asks c.in_ok-made.ensures.asked (tree.Switch t ts) refl (c.in_ok-ty.ensures t ts stands stand) c.switch_of.ensures.accepted
    (c.switch_of.ensures.makes t ts x y) (c.switch_of.ensures.stands t ts x y) c.switch_of.ensures.types
