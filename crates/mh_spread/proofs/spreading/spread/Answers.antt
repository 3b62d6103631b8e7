use Rattle.std.proofs.Common.{◌≡◌, refl, sym, subst, ap, ◌∙◌, ℕ, ◌+◌, ◌≤◌, [], ◌∷◌, ◌++◌, append-nil, length, arith, Err}
use Rattle.mh_values.specs.Array.{item_type}
use Rattle.mh_intern.proofs.Exchanging.{held-came}
use Rattle.mh_form.specs.Erasure.{basic_of}
use Rattle.mh_edit.specs.declared.key.Key.TheVariants as key
use Rattle.mh_tree.specs.Use.{items_used_as, used_as}
use Rattle.mh_handle.specs.Parts.{PartsView}
use Rattle.mh_handle.specs.Recipe.{recipe}
use Rattle.mh_handle.specs.Works.{HoldsTypes, TradesTypes}
use Rattle.mh_handle.proofs.obeying.Going.{goes_on-both}
use Rattle.mh_handle.proofs.holding.Trading.{trades-checked}
use Rattle.mh_astype.specs.Use.{MakesFrom, used_types}
use Rattle.mh_spread.specs.Spreading.{spread_types}
use Rattle.mh_spread.proofs.SpreadCall.{call-fits, call-light, call-makes, call-obeys, call-shaped, call-sides, call-stands}
use Rattle.mh_spread.proofs.SpreadRules.{items-are, ready-left, spreading-refused, spreading-row, types-are, used-error}
use Rattle.mh_spread.proofs.SpreadEdits.{makes-first, makes-none}
use Rattle.mh_branch.proofs.Trading.{trades-first, trades-then}
use Rattle.mh_spread.proofs.spreading.spread.Goals as goal

pub returns-in_err-used-clause-obeys : goal.returns-in_err-used-clause-obeys
returns-in_err-used-clause-obeys g c =
    let found = c.in-Ok.ensures.tells in
    used-error c.args.w.now.leaves.now.classes c.args.target.ty c.args.target.weight c.args.array c.args.count c.in-Ok.spreading.own
    c.in-Ok.spreading.asked c.in_err-used.field-0.0
    c.from_residual.result (spreading-row c.args.w.now.leaves.now.classes c.args.target.ty c.args.target.weight c.args.array c.args.count
    c.in-Ok.spreading found) found.used c.in_err-used.ensures.obeys c.from_residual.ensures.1

pub returns-in-Err-clause-obeys : goal.returns-in-Err-clause-obeys
returns-in-Err-clause-obeys g c =
    spreading-refused c.args.w.now.leaves.now.classes c.args.target.ty c.args.target.weight c.args.array c.args.count c.in-Err.error c.refuse.result
    c.in-Err.ensures.tells c.refuse.ensures.error

pub returns-in-Err-clause-makes : goal.returns-in-Err-clause-makes
returns-in-Err-clause-makes g c a st =
    makes-none c.args.target.ty c.args.array c.args.count a c.args.w.now c.refuse.new.w c.in-Err.error c.refuse.result c.refuse.ensures.error
    c.refuse.ensures.unchanged

pub returns-in-Err-clause-types : goal.returns-in-Err-clause-types
returns-in-Err-clause-types g c =
    trades-checked (spread_types c.args.w.now.leaves.now.classes c.args.target.ty c.args.target.weight c.args.array c.args.count) c.args.target.held
    c.args.w.now c.refuse.new.w c.in-Err.error c.refuse.result c.refuse.ensures.error c.refuse.ensures.types

pub returns-in_err-used-clause-types : goal.returns-in_err-used-clause-types
returns-in_err-used-clause-types g c =
    subst (λ l. TradesTypes l c.args.target.held c.args.w.now c.as_type.new.w c.from_residual.result)
    (sym (types-are c.args.w.now.leaves.now.classes c.args.target.ty c.args.target.weight c.args.array c.args.count c.in-Ok.spreading c.in-Ok.ensures.tells))
    (trades-first (used_types c.args.w.now.leaves.now.classes c.args.target.ty c.args.target.weight c.in-Ok.spreading.asked) (c.in-Ok.spreading.own ∷ [])
    c.args.target.held c.args.w.now c.as_type.new.w c.in_err-used.field-0.0 c.from_residual.result c.in_err-used.ensures.types c.from_residual.ensures.1)

pub returns-in_err-used-clause-makes : goal.returns-in_err-used-clause-makes
returns-in_err-used-clause-makes g c a st =
    let found = c.in-Ok.ensures.tells in
    let items = items_used_as c.args.target.ty c.args.array c.args.count a in
    let used-items : used_as c.args.target.ty c.in-Ok.spreading.asked a ≡ items =
    items-are c.args.w.now.leaves.now.classes c.args.target.ty c.args.target.weight c.args.array c.args.count c.in-Ok.spreading.component
    c.in-Ok.spreading.asked a found.component found.asked in
    let first = recipe c.args.w.now.leaves.now a in
    makes-first first (recipe c.args.w.now.leaves.now items) _ c.args.w.now c.as_type.new.w c.in_err-used.field-0.0 c.from_residual.result
    (subst (λ x. MakesFrom first (recipe c.args.w.now.leaves.now x) c.args.w.now c.as_type.new.w (Err c.in_err-used.field-0.0)) used-items
    (c.in_err-used.ensures.makes a st)) c.from_residual.ensures.1

pub grown-requires-clause-fits : goal.grown-requires-clause-fits
grown-requires-clause-fits g c =
    let found = c.in-Ok.ensures.tells in
    let basic : c.basic_of.result ≡ basic_of (item_type c.in-Ok.spreading.component) = c.basic_of.ensures ∙ ap basic_of c.item_type.ensures in
    call-fits c.args.w.now.leaves.now.classes c.args.target c.in_ok-used.used c.args.array c.args.count c.in-Ok.spreading found
    c.in_ok-used.ensures.obeys
    c.in_ok-used.ensures.used c.basic_of.result basic c.ty-ty.ensures.shaped

pub grown-requires-clause-shaped : goal.grown-requires-clause-shaped
grown-requires-clause-shaped g c =
    let found = c.in-Ok.ensures.tells in
    let basic : c.basic_of.result ≡ basic_of (item_type c.in-Ok.spreading.component) = c.basic_of.ensures ∙ ap basic_of c.item_type.ensures in
    call-shaped c.args.w.now.leaves.now.classes c.args.target c.in_ok-used.used c.args.array c.args.count c.in-Ok.spreading found
    c.in_ok-used.ensures.obeys
    c.in_ok-used.ensures.used c.basic_of.result basic c.ty-ty.ensures.shaped

pub grown-requires-clause-light : goal.grown-requires-clause-light
grown-requires-clause-light g c =
    let found = c.in-Ok.ensures.tells in
    subst (λ (n : ℕ). 1 + n ≤ 256) (sym c.weight.ensures.weight) (call-light c.args.w.now.leaves.now.classes c.args.target c.in_ok-used.used c.args.array
    c.args.count
    c.in-Ok.spreading found c.in_ok-used.ensures.obeys c.in_ok-used.ensures.used)

pub grown-requires-clause-ready : goal.grown-requires-clause-ready
grown-requires-clause-ready g c = ready-left c.args.w.now c.as_type.new.w c.requires.ready c.as_type.ensures.goes_on

pub grown-requires-clause-few : goal.grown-requires-clause-few
grown-requires-clause-few g c =
    let none : length c.new.result.held ≡ 0 = ap (λ (p : PartsView). length p.held) c.new.ensures in
    omega (arith, none, c.ty-ty.ensures.shaped.few, c.weight.ensures.weight)

pub grown-requires-clause-held : goal.grown-requires-clause-held
grown-requires-clause-held g c =
    let used = c.in_ok-used.used.held in
    let all : used ++ c.new.result.held ≡ used = ap (λ (p : PartsView). used ++ p.held) c.new.ensures ∙ append-nil used in
    subst (HoldsTypes c.as_type.new.w) (sym all)
    (held-came (used_types c.args.w.now.leaves.now.classes c.args.target.ty c.args.target.weight c.in-Ok.spreading.asked) c.args.target.held used
    c.args.w.now.seat.now c.as_type.new.w.seat.now c.in_ok-used.ensures.types c.requires.held)

pub returns-clause-goes_on : goal.returns-clause-goes_on
returns-clause-goes_on g c = goes_on-both 1 1 c.args.w.now c.as_type.new.w c.grown.new.w c.as_type.ensures.goes_on c.grown.ensures.goes_on

pub returns-clause-obeys : goal.returns-clause-obeys
returns-clause-obeys g c =
    let found = c.in-Ok.ensures.tells in
    call-obeys c.args.w.now.leaves.now.classes c.args.target c.in_ok-used.used c.args.array c.args.count c.in-Ok.spreading found
    c.in_ok-used.ensures.obeys
    c.in_ok-used.ensures.used (1 + c.weight.result) c.new.result.sides (key.Spread c.args.count c.basic_of.result) c.new.result.fields c.grown.result
    c.grown.ensures.accepted c.grown.ensures.grows

pub returns-clause-makes : goal.returns-clause-makes
returns-clause-makes g c a st =
    let found = c.in-Ok.ensures.tells in
    let basic : c.basic_of.result ≡ basic_of (item_type c.in-Ok.spreading.component) = c.basic_of.ensures ∙ ap basic_of c.item_type.ensures in
    call-makes c.args.w.now.leaves.now.classes c.args.target c.in_ok-used.used c.args.array c.args.count c.in-Ok.spreading found
    c.in_ok-used.ensures.obeys
    c.in_ok-used.ensures.used c.basic_of.result a c.args.w.now c.as_type.new.w c.grown.new.w c.grown.result basic
    (c.in_ok-used.ensures.makes a st) c.grown.ensures.makes c.grown.ensures.accepted (c.in_ok-used.ensures.stands a st)

pub returns-clause-types : goal.returns-clause-types
returns-clause-types g c =
    let used = c.in_ok-used.used.held in
    let own = c.in-Ok.spreading.own ∷ [] in
    let all : used ++ c.new.result.held ≡ used = ap (λ (p : PartsView). used ++ p.held) c.new.ensures ∙ append-nil used in
    subst (λ l. TradesTypes l c.args.target.held c.args.w.now c.grown.new.w c.grown.result)
    (sym (types-are c.args.w.now.leaves.now.classes c.args.target.ty c.args.target.weight c.args.array c.args.count c.in-Ok.spreading c.in-Ok.ensures.tells))
    (trades-then (used_types c.args.w.now.leaves.now.classes c.args.target.ty c.args.target.weight c.in-Ok.spreading.asked) own c.args.target.held used
    c.args.w.now c.as_type.new.w c.grown.new.w c.grown.result c.grown.ensures.accepted c.in_ok-used.ensures.types
    (subst (λ l. TradesTypes own l c.as_type.new.w c.grown.new.w c.grown.result) all c.grown.ensures.types))

pub returns-clause-sides : goal.returns-clause-sides
returns-clause-sides g c =
    let found = c.in-Ok.ensures.tells in
    call-sides c.args.w.now.leaves.now.classes c.args.target c.in_ok-used.used c.args.array c.args.count c.in-Ok.spreading found
    c.in_ok-used.ensures.obeys
    c.in_ok-used.ensures.used (1 + c.weight.result) c.new.result.sides (key.Spread c.args.count c.basic_of.result) c.new.result.fields c.grown.result
    (ap (λ (p : PartsView). p.sides) c.new.ensures) c.grown.ensures.grows

pub returns-clause-stands : goal.returns-clause-stands
returns-clause-stands g c a st =
    let found = c.in-Ok.ensures.tells in
    let basic : c.basic_of.result ≡ basic_of (item_type c.in-Ok.spreading.component) = c.basic_of.ensures ∙ ap basic_of c.item_type.ensures in
    call-stands c.args.w.now.leaves.now.classes c.args.target c.in_ok-used.used c.args.array c.args.count c.in-Ok.spreading found
    c.in_ok-used.ensures.obeys
    c.in_ok-used.ensures.used c.args.w.now.leaves.now c.basic_of.result c.weight.result c.new.result.sides c.new.result.fields c.grown.result a refl
    c.in-Ok.ensures.are basic c.weight.ensures.weight (ap (λ (p : PartsView). p.sides) c.new.ensures)
    (ap (λ (p : PartsView). p.fields) c.new.ensures) c.grown.ensures.grows (c.in_ok-used.ensures.stands a st)
