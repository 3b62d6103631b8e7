use Rattle.std.proofs.Common.{◌≡◌, [], ◌∷◌, ◌++◌, ap, sym, subst, ◌∙◌}
use Rattle.mh_edit.specs.Applied.{applied}
use Rattle.mh_edit.specs.Fit.{is_nothing}
use Rattle.mh_edit.proofs.Made.{made-applied}
use Rattle.mh_intern.specs.Exchanges.{AreHeld, Exchanges}
use Rattle.mh_intern.proofs.HeldLists.{held-first}
use Rattle.mh_intern.proofs.Exchanging.{held-still}
use Rattle.mh_handle.specs.Form.{body_of}
use Rattle.mh_handle.specs.Parts.{PartsView}
use Rattle.mh_handle.specs.Stands.{HasShape}
use Rattle.mh_handle.proofs.recipes.Recipes.{body_of-snoc}
use Rattle.mh_handle.proofs.holding.HoldOrders.{exchanges-back, exchanges-few, exchanges-kept}
use Rattle.mh_handle.proofs.holding.UnformedHandles.{trades-unformed, unformed-yet}
use Rattle.mh_handle.proofs.growth.make_from.Goals as goal

pub of-requires-clause-made : goal.of-requires-clause-made
of-requires-clause-made g c =
    let old = body_of c.args.from.form.now.recipe in
    let made : body_of c.in-Ok-typed_form.form.now.recipe ≡ applied c.args.by.key old =
    ap body_of c.in-Ok-typed_form.ensures.makes.0 ∙ body_of-snoc c.args.from.form.now.recipe c.args.by.key in
    ap is_nothing made ∙ made-applied c.args.by.key old c.requires.fits

pub of-requires-clause-shaped : goal.of-requires-clause-shaped
of-requires-clause-shaped g c =
    let old = body_of c.args.from.form.now.recipe in
    let made : body_of c.in-Ok-typed_form.form.now.recipe ≡ applied c.args.by.key old =
    ap body_of c.in-Ok-typed_form.ensures.makes.0 ∙ body_of-snoc c.args.from.form.now.recipe c.args.by.key in
    subst (λ t. HasShape (body_of c.in-Ok-typed_form.form.now.recipe) t) (sym c.in-Ok-typed_form.ensures.ty) (ap (λ b. b.params) made ∙ c.requires.shaped)

pub returns-in-Ok-typed_form-clause-makes : goal.returns-in-Ok-typed_form-clause-makes
returns-in-Ok-typed_form-clause-makes g c = rw c.of.ensures.form c.in-Ok-typed_form.ensures.makes

pub returns-in-Ok-typed_form-clause-types : goal.returns-in-Ok-typed_form-clause-types
returns-in-Ok-typed_form-clause-types g c =
    let kept = c.args.from.sides.items ++ c.args.by.parts.held in
    let all : c.joined.new.held.items ≡ kept = c.in-Ok.ensures.held ∙ ap (λ (p : PartsView). c.args.from.sides.items ++ p.held) c.parts.view_is in
    let seat = c.args.w.now.seat.now in
    let new = c.typed_form.new.w.seat.now in
    subst (λ l. Exchanges (c.args.by.ty ∷ []) kept l seat new) (sym (c.of.ensures.held ∙ ap (λ l. c.in-Ok-typed_form.own ∷ l) all))
    (exchanges-kept (c.args.by.ty ∷ []) [] (c.in-Ok-typed_form.own ∷ []) kept seat new c.requires.held c.in-Ok-typed_form.ensures.types)

pub let_all_go-requires-clause-held : goal.let_all_go-requires-clause-held
let_all_go-requires-clause-held g c =
    let kept = c.args.from.sides.items ++ c.args.by.parts.held in
    let all : c.joined.new.held.items ≡ kept = c.in-Ok.ensures.held ∙ ap (λ (p : PartsView). c.args.from.sides.items ++ p.held) c.parts.view_is in
    subst (AreHeld c.typed_form.new.w.seat.now) (sym all)
    (unformed-yet c.args.by.ty kept c.args.w.now c.typed_form.new.w c.in-Err-typed_form.error c.in-Err-typed_form.ensures.types c.requires.held)

pub returns-in-Ok-clause-types : goal.returns-in-Ok-clause-types
returns-in-Ok-clause-types g c =
    let kept = c.args.from.sides.items ++ c.args.by.parts.held in
    let all : c.joined.new.held.items ≡ kept = c.in-Ok.ensures.held ∙ ap (λ (p : PartsView). c.args.from.sides.items ++ p.held) c.parts.view_is in
    trades-unformed (c.args.from.form.now.recipe ++ c.args.by.key ∷ []) c.args.by.ty kept c.args.w.now c.typed_form.new.w c.let_all_go.new.self
    c.in-Err-typed_form.error c.in-Err-typed_form.ensures.makes c.in-Err-typed_form.ensures.types
    (subst (λ l. Exchanges [] l [] c.typed_form.new.w.seat.now c.let_all_go.new.self.seat.now) all c.let_all_go.ensures.types)

pub let_all_go-requires-in-Err-clause-held : goal.let_all_go-requires-in-Err-clause-held
let_all_go-requires-in-Err-clause-held g c =
    subst (AreHeld c.args.w.now.seat.now) (sym c.in-Err.ensures.err.0)
    (held-first c.args.w.now.seat.now c.args.from.sides.items c.args.by.parts.held c.requires.held)

pub let_all_go-requires-in-Err-2-clause-held : goal.let_all_go-requires-in-Err-2-clause-held
let_all_go-requires-in-Err-2-clause-held g c =
    let seat = c.args.w.now.seat.now in
    let mid = c.let_all_go-in-Err.new.self.seat.now in
    subst (AreHeld mid) (sym (c.in-Err.ensures.err.1 ∙ ap (λ (p : PartsView). p.held) c.parts.view_is))
    (held-still [] c.args.from.sides.items [] c.args.by.parts.held seat mid
    (subst (λ l. Exchanges [] l [] seat mid) c.in-Err.ensures.err.0 c.let_all_go-in-Err.ensures.types) c.requires.held)

pub returns-clause-types : goal.returns-clause-types
returns-clause-types g c =
    let seat = c.args.w.now.seat.now in
    let mid = c.let_all_go-in-Err.new.self.seat.now in
    let new = c.let_all_go-in-Err-2.new.self.seat.now in
    exchanges-few (c.args.by.ty ∷ []) (c.args.from.sides.items ++ c.args.by.parts.held) [] seat new
    (exchanges-back c.args.from.sides.items c.args.by.parts.held seat mid new
    (subst (λ l. Exchanges [] l [] seat mid) c.in-Err.ensures.err.0 c.let_all_go-in-Err.ensures.types)
    (subst (λ l. Exchanges [] l [] mid new) (c.in-Err.ensures.err.1 ∙ ap (λ (p : PartsView). p.held) c.parts.view_is) c.let_all_go-in-Err-2.ensures.types))
