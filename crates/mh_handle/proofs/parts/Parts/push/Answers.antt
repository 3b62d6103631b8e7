use Rattle.std.proofs.Common.{◌≡◌, [], ◌∷◌, ◌++◌, refl, ap, sym, subst, ◌∙◌, append_assoc}
use Rattle.std.proofs.lemmas.List.{map-append}
use Rattle.mh_form.specs.declared.field.Field.TheVariants as field
use Rattle.mh_intern.specs.Exchanges.{AreHeld, Exchanges, types_of}
use Rattle.mh_intern.specs.Views.{HoldView}
use Rattle.mh_intern.proofs.HeldLists.{held-first}
use Rattle.mh_intern.proofs.Exchanging.{held-still}
use Rattle.mh_handle.specs.Stands.{HandleView}
use Rattle.mh_handle.proofs.holding.HoldOrders.{exchanges-back}
use Rattle.mh_handle.proofs.parts.Parts.push.Goals as goal

pub let_go-requires-clause-held : goal.let_go-requires-clause-held
let_go-requires-clause-held c =
    let seat = c.args.w.now.seat.now in
    let all = subst (AreHeld seat) (sym (ap (λ (h : HandleView). h.held) c.handle.view_is)) c.requires.held in
    held-first seat (c.handle.inside.own ∷ []) c.handle.inside.sides.items all

pub let_all_go-requires-clause-held : goal.let_all_go-requires-clause-held
let_all_go-requires-clause-held c =
    let seat = c.args.w.now.seat.now in
    let all = subst (AreHeld seat) (sym (ap (λ (h : HandleView). h.held) c.handle.view_is)) c.requires.held in
    held-still [] (c.handle.inside.own ∷ []) [] c.handle.inside.sides.items seat c.let_go.new.self.seat.now c.let_go.ensures.types all

pub returns-in-Err-clause-given_back : goal.returns-in-Err-clause-given_back
returns-in-Err-clause-given_back c =
    let seat = c.args.w.now.seat.now in
    subst (λ l. Exchanges [] l [] seat c.let_all_go.new.self.seat.now) (ap (λ (h : HandleView). h.held) c.handle.view_is)
    (exchanges-back (c.handle.inside.own ∷ []) c.handle.inside.sides.items seat c.let_go.new.self.seat.now c.let_all_go.new.self.seat.now
    c.let_go.ensures.types c.let_all_go.ensures.types)

pub returns-in-Ok-clause-ok : goal.returns-in-Ok-clause-ok
returns-in-Ok-clause-ok c =
    let own = c.handle.inside.own in
    let sides = c.handle.inside.sides.items in
    let before = c.self.inside.held.items in
    let whole : c.append_reserved.new.held.items ≡ before ++ (own ∷ sides) =
    c.append_reserved.ensures
    ∙ (ap (λ l. l ++ sides) (c.push_reserved-in-Ok.ensures.items ∙ ap (λ l. l ++ own ∷ []) c.room_for.ensures.held) ∙ append_assoc before (own ∷ []) sides) in
    rw (← c.self.view_is) (rw (← c.handle.view_is) (record {
      fields = (
        field.Part c.in-Ok.part,
        c.push_reserved.ensures ∙ ap (λ l. l ++ field.Part c.in-Ok.part ∷ []) c.room_for.ensures.fields,
        (
          c.in-Ok.part,
          refl,
          ap (λ b. b.body.now) c.in-Ok.ensures.part ∙ c.handle.invariant.0,
          ap (λ b. b.fields.items) c.in-Ok.ensures.part,
        ),
      );
      sides = ap types_of whole ∙ map-append (λ (h : HoldView). h.entry.ty) before (own ∷ sides);
      held = whole;
    }))
