use Rattle.std.proofs.Common.{ap, subst, sym, refl, map}
use Rattle.mh_handle.specs.Chains.{learnt_by}
use Rattle.mh_handle.specs.Passes.{AreLearnt, IsFormOf, PassView, StaysLearnt}
use Rattle.mh_handle.proofs.passes.Edits.{made-asked, made-refused, put-has, put-kept}
use Rattle.mh_handle.proofs.passes.Learning.{has-found, kept-found}
use Rattle.mh_handle.proofs.passes.Passing.{lacks-same, pass-draws, pass-keeps, pass-learns, pass-same}
use Rattle.mh_handle.proofs.pass.FormPass.make.Goals as goal

pub invariant_of-self-then-number-gt-LIMIT : goal.invariant_of-self-then-number-gt-LIMIT
invariant_of-self-then-number-gt-LIMIT g c =
    pass-draws c.reserve-2.new.self (map (λ f. f.now) c.reserve_one.new.forms.items) c.reserve.new.self c.draw-number.result c.self.inside.seat
    c.draw-number.new.self c.draw-number.ensures
    (pass-same c.self.inside.walks c.reserve-2.new.self _ _ c.self.inside.seen c.reserve.new.self c.self.inside.seat c.self.invariant
    c.in_ok-reserve-2.ensures (ap (map (λ f. f.now)) c.in_ok-reserve_one.ensures.same) c.in_ok-reserve.ensures)

pub invariant_of-self-in_err-put : goal.invariant_of-self-in_err-put
invariant_of-self-in_err-put g c =
    pass-learns c.reserve-2.new.self c.put.new.self (map (λ f. f.now) c.reserve_one.new.forms.items) c.reserve.new.self c.draw-number.new.self
    (pass-draws c.reserve-2.new.self (map (λ f. f.now) c.reserve_one.new.forms.items) c.reserve.new.self c.draw-number.result c.self.inside.seat
    c.draw-number.new.self c.draw-number.ensures
    (pass-same c.self.inside.walks c.reserve-2.new.self _ _ c.self.inside.seen c.reserve.new.self c.self.inside.seat c.self.invariant
    c.in_ok-reserve-2.ensures (ap (map (λ f. f.now)) c.in_ok-reserve_one.ensures.same) c.in_ok-reserve.ensures))
    c.in_err-put.ensures.chains c.in_err-put.ensures.learnt c.in_err-put.ensures.once

pub invariant_of-self-2 : goal.invariant_of-self-2
invariant_of-self-2 g c =
    pass-learns c.reserve-2.new.self c.put.new.self (map (λ f. f.now) c.kept-form.new.made.items) c.reserve.new.self c.draw-number.new.self
    (pass-keeps c.reserve-2.new.self (map (λ f. f.now) c.reserve_one.new.forms.items) (map (λ f. f.now) c.kept-form.new.made.items) c.reserve.new.self
    c.draw-number.result c.self.inside.seat c.draw-number.new.self _ c.kept-form.result.now c.draw-number.ensures refl
    (put-kept (learnt_by c.put.new.self) (map (λ f. f.now) c.reserve_one.new.forms.items) (map (λ f. f.now) c.kept-form.new.made.items)
    c.draw-number.result c.args.recipe c.new-form.result c.kept-form.result.now c.in_ok-put.put c.new-form.ensures c.in_ok-put.ensures.put
    c.kept-form.ensures.kept)
    (pass-same c.self.inside.walks c.reserve-2.new.self _ _ c.self.inside.seen c.reserve.new.self c.self.inside.seat c.self.invariant
    c.in_ok-reserve-2.ensures (ap (map (λ f. f.now)) c.in_ok-reserve_one.ensures.same) c.in_ok-reserve.ensures))
    c.in_ok-put.ensures.chains c.in_ok-put.ensures.learnt c.in_ok-put.ensures.once

pub returns-in_err-put-clause-learnt : goal.returns-in_err-put-clause-learnt
returns-in_err-put-clause-learnt g c =
    let more = subst (λ w. AreLearnt (learnt_by c.put.new.self) (learnt_by w)) c.in_ok-reserve-2.ensures c.in_err-put.ensures.learnt in
    rw (← c.self.view_is) (kept-found (learnt_by c.self.inside.walks) (learnt_by c.put.new.self) more c.in_err-put.ensures.once)

pub ask-requires-clause-new : goal.ask-requires-clause-new
ask-requires-clause-new g c =
    let has =
    put-has (learnt_by c.put.new.self) (map (λ f. f.now) c.reserve_one.new.forms.items) (map (λ f. f.now) c.kept-form.new.made.items) c.draw-number.result
    c.args.recipe c.new-form.result c.kept-form.result.now c.in_ok-put.put c.new-form.ensures c.in_ok-put.ensures.put c.kept-form.ensures.has in
    lacks-same c.self.inside.seen c.reserve.new.self c.args.recipe c.kept-form.result.now.recipe
    (rw (← c.self.view_is) at c.requires.new) c.in_ok-reserve.ensures has.2

pub ask-requires-clause-learnt : goal.ask-requires-clause-learnt
ask-requires-clause-learnt g c =
    let has = c.kept-form.ensures.has (learnt_by c.put.new.self) c.new-form.result c.in_ok-put.ensures.put in (has.0, has.1, refl)

pub returns-in_err-ask-clause-learnt : goal.returns-in_err-ask-clause-learnt
returns-in_err-ask-clause-learnt g c =
    let more = subst (λ w. AreLearnt (learnt_by c.put.new.self) (learnt_by w)) c.in_ok-reserve-2.ensures c.in_ok-put.ensures.learnt in
    subst (λ (p : PassView). StaysLearnt c.args.self.now p) (sym c.in_err-ask.ensures.err)
    (rw (← c.self.view_is) (kept-found (learnt_by c.self.inside.walks) (learnt_by c.put.new.self) more c.in_ok-put.ensures.once))

pub returns-in_err-ask-clause-makes : goal.returns-in_err-ask-clause-makes
returns-in_err-ask-clause-makes g c =
    let made = map (λ f. f.now) c.reserve_one.new.forms.items in
    let made' = map (λ f. f.now) c.kept-form.new.made.items in
    let nodes = learnt_by c.put.new.self in
    let has =
    put-has nodes made made' c.draw-number.result c.args.recipe c.new-form.result c.kept-form.result.now c.in_ok-put.put c.new-form.ensures
    c.in_ok-put.ensures.put c.kept-form.ensures.has in
    let kept =
    put-kept nodes made made' c.draw-number.result c.args.recipe c.new-form.result c.kept-form.result.now c.in_ok-put.put c.new-form.ensures
    c.in_ok-put.ensures.put c.kept-form.ensures.kept in
    let old : PassView =
    record {
      table = c.self.inside.seat.table;
      learnt = learnt_by c.self.inside.walks;
      made = map (λ f. f.now) c.self.inside.made.items;
      asked = c.self.inside.seen;
      seat = c.self.inside.seat;
    } in
    let mid : PassView =
    record {
      table = c.draw-number.new.self.table;
      learnt = nodes;
      made = made';
      asked = c.reserve.new.self;
      seat = c.draw-number.new.self;
    } in
    rw (← c.self.view_is)
    (made-refused c.draw-number.result c.args.recipe c.kept-form.result old mid c.draw-number.ensures (rw c.in_ok-reserve_one.ensures.same at kept)
    c.in_ok-reserve.ensures c.ask.new.self c.from_residual-in_err-ask.result c.in_err-ask.ensures.err has.2 c.from_residual-in_err-ask.ensures.1)

pub returns-clause-learnt : goal.returns-clause-learnt
returns-clause-learnt g c =
    let more = subst (λ w. AreLearnt (learnt_by c.put.new.self) (learnt_by w)) c.in_ok-reserve-2.ensures c.in_ok-put.ensures.learnt in
    subst (λ (p : PassView). StaysLearnt c.args.self.now p) (sym c.in_ok-ask.ensures.ok)
    (rw (← c.self.view_is) (kept-found (learnt_by c.self.inside.walks) (learnt_by c.put.new.self) more c.in_ok-put.ensures.once))

pub returns-clause-makes : goal.returns-clause-makes
returns-clause-makes g c =
    let made = map (λ f. f.now) c.reserve_one.new.forms.items in
    let made' = map (λ f. f.now) c.kept-form.new.made.items in
    let nodes = learnt_by c.put.new.self in
    let has =
    put-has nodes made made' c.draw-number.result c.args.recipe c.new-form.result c.kept-form.result.now c.in_ok-put.put c.new-form.ensures
    c.in_ok-put.ensures.put c.kept-form.ensures.has in
    let kept =
    put-kept nodes made made' c.draw-number.result c.args.recipe c.new-form.result c.kept-form.result.now c.in_ok-put.put c.new-form.ensures
    c.in_ok-put.ensures.put c.kept-form.ensures.kept in
    let old : PassView =
    record {
      table = c.self.inside.seat.table;
      learnt = learnt_by c.self.inside.walks;
      made = map (λ f. f.now) c.self.inside.made.items;
      asked = c.self.inside.seen;
      seat = c.self.inside.seat;
    } in
    let mid : PassView =
    record {
      table = c.draw-number.new.self.table;
      learnt = nodes;
      made = made';
      asked = c.reserve.new.self;
      seat = c.draw-number.new.self;
    } in
    rw (← c.self.view_is)
    (made-asked c.draw-number.result c.args.recipe c.kept-form.result old mid c.draw-number.ensures (rw c.in_ok-reserve_one.ensures.same at kept)
    c.in_ok-reserve.ensures c.ask.new.self c.in_ok-ask.ensures.ok has.2)

pub returns-clause-form : goal.returns-clause-form
returns-clause-form g c =
    let has =
    put-has (learnt_by c.put.new.self) (map (λ f. f.now) c.reserve_one.new.forms.items) (map (λ f. f.now) c.kept-form.new.made.items) c.draw-number.result
    c.args.recipe c.new-form.result c.kept-form.result.now c.in_ok-put.put c.new-form.ensures c.in_ok-put.ensures.put c.kept-form.ensures.has in
    subst (λ (p : PassView). IsFormOf c.args.recipe p c.kept-form.result.now) (sym c.in_ok-ask.ensures.ok)
    (has-found c.args.recipe (learnt_by c.put.new.self) c.kept-form.result.now c.in_ok-put.ensures.once has)
