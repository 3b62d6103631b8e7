use Rattle.std.proofs.Common.{◌+◌, ap, arith, length, sym, subst, [], ◌∷◌, ◌++◌, Ok, Err}
use Rattle.mh_handle.specs.declared.handle.Handle.{Handle}
use Rattle.mh_intern.specs.Exchanges.{Exchanges}
use Rattle.mh_intern.proofs.Exchanging.{exchanges-still}
use Rattle.mh_tree.specs.Tree.{Cases}
use Rattle.mh_more.specs.Several.{StandForCases, holds_of}
use Rattle.mh_attempt.specs.Asked.{AsksIfMade}
use Rattle.mh_attempt.specs.AskedTypes.{AsksTypesOrThrows, types_made}
use Rattle.mh_attempt.specs.Cases.{AreLeavesOfType, StandForEach, leaf_recipe, own_weight, own_weights}
use Rattle.mh_attempt.specs.Nodes.{AreAllOperands}
use Rattle.mh_attempt.specs.Recipes.{recipes_made}
use Rattle.mh_attempt.specs.Several.{GoesOnOnce, IsReadyOnce}
use Rattle.mh_attempt.proofs.types.Adding.{adds-back, adds-both, adds-none, holds-after, holds-came}
use Rattle.mh_attempt.proofs.asked.AllMade.{adds-listed, adds-no_handles, all-unmade, asks-short, more-stand, once-still, operands-yet, types-short}
use Rattle.mh_attempt.proofs.asked.AskedNodes.{asks-unchanged}
use Rattle.mh_attempt.proofs.asked.AskedOperands.{asks-more, asks-unmade-both}
use Rattle.mh_attempt.proofs.types.AskingTypes.{types-back}
use Rattle.mh_attempt.proofs.types.OperandTypes.{types-others, types-unmade_both}
use Rattle.mh_attempt.proofs.asked.Once.{once-back, once-more, once-one, once-then, ready-one, ready-others}
use Rattle.mh_attempt.proofs.lines.several.+make_all.Goals as goal

-- ---- what the calls need

pub make-requires-clause-ready : goal.make-requires-clause-ready
make-requires-clause-ready g t c = ready-one (leaf_recipe c.args.ty.now) (own_weights c.args.operands.now) c.args.w.now c.requires.ready

pub make-requires-clause-stands : goal.make-requires-clause-stands
make-requires-clause-stands g t c =
    (subst (AreAllOperands c.args.w.now.leaves.now c.args.w.now.seat.now) c.in-Some.ensures.cases.0 c.requires.operands).0.stands

pub make-requires-clause-held : goal.make-requires-clause-held
make-requires-clause-held g t c =
    (subst (AreAllOperands c.args.w.now.leaves.now c.args.w.now.seat.now) c.in-Some.ensures.cases.0 c.requires.operands).0.held

-- that fewer operands are left, and what the call for them requires
pub make_all-requires : goal.make_all-requires
make_all-requires g t c =
    let key = leaf_recipe c.args.ty.now in
    let w = c.args.w.now in
    let mid = c.make.new.w in
    let first = c.in-Some.first.now in
    let others = c.in-Some.others.now in
    let is = c.in-Some.ensures.cases.0 in
    -- the conditions on all operands are those on the first and on the others
    let less = ap length is in
    let alike = subst (AreLeavesOfType w.leaves.now c.args.ty.now) is c.requires.alike in
    let all_ready = subst (λ l. IsReadyOnce key (own_weights l) w) is c.requires.ready in
    let all_operands = subst (AreAllOperands w.leaves.now w.seat.now) is c.requires.operands in
    -- the first was made: the work has still room for the others, and they are still operands and leaves of the type
    let draws = c.make.ensures.draws c.args.ty.now alike.0 in
    let learns = c.in_ok-first.ensures.learns c.args.ty.now alike.0 in
    let ready : IsReadyOnce key (own_weights others) mid =
    ready-others key (own_weight first) (own_weights others) w mid all_ready c.make.ensures.goes_on draws learns c.make.ensures.room in
    let operands = operands-yet others c.in_ok-first.first.held w mid c.make.ensures.goes_on.leaves c.in_ok-first.ensures.types all_operands.1 in
    let still = subst (λ l. AreLeavesOfType l.now c.args.ty.now others) (sym c.make.ensures.goes_on.leaves) alike.1 in
    λ κs lives. (omega (arith, less, c.decreases), (lives, (ready, (operands, still))))

pub with_first-requires-clause-held : goal.with_first-requires-clause-held
with_first-requires-clause-held g t c =
    let w = c.args.w.now in
    let mid = c.make.new.w in
    let late = c.make_all.new.w in
    let first = c.in_ok-first.first.held in
    let others = holds_of c.in-Ok.others in
    let both_came = adds-both first others w mid late c.in_ok-first.ensures.types c.in-Ok.ensures.types in
    holds-came (first ++ others) w late both_came

pub give_back-requires-clause-held : goal.give_back-requires-clause-held
give_back-requires-clause-held g t c =
    holds-after c.in_ok-first.first.held c.args.w.now c.make.new.w c.make_all.new.w c.in_ok-first.ensures.types c.in-Err.ensures.types

-- ---- numbers

pub returns-in_err-first-clause-goes_on : goal.returns-in_err-first-clause-goes_on
returns-in_err-first-clause-goes_on g t c =
    let key = leaf_recipe c.args.ty.now in
    let w = c.args.w.now in
    let new = c.make.new.w in
    let k = own_weight c.in-Some.first.now in
    let m = own_weights c.in-Some.others.now in
    let is = c.in-Some.ensures.cases.0 in
    let alike = subst (AreLeavesOfType w.leaves.now c.args.ty.now) is c.requires.alike in
    let draws = c.make.ensures.draws c.args.ty.now alike.0 in
    -- the first was not made, and the others were not tried
    let first_tried : GoesOnOnce key k w new = once-one key k w new c.make.ensures.goes_on draws c.make.ensures.room in
    let all_tried : GoesOnOnce key (k + m) w new = once-more key k (k + m) w new (omega arith) first_tried in
    subst (λ l. GoesOnOnce key (own_weights l) w new) (sym is) all_tried

pub returns-in_ok-with_first-in-Ok-clause-goes_on : goal.returns-in_ok-with_first-in-Ok-clause-goes_on
returns-in_ok-with_first-in-Ok-clause-goes_on g t c =
    let key = leaf_recipe c.args.ty.now in
    let w = c.args.w.now in
    let mid = c.make.new.w in
    let late = c.make_all.new.w in
    let new = c.with_first.new.w in
    let k = own_weight c.in-Some.first.now in
    let m = own_weights c.in-Some.others.now in
    let is = c.in-Some.ensures.cases.0 in
    let alike = subst (AreLeavesOfType w.leaves.now c.args.ty.now) is c.requires.alike in
    let draws = c.make.ensures.draws c.args.ty.now alike.0 in
    let learns = c.in_ok-first.ensures.learns c.args.ty.now alike.0 in
    -- the first was made, then the others, and then the list took the first
    let made : GoesOnOnce key (k + m) w late =
    once-then key k m w mid late c.make.ensures.goes_on draws learns c.make.ensures.room c.make_all.ensures.goes_on in
    let listed : GoesOnOnce key (k + m) w new =
    once-still key (k + m) w late new made c.with_first.ensures.unchanged c.in_ok-with_first-in-Ok.ensures.types in
    subst (λ l. GoesOnOnce key (own_weights l) w new) (sym is) listed

pub returns-in_err-with_first-in-Ok-clause-goes_on : goal.returns-in_err-with_first-in-Ok-clause-goes_on
returns-in_err-with_first-in-Ok-clause-goes_on g t c =
    let key = leaf_recipe c.args.ty.now in
    let w = c.args.w.now in
    let mid = c.make.new.w in
    let late = c.make_all.new.w in
    let new = c.with_first.new.w in
    let k = own_weight c.in-Some.first.now in
    let m = own_weights c.in-Some.others.now in
    let is = c.in-Some.ensures.cases.0 in
    let alike = subst (AreLeavesOfType w.leaves.now c.args.ty.now) is c.requires.alike in
    let draws = c.make.ensures.draws c.args.ty.now alike.0 in
    let learns = c.in_ok-first.ensures.learns c.args.ty.now alike.0 in
    let came = c.in_ok-first.first.held ++ holds_of c.in-Ok.others in
    -- all were made, and all were given back, because there was no memory for the list
    let made : GoesOnOnce key (k + m) w late =
    once-then key k m w mid late c.make.ensures.goes_on draws learns c.make.ensures.room c.make_all.ensures.goes_on in
    let given_back : GoesOnOnce key (k + m) w new =
    once-back key (k + m) came w late new made c.with_first.ensures.unchanged c.in_err-with_first-in-Ok.ensures.types in
    subst (λ l. GoesOnOnce key (own_weights l) w new) (sym is) given_back

pub returns-in-Err-clause-goes_on : goal.returns-in-Err-clause-goes_on
returns-in-Err-clause-goes_on g t c =
    let key = leaf_recipe c.args.ty.now in
    let w = c.args.w.now in
    let mid = c.make.new.w in
    let late = c.make_all.new.w in
    let new = c.give_back.new.w in
    let k = own_weight c.in-Some.first.now in
    let m = own_weights c.in-Some.others.now in
    let is = c.in-Some.ensures.cases.0 in
    let alike = subst (AreLeavesOfType w.leaves.now c.args.ty.now) is c.requires.alike in
    let draws = c.make.ensures.draws c.args.ty.now alike.0 in
    let learns = c.in_ok-first.ensures.learns c.args.ty.now alike.0 in
    -- the first was made, the others were tried, and the first was given back
    let tried : GoesOnOnce key (k + m) w late =
    once-then key k m w mid late c.make.ensures.goes_on draws learns c.make.ensures.room c.make_all.ensures.goes_on in
    let given_back : GoesOnOnce key (k + m) w new =
    once-back key (k + m) c.in_ok-first.first.held w late new tried c.give_back.ensures.unchanged c.give_back.ensures.types in
    subst (λ l. GoesOnOnce key (own_weights l) w new) (sym is) given_back

-- ---- what is asked for

pub returns-in_err-first-clause-asks : goal.returns-in_err-first-clause-asks
returns-in_err-first-clause-asks g t c =
    let w = c.args.w.now in
    let new = c.make.new.w in
    let result = c.from_residual.result in
    let first_asked =
    asks-unmade-both w.leaves.now (c.in-Some.first.now ∷ []) c.in-Some.others.now w new c.in_err-first.field-0.0 result c.from_residual.ensures.1
    c.in_err-first.ensures.asks in
    subst (λ l. AsksIfMade (recipes_made w.leaves.now l []) w new result) (sym c.in-Some.ensures.cases.0) first_asked

pub returns-in_ok-with_first-in-Ok-clause-asks : goal.returns-in_ok-with_first-in-Ok-clause-asks
returns-in_ok-with_first-in-Ok-clause-asks g t c =
    let w = c.args.w.now in
    let late = c.make_all.new.w in
    let new = c.with_first.new.w in
    let first = c.in-Some.first.now in
    let others = c.in-Some.others.now in
    let made = Ok c.in_ok-with_first-in-Ok.field-0 in
    -- the first and the others were asked for, and the list asked for nothing
    let both_asked =
    asks-more (first ∷ []) others w c.make.new.w late made c.make.ensures.goes_on.leaves c.in_ok-first.ensures.asks c.in-Ok.ensures.asks in
    let all_asked = asks-unchanged (recipes_made w.leaves.now (first ∷ others) []) w late new made c.with_first.ensures.unchanged.pass both_asked in
    subst (λ l. AsksIfMade (recipes_made w.leaves.now l []) w new made) (sym c.in-Some.ensures.cases.0) all_asked

pub returns-in_err-with_first-in-Ok-clause-asks : goal.returns-in_err-with_first-in-Ok-clause-asks
returns-in_err-with_first-in-Ok-clause-asks g t c = asks-short _ c.args.w.now c.with_first.new.w c.from_residual-in_err-with_first-in-Ok.result
    c.from_residual-in_err-with_first-in-Ok.ensures.1

pub returns-in-Err-clause-asks : goal.returns-in-Err-clause-asks
returns-in-Err-clause-asks g t c =
    let w = c.args.w.now in
    let late = c.make_all.new.w in
    let new = c.give_back.new.w in
    let first = c.in-Some.first.now in
    let others = c.in-Some.others.now in
    let error = Err c.in-Err.error in
    let both_asked =
    asks-more {A = Handle} (first ∷ []) others w c.make.new.w late error c.make.ensures.goes_on.leaves c.in_ok-first.ensures.asks
    c.in-Err.ensures.asks in
    let all_asked =
    asks-unchanged {A = Handle} (recipes_made w.leaves.now (first ∷ others) []) w late new error c.give_back.ensures.unchanged.pass both_asked in
    subst (λ l. AsksIfMade {A = Handle} (recipes_made w.leaves.now l []) w new error) (sym c.in-Some.ensures.cases.0) all_asked

-- ---- the seat of types

pub returns-in_ok-with_first-in-Ok-clause-types : goal.returns-in_ok-with_first-in-Ok-clause-types
returns-in_ok-with_first-in-Ok-clause-types g t c =
    adds-listed c.in_ok-first.first c.in-Ok.others c.in_ok-with_first-in-Ok.field-0 c.args.w.now c.make.new.w c.make_all.new.w c.with_first.new.w
    c.in_ok-with_first-in-Ok.ensures.listed c.in_ok-first.ensures.types c.in-Ok.ensures.types c.in_ok-with_first-in-Ok.ensures.types

pub returns-in_err-with_first-in-Ok-clause-types : goal.returns-in_err-with_first-in-Ok-clause-types
returns-in_err-with_first-in-Ok-clause-types g t c =
    let w = c.args.w.now in
    let mid = c.make.new.w in
    let late = c.make_all.new.w in
    let new = c.with_first.new.w in
    let first = c.in_ok-first.first.held in
    let others = holds_of c.in-Ok.others in
    -- the types of all came, and went again with the list
    let both_came = adds-both first others w mid late c.in_ok-first.ensures.types c.in-Ok.ensures.types in
    let all_went = adds-back (first ++ others) w late late new both_came (adds-none late) c.in_err-with_first-in-Ok.ensures.types in
    all-unmade w new c.from_residual-in_err-with_first-in-Ok.result _ c.from_residual-in_err-with_first-in-Ok.ensures.1 all_went

pub returns-in_default-clause-types : goal.returns-in_default-clause-types
returns-in_default-clause-types g t c = adds-no_handles c.new.result c.args.w.now c.new.ensures

pub returns-in-Err-clause-types : goal.returns-in-Err-clause-types
returns-in-Err-clause-types g t c =
    adds-back c.in_ok-first.first.held c.args.w.now c.make.new.w c.make_all.new.w c.give_back.new.w c.in_ok-first.ensures.types
    c.in-Err.ensures.types c.give_back.ensures.types

-- ---- the types that are asked for

pub returns-in_err-first-clause-asked : goal.returns-in_err-first-clause-asked
returns-in_err-first-clause-asked g t c =
    let w = c.args.w.now in
    let new = c.make.new.w in
    let result = c.from_residual.result in
    let first_asked =
    types-unmade_both Handle w.leaves.now (c.in-Some.first.now ∷ []) c.in-Some.others.now w new c.in_err-first.field-0.0 result
    c.from_residual.ensures.1 c.in_err-first.ensures.asked in
    subst (λ l. AsksTypesOrThrows (types_made w.leaves.now l []) w new result) (sym c.in-Some.ensures.cases.0) first_asked

pub returns-in_ok-with_first-in-Ok-clause-asked : goal.returns-in_ok-with_first-in-Ok-clause-asked
returns-in_ok-with_first-in-Ok-clause-asked g t c =
    let w = c.args.w.now in
    let late = c.make_all.new.w in
    let new = c.with_first.new.w in
    let first = c.in-Some.first.now in
    let others = c.in-Some.others.now in
    let made = Ok c.in_ok-with_first-in-Ok.field-0 in
    -- the list leaves the seat of types as it was
    let still : Exchanges [] [] [] late.seat.now new.seat.now =
    subst (λ s. Exchanges [] [] [] late.seat.now s) (sym c.in_ok-with_first-in-Ok.ensures.types) (exchanges-still late.seat.now) in
    let both_asked =
    types-others (first ∷ []) others w c.make.new.w late made c.make.ensures.goes_on.leaves c.in_ok-first.ensures.asked c.in-Ok.ensures.asked in
    let all_asked = types-back (types_made w.leaves.now (first ∷ others) []) [] w late new made still both_asked in
    subst (λ l. AsksTypesOrThrows (types_made w.leaves.now l []) w new made) (sym c.in-Some.ensures.cases.0) all_asked

pub returns-in_err-with_first-in-Ok-clause-asked : goal.returns-in_err-with_first-in-Ok-clause-asked
returns-in_err-with_first-in-Ok-clause-asked g t c =
    let w = c.args.w.now in
    let late = c.make_all.new.w in
    let new = c.with_first.new.w in
    let first = c.in-Some.first.now in
    let others = c.in-Some.others.now in
    let made = Ok c.in-Ok.others in
    let came = c.in_ok-first.first.held ++ holds_of c.in-Ok.others in
    let result = c.from_residual-in_err-with_first-in-Ok.result in
    -- what was asked for all, although the list was not made
    let both_asked =
    types-others (first ∷ []) others w c.make.new.w late made c.make.ensures.goes_on.leaves c.in_ok-first.ensures.asked c.in-Ok.ensures.asked in
    let all_asked =
    types-back (types_made w.leaves.now (first ∷ others) []) came w late new made c.in_err-with_first-in-Ok.ensures.types both_asked in
    let asked = subst (λ l. AsksTypesOrThrows (types_made w.leaves.now l []) w new made) (sym c.in-Some.ensures.cases.0) all_asked in
    types-short (types_made w.leaves.now c.args.operands.now []) w new result c.from_residual-in_err-with_first-in-Ok.ensures.1 asked

pub returns-in-Err-clause-asked : goal.returns-in-Err-clause-asked
returns-in-Err-clause-asked g t c =
    let w = c.args.w.now in
    let late = c.make_all.new.w in
    let new = c.give_back.new.w in
    let first = c.in-Some.first.now in
    let others = c.in-Some.others.now in
    let error = Err c.in-Err.error in
    let both_asked =
    types-others {A = Handle} (first ∷ []) others w c.make.new.w late error c.make.ensures.goes_on.leaves c.in_ok-first.ensures.asked
    c.in-Err.ensures.asked in
    let all_asked =
    types-back {A = Handle} (types_made w.leaves.now (first ∷ others) []) c.in_ok-first.first.held w late new error c.give_back.ensures.types
    both_asked in
    subst (λ l. AsksTypesOrThrows {A = Handle} (types_made w.leaves.now l []) w new error) (sym c.in-Some.ensures.cases.0) all_asked

-- ---- what the handles stand for

pub returns-in_ok-with_first-in-Ok-clause-stands : goal.returns-in_ok-with_first-in-Ok-clause-stands
returns-in_ok-with_first-in-Ok-clause-stands g t c ts stand =
    let w = c.args.w.now in
    let later = c.make.new.w in
    let same = ap (λ l. l.now) c.make.ensures.goes_on.leaves in
    more-stand w.leaves.now c.in-Some.first.now c.in-Some.others.now c.in_ok-first.first c.in-Ok.others c.in_ok-with_first-in-Ok.field-0 ts
    c.in_ok-with_first-in-Ok.ensures.listed c.in_ok-first.ensures.stands
    (subst (λ l. (cs : Cases) → StandForEach l c.in-Some.others.now cs → StandForCases l c.in-Ok.others cs) same c.in-Ok.ensures.stands)
    (subst (λ l. StandForEach w.leaves.now l ts) c.in-Some.ensures.cases.0 stand)
