use Rattle.std.proofs.Common.{◌∙◌, ap, sym, subst, ◌∷◌, List, Ok, length, arith}
use Rattle.mh_values.specs.declared.types.MethodTy.{MethodTy}
use Rattle.mh_attempt.specs.Cases.{StandForEach, StandForSome}
use Rattle.mh_attempt.proofs.nodes.SwitchNodes.{some-first, some-others, types-first}
use Rattle.mh_attempt.proofs.lines.parts.+types_of.Goals as goal

pub ty-requires : goal.ty-requires
ty-requires t c =
    some-first c.args.leaves.now c.in-Some.first.now c.in-Some.others.now
    (subst (StandForSome c.args.leaves.now) c.in-Some.ensures.cases.0 c.requires)

pub types_of-requires : goal.types_of-requires
types_of-requires t c =
    let less = ap length c.in-Some.ensures.cases.0 in (
      omega (arith, less, c.decreases),
      some-others c.args.leaves.now c.in-Some.first.now c.in-Some.others.now
          (subst (StandForSome c.args.leaves.now) c.in-Some.ensures.cases.0 c.requires),
    )

pub returns : goal.returns
returns t c ts stand =
    types-first c.args.leaves.now c.in-Some.first.now c.in-Some.others.now c.in_ok-first.first c.in_ok-types_of.field-0 c.from_vec.result ts
    (c.from_vec.ensures ∙ (c.in_ok-insert.ensures.items ∙ ap (λ (tys : List MethodTy). c.in_ok-first.first ∷ tys) c.into_vec-types.ensures))
    (λ u of. c.ty.ensures u of ∙ ap Ok (sym c.in_ok-first.ensures)) c.in_ok-types_of.ensures
    (subst (λ os. StandForEach c.args.leaves.now os ts) c.in-Some.ensures.cases.0 stand)
