use Rattle.std.proofs.Common.{sym, subst}
use Rattle.std.specs.Prelude.{IfSome}
use Rattle.mh_attempt.specs.Again.{IsPair}
use Rattle.mh_attempt.proofs.nodes.Pairs.{collect-pair, filter-pair, filter_return-pair, fold-pair, found-pair, try_finally-pair}
use Rattle.mh_attempt.proofs.lines.again.joined_to.Goals as goal

pub returns-in-Filter : goal.returns-in-Filter
returns-in-Filter c =
    let found = c.in-Filter in
    subst (λ op. IfSome c.joined_by.result (λ with. IsPair op c.args.name.now with.0 with.1.now)) (sym found.is)
    (found-pair _ c.args.name.now _ _ _ c.joined_by.result c.joined_by.ensures (λ is. filter-pair c.args.name.now _ _ is _))

pub returns-in-FilterReturn : goal.returns-in-FilterReturn
returns-in-FilterReturn c =
    let found = c.in-FilterReturn in
    subst (λ op. IfSome c.joined_by-in-FilterReturn.result (λ with. IsPair op c.args.name.now with.0 with.1.now)) (sym found.is)
    (found-pair _ c.args.name.now _ _ _ c.joined_by-in-FilterReturn.result c.joined_by-in-FilterReturn.ensures
    (λ is. filter_return-pair c.args.name.now _ _ is))

pub returns-in-Fold : goal.returns-in-Fold
returns-in-Fold c =
    let found = c.in-Fold in
    subst (λ op. IfSome c.joined_by-in-Fold.result (λ with. IsPair op c.args.name.now with.0 with.1.now)) (sym found.is)
    (found-pair _ c.args.name.now _ _ _ c.joined_by-in-Fold.result c.joined_by-in-Fold.ensures (λ is. fold-pair c.args.name.now _ _ is _))

pub returns-in-Collect : goal.returns-in-Collect
returns-in-Collect c =
    let found = c.in-Collect in
    subst (λ op. IfSome c.joined_by-in-Collect.result (λ with. IsPair op c.args.name.now with.0 with.1.now)) (sym found.is)
    (found-pair _ c.args.name.now _ _ _ c.joined_by-in-Collect.result c.joined_by-in-Collect.ensures (λ is. collect-pair c.args.name.now _ _ is _))

pub returns-in-TryFinally : goal.returns-in-TryFinally
returns-in-TryFinally c =
    let found = c.in-TryFinally in
    subst (λ op. IfSome c.joined_by-in-TryFinally.result (λ with. IsPair op c.args.name.now with.0 with.1.now)) (sym found.is)
    (found-pair _ c.args.name.now _ _ _ c.joined_by-in-TryFinally.result c.joined_by-in-TryFinally.ensures (λ is. try_finally-pair c.args.name.now _ _ is))
