use Rattle.std.proofs.Common.{◌≡◌, sym, ◌∙◌, length, arith, rules}
use Rattle.mh_sharing_tests.proofs.Building.{resolvable}
use Rattle.mh_sharing_tests.proofs.constants.built.all.Goals as goal

pub returns : goal.returns
returns c =
    let count : length c.args.built.jobs ≡ c.args.count = let len = c.len.ensures in let same = c.if-len-count.false in omega (arith, len, same) in
    resolvable c.args.built c.args.count c.requires count
