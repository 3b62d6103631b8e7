use Rattle.std.proofs.Common.{subst}
use Rattle.mh_setonce.specs.Puts.{Puts}
use Rattle.mh_setonce.proofs.Later.{puts-later}
use Rattle.mh_setonce.proofs.chain.Chain.find_or_put.Goals as goal

pub returns-in-Ok-clause-put : goal.returns-in-Ok-clause-put
returns-in-Ok-clause-put g c =
    let key = g.V.Keyed.key_of in
    subst (λ v. Puts key c.args.walk.now c.put_once.new.walk v c.in-Ok.put) c.loop.invariant.2
    (puts-later key c.args.walk.now c.loop.walk c.put_once.new.walk c.loop.value c.in-Ok.put c.loop.invariant.1 c.in-Ok.ensures.put)
