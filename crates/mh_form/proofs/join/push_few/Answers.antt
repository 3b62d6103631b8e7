use Rattle.std.proofs.Common.{arith}
use Rattle.mh_form.proofs.join.push_few.Goals as goal

pub push_reserved-requires : goal.push_reserved-requires
push_reserved-requires c = omega (arith, c.loop-character.invariant.room, c.loop-character-test.true)
