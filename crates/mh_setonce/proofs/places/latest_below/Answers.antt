use Rattle.std.proofs.Common.{refl}
use Rattle.mh_setonce.proofs.Latest.{sought-next}
use Rattle.mh_setonce.proofs.places.latest_below.Goals as goal

pub loop-place-smaller : goal.loop-place-smaller
loop-place-smaller c =
    let l = c.loop-place.invariant in
    (sought-next c.args.hashes.now l.0 c.args.before.now c.args.hash c.loop-place.place _ c.args.first l.1 l.2 c.loop-place-test.true
    c.if-hashes-place.false refl).1

pub loop-place-preserved : goal.loop-place-preserved
loop-place-preserved c =
    let l = c.loop-place.invariant in (
      l.0,
      l.1,
      (sought-next c.args.hashes.now l.0 c.args.before.now c.args.hash c.loop-place.place _ c.args.first l.1 l.2 c.loop-place-test.true
          c.if-hashes-place.false refl).0,
    )
