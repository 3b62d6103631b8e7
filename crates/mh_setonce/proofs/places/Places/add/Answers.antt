use Rattle.std.proofs.Common.{◌≡◌, arith, length, length-set, subst, sym}
use Rattle.mh_setonce.proofs.Buckets.{indexed-read, some-power}
use Rattle.mh_setonce.specs.Index.{IsPower}
use Rattle.mh_setonce.proofs.places.Places.add.Goals as goal

pub bucket_of-bucket-requires : goal.bucket_of-bucket-requires
bucket_of-bucket-requires c =
    let room = rw (← c.self.view_is) at c.requires in
    let count : c.len.result ≡ length c.self.inside.newest.items = omega (arith, c.len.ensures) in
    subst IsPower (sym count) (some-power _ c.self.invariant.0.sized (omega (arith, room)))

pub invariant_of-self : goal.invariant_of-self
invariant_of-self c =
    let room = rw (← c.self.view_is) at c.requires in
    let set = length-set c.self.inside.newest.items c.bucket_of-bucket.result c.len-2.result in
    let is = c.self.invariant in (
      indexed-read c.self.inside.hashes.items c.self.inside.newest.items c.self.inside.before.items _ _ c.args.hash c.len.result
          c.bucket_of-bucket.result c.index-place.result.now c.len-2.result is.0 (omega (arith, room)) (omega (arith, c.len.ensures))
          c.bucket_of-bucket.ensures c.index-place.ensures
          c.push_reserved.ensures.items c.push_reserved-2.ensures.items (omega (arith, c.len-2.ensures, c.push_reserved.ensures.len)),
      omega (arith, set, is.1, c.push_reserved.ensures.capacity),
      omega (arith, set, is.2, c.push_reserved-2.ensures.capacity),
    )
