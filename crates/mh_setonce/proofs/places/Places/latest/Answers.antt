use Rattle.std.proofs.Common.{◌≡◌, arith, length, subst, sym}
use Rattle.mh_setonce.specs.Index.{IsPower}
use Rattle.mh_setonce.proofs.Buckets.{some-power}
use Rattle.mh_setonce.proofs.Latest.{first-read, latest-above}
use Rattle.mh_setonce.proofs.places.Places.latest.Goals as goal

pub bucket_of-bucket-requires : goal.bucket_of-bucket-requires
bucket_of-bucket-requires c =
    let count : c.len-buckets.result ≡ length c.self.inside.newest.items = omega (arith, c.len-buckets.ensures) in
    subst IsPower (sym count) (some-power _ c.self.invariant.0.sized (omega (arith, count, c.if-buckets-eq0.false)))

pub latest_below-requires : goal.latest_below-requires
latest_below-requires c =
    let first = first-read c.self.inside.hashes.items c.self.inside.newest.items c.self.inside.before.items c.args.hash c.len-buckets.result
    c.bucket_of-bucket.result c.index-place.result.now c.self.invariant.0 (omega (arith, c.len-buckets.ensures)) (omega (arith, c.if-buckets-eq0.false))
    c.bucket_of-bucket.ensures c.index-place.ensures in
    rw (c.as_slice.ensures.value, c.as_slice-2.ensures.value) (c.self.inside.newest.items, c.self.invariant.0, first.0)

pub returns : goal.returns
returns c =
    let first = first-read c.self.inside.hashes.items c.self.inside.newest.items c.self.inside.before.items c.args.hash c.len-buckets.result
    c.bucket_of-bucket.result c.index-place.result.now c.self.invariant.0 (omega (arith, c.len-buckets.ensures)) (omega (arith, c.if-buckets-eq0.false))
    c.bucket_of-bucket.ensures c.index-place.ensures in
    let found = rw (c.as_slice.ensures.value) at c.latest_below.ensures in
    rw (← c.self.view_is) (latest-above c.self.inside.hashes.items c.args.hash c.index-place.result.now _ _ first.2 first.1 found)
