use Rattle.mh_setonce.proofs.Latest.{next-read, latest-above}
use Rattle.mh_setonce.proofs.places.Places.earlier.Goals as goal

pub latest_below-requires : goal.latest_below-requires
latest_below-requires c =
    let low = rw (← c.self.view_is) at c.requires in
    let next = next-read c.self.inside.hashes.items c.self.inside.newest.items c.self.inside.before.items c.args.place c.index-hash.result.now
    c.index.result.now c.self.invariant.0 low c.index-hash.ensures c.index.ensures in
    rw (c.as_slice.ensures.value, c.as_slice-2.ensures.value) (c.self.inside.newest.items, c.self.invariant.0, next.1)

pub returns : goal.returns
returns c =
    let low = rw (← c.self.view_is) at c.requires in
    let next = next-read c.self.inside.hashes.items c.self.inside.newest.items c.self.inside.before.items c.args.place c.index-hash.result.now
    c.index.result.now c.self.invariant.0 low c.index-hash.ensures c.index.ensures in
    let found = rw (c.as_slice.ensures.value) at c.latest_below.ensures in
    rw (← c.self.view_is, ← next.0) (latest-above c.self.inside.hashes.items c.index-hash.result.now c.index.result.now c.args.place _ next.3 next.2 found)
