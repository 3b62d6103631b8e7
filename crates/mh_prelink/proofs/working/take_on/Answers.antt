use Rattle.std.proofs.Common.{◌≡◌, ◌+◌, ◌-◌, refl, subst, arith, vec_len}
use Rattle.mh_prelink.proofs.Going.{goes_more, goes_ends}
use Rattle.mh_prelink.proofs.working.take_on.Goals as goal

pub link-requires-clause-room : goal.link-requires-clause-room
link-requires-clause-room g c =
    let n = g.N.Bound.bound - vec_len c.args.work.now.taken in
    let some : n ≡ (n - 1) + 1 = omega (arith, c.requires.few) in
    g.met.L.Linking.less _ _ (n - 1) (subst (λ k. g.L.Linking.room c.args.linking.now c.args.work.now.pass k) some c.requires.goes.1.left)

pub returns-in-Ok-clause-ended : goal.returns-in-Ok-clause-ended
returns-in-Ok-clause-ended g c = λ p h.
    let l = c.args.linking.now in
    let step = g.L.Linking.step l in let has = g.L.Linking.has l in let room = g.L.Linking.room l in
    let e = c.in-Ok.ensures in let r = c.push_reserved.ensures in
    goes_ends {P = g.row.L-Pass.Denot} {E = g.row.L-Stop.Denot} step has room g.N.Bound.bound p _
    (goes_more {P = g.row.L-Pass.Denot} {E = g.row.L-Stop.Denot} step has room g.N.Bound.bound p c.args.work.now _ c.args.item h c.requires.few
    r.items r.len r.capacity refl e.step e.has e.kept e.room)
