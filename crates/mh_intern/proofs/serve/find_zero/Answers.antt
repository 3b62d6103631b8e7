use Rattle.std.proofs.Common.{arith, ap, ◌∙◌, sym, subst}
use Rattle.mh_intern.specs.Lists.{Listed}
use Rattle.mh_intern.proofs.Filling.{full_at, read_more}
use Rattle.mh_intern.proofs.serve.find_zero.Goals as goal

pub loop-i-preserved : goal.loop-i-preserved
loop-i-preserved c =
    let i = c.loop-i.invariant in
    let r = c.read.ensures in
    let m = read_more c.args.bucket c.loop-i.i c.read.result c.args.seat.now.me.0 c.loop-i.seat.me.0 c.read.new.seat.me.0 i.2 r.found c.if-read-eq0.false i.3 in
    (r.same.0 ∙ i.0, r.same.1 ∙ i.1, m.0, m.1)

pub returns-clause-found : goal.returns-clause-found
returns-clause-found c =
    let i = c.loop-i.invariant in
    let v = c.loop-i.seat.me.0 in
    full_at c.args.bucket v (ap (λ z. z.keeps) i.2 ∙ c.requires.bucket.1) (subst (λ es. Listed c.args.bucket es) (sym (ap (λ z. z.entries) i.2))
    c.requires.listed)
    (λ j le lt. i.3 j le (omega arith))
