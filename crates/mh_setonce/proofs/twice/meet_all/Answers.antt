use Rattle.std.proofs.Common.{◌++◌, ◌∷◌, [], ap, ◌∙◌, sym, take, arith}
use Rattle.mh_setonce.specs.Learnings.{node_of, nodes_of, name_of}
use Rattle.mh_setonce.proofs.Nodes.{name_at, taken}
use Rattle.mh_setonce.proofs.Fronts.{share-at}
use Rattle.mh_setonce.proofs.twice.meet_all.Goals as goal

pub agrees-requires : goal.agrees-requires
agrees-requires g c = share-at _ _ c.loop-i.i _ _ c.requires
    (name_at name_of c.args.a.now c.loop-i.i c.index-a-i.result (omega (arith, c.min-count.ensures, c.loop-i-test.true)) c.index-a-i.is)
    (name_at name_of c.args.b.now c.loop-i.i c.index-b-i.result (omega (arith, c.min-count.ensures, c.loop-i-test.true)) c.index-b-i.is)

pub loop-i-preserved : goal.loop-i-preserved
loop-i-preserved g c =
    let a = taken node_of c.args.a.now c.loop-i.i c.index-a-i.result (omega (arith, c.min-count.ensures, c.loop-i-test.true)) c.index-a-i.is in
    let b = taken node_of c.args.b.now c.loop-i.i c.index-b-i.result (omega (arith, c.min-count.ensures, c.loop-i-test.true)) c.index-b-i.is in
    a ∙ (ap (λ z. take c.loop-i.i (nodes_of c.args.a.now) ++ node_of z ∷ []) c.agrees.ensures ∙ (ap (λ z. z ++ node_of c.index-b-i.result ∷ [])
    c.loop-i.invariant ∙ sym b))
