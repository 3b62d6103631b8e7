use Rattle.std.proofs.Common.{ap, ◌∙◌, arith, subst}
use Rattle.mh_setonce.specs.Learnings.{node_of, nodes_of}
use Rattle.mh_setonce.proofs.Nodes.{name_at}
use Rattle.mh_setonce.proofs.Search.{Seeks, seeks-next, seeks-none, seeks-place}
use Rattle.std.proofs.lemmas.List.{length-map}
use Rattle.mh_setonce.proofs.scan.with_key.Goals as goal

pub loop-next-preserved : goal.loop-next-preserved
loop-next-preserved g c =
    let at = subst (Seeks g.V.Keyed.key_of g.V.Keyed.hash_of (nodes_of c.args.learnt.now) c.args.key.now) c.in-Some.is c.loop-next.invariant in
    let low = seeks-place _ _ (nodes_of c.args.learnt.now) _ c.in-Some.place at in
    let here = name_at node_of c.args.learnt.now c.in-Some.place c.index-learnt-place.result (omega (arith, low, length-map c.args.learnt.now node_of))
    c.index-learnt-place.is in
    seeks-next g.V.Keyed.key_of g.V.Keyed.hash_of (nodes_of c.args.learnt.now) _ _ c.in-Some.place (node_of c.index-learnt-place.result) _ c.requires at here
    (λ e. let t = c.has_key.ensures.1 (ap g.V.Keyed.key_of c.node-node.ensures ∙ e) in let f = c.if-has_key.false in (cc)) c.earlier-next.ensures

pub returns : goal.returns
returns g c =
    seeks-none g.V.Keyed.key_of g.V.Keyed.hash_of (nodes_of c.args.learnt.now) c.args.key.now
    (subst (Seeks g.V.Keyed.key_of g.V.Keyed.hash_of (nodes_of c.args.learnt.now) c.args.key.now) c.in_default.is c.loop-next.invariant)
