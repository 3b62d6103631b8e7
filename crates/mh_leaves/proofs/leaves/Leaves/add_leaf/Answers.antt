use Rattle.std.proofs.Common.{◌≡◌, ◌≢◌, ◌∙◌, refl, sym, ap, subst, ℕ, ◌+◌, List, length, get_or, false, arith}
use Rattle.std.specs.List.{list_any}
use Rattle.std.specs.Vec.{vec_len}
use Rattle.mh_leaf.specs.LeafTable.{LeafTable}
use Rattle.mh_leaves.specs.Find.{has_texts}
use Rattle.mh_leaves.specs.Index.{FindsOneMore}
use Rattle.mh_leaves.specs.Registered.{IsLeafOf, most_leaves}
use Rattle.mh_leaves.proofs.Keeping.{kept-more, kept-same, popped-pushed}
use Rattle.mh_leaves.proofs.leaves.Leaves.add_leaf.Goals as goal

pub invariant_of-self-in-Ok : goal.invariant_of-self-in-Ok
invariant_of-self-in-Ok c =
    let leaf = c.args.leaf in
    let old = c.self.inside.leaves in
    let read = c.index-leaf.result.now in
    let here : c.len-number.result ≡ length old.items = omega (arith, c.len-number.ensures) in
    let same : read ≡ leaf =
    c.index-leaf.ensures ∙ ap (λ n. get_or c.push.new.self.items n read) c.len-number.ensures ∙ c.in_ok-push.ensures.by_index.1 read refl in
    let finds : FindsOneMore c.self.inside.index c.add.new.self read.owner read.name read.descriptor c.len-number.result =
    subst (λ (name : List ℕ). FindsOneMore c.self.inside.index c.add.new.self read.owner name read.descriptor c.len-number.result) c.as_slice-name.ensures
    (subst (λ (descriptor : List ℕ). FindsOneMore c.self.inside.index c.add.new.self read.owner c.as_slice-name.result.now descriptor c.len-number.result)
    c.as_slice-descriptor.ensures
    c.in-Ok.ensures.ok) in
    kept-more c.self.inside.classes old.items c.push.new.self.items leaf read c.self.inside.index c.add.new.self c.len-number.result c.self.invariant
    (subst (λ (t : LeafTable). IsLeafOf t.classes leaf) (sym c.self.view_is) c.requires.leaf)
    (subst (λ (t : LeafTable). length t.leaves ≢ most_leaves) (sym c.self.view_is) c.requires.few)
    (subst (λ (t : LeafTable). list_any (has_texts leaf.owner leaf.name leaf.descriptor) t.leaves ≡ false) (sym c.self.view_is) c.requires.new)
    c.in_ok-push.ensures.items here same finds

pub invariant_of-self-in_default : goal.invariant_of-self-in_default
invariant_of-self-in_default c =
    let counted : vec_len c.push.new.self ≡ length c.self.inside.leaves.items + 1 = omega (arith, c.in_ok-push.ensures.len) in
    kept-same c.self.inside.classes c.self.inside.leaves.items c.pop.new.self.items c.self.inside.index c.add.new.self c.self.invariant
    (popped-pushed c.self.inside.leaves.items c.push.new.self.items c.pop.new.self.items c.args.leaf (vec_len c.push.new.self) c.in_ok-push.ensures.items
    c.pop.ensures.rest counted)
    c.in_default.ensures.err
