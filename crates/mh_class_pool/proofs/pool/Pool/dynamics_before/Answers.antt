use Rattle.std.proofs.Common.{◌≡◌, ℕ, List, ltb, sym, ap, subst, ◌∙◌, rules}
use Rattle.std.proofs.lemmas.List.Sorted.{IsPartitionPoint-from_clause}
use Rattle.std.specs.List.{count_by}
use Rattle.std.specs.List.Sorted.{IsPartitionedBy}
use Rattle.mh_class_pool.specs.Entries.{Slot, dynamics}
use Rattle.mh_class_pool.proofs.Dynamics.{are_parted, count-parted}
use Rattle.mh_class_pool.proofs.pool.Pool.dynamics_before.Goals as goal

pub returns : goal.returns
returns c =
    let before : ℕ → _ = λ i. ltb i c.args.index in
    let same : c.deref.result.now ≡ dynamics c.args.self.now =
    c.deref.ensures.value ∙ (c.self.invariant.dynamics ∙ ap (λ (pool : List Slot). dynamics pool) c.self.view_is) in
    let parted = subst (λ (xs : List ℕ). IsPartitionedBy before xs) (sym same) (are_parted c.args.self.now c.args.index) in
    let point = IsPartitionPoint-from_clause before c.deref.result.now c.partition_point.result c.partition_point.ensures.partitioned parted
    (λ a r q k. search rules) in
    count-parted before c.deref.result.now c.partition_point.result c.partition_point.ensures.bound point
    ∙ ap (λ (xs : List ℕ). count_by before xs) same
