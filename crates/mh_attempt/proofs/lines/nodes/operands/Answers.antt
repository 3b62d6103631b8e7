use Rattle.std.proofs.Common.{ap, sym, ◌∙◌, Ok}
use Rattle.mh_jobs.specs.Names.{class_of}
use Rattle.mh_jobs.specs.Thrown.{◌>>=◌, plainly}
use Rattle.mh_convert.specs.declared.conv.Rules.TheVariants as rules
use Rattle.mh_tree.specs.Tree as tree
use Rattle.mh_link.specs.Made.{unless_thrown}
use Rattle.mh_link.specs.Operands.{method_type_in, type_in}
use Rattle.mh_link.specs.Operations.{asked_by, spread_of, use_of}
use Rattle.mh_attempt.specs.Recipes.{asked_itself, spread_asked, use_asked}
use Rattle.mh_attempt.proofs.lines.nodes.operands.Goals as goal

-- ---- of no handle

pub returns-in_ok-leaf_named-in-Leaf-clause-asked : goal.returns-in_ok-leaf_named-in-Leaf-clause-asked
returns-in_ok-leaf_named-in-Leaf-clause-asked c frame hold =
    let leaves = c.args.leaves.now in
    let read = ap (asked_by leaves frame) c.in-Leaf.is ∙ (λ i. c.in_ok-leaf_named-in-Leaf.ensures.found i >>= (λ l. Ok (tree.Leaf l))) in
    (c.in_ok-leaf_named-in-Leaf.ensures.within, record { asked = read; forms = ap (asked_itself leaves frame) c.in-Leaf.is })

pub returns-in_ok-value-in-Constant-clause-asked : goal.returns-in_ok-value-in-Constant-clause-asked
returns-in_ok-value-in-Constant-clause-asked c frame hold =
    let leaves = c.args.leaves.now in
    let a = ap (λ classes. type_in classes frame c.in-Constant.ty) (sym c.classes-classes.ensures) ∙ c.in_ok-ty-in-Constant.ensures leaves frame hold in
    let v = c.in_ok-value-in-Constant.ensures leaves frame hold in
    let read = ap (asked_by leaves frame) c.in-Constant.is ∙ (λ i. a i >>= (λ t. v i >>= (λ x. Ok (tree.Constant t x)))) in
    record { asked = read; forms = ap (asked_itself leaves frame) c.in-Constant.is }

pub returns-in_ok-ty-in-Identity-clause-asked : goal.returns-in_ok-ty-in-Identity-clause-asked
returns-in_ok-ty-in-Identity-clause-asked c frame hold =
    let leaves = c.args.leaves.now in
    let a = ap (λ classes. type_in classes frame c.in-Identity.ty) (sym c.classes-classes.ensures) ∙ c.in_ok-ty-in-Identity.ensures leaves frame hold in
    let read = ap (asked_by leaves frame) c.in-Identity.is ∙ (λ i. a i >>= (λ t. Ok (tree.Identity t))) in
    record { asked = read; forms = ap (asked_itself leaves frame) c.in-Identity.is }

pub returns-in_ok-class_of-in-Throw-clause-asked : goal.returns-in_ok-class_of-in-Throw-clause-asked
returns-in_ok-class_of-in-Throw-clause-asked c frame hold =
    let leaves = c.args.leaves.now in
    let a = ap (λ classes. type_in classes frame c.in-Throw.ret) (sym c.classes-classes.ensures) ∙ c.in_ok-ret-in-Throw.ensures leaves frame hold in
    let b = (λ i. class_of plainly (sym c.classes-classes.ensures i) (sym c.as_slice.ensures i)) ∙ c.in_ok-class_of-in-Throw.ensures in
    let read = ap (asked_by leaves frame) c.in-Throw.is ∙ (λ i. a i >>= (λ t. b i >>= (λ x. Ok (tree.Throw t x)))) in
    record { asked = read; forms = ap (asked_itself leaves frame) c.in-Throw.is }

-- ---- of one

pub returns-in_ok-value-in-Bind-clause-asked : goal.returns-in_ok-value-in-Bind-clause-asked
returns-in_ok-value-in-Bind-clause-asked c frame hold =
    let leaves = c.args.leaves.now in
    let a = c.in_ok-target-in-Bind.ensures.stands leaves frame hold in
    let v = c.in_ok-value-in-Bind.ensures leaves frame hold in
    let read = ap (asked_by leaves frame) c.in-Bind.is ∙ (λ i. a.1 i >>= (λ t. v i >>= (λ x. Ok (tree.Bind t c.in-Bind.at x)))) in
    (a.0, a.2, record { asked = read; forms = ap (asked_itself leaves frame) c.in-Bind.is })

pub returns-in_ok-asked-in-Permute-clause-asked : goal.returns-in_ok-asked-in-Permute-clause-asked
returns-in_ok-asked-in-Permute-clause-asked c frame hold =
    let leaves = c.args.leaves.now in
    let a = c.in_ok-target-in-Permute.ensures.stands leaves frame hold in
    let b = ap (λ classes. method_type_in classes frame c.in-Permute.asked) (sym c.classes-classes.ensures)
    ∙ c.in_ok-asked-in-Permute.ensures leaves frame hold in
    let order = sym c.as_slice-in-Permute.ensures in
    let read = ap (asked_by leaves frame) c.in-Permute.is ∙ (λ i. a.1 i >>= (λ t. b i >>= (λ x. Ok (tree.Permute t x (order i))))) in
    (a.0, a.2, record { asked = read; forms = ap (asked_itself leaves frame) c.in-Permute.is })

pub returns-in_ok-ty-in-Spread-clause-asked : goal.returns-in_ok-ty-in-Spread-clause-asked
returns-in_ok-ty-in-Spread-clause-asked c frame hold =
    let leaves = c.args.leaves.now in
    let a = c.in_ok-target-in-Spread.ensures.stands leaves frame hold in
    let b = ap (λ classes. type_in classes frame c.in-Spread.array) (sym c.classes-classes.ensures) ∙ c.in_ok-ty-in-Spread.ensures leaves frame hold in
    let read = ap (asked_by leaves frame) c.in-Spread.is ∙ (λ i. a.1 i >>= (λ t. b i >>= (λ x. spread_of leaves t x c.in-Spread.count))) in
    (a.0, a.2, read, ap (asked_itself leaves frame) c.in-Spread.is ∙ (λ i s. unless_thrown (a.1 i) (λ t. spread_asked leaves t s)))

pub returns-in_ok-ty-in-Gather-clause-asked : goal.returns-in_ok-ty-in-Gather-clause-asked
returns-in_ok-ty-in-Gather-clause-asked c frame hold =
    let leaves = c.args.leaves.now in
    let a = c.in_ok-target-in-Gather.ensures.stands leaves frame hold in
    let b = ap (λ classes. type_in classes frame c.in-Gather.array) (sym c.classes-classes.ensures) ∙ c.in_ok-ty-in-Gather.ensures leaves frame hold in
    let read = ap (asked_by leaves frame) c.in-Gather.is ∙ (λ i. a.1 i >>= (λ t. b i >>= (λ x. Ok (tree.Gather t x c.in-Gather.count)))) in
    (a.0, a.2, record { asked = read; forms = ap (asked_itself leaves frame) c.in-Gather.is })

pub returns-in_ok-asked-in-AsType-clause-asked : goal.returns-in_ok-asked-in-AsType-clause-asked
returns-in_ok-asked-in-AsType-clause-asked c frame hold =
    let leaves = c.args.leaves.now in
    let a = c.in_ok-target-in-AsType.ensures.stands leaves frame hold in
    let b = ap (λ classes. method_type_in classes frame c.in-AsType.asked) (sym c.classes-classes.ensures)
    ∙ c.in_ok-asked-in-AsType.ensures leaves frame hold in
    let read = ap (asked_by leaves frame) c.in-AsType.is ∙ (λ i. a.1 i >>= (λ t. b i >>= (λ x. use_of rules.AsType leaves t x))) in
    (a.0, a.2, read, ap (asked_itself leaves frame) c.in-AsType.is ∙ (λ i u. unless_thrown (a.1 i) (λ t. use_asked leaves t u)))

pub returns-in_ok-asked-in-Explicit-clause-asked : goal.returns-in_ok-asked-in-Explicit-clause-asked
returns-in_ok-asked-in-Explicit-clause-asked c frame hold =
    let leaves = c.args.leaves.now in
    let a = c.in_ok-target-in-Explicit.ensures.stands leaves frame hold in
    let b = ap (λ classes. method_type_in classes frame c.in-Explicit.asked) (sym c.classes-classes.ensures)
    ∙ c.in_ok-asked-in-Explicit.ensures leaves frame hold in
    let read = ap (asked_by leaves frame) c.in-Explicit.is ∙ (λ i. a.1 i >>= (λ t. b i >>= (λ x. use_of rules.Explicit leaves t x))) in
    (a.0, a.2, read, ap (asked_itself leaves frame) c.in-Explicit.is ∙ (λ i u. unless_thrown (a.1 i) (λ t. use_asked leaves t u)))

-- ---- by a function of their own

pub returns-in-Drop-clause-asked : goal.returns-in-Drop-clause-asked
returns-in-Drop-clause-asked c frame hold = rw c.in-Drop.is (c.dropped.ensures.asked frame hold)

pub returns-in-Filter-clause-asked : goal.returns-in-Filter-clause-asked
returns-in-Filter-clause-asked c frame hold = rw c.in-Filter.is (c.pair.ensures.asked c.args.leaves.now frame hold)

pub returns-in-FilterReturn-clause-asked : goal.returns-in-FilterReturn-clause-asked
returns-in-FilterReturn-clause-asked c frame hold = rw c.in-FilterReturn.is (c.pair-in-FilterReturn.ensures.asked c.args.leaves.now frame hold)

pub returns-in-Fold-clause-asked : goal.returns-in-Fold-clause-asked
returns-in-Fold-clause-asked c frame hold = rw c.in-Fold.is (c.pair-in-Fold.ensures.asked c.args.leaves.now frame hold)

pub returns-in-Collect-clause-asked : goal.returns-in-Collect-clause-asked
returns-in-Collect-clause-asked c frame hold = rw c.in-Collect.is (c.pair-in-Collect.ensures.asked c.args.leaves.now frame hold)

pub returns-in-Guard-clause-asked : goal.returns-in-Guard-clause-asked
returns-in-Guard-clause-asked c frame hold = rw c.in-Guard.is (c.triple.ensures.asked c.args.leaves.now frame hold)

pub returns-in-Catch-clause-asked : goal.returns-in-Catch-clause-asked
returns-in-Catch-clause-asked c frame hold = rw c.in-Catch.is (c.caught.ensures.asked frame hold)

pub returns-in-TryFinally-clause-asked : goal.returns-in-TryFinally-clause-asked
returns-in-TryFinally-clause-asked c frame hold = rw c.in-TryFinally.is (c.pair-in-TryFinally.ensures.asked c.args.leaves.now frame hold)

pub returns-in-Switch-clause-asked : goal.returns-in-Switch-clause-asked
returns-in-Switch-clause-asked c frame hold = rw c.in-Switch.is (c.switched.ensures.asked c.args.leaves.now frame hold)

pub returns-in-Counted-clause-asked : goal.returns-in-Counted-clause-asked
returns-in-Counted-clause-asked c frame hold = rw c.in-Counted.is (c.triple-in-Counted.ensures.asked c.args.leaves.now frame hold)
