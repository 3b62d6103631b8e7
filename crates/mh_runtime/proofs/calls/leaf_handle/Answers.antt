use Rattle.std.proofs.Common.{[], Ok, Err, subst}
use Rattle.mh_tree.specs.Tree as tree
use Rattle.mh_tree.specs.Typing.{type_of}
use Rattle.mh_handle.specs.declared.error.HandleError.TheVariants.{NoMemory, FormsFull, TypesFull}
use Rattle.mh_handle.specs.Recipe.{recipe}
use Rattle.mh_handle.specs.Works.{Makes, TradesTypes, types_in}
use Rattle.mh_attempt.proofs.asked.AskedNodes.{asks-made}
use Rattle.mh_runtime.proofs.asking.LeafTypes.{leaf-asks}
use Rattle.mh_runtime.proofs.calls.leaf_handle.Goals as goal

pub returns-in-Ok-clause-asks : goal.returns-in-Ok-clause-asks
returns-in-Ok-clause-asks g c =
    asks-made (recipe c.args.w.now.leaves.now (tree.Leaf c.args.id)) c.args.w.now c.leaf.new.w (Ok c.in-Ok.handle) c.in-Ok.ensures.makes

pub returns-in-Err-FormsFull-clause-asks : goal.returns-in-Err-FormsFull-clause-asks
returns-in-Err-FormsFull-clause-asks g c =
    asks-made (recipe c.args.w.now.leaves.now (tree.Leaf c.args.id)) c.args.w.now c.leaf.new.w (Err (FormsFull c.in-Err-FormsFull.drawn))
    (subst (λ e. Makes (recipe c.args.w.now.leaves.now (tree.Leaf c.args.id)) c.args.w.now c.leaf.new.w (Err e)) c.in-Err-FormsFull.field-0-is
    c.in-Err-FormsFull.ensures.makes)

pub returns-in-Err-TypesFull-clause-asks : goal.returns-in-Err-TypesFull-clause-asks
returns-in-Err-TypesFull-clause-asks g c =
    asks-made (recipe c.args.w.now.leaves.now (tree.Leaf c.args.id)) c.args.w.now c.leaf.new.w (Err (TypesFull c.in-Err-TypesFull.bucket))
    (subst (λ e. Makes (recipe c.args.w.now.leaves.now (tree.Leaf c.args.id)) c.args.w.now c.leaf.new.w (Err e)) c.in-Err-TypesFull.field-0-is
    c.in-Err-TypesFull.ensures.makes)

-- ---- the seat of types

pub returns-in-Ok-clause-asked : goal.returns-in-Ok-clause-asked
returns-in-Ok-clause-asked g c =
    leaf-asks c.args.w.now.leaves.now (tree.Leaf c.args.id) c.args.w.now c.leaf.new.w (Ok c.in-Ok.handle) c.in-Ok.ensures.types

pub returns-in-Err-NoMemory-clause-asked : goal.returns-in-Err-NoMemory-clause-asked
returns-in-Err-NoMemory-clause-asked g c =
    leaf-asks c.args.w.now.leaves.now (tree.Leaf c.args.id) c.args.w.now c.leaf.new.w (Err NoMemory)
    (subst (λ e. TradesTypes (types_in (type_of c.args.w.now.leaves.now (tree.Leaf c.args.id))) [] c.args.w.now c.leaf.new.w (Err e))
    c.in-Err-NoMemory.field-0-is c.in-Err-NoMemory.ensures.types)

pub returns-in-Err-FormsFull-clause-asked : goal.returns-in-Err-FormsFull-clause-asked
returns-in-Err-FormsFull-clause-asked g c =
    leaf-asks c.args.w.now.leaves.now (tree.Leaf c.args.id) c.args.w.now c.leaf.new.w (Err (FormsFull c.in-Err-FormsFull.drawn))
    (subst (λ e. TradesTypes (types_in (type_of c.args.w.now.leaves.now (tree.Leaf c.args.id))) [] c.args.w.now c.leaf.new.w (Err e))
    c.in-Err-FormsFull.field-0-is c.in-Err-FormsFull.ensures.types)

pub returns-in-Err-TypesFull-clause-asked : goal.returns-in-Err-TypesFull-clause-asked
returns-in-Err-TypesFull-clause-asked g c =
    leaf-asks c.args.w.now.leaves.now (tree.Leaf c.args.id) c.args.w.now c.leaf.new.w (Err (TypesFull c.in-Err-TypesFull.bucket))
    (subst (λ e. TradesTypes (types_in (type_of c.args.w.now.leaves.now (tree.Leaf c.args.id))) [] c.args.w.now c.leaf.new.w (Err e))
    c.in-Err-TypesFull.field-0-is c.in-Err-TypesFull.ensures.types)
