-- A concatenation has the type of its call site.
use Rattle.std.proofs.Common.{◌≡◌, subst, List, [], ◌∷◌, map, Ok, codes}
use Rattle.std.specs.List.{list_all}
use Rattle.mh_base.proofs.Inversion.{ok_is}
use Rattle.mh_values.specs.declared.class.Class.{Class}
use Rattle.mh_values.specs.declared.types.MethodTy.{MethodTy}
use Rattle.mh_leaf.specs.LeafTable.{LeafTable}
use Rattle.mh_pieces.specs.declared.piece.Piece.{Piece}
use Rattle.mh_pieces.specs.Recipe.{pieces_of}
use Rattle.mh_tree.specs.Rows.{concat_row}
use Rattle.mh_tree.specs.Tree.{Tree}
use Rattle.mh_tree.specs.Tree as tree
use Rattle.mh_tree.specs.Typing.{type_of}
use Rattle.mh_tree.proofs.Concatenated.{recipe-typed}
use Rattle.mh_jobs.specs.declared.job.Argument.{Argument}
use Rattle.mh_jobs.specs.declared.job.BootstrapCall.{BootstrapCall}
use Rattle.mh_jobs.specs.Thrown.{unsupported}
use Rattle.mh_jobs.proofs.Parts.{bound-parts, require-parts}
use Rattle.mh_link.specs.Concatenation.{concat_of, constant_of, is_value, pieces_given, pieces_with, recipe_of}

-- pieces that static arguments give are joined by the type that they were given for
pub given-joined : (classes : List Class) (t : MethodTy) (arguments : List Argument) (pieces : List Piece) →
    pieces_given classes t arguments ≡ Ok pieces → concat_row classes t pieces ≡ Ok t
given-joined classes t [] pieces h = absurd cc
given-joined classes t (first ∷ constants) pieces h =
    let recipe = bound-parts (recipe_of first) (λ r. pieces_with classes t r constants) pieces h in
    let spelled = bound-parts (pieces_of classes recipe.0 (map constant_of constants) t) _ pieces recipe.2 in
    let values = require-parts (list_all is_value constants) (unsupported (codes "constant")) (Ok spelled.0) pieces spelled.2 in
    recipe-typed classes recipe.0 (map constant_of constants) t pieces
    (subst (λ ps. pieces_of classes recipe.0 (map constant_of constants) t ≡ Ok ps) (ok_is spelled.0 pieces values.1) spelled.1)

-- what a call site gets has the site's type
pub concat-typed : (leaves : LeafTable) (call : BootstrapCall) (t : Tree) → concat_of leaves.classes call ≡ Ok t → type_of leaves t ≡ Ok call.ty
concat-typed leaves call t h =
    let pieces = bound-parts (pieces_given leaves.classes call.ty call.arguments) (λ ps. Ok (tree.Concat call.ty ps)) t h in
    subst (λ u. type_of leaves u ≡ Ok call.ty) (ok_is (tree.Concat call.ty pieces.0) t pieces.2)
    (given-joined leaves.classes call.ty call.arguments pieces.0 pieces.1)
