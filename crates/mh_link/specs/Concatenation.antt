-- What `StringConcatFactory.makeConcatWithConstants` links (`java.lang.invoke`, Java SE 17). The first static argument is a recipe:
-- it spells the pieces of a text. The other static arguments are its constants.
use Rattle.std.specs.Prelude.{ℕ, Bool, true, false, List, [], ◌∷◌, codes, map, Ok, Err}
use Rattle.std.specs.List.{list_all}
use Rattle.mh_values.specs.declared.class.Class.{Class}
use Rattle.mh_values.specs.declared.types.MethodTy.{MethodTy}
use Rattle.mh_values.specs.declared.value.Value.{Value}
use Rattle.mh_values.specs.declared.value.Value.TheVariants as value
use Rattle.mh_pieces.specs.declared.piece.Piece.{Piece}
use Rattle.mh_pieces.specs.Recipe.{pieces_of}
use Rattle.mh_tree.specs.Tree.{Tree}
use Rattle.mh_tree.specs.Tree as tree
use Rattle.mh_jobs.specs.declared.job.Argument.{Argument}
use Rattle.mh_jobs.specs.declared.job.Argument.TheVariants as argument
use Rattle.mh_jobs.specs.declared.job.BootstrapCall.{BootstrapCall}
use Rattle.mh_jobs.specs.Thrown.{OrThrown, ◌>>=◌, ◌>>◌, require, unsupported}
use Rattle.mh_link.specs.Operands.{no_argument, wrong_sort}

-- the characters of a recipe, which is a text
abbrev pub recipe_of : Argument → OrThrown (List ℕ)
recipe_of (argument.Value (value.Text recipe)) = Ok recipe
recipe_of _ = wrong_sort

-- whether a static argument is a value; a class, a method type or a method handle is not
abbrev pub is_value : Argument → Bool
is_value (argument.Value v) = true
is_value _ = false

-- A static argument as a constant. One that is no value becomes null, because the constants are counted before it is refused.
abbrev pub constant_of : Argument → Value
constant_of (argument.Value v) = v
constant_of _ = value.Null

-- The pieces of a recipe with static arguments as constants. The recipe must fit the type and the number of constants.
-- Then each constant must be a value.
abbrev pub pieces_with : List Class → MethodTy → List ℕ → List Argument → OrThrown (List Piece)
pieces_with classes t recipe constants = do
  pieces ← pieces_of classes recipe (map constant_of constants) t
  require (list_all is_value constants) (unsupported (codes "constant"))
  Ok pieces

-- the pieces that the static arguments give; the recipe must be there, and be a text
abbrev pub pieces_given : List Class → MethodTy → List Argument → OrThrown (List Piece)
pieces_given classes t [] = Err no_argument
pieces_given classes t (first ∷ constants) = do
  recipe ← recipe_of first
  pieces_with classes t recipe constants

-- the concatenation that a call site is linked to
abbrev pub concat_of : List Class → BootstrapCall → OrThrown Tree
concat_of classes call = do
  pieces ← pieces_given classes call.ty call.arguments
  Ok (tree.Concat call.ty pieces)
