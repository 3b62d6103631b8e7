-- Worked examples of concatenations: what the checker computes of the definitions.
use Rattle.std.specs.Prelude.{◌≡◌, refl, ℕ, pos, List, [], ◌∷◌, codes, Some, Ok, Err}
use Rattle.mh_values.specs.declared.types.MethodTy.{MethodTy}
use Rattle.mh_values.specs.declared.types.Ty.{Ty}
use Rattle.mh_values.specs.declared.value.Num.TheVariants as num
use Rattle.mh_values.specs.declared.value.Value.TheVariants as value
use Rattle.mh_values.specs.Class.{builtin_classes, class_cast_class, string_concat_class, wrong_method_type_class}
use Rattle.mh_values.specs.Exception.{saying}
use Rattle.mh_leaf.specs.Outcome.{int_type, string_type}
use Rattle.mh_pieces.specs.declared.piece.Piece.TheVariants as piece
use Rattle.mh_tree.specs.Tree.{Tree}
use Rattle.mh_tree.specs.Tree as tree
use Rattle.mh_jobs.specs.declared.job.Argument.{Argument}
use Rattle.mh_jobs.specs.declared.job.Argument.TheVariants as argument
use Rattle.mh_jobs.specs.declared.job.Method.TheVariants as method
use Rattle.mh_jobs.specs.Thrown.{OrThrown, unsupported}
use Rattle.mh_link.specs.Concatenation.{concat_of}

-- a method type that returns a text
abbrev taking : List Ty → MethodTy
taking params = record { params = params; ret = Some string_type }

-- what a call site gets by these static arguments
abbrev concat : MethodTy → List Argument → OrThrown Tree
concat ty arguments = concat_of builtin_classes (record { method = method.Concat; name = codes "join"; ty = ty; arguments = arguments })

-- a recipe
abbrev spelling : List ℕ → Argument
spelling recipe = argument.Value (value.Text recipe)

an_argument_stands_for_its_place :
    concat (taking (int_type ∷ [])) (spelling (120 ∷ 61 ∷ 1 ∷ []) ∷ [])
    ≡ Ok (tree.Concat (taking (int_type ∷ [])) (piece.Lit (codes "x=") ∷ piece.Arg int_type ∷ []))
an_argument_stands_for_its_place = refl

a_constant_stands_for_its_place :
    concat (taking []) (spelling (2 ∷ []) ∷ argument.Value (value.Text (codes "a")) ∷ [])
    ≡ Ok (tree.Concat (taking []) (piece.Lit (codes "a") ∷ []))
a_constant_stands_for_its_place = refl

the_recipe_must_be_there :
    concat (taking []) []
    ≡ Err (saying wrong_method_type_class (codes "arguments"))
the_recipe_must_be_there = refl

the_recipe_must_be_a_text :
    concat (taking []) (argument.Value (value.Boxed (num.I (pos 1))) ∷ [])
    ≡ Err (saying class_cast_class (codes "arguments"))
the_recipe_must_be_a_text = refl

a_class_is_no_recipe :
    concat (taking []) (argument.Class string_type ∷ [])
    ≡ Err (saying class_cast_class (codes "arguments"))
a_class_is_no_recipe = refl

a_class_is_no_constant :
    concat (taking []) (spelling (2 ∷ []) ∷ argument.Class string_type ∷ [])
    ≡ Err (unsupported (codes "constant"))
a_class_is_no_constant = refl

a_class_counts_as_a_constant :
    concat (taking []) (spelling [] ∷ argument.Class string_type ∷ [])
    ≡ Err (saying string_concat_class (codes "constants"))
a_class_counts_as_a_constant = refl

the_return_type_is_looked_at_before_the_constants :
    concat (record { params = []; ret = Some int_type }) (spelling [] ∷ argument.Class string_type ∷ [])
    ≡ Err (saying string_concat_class (codes "return"))
the_return_type_is_looked_at_before_the_constants = refl
