-- Worked examples of weights: what the checker computes of the definitions.
use Rattle.std.specs.Prelude.{◌≡◌, refl, ℕ, pos, zero, suc, [], ◌∷◌, codes, replicate, Some, Ok, Err}
use Rattle.mh_values.specs.Class.{internal_error_class}
use Rattle.mh_values.specs.Computation.{Gave}
use Rattle.mh_values.specs.Exception.{saying}
use Rattle.mh_leaf.specs.Outcome.{int_type}
use Rattle.mh_tree.specs.Tree.{Tree, weight}
use Rattle.mh_tree.specs.Tree as tree
use Rattle.mh_tree.specs.Typing.{type_of}
use Rattle.mh_tree.specs.Meaning.{mean}
use Rattle.mh_tree.proofs.Host.{host, of, leaf, called, int}

-- `same` on its own result, so often
abbrev doubled : ℕ → Tree
doubled zero = leaf 4
doubled (suc n) = tree.FilterRet (doubled n) (doubled n)

seven_doublings_weigh_255 : weight (doubled 7) ≡ 255
seven_doublings_weigh_255 = refl

a_weight_of_256_is_allowed : type_of host (tree.Drop (doubled 7) 1 (int_type ∷ [])) ≡ Ok (of (int_type ∷ int_type ∷ []) (Some int_type))
a_weight_of_256_is_allowed = refl

a_weight_of_257_is_not :
    type_of host (tree.Drop (tree.Drop (doubled 7) 1 (int_type ∷ [])) 0 (int_type ∷ [])) ≡ Err (saying internal_error_class (codes "weight"))
a_weight_of_257_is_not = refl

seven_doublings_call_128_times :
    mean host (tree.Drop (doubled 7) 1 (int_type ∷ [])) (int (pos 4) ∷ int (pos 5) ∷ []) 0
    ≡ Gave (Some (int (pos 4))) (replicate 128 (called 4 (int (pos 4) ∷ [])))
seven_doublings_call_128_times = refl
