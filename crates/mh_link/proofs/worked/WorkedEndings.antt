-- Worked examples of scripts with a cleanup, a switch or a loop: what the checker computes of the definitions.
use Rattle.std.specs.Prelude.{◌≡◌, refl, pos, [], ◌∷◌, codes, Some}
use Rattle.mh_values.specs.Class.{illegal_argument_class, internal_error_class, throwable_class}
use Rattle.mh_values.specs.Exception.{saying}
use Rattle.mh_values.specs.declared.types.Ty.TheVariants as ty
use Rattle.mh_class_bytes.specs.Chars.{chars_from, units_from, shown}
use Rattle.mh_class_bytes.specs.Mutf8.{sound_from, unit_len}
use Rattle.mh_leaf.specs.Outcome.{int_type}
use Rattle.mh_tree.specs.Tree as tree
use Rattle.mh_script.specs.declared.operand.TypeOperand.TheVariants as of_type
use Rattle.mh_script.specs.declared.operand.ValueOperand.TheVariants as of_value
use Rattle.mh_script.specs.declared.script.Operation.{Operation}
use Rattle.mh_script.specs.declared.script.Operation.TheVariants as operation
use Rattle.mh_script.specs.declared.script.Step.TheVariants as step
use Rattle.mh_link.specs.Linked.{Target, Error}
use Rattle.mh_link.proofs.worked.Host.{leaf, boxed_int, host_leaf, add, sub, same, reg, returns, links, failed}

-- int 0
abbrev zero_of_int : Operation
zero_of_int = operation.Constant (of_type.Descriptor (codes "I")) (of_value.Literal (boxed_int (pos 0)))

a_switch_links_with_its_cases_in_order :
    links (codes "(II)I")
    (step.Let (codes "d") (host_leaf (codes "div") (codes "(II)I")) ∷ step.Let (codes "a") add ∷ step.Let (codes "s") sub
    ∷ step.Let (codes "w") (operation.Switch (reg (codes "d")) (reg (codes "a") ∷ reg (codes "s") ∷ [])) ∷ [])
    (returns (codes "w"))
    ≡ Target (tree.Switch (leaf 2) (tree.one_case (leaf 0) (tree.one_case (leaf 1) tree.no_cases)))
unfolding chars_from units_from unit_len sound_from shown
a_switch_links_with_its_cases_in_order = refl

a_switch_of_other_types_is_refused :
    links (codes "(II)I")
    (step.Let (codes "a") add ∷ step.Let (codes "s") same
    ∷ step.Let (codes "w") (operation.Switch (reg (codes "a")) (reg (codes "s") ∷ [])) ∷ [])
    (returns (codes "w"))
    ≡ failed (saying illegal_argument_class (codes "switch"))
unfolding chars_from units_from unit_len sound_from shown
a_switch_of_other_types_is_refused = refl

a_cleanup_links :
    links (codes "(II)I")
    (step.Let (codes "d") (host_leaf (codes "div") (codes "(II)I")) ∷ step.Let (codes "z") zero_of_int
    ∷ step.Let (codes "f") (operation.Drop (reg (codes "z")) 0 (codes "Ljava/lang/Throwable;I"))
    ∷ step.Let (codes "r") (operation.TryFinally (reg (codes "d")) (reg (codes "f"))) ∷ [])
    (returns (codes "r"))
    ≡ Target (tree.TryFinally (leaf 2)
    (tree.Drop (tree.Constant (Some int_type) (boxed_int (pos 0))) 0 (ty.Class throwable_class ∷ int_type ∷ [])))
unfolding chars_from units_from unit_len sound_from shown
a_cleanup_links = refl

a_cleanup_without_an_exception_is_refused :
    links (codes "(II)I")
    (step.Let (codes "d") (host_leaf (codes "div") (codes "(II)I")) ∷ step.Let (codes "r") (operation.TryFinally (reg (codes "d")) (reg (codes "d"))) ∷ [])
    (returns (codes "r"))
    ≡ failed (saying illegal_argument_class (codes "tryfinally"))
unfolding chars_from units_from unit_len sound_from shown
a_cleanup_without_an_exception_is_refused = refl

a_loop_links :
    links (codes "(I)I")
    (step.Let (codes "n") same ∷ step.Let (codes "z") zero_of_int ∷ step.Let (codes "b") add
    ∷ step.Let (codes "c") (operation.Counted (reg (codes "n")) (reg (codes "z")) (reg (codes "b"))) ∷ [])
    (returns (codes "c"))
    ≡ Target (tree.Counted (leaf 4) (tree.Constant (Some int_type) (boxed_int (pos 0))) (leaf 0))
unfolding chars_from units_from unit_len sound_from shown
a_loop_links = refl

two_loops_weigh_too_much :
    links (codes "(I)I")
    (step.Let (codes "n") same ∷ step.Let (codes "z") zero_of_int ∷ step.Let (codes "b") add
    ∷ step.Let (codes "c") (operation.Counted (reg (codes "n")) (reg (codes "z")) (reg (codes "b")))
    ∷ step.Let (codes "c") (operation.FilterReturn (reg (codes "c")) (reg (codes "c"))) ∷ [])
    (returns (codes "c"))
    ≡ Error (saying internal_error_class (codes "weight"))
unfolding chars_from units_from unit_len sound_from shown
two_loops_weigh_too_much = refl
