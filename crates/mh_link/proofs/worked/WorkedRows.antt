-- Worked examples of scripts that link, or fail, by their serial, their weight or their last line: what the checker computes of the definitions.
use Rattle.std.specs.Prelude.{◌≡◌, refl, pos, [], ◌∷◌, ◌++◌, codes, replicate, Some, Ok}
use Rattle.mh_values.specs.Class.{class_at, internal_error_class, arithmetic_class, wrong_method_type_class}
use Rattle.mh_values.specs.Exception.{saying}
use Rattle.mh_class_bytes.specs.Chars.{chars_from, units_from, shown}
use Rattle.mh_class_bytes.specs.Mutf8.{sound_from, unit_len}
use Rattle.mh_leaf.specs.Outcome.{int_type, long_type}
use Rattle.mh_tree.specs.Tree as tree
use Rattle.mh_script.specs.declared.operand.MethodTypeOperand.TheVariants as of_method_type
use Rattle.mh_script.specs.declared.operand.Register.TheVariants as register
use Rattle.mh_script.specs.declared.operand.TypeOperand.TheVariants as of_type
use Rattle.mh_script.specs.declared.operand.ValueOperand.TheVariants as of_value
use Rattle.mh_script.specs.declared.script.Operation.TheVariants as operation
use Rattle.mh_script.specs.declared.script.Step.TheVariants as step
use Rattle.mh_link.specs.Linked.{Target, Error}
use Rattle.mh_jobs.proofs.Host.{of}
use Rattle.mh_link.proofs.worked.Host.{ints, two_ints, leaf, boxed_long, host_leaf, add, sub, tick, same, reg, returns, links, attempt_with, type_linked, failed}

a_weight_of_256_links :
    type_linked (links (codes "(II)I")
    (step.Let (codes "s") same
    ∷ replicate 7 (step.Let (codes "s") (operation.FilterReturn (reg (codes "s")) (reg (codes "s"))))
    ++ step.Let (codes "h") (operation.Drop (reg (codes "s")) 1 (codes "I")) ∷ [])
    (returns (codes "h")))
    ≡ Ok (of two_ints (Some int_type))
unfolding chars_from units_from unit_len sound_from shown
a_weight_of_256_links = refl

at_a_weight_of_257_an_error_is_recorded_as_it_is :
    links (codes "(III)I")
    (step.Let (codes "s") same
    ∷ replicate 7 (step.Let (codes "s") (operation.FilterReturn (reg (codes "s")) (reg (codes "s"))))
    ++ step.Let (codes "h") (operation.Drop (reg (codes "s")) 1 (codes "I"))
    ∷ step.Let (codes "h") (operation.Drop (reg (codes "h")) 0 (codes "I")) ∷ [])
    (returns (codes "h"))
    ≡ Error (saying internal_error_class (codes "weight"))
unfolding chars_from units_from unit_len sound_from shown
at_a_weight_of_257_an_error_is_recorded_as_it_is = refl

a_return_of_another_type_fails :
    links (codes "(I)I") (step.Let (codes "a") add ∷ []) (returns (codes "a"))
    ≡ failed (saying wrong_method_type_class (codes "have (II)I want (I)I"))
unfolding chars_from units_from unit_len sound_from shown
a_return_of_another_type_fails = refl

the_first_attempt_fails_where_its_serial_is_odd :
    attempt_with 1 (codes "(II)I") [] (step.FailMod 2 1 ∷ step.Let (codes "a") add ∷ []) (returns (codes "a"))
    ≡ failed (saying (class_at 11) (codes "failmod"))
unfolding chars_from units_from unit_len sound_from shown
the_first_attempt_fails_where_its_serial_is_odd = refl

the_second_attempt_links_where_the_first_failed :
    attempt_with 2 (codes "(II)I") [] (step.FailMod 2 1 ∷ step.Let (codes "a") add ∷ []) (returns (codes "a")) ≡ Target (leaf 0)
unfolding chars_from units_from unit_len sound_from shown
the_second_attempt_links_where_the_first_failed = refl

the_serial_is_a_boxed_long :
    attempt_with 7 (codes "()J") []
    (step.Serial (codes "n")
    ∷ step.Let (codes "c") (operation.Constant (of_type.Descriptor (codes "J")) (of_value.Register (reg (codes "n")))) ∷ [])
    (returns (codes "c"))
    ≡ Target (tree.Constant (Some long_type) (boxed_long (pos 7)))
unfolding chars_from units_from unit_len sound_from shown
the_serial_is_a_boxed_long = refl

a_guard_links :
    links (codes "(II)I")
    (step.Let (codes "c") (host_leaf (codes "less") (codes "(II)Z")) ∷ step.Let (codes "t") add ∷ step.Let (codes "e") sub
    ∷ step.Let (codes "g") (operation.Guard (reg (codes "c")) (reg (codes "t")) (reg (codes "e"))) ∷ [])
    (returns (codes "g"))
    ≡ Target (tree.Guard (leaf 11) (leaf 0) (leaf 1))
unfolding chars_from units_from unit_len sound_from shown
a_guard_links = refl

a_catch_links :
    links (codes "(II)I")
    (step.Let (codes "d") (host_leaf (codes "div") (codes "(II)I")) ∷ step.Let (codes "h")
    (host_leaf (codes "saw") (codes "(Ljava/lang/RuntimeException;I)I"))
    ∷ step.Let (codes "c") (operation.Catch (reg (codes "d")) (codes "java/lang/ArithmeticException") (reg (codes "h"))) ∷ [])
    (returns (codes "c"))
    ≡ Target (tree.Catch (leaf 2) arithmetic_class (leaf 12))
unfolding chars_from units_from unit_len sound_from shown
a_catch_links = refl

a_fold_links :
    type_linked (links (codes "(I)I")
    (step.Let (codes "s") sub ∷ step.Let (codes "t") tick ∷ step.Let (codes "f") (operation.Fold (reg (codes "s")) 0 (reg (codes "t"))) ∷ [])
    (returns (codes "f")))
    ≡ Ok (of (int_type ∷ []) (Some int_type))
unfolding chars_from units_from unit_len sound_from shown
a_fold_links = refl

items_are_gathered :
    type_linked (links (codes "(II)[I")
    (step.Let (codes "a") (host_leaf (codes "arr") (codes "([I)[I"))
    ∷ step.Let (codes "g") (operation.Gather (reg (codes "a")) (of_type.Descriptor (codes "[I")) 2) ∷ [])
    (returns (codes "g")))
    ≡ Ok (of two_ints (Some ints))
unfolding chars_from units_from unit_len sound_from shown
items_are_gathered = refl

an_identity_links :
    links (codes "(J)J") (step.Let (codes "d") (operation.Identity (of_type.Descriptor (codes "J"))) ∷ []) (returns (codes "d"))
    ≡ Target (tree.Identity (Some long_type))
unfolding chars_from units_from unit_len sound_from shown
an_identity_links = refl

a_leaf_is_used_as_the_sites_type :
    links (codes "(I)J")
    (step.Let (codes "s") same ∷ step.Let (codes "w") (operation.AsType (reg (codes "s")) (of_method_type.Register register.SiteType)) ∷ [])
    (returns (codes "w"))
    ≡ Target (tree.AsType (leaf 4) (of (int_type ∷ []) (Some long_type)))
unfolding chars_from units_from unit_len sound_from shown
a_leaf_is_used_as_the_sites_type = refl

a_throw_links :
    links (codes "(Ljava/lang/RuntimeException;)I")
    (step.Let (codes "x") (operation.Throw (of_type.Descriptor (codes "I")) (codes "java/lang/RuntimeException")) ∷ [])
    (returns (codes "x"))
    ≡ Target (tree.Throw (Some int_type) (class_at 11))
unfolding chars_from units_from unit_len sound_from shown
a_throw_links = refl
