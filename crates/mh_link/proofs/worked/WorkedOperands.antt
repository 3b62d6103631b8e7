-- Worked examples of operands of scripts, and of what is thrown where they mean nothing: what the checker computes of the definitions.
use Rattle.std.specs.Prelude.{◌≡◌, refl, pos, [], ◌∷◌, codes, Some}
use Rattle.mh_values.specs.declared.types.Ty.TheVariants as ty
use Rattle.mh_values.specs.declared.value.Value.TheVariants as value
use Rattle.mh_values.specs.Class.{class_cast_class, wrong_method_type_class}
use Rattle.mh_values.specs.Exception.{saying}
use Rattle.mh_class_bytes.specs.Chars.{chars_from, units_from, shown}
use Rattle.mh_class_bytes.specs.Mutf8.{sound_from, unit_len}
use Rattle.mh_classfile.specs.declared.constant.Constant.TheVariants as constant
use Rattle.mh_leaf.specs.Outcome.{int_type, long_type, string_type}
use Rattle.mh_tree.specs.Tree as tree
use Rattle.mh_script.specs.declared.operand.MethodTypeOperand.TheVariants as of_method_type
use Rattle.mh_script.specs.declared.operand.Register.TheVariants as register
use Rattle.mh_script.specs.declared.operand.TypeOperand.TheVariants as of_type
use Rattle.mh_script.specs.declared.operand.ValueOperand.TheVariants as of_value
use Rattle.mh_script.specs.declared.script.End.TheVariants as end
use Rattle.mh_script.specs.declared.script.Operation.TheVariants as operation
use Rattle.mh_script.specs.declared.script.Step.TheVariants as step
use Rattle.mh_link.specs.Linked.{Target, Error}
use Rattle.mh_jobs.specs.Thrown.{no_class_def_found_class, no_such_method_class}
use Rattle.mh_jobs.proofs.Host.{of, host_class, handle_to}
use Rattle.mh_link.proofs.worked.Host.{leaf, method, host_leaf, add, same, reg, arg, returns, links, links_with, failed}

of_two_unknown_classes_the_left_one_is_thrown :
    links (codes "()I") (step.Let (codes "x") (operation.Throw (of_type.Descriptor (codes "Lno/Left;")) (codes "no/Right")) ∷ []) (returns (codes "x"))
    ≡ Error (saying no_class_def_found_class (codes "no/Left"))
unfolding chars_from units_from unit_len sound_from shown
of_two_unknown_classes_the_left_one_is_thrown = refl

of_two_operands_of_a_filter_the_left_one_is_thrown :
    links_with (codes "(I)I") (constant.Integer (pos 5) ∷ []) (step.Let (codes "x") (operation.Filter (arg 0) 9 (arg 7)) ∷ []) (returns (codes "x"))
    ≡ failed (saying class_cast_class (codes "arguments"))
unfolding chars_from units_from unit_len sound_from shown
of_two_operands_of_a_filter_the_left_one_is_thrown = refl

an_operand_is_thrown_before_the_node_is_checked :
    links (codes "(I)I") (step.Let (codes "a") add ∷ step.Let (codes "b") (operation.Bind (reg (codes "a")) 9 (of_value.Register (arg 0))) ∷ [])
    (returns (codes "b"))
    ≡ failed (saying wrong_method_type_class (codes "arguments"))
unfolding chars_from units_from unit_len sound_from shown
an_operand_is_thrown_before_the_node_is_checked = refl

a_class_is_resolved_before_a_handler :
    links (codes "(II)I") (step.Let (codes "a") add ∷ step.Let (codes "b") (operation.Catch (reg (codes "a")) (codes "no/Such") (arg 0)) ∷ [])
    (returns (codes "b"))
    ≡ Error (saying no_class_def_found_class (codes "no/Such"))
unfolding chars_from units_from unit_len sound_from shown
a_class_is_resolved_before_a_handler = refl

a_target_is_resolved_before_a_class :
    links (codes "(II)I") (step.Let (codes "b") (operation.Catch (arg 0) (codes "no/Such") (arg 0)) ∷ []) (returns (codes "b"))
    ≡ failed (saying wrong_method_type_class (codes "arguments"))
unfolding chars_from units_from unit_len sound_from shown
a_target_is_resolved_before_a_class = refl

past_the_static_arguments_there_is_none :
    links_with (codes "(II)I") (constant.Handle (handle_to 6 (codes "demo/Host") (codes "add") (codes "(II)I")) ∷ []) [] (end.Return (arg 1))
    ≡ failed (saying wrong_method_type_class (codes "arguments"))
unfolding chars_from units_from unit_len sound_from shown
past_the_static_arguments_there_is_none = refl

far_past_the_static_arguments_there_is_none :
    links_with (codes "(II)I") (constant.Handle (handle_to 6 (codes "demo/Host") (codes "add") (codes "(II)I")) ∷ []) [] (end.Return (arg 999999999999999))
    ≡ failed (saying wrong_method_type_class (codes "arguments"))
unfolding chars_from units_from unit_len sound_from shown
far_past_the_static_arguments_there_is_none = refl

a_number_is_no_handle :
    links_with (codes "(II)I") (constant.Integer (pos 5) ∷ []) [] (end.Return (arg 0))
    ≡ failed (saying class_cast_class (codes "arguments"))
unfolding chars_from units_from unit_len sound_from shown
a_number_is_no_handle = refl

a_leaf_is_no_value :
    links_with (codes "(II)I") (constant.Handle (handle_to 6 (codes "demo/Host") (codes "add") (codes "(II)I")) ∷ [])
    (step.Let (codes "a") add ∷ step.Let (codes "b") (operation.Bind (reg (codes "a")) 0 (of_value.Register (arg 0))) ∷ []) (returns (codes "b"))
    ≡ failed (saying class_cast_class (codes "arguments"))
unfolding chars_from units_from unit_len sound_from shown
a_leaf_is_no_value = refl

a_method_type_is_no_class :
    links_with (codes "()I") (constant.MethodType (codes "()V") ∷ []) (step.Let (codes "a") (operation.Identity (of_type.Register (arg 0))) ∷ [])
    (returns (codes "a"))
    ≡ failed (saying class_cast_class (codes "arguments"))
unfolding chars_from units_from unit_len sound_from shown
a_method_type_is_no_class = refl

a_class_is_no_method_type :
    links_with (codes "(II)I") (constant.Class (codes "[I") ∷ [])
    (step.Let (codes "a") add ∷ step.Let (codes "b") (operation.AsType (reg (codes "a")) (of_method_type.Register (arg 0))) ∷ []) (returns (codes "b"))
    ≡ failed (saying class_cast_class (codes "arguments"))
unfolding chars_from units_from unit_len sound_from shown
a_class_is_no_method_type = refl

a_static_argument_may_be_the_target :
    links_with (codes "(II)I") (constant.Handle (handle_to 6 (codes "demo/Host") (codes "add") (codes "(II)I")) ∷ []) [] (end.Return (arg 0))
    ≡ Target (leaf 0)
unfolding chars_from units_from unit_len sound_from shown
a_static_argument_may_be_the_target = refl

a_class_argument_is_a_type :
    links_with (codes "(Ldemo/Host;)Ldemo/Host;") (constant.Class (codes "demo/Host") ∷ [])
    (step.Let (codes "d") (operation.Identity (of_type.Register (arg 0))) ∷ []) (returns (codes "d"))
    ≡ Target (tree.Identity (Some (ty.Class host_class)))
unfolding chars_from units_from unit_len sound_from shown
a_class_argument_is_a_type = refl

a_method_type_argument_is_a_type :
    links_with (codes "(I)J") (constant.MethodType (codes "(I)J") ∷ [])
    (step.Let (codes "s") same ∷ step.Let (codes "w") (operation.AsType (reg (codes "s")) (of_method_type.Register (arg 0))) ∷ []) (returns (codes "w"))
    ≡ Target (tree.AsType (leaf 4) (of (int_type ∷ []) (Some long_type)))
unfolding chars_from units_from unit_len sound_from shown
a_method_type_argument_is_a_type = refl

the_name_of_the_site_is_a_text :
    links (codes "()Ljava/lang/String;") (step.Let (codes "c")
    (operation.Constant (of_type.Descriptor (codes "Ljava/lang/String;")) (of_value.Register register.SiteName)) ∷ []) (returns (codes "c"))
    ≡ Target (tree.Constant (Some string_type) (value.Text (codes "f")))
unfolding chars_from units_from unit_len sound_from shown
the_name_of_the_site_is_a_text = refl

a_leaf_that_is_not_there_has_no_method :
    links (codes "()V") (step.Let (codes "a") (host_leaf (codes "add") (codes "(J)I")) ∷ []) (returns (codes "a"))
    ≡ Error (saying no_such_method_class (codes "demo/Host.add:(J)I"))
unfolding chars_from units_from unit_len sound_from shown
a_leaf_that_is_not_there_has_no_method = refl

a_leaf_of_an_unknown_class_has_no_class :
    links (codes "()V") (step.Let (codes "a") (operation.Leaf (method (codes "no/Such") (codes "f") (codes "()V"))) ∷ []) (returns (codes "a"))
    ≡ Error (saying no_class_def_found_class (codes "no/Such"))
unfolding chars_from units_from unit_len sound_from shown
a_leaf_of_an_unknown_class_has_no_class = refl

the_owner_of_a_script_owns_no_leaf :
    links (codes "()V") (step.Let (codes "a") (operation.Leaf (method (codes "made/Boot") (codes "link") (codes "()V"))) ∷ []) (returns (codes "a"))
    ≡ Error (saying no_class_def_found_class (codes "made/Boot"))
unfolding chars_from units_from unit_len sound_from shown
the_owner_of_a_script_owns_no_leaf = refl
