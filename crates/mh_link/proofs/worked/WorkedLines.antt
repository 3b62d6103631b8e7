-- Worked examples of single lines of scripts that make a node or are refused: what the checker computes of the definitions.
use Rattle.std.specs.Prelude.{◌≡◌, refl, [], ◌∷◌, codes, Some, Ok}
use Rattle.mh_values.specs.declared.types.Comp.TheVariants as comp
use Rattle.mh_values.specs.declared.types.Ty.TheVariants as ty
use Rattle.mh_values.specs.declared.value.Value.TheVariants as value
use Rattle.mh_values.specs.Class.{class_at, class_cast_class, integer_class, null_pointer_class, wrong_method_type_class}
use Rattle.mh_values.specs.Exception.{saying}
use Rattle.mh_class_bytes.specs.Chars.{chars_from, units_from, shown}
use Rattle.mh_class_bytes.specs.Mutf8.{sound_from, unit_len}
use Rattle.mh_leaf.specs.Outcome.{long_type}
use Rattle.mh_tree.specs.Rows.{illegal}
use Rattle.mh_tree.specs.Tree as tree
use Rattle.mh_script.specs.declared.operand.MethodTypeOperand.TheVariants as of_method_type
use Rattle.mh_script.specs.declared.operand.Register.TheVariants as register
use Rattle.mh_script.specs.declared.operand.TypeOperand.TheVariants as of_type
use Rattle.mh_script.specs.declared.operand.ValueOperand.TheVariants as of_value
use Rattle.mh_script.specs.declared.script.Operation.TheVariants as operation
use Rattle.mh_script.specs.declared.script.Step.TheVariants as step
use Rattle.mh_link.specs.Linked.{Target, Error}
use Rattle.mh_jobs.specs.Thrown.{no_class_def_found_class, no_such_method_class, unsupported}
use Rattle.mh_jobs.proofs.Host.{of}
use Rattle.mh_link.proofs.worked.Host.{leaf, host_leaf, add, sub, same, reg, returns, links, type_linked, failed}

items_are_converted_before_a_spread :
    links (codes "([Ljava/lang/Integer;)J") (step.Let (codes "w") (host_leaf (codes "wide") (codes "(JI)J")) ∷ step.Let (codes "p")
    (operation.Spread (reg (codes "w")) (of_type.Descriptor (codes "[Ljava/lang/Integer;")) 2) ∷ []) (returns (codes "p"))
    ≡ Target (tree.Spread (tree.AsType (leaf 5) (of (ty.Class integer_class ∷ ty.Class integer_class ∷ []) (Some long_type)))
    (Some (ty.Array (comp.Class integer_class))) 2)
unfolding chars_from units_from unit_len sound_from shown
items_are_converted_before_a_spread = refl

the_last_item_alone_is_converted :
    type_linked (links (codes "(J[Ljava/lang/Object;)J") (step.Let (codes "w") (host_leaf (codes "wide") (codes "(JI)J")) ∷ step.Let (codes "p")
    (operation.Spread (reg (codes "w")) (of_type.Descriptor (codes "[Ljava/lang/Object;")) 1) ∷ []) (returns (codes "p")))
    ≡ Ok (of (long_type ∷ ty.Array (comp.Class (class_at 0)) ∷ []) (Some long_type))
unfolding chars_from units_from unit_len sound_from shown
the_last_item_alone_is_converted = refl

items_that_cannot_be_converted_are_refused :
    links (codes "([Ljava/lang/String;)I") (step.Let (codes "a") add ∷ step.Let (codes "p")
    (operation.Spread (reg (codes "a")) (of_type.Descriptor (codes "[Ljava/lang/String;")) 2) ∷ []) (returns (codes "p"))
    ≡ failed (saying wrong_method_type_class (codes "have (II)I want (Ljava/lang/String;Ljava/lang/String;)I"))
unfolding chars_from units_from unit_len sound_from shown
items_that_cannot_be_converted_are_refused = refl

more_items_than_parameters_are_not_spread :
    links (codes "([I)I") (step.Let (codes "a") add ∷ step.Let (codes "p") (operation.Spread (reg (codes "a")) (of_type.Descriptor (codes "[I")) 3)
    ∷ []) (returns (codes "p"))
    ≡ failed (illegal (codes "spread"))
unfolding chars_from units_from unit_len sound_from shown
more_items_than_parameters_are_not_spread = refl

what_is_no_array_is_not_spread :
    links (codes "([I)I") (step.Let (codes "a") add ∷ step.Let (codes "p") (operation.Spread (reg (codes "a")) of_type.Void 0) ∷ []) (returns (codes "p"))
    ≡ failed (illegal (codes "spread"))
unfolding chars_from units_from unit_len sound_from shown
what_is_no_array_is_not_spread = refl

a_use_as_its_own_type_is_the_handle_itself :
    links (codes "(II)I") (step.Let (codes "a") add ∷ step.Let (codes "w")
    (operation.AsType (reg (codes "a")) (of_method_type.Register register.SiteType)) ∷ []) (returns (codes "w"))
    ≡ Target (leaf 0)
unfolding chars_from units_from unit_len sound_from shown
a_use_as_its_own_type_is_the_handle_itself = refl

a_use_as_another_type_may_be_refused :
    links (codes "(I)I") (step.Let (codes "a") add ∷ step.Let (codes "w")
    (operation.AsType (reg (codes "a")) (of_method_type.Register register.SiteType)) ∷ []) (returns (codes "w"))
    ≡ failed (saying wrong_method_type_class (codes "have (II)I want (I)I"))
unfolding chars_from units_from unit_len sound_from shown
a_use_as_another_type_may_be_refused = refl

a_type_left_out_is_unsupported :
    links (codes "()V") (step.Let (codes "a") add ∷ step.Let (codes "d") (operation.Drop (reg (codes "a")) 0 (codes "IFLno/Such;")) ∷ [])
    (returns (codes "d"))
    ≡ failed (unsupported (codes "type"))
unfolding chars_from units_from unit_len sound_from shown
a_type_left_out_is_unsupported = refl

an_unknown_class_in_a_type_is_named :
    links (codes "()V") (step.Let (codes "a") add ∷ step.Let (codes "d") (operation.Drop (reg (codes "a")) 0 (codes "ILno/Such;F")) ∷ [])
    (returns (codes "d"))
    ≡ Error (saying no_class_def_found_class (codes "no/Such"))
unfolding chars_from units_from unit_len sound_from shown
an_unknown_class_in_a_type_is_named = refl

void_is_no_constant :
    links (codes "()V") (step.Let (codes "d") (operation.Constant of_type.Void (of_value.Literal value.Null)) ∷ []) (returns (codes "d"))
    ≡ failed (illegal (codes "constant"))
unfolding chars_from units_from unit_len sound_from shown
void_is_no_constant = refl

the_serial_fits_no_int :
    links (codes "(I)I") (step.Let (codes "a") add ∷ step.Serial (codes "n") ∷ step.Let (codes "b")
    (operation.Bind (reg (codes "a")) 1 (of_value.Register (reg (codes "n")))) ∷ []) (returns (codes "b"))
    ≡ failed (saying class_cast_class (codes "bind"))
unfolding chars_from units_from unit_len sound_from shown
the_serial_fits_no_int = refl

null_is_not_bound_to_an_int :
    links (codes "(I)I") (step.Let (codes "a") add ∷ step.Let (codes "b") (operation.Bind (reg (codes "a")) 1 (of_value.Literal value.Null)) ∷ [])
    (returns (codes "b"))
    ≡ failed (saying null_pointer_class (codes "bind"))
unfolding chars_from units_from unit_len sound_from shown
null_is_not_bound_to_an_int = refl

what_is_no_throwable_is_not_thrown :
    links (codes "()I") (step.Let (codes "x") (operation.Throw (of_type.Descriptor (codes "I")) (codes "demo/Host")) ∷ []) (returns (codes "x"))
    ≡ failed (illegal (codes "throw"))
unfolding chars_from units_from unit_len sound_from shown
what_is_no_throwable_is_not_thrown = refl

a_guard_of_two_types_is_refused :
    links (codes "(II)I") (step.Let (codes "c") (host_leaf (codes "less") (codes "(II)Z")) ∷ step.Let (codes "t") add ∷ step.Let (codes "e") same
    ∷ step.Let (codes "g") (operation.Guard (reg (codes "c")) (reg (codes "t")) (reg (codes "e"))) ∷ []) (returns (codes "g"))
    ≡ failed (illegal (codes "guard"))
unfolding chars_from units_from unit_len sound_from shown
a_guard_of_two_types_is_refused = refl

a_line_that_throws_ends_the_script :
    links (codes "(II)I") (step.Let (codes "a") (host_leaf (codes "no") (codes "()V")) ∷ step.FailMod 1 0 ∷ []) (returns (codes "a"))
    ≡ Error (saying no_such_method_class (codes "demo/Host.no:()V"))
unfolding chars_from units_from unit_len sound_from shown
a_line_that_throws_ends_the_script = refl

a_register_is_what_was_assigned_last :
    links (codes "(II)I") (step.Let (codes "a") sub ∷ step.Let (codes "a") add ∷ []) (returns (codes "a"))
    ≡ Target (leaf 0)
unfolding chars_from units_from unit_len sound_from shown
a_register_is_what_was_assigned_last = refl
