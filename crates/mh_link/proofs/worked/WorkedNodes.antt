-- Worked examples of what attempts make and hold: what the checker computes of the definitions.
use Rattle.std.specs.Prelude.{◌≡◌, refl, pos, [], ◌∷◌, codes, Some}
use Rattle.mh_values.specs.declared.types.Comp.TheVariants as comp
use Rattle.mh_values.specs.declared.types.Ty.TheVariants as ty
use Rattle.mh_values.specs.declared.value.Value.TheVariants as value
use Rattle.mh_values.specs.Class.{integer_class}
use Rattle.mh_class_bytes.specs.Chars.{chars_from, units_from, shown}
use Rattle.mh_class_bytes.specs.Mutf8.{sound_from, unit_len}
use Rattle.mh_classfile.specs.declared.constant.Constant.TheVariants as constant
use Rattle.mh_leaf.specs.Outcome.{int_type, long_type}
use Rattle.mh_tree.specs.Tree as tree
use Rattle.mh_script.specs.declared.operand.TypeOperand.TheVariants as of_type
use Rattle.mh_script.specs.declared.operand.ValueOperand.TheVariants as of_value
use Rattle.mh_script.specs.declared.script.End.TheVariants as end
use Rattle.mh_script.specs.declared.script.Operation.TheVariants as operation
use Rattle.mh_script.specs.declared.script.Step.TheVariants as step
use Rattle.mh_link.specs.Linked.{held_by}
use Rattle.mh_jobs.proofs.Host.{of, handle_to}
use Rattle.mh_link.proofs.worked.Host.{two_ints, leaf, host, boxed_int, host_leaf, add, sub, tick, same, reg, arg, returns, links, nodes_with}

each_line_makes_its_node :
    nodes_with (codes "(II)I") [] (step.Let (codes "s") sub ∷ step.Let (codes "t") tick ∷ step.Let (codes "u")
    (operation.Filter (reg (codes "s")) 1 (reg (codes "t"))) ∷ []) (returns (codes "u"))
    ≡ leaf 1 ∷ leaf 3 ∷ tree.FilterArg (leaf 1) 1 (leaf 3) ∷ []
unfolding chars_from units_from unit_len sound_from shown
each_line_makes_its_node = refl

a_refused_line_makes_none :
    nodes_with (codes "(II)I") [] (step.Let (codes "s") sub ∷ step.Let (codes "u") (operation.Bind (reg (codes "s")) 9 (of_value.Literal value.Null))
    ∷ step.Let (codes "t") tick ∷ []) (returns (codes "u"))
    ≡ leaf 1 ∷ []
unfolding chars_from units_from unit_len sound_from shown
a_refused_line_makes_none = refl

a_refused_return_keeps_what_was_made :
    nodes_with (codes "(I)I") [] (step.Let (codes "a") add ∷ []) (returns (codes "a"))
    ≡ leaf 0 ∷ []
unfolding chars_from units_from unit_len sound_from shown
a_refused_return_keeps_what_was_made = refl

a_spread_makes_the_use_of_its_part :
    nodes_with (codes "([Ljava/lang/Integer;)J") [] (step.Let (codes "w") (host_leaf (codes "wide") (codes "(JI)J")) ∷ step.Let (codes "p")
    (operation.Spread (reg (codes "w")) (of_type.Descriptor (codes "[Ljava/lang/Integer;")) 2) ∷ []) (returns (codes "p"))
    ≡ leaf 5 ∷ tree.AsType (leaf 5) (of (ty.Class integer_class ∷ ty.Class integer_class ∷ []) (Some long_type)) ∷ tree.Spread
    (tree.AsType (leaf 5) (of (ty.Class integer_class ∷ ty.Class integer_class ∷ []) (Some long_type))) (Some (ty.Array (comp.Class integer_class))) 2 ∷ []
unfolding chars_from units_from unit_len sound_from shown
a_spread_makes_the_use_of_its_part = refl

a_static_leaf_is_made_where_it_is_used :
    nodes_with (codes "(I)I") (constant.Handle (handle_to 6 (codes "demo/Host") (codes "add") (codes "(II)I")) ∷ [])
    (step.Let (codes "b") (operation.Bind (arg 0) 1 (of_value.Literal (boxed_int (pos 1)))) ∷ []) (returns (codes "b"))
    ≡ leaf 0 ∷ tree.Bind (leaf 0) 1 (boxed_int (pos 1)) ∷ []
unfolding chars_from units_from unit_len sound_from shown
a_static_leaf_is_made_where_it_is_used = refl

a_static_leaf_that_is_not_used_is_not_made :
    nodes_with (codes "(I)I") (constant.Handle (handle_to 6 (codes "demo/Host") (codes "add") (codes "(II)I")) ∷ []) (step.Let (codes "s") same ∷ [])
    (returns (codes "s"))
    ≡ leaf 4 ∷ []
unfolding chars_from units_from unit_len sound_from shown
a_static_leaf_that_is_not_used_is_not_made = refl

a_static_leaf_in_a_refused_line_is_not_made :
    nodes_with (codes "(I)I") (constant.Handle (handle_to 6 (codes "demo/Host") (codes "add") (codes "(II)I")) ∷ [])
    (step.Let (codes "b") (operation.Bind (arg 0) 9 (of_value.Literal value.Null)) ∷ []) (returns (codes "b"))
    ≡ []
unfolding chars_from units_from unit_len sound_from shown
a_static_leaf_in_a_refused_line_is_not_made = refl

a_static_leaf_is_made_by_its_return :
    nodes_with (codes "(II)I") (constant.Handle (handle_to 6 (codes "demo/Host") (codes "add") (codes "(II)I")) ∷ []) [] (end.Return (arg 0))
    ≡ leaf 0 ∷ []
unfolding chars_from units_from unit_len sound_from shown
a_static_leaf_is_made_by_its_return = refl

a_refused_return_makes_no_static_leaf :
    nodes_with (codes "(I)I") (constant.Handle (handle_to 6 (codes "demo/Host") (codes "add") (codes "(II)I")) ∷ []) [] (end.Return (arg 0))
    ≡ []
unfolding chars_from units_from unit_len sound_from shown
a_refused_return_makes_no_static_leaf = refl

a_failing_attempt_makes_what_stands_before :
    nodes_with (codes "(II)I") [] (step.Let (codes "a") add ∷ step.FailMod 1 0 ∷ step.Let (codes "s") sub ∷ []) (returns (codes "a"))
    ≡ leaf 0 ∷ []
unfolding chars_from units_from unit_len sound_from shown
a_failing_attempt_makes_what_stands_before = refl

an_unresolved_job_makes_none :
    nodes_with (codes "(Lno/Such;)V") [] (step.Let (codes "a") add ∷ []) (returns (codes "a"))
    ≡ []
unfolding chars_from units_from unit_len sound_from shown
an_unresolved_job_makes_none = refl

a_linked_filter_holds_three_types :
    held_by host (links (codes "(II)I") (step.Let (codes "s") sub ∷ step.Let (codes "t") tick ∷ step.Let (codes "u")
    (operation.Filter (reg (codes "s")) 1 (reg (codes "t"))) ∷ step.Let (codes "v") (operation.Filter (reg (codes "u")) 0 (reg (codes "t"))) ∷ [])
    (returns (codes "v")))
    ≡ of two_ints (Some int_type) ∷ of (int_type ∷ []) (Some int_type) ∷ of (int_type ∷ []) (Some int_type) ∷ []
unfolding chars_from units_from unit_len sound_from shown
a_linked_filter_holds_three_types = refl

an_error_holds_no_type :
    held_by host (links (codes "(I)I") (step.Let (codes "a") add ∷ []) (returns (codes "a")))
    ≡ []
unfolding chars_from units_from unit_len sound_from shown
an_error_holds_no_type = refl
