-- Worked examples of scripts that link adapted leaves: what the checker computes of the definitions.
use Rattle.std.specs.Prelude.{◌≡◌, refl, pos, [], ◌∷◌, ◌++◌, codes, replicate, Some, None, Ok}
use Rattle.mh_class_bytes.specs.Chars.{chars_from, units_from, shown}
use Rattle.mh_class_bytes.specs.Mutf8.{sound_from, unit_len}
use Rattle.mh_leaf.specs.Outcome.{int_type, long_type, boolean_type}
use Rattle.mh_tree.specs.Rows.{illegal}
use Rattle.mh_tree.specs.Tree as tree
use Rattle.mh_script.specs.declared.operand.MethodTypeOperand.TheVariants as of_method_type
use Rattle.mh_script.specs.declared.operand.TypeOperand.TheVariants as of_type
use Rattle.mh_script.specs.declared.operand.ValueOperand.TheVariants as of_value
use Rattle.mh_script.specs.declared.script.Operation.TheVariants as operation
use Rattle.mh_script.specs.declared.script.Step.TheVariants as step
use Rattle.mh_link.specs.Linked.{Target}
use Rattle.mh_jobs.proofs.Host.{of}
use Rattle.mh_link.proofs.worked.Host.{ints, two_ints, leaf, boxed_int, host_leaf, add, sub, tick, nothing, reg, returns, links, type_linked, failed}

two_filters_link :
    links (codes "(II)I")
    (step.Let (codes "s") sub ∷ step.Let (codes "t") tick
    ∷ step.Let (codes "u") (operation.Filter (reg (codes "s")) 1 (reg (codes "t")))
    ∷ step.Let (codes "v") (operation.Filter (reg (codes "u")) 0 (reg (codes "t"))) ∷ [])
    (returns (codes "v"))
    ≡ Target (tree.FilterArg (tree.FilterArg (leaf 1) 1 (leaf 3)) 0 (leaf 3))
unfolding chars_from units_from unit_len sound_from shown
two_filters_link = refl

a_boxed_int_is_bound :
    links (codes "(I)I")
    (step.Let (codes "a") add ∷ step.Let (codes "b") (operation.Bind (reg (codes "a")) 1 (of_value.Literal (boxed_int (pos 10)))) ∷ [])
    (returns (codes "b"))
    ≡ Target (tree.Bind (leaf 0) 1 (boxed_int (pos 10)))
unfolding chars_from units_from unit_len sound_from shown
a_boxed_int_is_bound = refl

an_int_is_dropped :
    type_linked (links (codes "(IZI)I")
    (step.Let (codes "a") (host_leaf (codes "zin") (codes "(ZI)I")) ∷ step.Let (codes "b") (operation.Drop (reg (codes "a")) 0 (codes "I")) ∷ [])
    (returns (codes "b")))
    ≡ Ok (of (int_type ∷ boolean_type ∷ int_type ∷ []) (Some int_type))
unfolding chars_from units_from unit_len sound_from shown
an_int_is_dropped = refl

arguments_are_permuted :
    links (codes "(III)I")
    (step.Let (codes "s") sub
    ∷ step.Let (codes "p") (operation.Permute (reg (codes "s")) (of_method_type.Descriptor (codes "(III)I")) (2 ∷ 0 ∷ [])) ∷ [])
    (returns (codes "p"))
    ≡ Target (tree.Permute (leaf 1) (of (int_type ∷ two_ints) (Some int_type)) (2 ∷ 0 ∷ []))
unfolding chars_from units_from unit_len sound_from shown
arguments_are_permuted = refl

one_argument_is_used_twice :
    type_linked (links (codes "(I)I")
    (step.Let (codes "a") add
    ∷ step.Let (codes "p") (operation.Permute (reg (codes "a")) (of_method_type.Descriptor (codes "(I)I")) (0 ∷ 0 ∷ [])) ∷ [])
    (returns (codes "p")))
    ≡ Ok (of (int_type ∷ []) (Some int_type))
unfolding chars_from units_from unit_len sound_from shown
one_argument_is_used_twice = refl

an_order_too_short_is_refused :
    links (codes "(III)I")
    (step.Let (codes "s") sub
    ∷ step.Let (codes "p") (operation.Permute (reg (codes "s")) (of_method_type.Descriptor (codes "(III)I")) (2 ∷ [])) ∷ [])
    (returns (codes "p"))
    ≡ failed (illegal (codes "permute"))
unfolding chars_from units_from unit_len sound_from shown
an_order_too_short_is_refused = refl

an_array_is_spread :
    links (codes "([I)I")
    (step.Let (codes "a") add ∷ step.Let (codes "p") (operation.Spread (reg (codes "a")) (of_type.Descriptor (codes "[I")) 2) ∷ [])
    (returns (codes "p"))
    ≡ Target (tree.Spread (leaf 0) (Some ints) 2)
unfolding chars_from units_from unit_len sound_from shown
an_array_is_spread = refl

no_item_is_spread :
    type_linked (links (codes "([I)V")
    (step.Let (codes "n") nothing ∷ step.Let (codes "p") (operation.Spread (reg (codes "n")) (of_type.Descriptor (codes "[I")) 0) ∷ [])
    (returns (codes "p")))
    ≡ Ok (of (ints ∷ []) None)
unfolding chars_from units_from unit_len sound_from shown
no_item_is_spread = refl

a_void_handle_is_collected :
    type_linked (links (codes "(II)I")
    (step.Let (codes "a") add ∷ step.Let (codes "n") nothing
    ∷ step.Let (codes "c") (operation.Collect (reg (codes "a")) 2 (reg (codes "n"))) ∷ [])
    (returns (codes "c")))
    ≡ Ok (of two_ints (Some int_type))
unfolding chars_from units_from unit_len sound_from shown
a_void_handle_is_collected = refl

after_the_end_nothing_is_collected :
    links (codes "(II)I")
    (step.Let (codes "a") add ∷ step.Let (codes "n") nothing
    ∷ step.Let (codes "c") (operation.Collect (reg (codes "a")) 3 (reg (codes "n"))) ∷ [])
    (returns (codes "c"))
    ≡ failed (illegal (codes "collect"))
unfolding chars_from units_from unit_len sound_from shown
after_the_end_nothing_is_collected = refl

longs_of_254_slots_are_dropped :
    type_linked (links (codes "(" ++ replicate 127 74 ++ codes ")V")
    (step.Let (codes "n") nothing ∷ step.Let (codes "d") (operation.Drop (reg (codes "n")) 0 (replicate 127 74)) ∷ [])
    (returns (codes "d")))
    ≡ Ok (of (replicate 127 long_type) None)
unfolding chars_from units_from unit_len sound_from shown
longs_of_254_slots_are_dropped = refl

at_255_slots_a_drop_is_refused :
    links (codes "(" ++ replicate 127 74 ++ codes ")V")
    (step.Let (codes "n") nothing ∷ step.Let (codes "d") (operation.Drop (reg (codes "n")) 0 (replicate 127 74 ++ codes "I")) ∷ [])
    (returns (codes "d"))
    ≡ failed (illegal (codes "drop"))
unfolding chars_from units_from unit_len sound_from shown
at_255_slots_a_drop_is_refused = refl
