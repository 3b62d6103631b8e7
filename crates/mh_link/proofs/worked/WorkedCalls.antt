-- Worked examples of calls of linked sites: what the checker computes of the definitions.
use Rattle.std.specs.Prelude.{◌≡◌, refl, pos, negsuc, true, [], ◌∷◌, codes, Some, None, Ok, Err}
use Rattle.std.specs.Int.{int_wrap}
use Rattle.mh_values.specs.declared.types.Comp.TheVariants as comp
use Rattle.mh_values.specs.declared.types.Primitive.TheVariants as primitive
use Rattle.mh_values.specs.declared.value.Cell.TheVariants as cell
use Rattle.mh_values.specs.declared.value.Num.TheVariants as num
use Rattle.mh_values.specs.declared.value.Value.TheVariants as value
use Rattle.mh_values.specs.Class.{illegal_argument_class, null_pointer_class}
use Rattle.mh_values.specs.Exception.{bare, saying}
use Rattle.mh_class_bytes.specs.Chars.{chars_from, units_from, shown}
use Rattle.mh_class_bytes.specs.Mutf8.{sound_from, unit_len}
use Rattle.mh_script.specs.declared.operand.MethodTypeOperand.TheVariants as of_method_type
use Rattle.mh_script.specs.declared.operand.TypeOperand.TheVariants as of_type
use Rattle.mh_script.specs.declared.operand.ValueOperand.TheVariants as of_value
use Rattle.mh_script.specs.declared.script.Operation.TheVariants as operation
use Rattle.mh_script.specs.declared.script.Step.TheVariants as step
use Rattle.mh_jobs.specs.Thrown.{caused}
use Rattle.mh_link.proofs.worked.Host.{boxed_int, host_leaf, add, sub, tick, nothing, reg, returns, links}
use Rattle.mh_link.proofs.worked.CallsOfSites.{calling}

the_later_filter_runs_first :
    calling (links (codes "(II)I") (step.Let (codes "s") sub ∷ step.Let (codes "t") tick ∷ step.Let (codes "u")
    (operation.Filter (reg (codes "s")) 1 (reg (codes "t"))) ∷ step.Let (codes "v") (operation.Filter (reg (codes "u")) 0 (reg (codes "t"))) ∷ [])
    (returns (codes "v"))) (value.Prim (num.I (pos 7)) ∷ value.Prim (num.I (pos 7)) ∷ [])
    ≡ Some (Ok (Some (value.Prim (num.I (negsuc 0)))), (3 ∷ 3 ∷ 1 ∷ []))
unfolding chars_from units_from unit_len sound_from shown int_wrap
the_later_filter_runs_first = refl

ten_is_added :
    calling (links (codes "(I)I") (step.Let (codes "a") add ∷ step.Let (codes "b")
    (operation.Bind (reg (codes "a")) 1 (of_value.Literal (boxed_int (pos 10)))) ∷ []) (returns (codes "b"))) (value.Prim (num.I (pos 1)) ∷ [])
    ≡ Some (Ok (Some (value.Prim (num.I (pos 11)))), (0 ∷ []))
unfolding chars_from units_from unit_len sound_from shown int_wrap
ten_is_added = refl

ten_is_subtracted :
    calling (links (codes "(I)I") (step.Let (codes "a") sub ∷ step.Let (codes "b")
    (operation.Bind (reg (codes "a")) 1 (of_value.Literal (boxed_int (pos 10)))) ∷ []) (returns (codes "b"))) (value.Prim (num.I (pos 1)) ∷ [])
    ≡ Some (Ok (Some (value.Prim (num.I (negsuc 8)))), (1 ∷ []))
unfolding chars_from units_from unit_len sound_from shown int_wrap
ten_is_subtracted = refl

a_dropped_argument_is_left_out :
    calling (links (codes "(III)I") (step.Let (codes "a") add ∷ step.Let (codes "b") (operation.Drop (reg (codes "a")) 0 (codes "I")) ∷ [])
    (returns (codes "b"))) (value.Prim (num.I (pos 9)) ∷ value.Prim (num.I (pos 1)) ∷ value.Prim (num.I (pos 2)) ∷ [])
    ≡ Some (Ok (Some (value.Prim (num.I (pos 3)))), (0 ∷ []))
unfolding chars_from units_from unit_len sound_from shown int_wrap
a_dropped_argument_is_left_out = refl

a_dropped_argument_in_front_of_a_boolean :
    calling (links (codes "(IZI)I") (step.Let (codes "a") (host_leaf (codes "zin") (codes "(ZI)I")) ∷ step.Let (codes "b")
    (operation.Drop (reg (codes "a")) 0 (codes "I")) ∷ []) (returns (codes "b")))
    (value.Prim (num.I (pos 9)) ∷ value.Prim (num.Z true) ∷ value.Prim (num.I (pos 2)) ∷ [])
    ≡ Some (Ok (Some (value.Prim (num.I (pos 0)))), (6 ∷ []))
unfolding chars_from units_from unit_len sound_from shown int_wrap
a_dropped_argument_in_front_of_a_boolean = refl

arguments_are_permuted :
    calling (links (codes "(III)I") (step.Let (codes "s") sub ∷ step.Let (codes "p")
    (operation.Permute (reg (codes "s")) (of_method_type.Descriptor (codes "(III)I")) (2 ∷ 0 ∷ [])) ∷ []) (returns (codes "p")))
    (value.Prim (num.I (pos 1)) ∷ value.Prim (num.I (pos 2)) ∷ value.Prim (num.I (pos 3)) ∷ [])
    ≡ Some (Ok (Some (value.Prim (num.I (pos 2)))), (1 ∷ []))
unfolding chars_from units_from unit_len sound_from shown int_wrap
arguments_are_permuted = refl

one_argument_is_passed_twice :
    calling (links (codes "(I)I") (step.Let (codes "a") add ∷ step.Let (codes "p")
    (operation.Permute (reg (codes "a")) (of_method_type.Descriptor (codes "(I)I")) (0 ∷ 0 ∷ [])) ∷ []) (returns (codes "p")))
    (value.Prim (num.I (pos 5)) ∷ [])
    ≡ Some (Ok (Some (value.Prim (num.I (pos 10)))), (0 ∷ []))
unfolding chars_from units_from unit_len sound_from shown int_wrap
one_argument_is_passed_twice = refl

a_refused_permutation_is_thrown :
    calling (links (codes "(III)I") (step.Let (codes "s") sub ∷ step.Let (codes "p")
    (operation.Permute (reg (codes "s")) (of_method_type.Descriptor (codes "(III)I")) (2 ∷ [])) ∷ []) (returns (codes "p")))
    (value.Prim (num.I (pos 1)) ∷ value.Prim (num.I (pos 2)) ∷ value.Prim (num.I (pos 3)) ∷ [])
    ≡ Some (Err (caused (saying illegal_argument_class (codes "permute"))), [])
unfolding chars_from units_from unit_len sound_from shown int_wrap
a_refused_permutation_is_thrown = refl

two_items_are_spread :
    calling (links (codes "([I)I") (step.Let (codes "a") add ∷ step.Let (codes "p")
    (operation.Spread (reg (codes "a")) (of_type.Descriptor (codes "[I")) 2) ∷ []) (returns (codes "p")))
    (value.Array (comp.Prim primitive.I) (cell.Prim (num.I (pos 1)) ∷ cell.Prim (num.I (pos 2)) ∷ []) ∷ [])
    ≡ Some (Ok (Some (value.Prim (num.I (pos 3)))), (0 ∷ []))
unfolding chars_from units_from unit_len sound_from shown int_wrap
two_items_are_spread = refl

three_items_are_not_spread_over_two :
    calling (links (codes "([I)I") (step.Let (codes "a") add ∷ step.Let (codes "p")
    (operation.Spread (reg (codes "a")) (of_type.Descriptor (codes "[I")) 2) ∷ []) (returns (codes "p")))
    (value.Array (comp.Prim primitive.I) (cell.Prim (num.I (pos 1)) ∷ cell.Prim (num.I (pos 2)) ∷ cell.Prim (num.I (pos 3)) ∷ []) ∷ [])
    ≡ Some (Err (saying illegal_argument_class (codes "spread")), [])
unfolding chars_from units_from unit_len sound_from shown int_wrap
three_items_are_not_spread_over_two = refl

null_has_no_items :
    calling (links (codes "([I)I") (step.Let (codes "a") add ∷ step.Let (codes "p")
    (operation.Spread (reg (codes "a")) (of_type.Descriptor (codes "[I")) 2) ∷ []) (returns (codes "p"))) (value.Null ∷ [])
    ≡ Some (Err (bare null_pointer_class), [])
unfolding chars_from units_from unit_len sound_from shown int_wrap
null_has_no_items = refl

of_null_nothing_is_spread :
    calling (links (codes "([I)V") (step.Let (codes "n") nothing ∷ step.Let (codes "p")
    (operation.Spread (reg (codes "n")) (of_type.Descriptor (codes "[I")) 0) ∷ []) (returns (codes "p"))) (value.Null ∷ [])
    ≡ Some (Ok None, (7 ∷ []))
unfolding chars_from units_from unit_len sound_from shown int_wrap
of_null_nothing_is_spread = refl
