-- Worked examples of calls of linked sites, of branches and of what runs before: what the checker computes of the definitions.
use Rattle.std.specs.Prelude.{◌≡◌, refl, pos, negsuc, [], ◌∷◌, ◌++◌, codes, replicate, Some, Ok, Err}
use Rattle.std.specs.Int.{int_wrap}
use Rattle.mh_values.specs.declared.types.Comp.TheVariants as comp
use Rattle.mh_values.specs.declared.types.Primitive.TheVariants as primitive
use Rattle.mh_values.specs.declared.value.Cell.TheVariants as cell
use Rattle.mh_values.specs.declared.value.Num.TheVariants as num
use Rattle.mh_values.specs.declared.value.Value.TheVariants as value
use Rattle.mh_values.specs.Class.{arithmetic_class, null_pointer_class, wrong_method_type_class}
use Rattle.mh_values.specs.Exception.{bare, saying}
use Rattle.mh_class_bytes.specs.Chars.{chars_from, units_from, shown}
use Rattle.mh_class_bytes.specs.Mutf8.{sound_from, unit_len}
use Rattle.mh_script.specs.declared.operand.MethodTypeOperand.TheVariants as of_method_type
use Rattle.mh_script.specs.declared.operand.Register.TheVariants as register
use Rattle.mh_script.specs.declared.operand.TypeOperand.TheVariants as of_type
use Rattle.mh_script.specs.declared.script.Operation.TheVariants as operation
use Rattle.mh_script.specs.declared.script.Step.TheVariants as step
use Rattle.mh_jobs.specs.Thrown.{caused}
use Rattle.mh_link.proofs.worked.Host.{host_leaf, add, sub, tick, same, nothing, reg, returns, links}
use Rattle.mh_link.proofs.worked.CallsOfSites.{calling}

a_void_handle_runs_before :
    calling (links (codes "(II)I") (step.Let (codes "a") add ∷ step.Let (codes "n") nothing ∷ step.Let (codes "c")
    (operation.Collect (reg (codes "a")) 2 (reg (codes "n"))) ∷ []) (returns (codes "c"))) (value.Prim (num.I (pos 1)) ∷ value.Prim (num.I (pos 2)) ∷ [])
    ≡ Some (Ok (Some (value.Prim (num.I (pos 3)))), (7 ∷ 0 ∷ []))
unfolding chars_from units_from unit_len sound_from shown int_wrap
a_void_handle_runs_before = refl

same_runs_128_times :
    calling (links (codes "(II)I") (step.Let (codes "s") same ∷ replicate 7
    (step.Let (codes "s") (operation.FilterReturn (reg (codes "s")) (reg (codes "s")))) ++ step.Let (codes "h")
    (operation.Drop (reg (codes "s")) 1 (codes "I")) ∷ []) (returns (codes "h"))) (value.Prim (num.I (pos 4)) ∷ value.Prim (num.I (pos 5)) ∷ [])
    ≡ Some (Ok (Some (value.Prim (num.I (pos 4)))), replicate 128 4)
unfolding chars_from units_from unit_len sound_from shown int_wrap
same_runs_128_times = refl

each_call_throws_what_is_recorded :
    calling (links (codes "(I)I") (step.Let (codes "a") add ∷ []) (returns (codes "a"))) (value.Prim (num.I (pos 1)) ∷ [])
    ≡ Some (Err (caused (saying wrong_method_type_class (codes "have (II)I want (I)I"))), [])
unfolding chars_from units_from unit_len sound_from shown int_wrap
each_call_throws_what_is_recorded = refl

a_guard_takes_the_target :
    calling (links (codes "(II)I") (step.Let (codes "c") (host_leaf (codes "less") (codes "(II)Z")) ∷ step.Let (codes "t") add ∷ step.Let
    (codes "e") sub ∷ step.Let (codes "g") (operation.Guard (reg (codes "c")) (reg (codes "t")) (reg (codes "e"))) ∷ []) (returns (codes "g")))
    (value.Prim (num.I (pos 1)) ∷ value.Prim (num.I (pos 2)) ∷ [])
    ≡ Some (Ok (Some (value.Prim (num.I (pos 3)))), (11 ∷ 0 ∷ []))
unfolding chars_from units_from unit_len sound_from shown int_wrap
a_guard_takes_the_target = refl

a_guard_takes_the_fallback :
    calling (links (codes "(II)I") (step.Let (codes "c") (host_leaf (codes "less") (codes "(II)Z")) ∷ step.Let (codes "t") add ∷ step.Let
    (codes "e") sub ∷ step.Let (codes "g") (operation.Guard (reg (codes "c")) (reg (codes "t")) (reg (codes "e"))) ∷ []) (returns (codes "g")))
    (value.Prim (num.I (pos 2)) ∷ value.Prim (num.I (pos 1)) ∷ [])
    ≡ Some (Ok (Some (value.Prim (num.I (pos 1)))), (11 ∷ 1 ∷ []))
unfolding chars_from units_from unit_len sound_from shown int_wrap
a_guard_takes_the_fallback = refl

a_handler_runs :
    calling (links (codes "(II)I") (step.Let (codes "d") (host_leaf (codes "div") (codes "(II)I")) ∷ step.Let (codes "h")
    (host_leaf (codes "saw") (codes "(Ljava/lang/RuntimeException;I)I")) ∷ step.Let (codes "c")
    (operation.Catch (reg (codes "d")) (codes "java/lang/ArithmeticException") (reg (codes "h"))) ∷ []) (returns (codes "c")))
    (value.Prim (num.I (pos 1)) ∷ value.Prim (num.I (pos 0)) ∷ [])
    ≡ Some (Ok (Some (value.Prim (num.I (pos 1)))), (2 ∷ 12 ∷ []))
unfolding chars_from units_from unit_len sound_from shown int_wrap
a_handler_runs = refl

a_combiner_runs_before :
    calling (links (codes "(I)I") (step.Let (codes "s") sub ∷ step.Let (codes "t") tick ∷ step.Let (codes "f")
    (operation.Fold (reg (codes "s")) 0 (reg (codes "t"))) ∷ []) (returns (codes "f"))) (value.Prim (num.I (pos 5)) ∷ [])
    ≡ Some (Ok (Some (value.Prim (num.I (negsuc 4)))), (3 ∷ 1 ∷ []))
unfolding chars_from units_from unit_len sound_from shown int_wrap
a_combiner_runs_before = refl

items_are_gathered :
    calling (links (codes "(II)[I") (step.Let (codes "a") (host_leaf (codes "arr") (codes "([I)[I")) ∷ step.Let (codes "g")
    (operation.Gather (reg (codes "a")) (of_type.Descriptor (codes "[I")) 2) ∷ []) (returns (codes "g")))
    (value.Prim (num.I (pos 1)) ∷ value.Prim (num.I (pos 2)) ∷ [])
    ≡ Some (Ok (Some (value.Array (comp.Prim primitive.I) (cell.Prim (num.I (pos 1)) ∷ cell.Prim (num.I (pos 2)) ∷ []))), (13 ∷ []))
unfolding chars_from units_from unit_len sound_from shown int_wrap
items_are_gathered = refl

an_identity_gives_its_argument :
    calling (links (codes "(J)J") (step.Let (codes "d") (operation.Identity (of_type.Descriptor (codes "J"))) ∷ []) (returns (codes "d")))
    (value.Prim (num.J (negsuc 8)) ∷ [])
    ≡ Some (Ok (Some (value.Prim (num.J (negsuc 8)))), [])
unfolding chars_from units_from unit_len sound_from shown int_wrap
an_identity_gives_its_argument = refl

an_int_is_returned_as_a_long :
    calling (links (codes "(I)J") (step.Let (codes "s") same ∷ step.Let (codes "w")
    (operation.AsType (reg (codes "s")) (of_method_type.Register register.SiteType)) ∷ []) (returns (codes "w"))) (value.Prim (num.I (pos 5)) ∷ [])
    ≡ Some (Ok (Some (value.Prim (num.J (pos 5)))), (4 ∷ []))
unfolding chars_from units_from unit_len sound_from shown int_wrap
an_int_is_returned_as_a_long = refl

the_argument_is_thrown :
    calling (links (codes "(Ljava/lang/RuntimeException;)I") (step.Let (codes "x")
    (operation.Throw (of_type.Descriptor (codes "I")) (codes "java/lang/RuntimeException")) ∷ []) (returns (codes "x")))
    (value.Thrown (bare arithmetic_class) ∷ [])
    ≡ Some (Err (bare arithmetic_class), [])
unfolding chars_from units_from unit_len sound_from shown int_wrap
the_argument_is_thrown = refl

null_is_not_thrown :
    calling (links (codes "(Ljava/lang/RuntimeException;)I") (step.Let (codes "x")
    (operation.Throw (of_type.Descriptor (codes "I")) (codes "java/lang/RuntimeException")) ∷ []) (returns (codes "x"))) (value.Null ∷ [])
    ≡ Some (Err (bare null_pointer_class), [])
unfolding chars_from units_from unit_len sound_from shown int_wrap
null_is_not_thrown = refl
