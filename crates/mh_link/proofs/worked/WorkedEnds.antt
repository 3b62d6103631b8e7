-- Worked examples of scripts that raise an exception: what the checker computes of the definitions.
use Rattle.std.specs.Prelude.{◌≡◌, refl, [], codes}
use Rattle.mh_values.specs.Class.{class_at}
use Rattle.mh_values.specs.Exception.{saying}
use Rattle.mh_class_bytes.specs.Chars.{chars_from, units_from, shown}
use Rattle.mh_class_bytes.specs.Mutf8.{sound_from, unit_len}
use Rattle.mh_tree.specs.Rows.{illegal}
use Rattle.mh_script.specs.declared.operand.Register.TheVariants as register
use Rattle.mh_script.specs.declared.operand.ValueOperand.TheVariants as of_value
use Rattle.mh_script.specs.declared.script.End.TheVariants as end
use Rattle.mh_link.specs.Linked.{Error}
use Rattle.mh_jobs.specs.Thrown.{no_class_def_found_class}
use Rattle.mh_link.proofs.worked.Host.{links, failed}

what_is_no_throwable_is_not_raised :
    links (codes "()V") [] (end.Raise (codes "demo/Host") (codes "hello"))
    ≡ failed (illegal (codes "raise"))
unfolding chars_from units_from unit_len sound_from shown
what_is_no_throwable_is_not_raised = refl

an_unknown_class_is_not_raised :
    links (codes "()V") [] (end.Raise (codes "no/Such") (codes "hello"))
    ≡ Error (saying no_class_def_found_class (codes "no/Such"))
unfolding chars_from units_from unit_len sound_from shown
an_unknown_class_is_not_raised = refl

an_exception_is_raised_as_a_cause :
    links (codes "()V") [] (end.Raise (codes "java/lang/ArithmeticException") (codes "so it is"))
    ≡ failed (saying (class_at 24) (codes "so it is"))
unfolding chars_from units_from unit_len sound_from shown
an_exception_is_raised_as_a_cause = refl

an_error_is_raised_as_it_is :
    links (codes "()V") [] (end.Raise (codes "java/lang/StackOverflowError") (codes "deep"))
    ≡ Error (saying (class_at 27) (codes "deep"))
unfolding chars_from units_from unit_len sound_from shown
an_error_is_raised_as_it_is = refl

a_throwable_is_no_error :
    links (codes "()V") [] (end.Raise (codes "java/lang/Throwable") (codes "t"))
    ≡ failed (saying (class_at 9) (codes "t"))
unfolding chars_from units_from unit_len sound_from shown
a_throwable_is_no_error = refl

a_value_is_no_target :
    links (codes "()V") [] (end.Value (of_value.Register (register.Argument 9)))
    ≡ failed (saying (class_at 21) (codes "value"))
unfolding chars_from units_from unit_len sound_from shown
a_value_is_no_target = refl
