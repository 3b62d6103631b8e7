-- Worked examples of names and of static arguments of jobs: what the checker computes of the definitions.
use Rattle.std.specs.Prelude.{◌≡◌, refl, pos, [], ◌∷◌, codes, replicate, Some, None, Ok, Err}
use Rattle.mh_values.specs.declared.types.Comp.TheVariants as comp
use Rattle.mh_values.specs.declared.types.Primitive.TheVariants as primitive
use Rattle.mh_values.specs.declared.types.Ty.TheVariants as ty
use Rattle.mh_values.specs.Exception.{saying}
use Rattle.mh_leaf.specs.Outcome.{int_type}
use Rattle.mh_class_bytes.specs.Chars.{chars_from, units_from, shown}
use Rattle.mh_class_bytes.specs.Mutf8.{sound_from, unit_len}
use Rattle.mh_classfile.specs.declared.constant.Constant.TheVariants as constant
use Rattle.mh_jobs.specs.declared.job.Argument.TheVariants as argument
use Rattle.mh_jobs.specs.declared.job.Method.TheVariants as method
use Rattle.mh_jobs.specs.declared.unresolved.Part.TheVariants as part
use Rattle.mh_jobs.specs.Job.{text_of, argument_of}
use Rattle.mh_jobs.specs.Thrown.{no_class_def_found_class, no_such_method_class, unsupported}
use Rattle.mh_jobs.proofs.Host.{host, of, boxed_int, handle_to, booted, job_with, call_with, host_class}
use Rattle.mh_values.specs.declared.value.Num.TheVariants as num
use Rattle.mh_values.specs.declared.value.Value.TheVariants as value

-- ---- the name

a_lone_half_is_no_name :
    (job_with (102 ∷ 0xED ∷ 0xA0 ∷ 0x80 ∷ []) (codes "()V") (booted [])).call
    ≡ Err (unsupported (codes "lone surrogate"))
unfolding chars_from units_from unit_len sound_from shown
a_lone_half_is_no_name = refl

the_type_is_read_before_the_name :
    (job_with (102 ∷ 0xED ∷ 0xA0 ∷ 0x80 ∷ []) (codes "(D)V") (booted [])).call
    ≡ Err (unsupported (codes "type"))
unfolding chars_from units_from unit_len sound_from shown
the_type_is_read_before_the_name = refl

a_text_of_4096_characters_is_a_name :
    text_of (replicate 4096 65)
    ≡ Ok (replicate 4096 65)
unfolding chars_from units_from unit_len sound_from shown
a_text_of_4096_characters_is_a_name = refl

a_text_of_4097_characters_is_none :
    text_of (replicate 4097 65)
    ≡ Err (unsupported (codes "string too long"))
unfolding chars_from units_from unit_len sound_from shown
a_text_of_4097_characters_is_none = refl

-- ---- static arguments

an_integer_is_boxed :
    argument_of host (constant.Integer (pos 5))
    ≡ Ok (argument.Value (boxed_int (pos 5)))
unfolding chars_from units_from unit_len sound_from shown
an_integer_is_boxed = refl

a_long_is_boxed :
    argument_of host (constant.Long (pos 5))
    ≡ Ok (argument.Value (value.Boxed (num.J (pos 5))))
unfolding chars_from units_from unit_len sound_from shown
a_long_is_boxed = refl

a_text_is_its_characters :
    argument_of host (constant.Str (0xED ∷ 0xA0 ∷ 0xBD ∷ 0xED ∷ 0xB8 ∷ 0x80 ∷ []))
    ≡ Ok (argument.Value (value.Text (0x1F600 ∷ [])))
unfolding chars_from units_from unit_len sound_from shown
a_text_is_its_characters = refl

a_method_type_by_its_descriptor :
    argument_of host (constant.MethodType (codes "(I)V"))
    ≡ Ok (argument.MethodType (of (int_type ∷ []) None))
unfolding chars_from units_from unit_len sound_from shown
a_method_type_by_its_descriptor = refl

a_class_by_its_name :
    argument_of host (constant.Class (codes "demo/Host"))
    ≡ Ok (argument.Class (ty.Class host_class))
unfolding chars_from units_from unit_len sound_from shown
a_class_by_its_name = refl

an_array_by_its_descriptor :
    argument_of host (constant.Class (codes "[I"))
    ≡ Ok (argument.Class (ty.Array (comp.Prim primitive.I)))
unfolding chars_from units_from unit_len sound_from shown
an_array_by_its_descriptor = refl

the_class_i_is_no_int :
    argument_of host (constant.Class (codes "I"))
    ≡ Err (saying no_class_def_found_class (codes "I"))
unfolding chars_from units_from unit_len sound_from shown
the_class_i_is_no_int = refl

two_dimensions_are_left_out :
    argument_of host (constant.Class (codes "[[I"))
    ≡ Err (unsupported (codes "type"))
unfolding chars_from units_from unit_len sound_from shown
two_dimensions_are_left_out = refl

the_component_of_an_array_is_unknown :
    argument_of host (constant.Class (codes "[Lno/Such;"))
    ≡ Err (saying no_class_def_found_class (codes "no/Such"))
unfolding chars_from units_from unit_len sound_from shown
the_component_of_an_array_is_unknown = refl

a_text_with_a_bracket_that_is_no_type_is_named_whole :
    argument_of host (constant.Class (codes "[Q"))
    ≡ Err (saying no_class_def_found_class (codes "[Q"))
unfolding chars_from units_from unit_len sound_from shown
a_text_with_a_bracket_that_is_no_type_is_named_whole = refl

a_lone_half_in_a_name_is_shown :
    argument_of host (constant.Class (110 ∷ 0xED ∷ 0xA0 ∷ 0x80 ∷ []))
    ≡ Err (saying no_class_def_found_class (110 ∷ 0xFFFD ∷ []))
unfolding chars_from units_from unit_len sound_from shown
a_lone_half_in_a_name_is_shown = refl

a_static_leaf_is_called_by_invokestatic :
    argument_of host (constant.Handle (handle_to 6 (codes "demo/Host") (codes "add") (codes "(II)I")))
    ≡ Ok (argument.Leaf (record { 0 = 0 }))
unfolding chars_from units_from unit_len sound_from shown
a_static_leaf_is_called_by_invokestatic = refl

a_static_leaf_is_not_called_by_invokevirtual :
    argument_of host (constant.Handle (handle_to 5 (codes "demo/Host") (codes "add") (codes "(II)I")))
    ≡ Err (saying no_such_method_class (codes "demo/Host.add:(II)I"))
unfolding chars_from units_from unit_len sound_from shown
a_static_leaf_is_not_called_by_invokevirtual = refl

an_owner_of_scripts_alone_has_no_leaves :
    argument_of host (constant.Handle (handle_to 6 (codes "made/Boot") (codes "link") (codes "()V")))
    ≡ Err (saying no_class_def_found_class (codes "made/Boot"))
unfolding chars_from units_from unit_len sound_from shown
an_owner_of_scripts_alone_has_no_leaves = refl

other_kinds_of_handles_are_left_out :
    argument_of host (constant.Handle (handle_to 7 (codes "demo/Host") (codes "add") (codes "(II)I")))
    ≡ Err (unsupported (codes "constant"))
unfolding chars_from units_from unit_len sound_from shown
other_kinds_of_handles_are_left_out = refl

a_float_is_left_out :
    argument_of host constant.Float
    ≡ Err (unsupported (codes "constant"))
unfolding chars_from units_from unit_len sound_from shown
a_float_is_left_out = refl

what_the_first_static_argument_that_is_none_throws_is_kept :
    call_with (codes "()V") (booted (constant.Integer (pos 5) ∷ constant.Float ∷ constant.Class (codes "no/Such") ∷ []))
    ≡ Ok (record {
      method = method.Script (record { 0 = 0 });
      name = codes "f";
      ty = of [] None;
      arguments = record {
        parts = part.Known (argument.Value (boxed_int (pos 5))) ∷ [];
        thrown = Some (unsupported (codes "constant"));
      };
    })
unfolding chars_from units_from unit_len sound_from shown
what_the_first_static_argument_that_is_none_throws_is_kept = refl
