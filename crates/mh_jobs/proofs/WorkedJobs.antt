-- Worked examples of jobs: what the checker computes of the definitions.
use Rattle.std.specs.Prelude.{◌≡◌, refl, pos, [], ◌∷◌, codes, Some, None, Ok, Err}
use Rattle.mh_values.specs.declared.types.Comp.TheVariants as comp
use Rattle.mh_values.specs.declared.types.Primitive.TheVariants as primitive
use Rattle.mh_values.specs.declared.types.Ty.TheVariants as ty
use Rattle.mh_values.specs.Class.{wrong_method_type_class}
use Rattle.mh_values.specs.Exception.{saying}
use Rattle.mh_leaf.specs.Outcome.{int_type}
use Rattle.mh_class_bytes.specs.Chars.{chars_from, units_from, shown}
use Rattle.mh_class_bytes.specs.Mutf8.{sound_from, unit_len}
use Rattle.mh_classfile.specs.declared.constant.Constant.TheVariants as constant
use Rattle.mh_jobs.specs.declared.job.Argument.TheVariants as argument
use Rattle.mh_jobs.specs.declared.job.Method.TheVariants as method
use Rattle.mh_jobs.specs.declared.unresolved.Part.TheVariants as part
use Rattle.mh_jobs.specs.RunJobs.{jobs_of}
use Rattle.mh_jobs.specs.Names.{concat_method}
use Rattle.mh_jobs.specs.Sites.{job_of}
use Rattle.mh_jobs.specs.Thrown.{bootstrap_method_error_class, no_class_def_found_class, no_such_method_class, recorded, unsupported}
use Rattle.mh_jobs.proofs.Host.{host, of, boxed_int, bootstrap_descriptor, link, handle_to, site_of, booted, bare, class_of, job_with, call_with}

-- ---- the bootstrap method

a_factory_that_is_not_there_has_no_class :
    call_with (codes "()V") (bare (handle_to 6 (codes "java/lang/invoke/LambdaMetafactory") (codes "metafactory") (codes "()V")))
    ≡ Err (saying no_class_def_found_class (codes "java/lang/invoke/LambdaMetafactory"))
unfolding chars_from units_from unit_len sound_from shown
a_factory_that_is_not_there_has_no_class = refl

a_class_without_the_script_has_no_method :
    call_with (codes "()V") (bare (handle_to 6 (codes "demo/Host") (codes "link") (codes "()V")))
    ≡ Err (saying no_such_method_class (codes "demo/Host.link:()V"))
unfolding chars_from units_from unit_len sound_from shown
a_class_without_the_script_has_no_method = refl

an_owner_of_scripts_without_the_script_has_no_method :
    call_with (codes "()V") (bare (handle_to 6 (codes "made/Boot") (codes "other") (codes "()V")))
    ≡ Err (saying no_such_method_class (codes "made/Boot.other:()V"))
unfolding chars_from units_from unit_len sound_from shown
an_owner_of_scripts_without_the_script_has_no_method = refl

a_bootstrap_method_is_static :
    call_with (codes "()V") (bare (handle_to 5 (codes "made/Boot") (codes "link") bootstrap_descriptor))
    ≡ Err (unsupported (codes "constant"))
unfolding chars_from units_from unit_len sound_from shown
a_bootstrap_method_is_static = refl

a_concatenation_has_a_bootstrap_method_of_its_own :
    call_with (codes "()V") (bare (handle_to 6 concat_method.owner concat_method.name concat_method.descriptor))
    ≡ Ok (record { method = method.Concat; name = codes "f"; ty = of [] None; arguments = record { parts = []; thrown = None } })
unfolding chars_from units_from unit_len sound_from shown
a_concatenation_has_a_bootstrap_method_of_its_own = refl

a_built_in_method_is_static_too :
    call_with (codes "()V") (bare (handle_to 5 concat_method.owner concat_method.name concat_method.descriptor))
    ≡ Err (unsupported (codes "constant"))
unfolding chars_from units_from unit_len sound_from shown
a_built_in_method_is_static_too = refl

another_method_of_the_factory_has_no_class :
    call_with (codes "()V") (bare (handle_to 6 concat_method.owner (codes "makeConcat") concat_method.descriptor))
    ≡ Err (saying no_class_def_found_class concat_method.owner)
unfolding chars_from units_from unit_len sound_from shown
another_method_of_the_factory_has_no_class = refl

another_descriptor_has_no_class :
    call_with (codes "()V") (bare (handle_to 6 concat_method.owner concat_method.name (codes "()V")))
    ≡ Err (saying no_class_def_found_class concat_method.owner)
unfolding chars_from units_from unit_len sound_from shown
another_descriptor_has_no_class = refl

-- ---- the type

the_script_is_looked_for_before_the_type_is_read :
    call_with (codes "(Lno/Such;)V") (bare (handle_to 6 (codes "made/Boot") (codes "other") (codes "()V")))
    ≡ Err (saying no_such_method_class (codes "made/Boot.other:()V"))
unfolding chars_from units_from unit_len sound_from shown
the_script_is_looked_for_before_the_type_is_read = refl

a_type_of_an_unknown_class_has_no_class :
    call_with (codes "(Lno/Such;)V") (booted [])
    ≡ Err (saying no_class_def_found_class (codes "no/Such"))
unfolding chars_from units_from unit_len sound_from shown
a_type_of_an_unknown_class_has_no_class = refl

a_type_left_out_is_unsupported :
    call_with (codes "(D)V") (booted [])
    ≡ Err (unsupported (codes "type"))
unfolding chars_from units_from unit_len sound_from shown
a_type_left_out_is_unsupported = refl

the_first_place_of_a_type_decides :
    call_with (codes "(DLno/Such;)V") (booted [])
    ≡ Err (unsupported (codes "type"))
unfolding chars_from units_from unit_len sound_from shown
the_first_place_of_a_type_decides = refl

the_type_is_read_where_the_script_is_not_there :
    (job_with (codes "f") (codes "(I)V") (bare (handle_to 6 (codes "made/Boot") (codes "other") (codes "()V")))).ty
    ≡ Some (of (int_type ∷ []) None)
unfolding chars_from units_from unit_len sound_from shown
the_type_is_read_where_the_script_is_not_there = refl

a_type_that_cannot_be_read_is_none :
    (job_with (codes "f") (codes "(Lno/Such;)V") (booted [])).ty
    ≡ None
unfolding chars_from units_from unit_len sound_from shown
a_type_that_cannot_be_read_is_none = refl

-- ---- jobs

the_call_of_a_bootstrap_method :
    call_with (codes "(I)V") (booted (constant.Integer (pos 5) ∷ constant.Class (codes "[I") ∷ []))
    ≡ Ok (record {
      method = method.Script (record { 0 = 0 });
      name = codes "f";
      ty = of (int_type ∷ []) None;
      arguments = record {
        parts = part.Known (argument.Value (boxed_int (pos 5))) ∷ part.Known (argument.Class (ty.Array (comp.Prim primitive.I))) ∷ [];
        thrown = None;
      };
    })
unfolding chars_from units_from unit_len sound_from shown
the_call_of_a_bootstrap_method = refl

the_job_of_a_class_is_that_of_its_site :
    job_of host (link ∷ []) (class_of (site_of (codes "f") (codes "(I)V")) (booted [])) 0 7 0
    ≡ Some (record (job_with (codes "f") (codes "(I)V") (booted [])) { site = 7 })
unfolding chars_from units_from unit_len sound_from shown
the_job_of_a_class_is_that_of_its_site = refl

past_its_sites_a_class_has_no_job :
    job_of host [] (record { constants = []; dynamics = []; sites = []; bootstraps = [] }) 0 0 0
    ≡ None
past_its_sites_a_class_has_no_job = refl

the_sites_of_two_classes_are_numbered_on :
    (jobs_of host (link ∷ []) (class_of (site_of (codes "f") (codes "(I)V")) (booted []) ∷ class_of (site_of (codes "g") (codes "()V")) (booted []) ∷ [])).sites
    ≡ job_with (codes "f") (codes "(I)V") (booted []) ∷ record (job_with (codes "g") (codes "()V") (booted [])) { site = 1 } ∷ []
unfolding chars_from units_from unit_len sound_from shown
the_sites_of_two_classes_are_numbered_on = refl

-- ---- what is recorded

an_error_is_recorded_as_it_is :
    recorded host.classes (saying no_such_method_class (codes "f"))
    ≡ saying no_such_method_class (codes "f")
an_error_is_recorded_as_it_is = refl

an_exception_causes_an_error :
    recorded host.classes (saying wrong_method_type_class (codes "f"))
    ≡ record {
      class = bootstrap_method_error_class;
      message = [];
      cause = Some (record { class = wrong_method_type_class; message = codes "f" });
    }
an_exception_causes_an_error = refl
