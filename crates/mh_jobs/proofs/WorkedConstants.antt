-- Worked examples of the jobs of dynamic constants: what the checker computes of the definitions.
use Rattle.std.specs.Prelude.{◌≡◌, refl, ℕ, pos, List, [], ◌∷◌, codes, Option, Some, None, Ok, Err, map, option_map}
use Rattle.mh_values.specs.declared.types.Comp.TheVariants as comp
use Rattle.mh_values.specs.declared.types.Primitive.TheVariants as primitive
use Rattle.mh_values.specs.declared.types.Ty.TheVariants as ty
use Rattle.mh_values.specs.Exception.{saying}
use Rattle.mh_class_bytes.specs.Chars.{chars_from, units_from, shown}
use Rattle.mh_class_bytes.specs.Mutf8.{sound_from, unit_len}
use Rattle.mh_classfile.specs.declared.constant.Constant.{Constant}
use Rattle.mh_classfile.specs.declared.constant.Constant.TheVariants as constant
use Rattle.mh_classfile.specs.declared.constant.DynamicView.{DynamicView}
use Rattle.mh_classfile.specs.Class as class_file
use Rattle.mh_jobs.specs.declared.constants.ConstBootstrap.{ConstBootstrap}
use Rattle.mh_jobs.specs.declared.constants.ConstJob.{ConstJob}
use Rattle.mh_jobs.specs.declared.job.Argument.TheVariants as argument
use Rattle.mh_jobs.specs.declared.unresolved.Part.TheVariants as part
use Rattle.mh_jobs.specs.Constants.{const_type, const_job_of}
use Rattle.mh_jobs.specs.RunJobs.{jobs_of}
use Rattle.mh_jobs.specs.Names.{concat_method}
use Rattle.mh_jobs.specs.Parts.{static_arguments, names_of}
use Rattle.mh_jobs.specs.Thrown.{OrThrown, no_class_def_found_class, no_such_method_class, unsupported}
use Rattle.mh_jobs.proofs.Host.{host, boxed_int, bootstrap_descriptor, link, handle_to, booted, bare}

-- ---- types

a_long_is_a_type : const_type host.classes (codes "J") ≡ Ok (ty.Prim primitive.J)
a_long_is_a_type = refl

an_array_is_a_type : const_type host.classes (codes "[I") ≡ Ok (ty.Array (comp.Prim primitive.I))
an_array_is_a_type = refl

void_is_no_type : const_type host.classes (codes "V") ≡ Err (unsupported (codes "type"))
void_is_no_type = refl

no_text_is_no_type : const_type host.classes [] ≡ Err (unsupported (codes "type"))
no_text_is_no_type = refl

two_types_are_no_type : const_type host.classes (codes "II") ≡ Err (unsupported (codes "type"))
two_types_are_no_type = refl

a_method_descriptor_is_no_type : const_type host.classes (codes "(I)I") ≡ Err (unsupported (codes "type"))
a_method_descriptor_is_no_type = refl

a_float_is_left_out : const_type host.classes (codes "F") ≡ Err (unsupported (codes "type"))
a_float_is_left_out = refl

an_array_of_arrays_is_left_out : const_type host.classes (codes "[[I") ≡ Err (unsupported (codes "type"))
an_array_of_arrays_is_left_out = refl

an_unknown_class_is_named : const_type host.classes (codes "Lno/Such;") ≡ Err (saying no_class_def_found_class (codes "no/Such"))
unfolding chars_from units_from unit_len sound_from shown
an_unknown_class_is_named = refl

-- ---- constants

-- a Dynamic entry of an index and a descriptor, of the first bootstrap method
abbrev dynamic_at : ℕ → List ℕ → DynamicView
dynamic_at index descriptor = record { index = index; bootstrap = 0; name = codes "c"; descriptor = descriptor }

-- a class of a bootstrap method that has the Dynamic entries 5 and 9, both longs
abbrev with_two : class_file.Bootstrap → class_file.Class
with_two bootstrap = record {
  constants = [];
  dynamics = dynamic_at 5 (codes "J") ∷ dynamic_at 9 (codes "J") ∷ [];
  sites = [];
  bootstraps = bootstrap ∷ [];
}

-- static arguments that are the second of them, a Float, and the first
abbrev some_arguments : List Constant
some_arguments = constant.Dynamic (dynamic_at 9 (codes "J")) ∷ constant.Float ∷ constant.Dynamic (dynamic_at 5 (codes "J")) ∷ []

-- what the first of them calls, after seven others
abbrev first_call : class_file.Bootstrap → Option (OrThrown ConstBootstrap)
first_call bootstrap = option_map (λ (job : ConstJob). job.call) (const_job_of host (link ∷ []) (with_two bootstrap) 0 7)

static_arguments_end_with_the_first_that_is_refused :
    static_arguments host (with_two (booted [])) 7 some_arguments
    ≡ record { parts = part.Constant 8 ∷ []; thrown = Some (unsupported (codes "constant")) }
static_arguments_end_with_the_first_that_is_refused = refl

each_constant_is_named : names_of (with_two (booted [])) 7 some_arguments ≡ 8 ∷ 7 ∷ []
each_constant_is_named = refl

what_is_known_stands_beside_constants :
    static_arguments host (with_two (booted [])) 7 (constant.Integer (pos 5) ∷ constant.Dynamic (dynamic_at 5 (codes "J")) ∷ [])
    ≡ record { parts = part.Known (argument.Value (boxed_int (pos 5))) ∷ part.Constant 7 ∷ []; thrown = None }
what_is_known_stands_beside_constants = refl

the_job_of_a_constant_has_its_script_and_its_type :
    const_job_of host (link ∷ []) (with_two (booted (constant.Dynamic (dynamic_at 5 (codes "J")) ∷ []))) 1 7
    ≡ Some (record {
      number = 8;
      names = 7 ∷ [];
      call = Ok (record {
        script = record { 0 = 0 };
        name = codes "c";
        ty = ty.Prim primitive.J;
        arguments = record { parts = part.Constant 7 ∷ []; thrown = None };
      });
    })
unfolding chars_from units_from unit_len sound_from shown
the_job_of_a_constant_has_its_script_and_its_type = refl

past_the_last_there_is_no_constant : const_job_of host (link ∷ []) (with_two (booted [])) 2 7 ≡ None
past_the_last_there_is_no_constant = refl

a_script_of_a_constant_is_static :
    first_call (bare (handle_to 5 (codes "made/Boot") (codes "link") bootstrap_descriptor)) ≡ Some (Err (unsupported (codes "constant")))
unfolding chars_from units_from unit_len sound_from shown
a_script_of_a_constant_is_static = refl

a_script_of_a_constant_is_there :
    first_call (bare (handle_to 6 (codes "made/Boot") (codes "other") (codes "()V")))
    ≡ Some (Err (saying no_such_method_class (codes "made/Boot.other:()V")))
unfolding chars_from units_from unit_len sound_from shown
a_script_of_a_constant_is_there = refl

what_is_built_in_for_sites_is_not_for_constants :
    first_call (bare (handle_to 6 concat_method.owner concat_method.name concat_method.descriptor))
    ≡ Some (Err (saying no_class_def_found_class concat_method.owner))
unfolding chars_from units_from unit_len sound_from shown
what_is_built_in_for_sites_is_not_for_constants = refl

constants_are_numbered_over_the_classes :
    map (λ (job : ConstJob). job.number) (jobs_of host (link ∷ []) (with_two (booted []) ∷ with_two (booted []) ∷ [])).constants ≡ 0 ∷ 1 ∷ 2 ∷ 3 ∷ []
unfolding chars_from units_from unit_len sound_from shown
constants_are_numbered_over_the_classes = refl

so_are_those_that_they_name :
    map (λ (job : ConstJob). job.names) (jobs_of host (link ∷ []) (with_two (booted []) ∷ with_two (booted some_arguments) ∷ [])).constants
    ≡ [] ∷ [] ∷ (3 ∷ 2 ∷ []) ∷ (3 ∷ 2 ∷ []) ∷ []
unfolding chars_from units_from unit_len sound_from shown
so_are_those_that_they_name = refl
