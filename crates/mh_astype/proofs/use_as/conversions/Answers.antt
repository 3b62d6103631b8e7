use Rattle.std.proofs.Common.{ap, ap₂, refl, ◌∙◌, ◌+◌, List}
use Rattle.mh_values.specs.declared.class.Class.{Class}
use Rattle.mh_values.specs.declared.types.MethodTy.{MethodTy}
use Rattle.mh_form.specs.declared.field.Field.{Field}
use Rattle.mh_handle.specs.Converting.{convert_fields}
use Rattle.mh_handle.specs.Parts.{no_parts}
use Rattle.mh_astype.proofs.Using.{convert_key}
use Rattle.mh_astype.proofs.use_as.conversions.Goals as goal

pub returns-clause-adds : goal.returns-clause-adds
returns-clause-adds c = record {
  ty = refl;
  weight = ap (λ n. 1 + n) c.weight.ensures.weight;
  key = c.in_ok-key.ensures ∙ ap₂ (λ (cs : List Class) (own : MethodTy). convert_key cs c.args.ty own) c.classes-classes.ensures.classes c.ty.ensures.ty;
  parts = c.of_fields.ensures ∙ ap (λ (fs : List Field). record no_parts { fields = fs }) (c.in_ok-fields.ensures
      ∙ ap₂ (λ (cs : List Class) (own : MethodTy). convert_fields c.args.rules cs c.args.ty own) c.classes-classes.ensures.classes c.ty-2.ensures.ty);
}
