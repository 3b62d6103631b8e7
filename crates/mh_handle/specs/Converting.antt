-- What `asType` or an explicit conversion adds to a handle: the conversions that change something, and a form that runs them.
use Rattle.std.specs.Prelude.{◌≡◌, ◌+◌, List, [], ◌∷◌, ◌++◌, map, if◌then◌else◌, Option, option_to_list}
use Rattle.mh_values.specs.declared.class.Class.{Class}
use Rattle.mh_values.specs.declared.types.Ty.{Ty}
use Rattle.mh_values.specs.declared.types.MethodTy.{MethodTy}
use Rattle.mh_convert.specs.declared.conv.Conv.{Conv}
use Rattle.mh_convert.specs.declared.conv.Rules.{Rules}
use Rattle.mh_convert.specs.Conversion.{is_trivial, is_trivial_ret, ret_conversion_of}
use Rattle.mh_form.specs.declared.field.Field.{Field}
use Rattle.mh_edit.specs.Law.{conv_field, ret_field}
use Rattle.mh_handle.specs.Recipe.{convert_keys}
use Rattle.mh_handle.specs.Stands.{HandleView}

-- the conversion from one type to another
abbrev pub conversion_between : Ty → Ty → Conv
conversion_between s t = record { from = s; to = t }

-- the conversions of parameters that change something, from left to right
abbrev pub convs_of : List Class → List Ty → List Ty → List Conv
convs_of classes (s ∷ ss) (t ∷ ts) = if is_trivial classes s t then convs_of classes ss ts else conversion_between s t ∷ convs_of classes ss ts
convs_of classes _ _ = []

-- the field of the result's conversion by the rules, if that changes something
abbrev pub ret_fields_of : Rules → List Class → Option Ty → Option Ty → List Field
ret_fields_of by classes s t = if is_trivial_ret classes s t then [] else map (ret_field by) (option_to_list (ret_conversion_of by classes s t))

-- the fields of the conversions by the rules to a type: none if nothing changes
abbrev pub convert_fields : Rules → List Class → MethodTy → MethodTy → List Field
convert_fields by classes asked t = map (conv_field by) (convs_of classes asked.params t.params) ++ ret_fields_of by classes t.ret asked.ret

-- a handle that is converted by the rules: it has the type that was asked for, weighs one more, and has the conversions that change something
pub record IsUsedAs (by : Rules) (classes : List Class) (asked : MethodTy) (old new : HandleView) : Type 0 where
  pub ty : new.ty ≡ asked
  pub weight : new.weight ≡ 1 + old.weight
  pub sides : new.sides ≡ old.sides
  pub recipe : new.form.recipe ≡ old.form.recipe ++ convert_keys classes asked old.ty
  pub fields : new.fields ≡ old.fields ++ convert_fields by classes asked old.ty
