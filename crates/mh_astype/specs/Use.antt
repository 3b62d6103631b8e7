-- Conversion of a handle by `asType` or explicitly: the new handle, and how it changes a thread's work.
use Rattle.std.specs.Prelude.{◌≡◌, ◌≢◌, ℕ, ◌+◌, ◌⊎◌, List, [], ◌++◌, if◌then◌else◌, Result, Err}
use Rattle.mh_values.specs.declared.class.Class.{Class}
use Rattle.mh_values.specs.declared.types.MethodTy.{MethodTy}
use Rattle.mh_values.specs.Same.{is_same_method_type}
use Rattle.mh_convert.specs.declared.conv.Rules.{Rules}
use Rattle.mh_convert.specs.declared.conv.Rules.TheVariants as rules
use Rattle.mh_tree.specs.Rows.{convert_row}
use Rattle.mh_tree.specs.Use.{use_weight}
use Rattle.mh_form.specs.declared.field.Field.{Field}
use Rattle.mh_edit.specs.declared.key.Key.{Key}
use Rattle.mh_edit.specs.declared.key.Key.TheVariants.{Convert}
use Rattle.mh_handle.specs.declared.error.HandleError.{HandleError}
use Rattle.mh_handle.specs.declared.error.HandleError.TheVariants.{FormsFull}
use Rattle.mh_handle.specs.declared.growth.Growth.{Growth}
use Rattle.mh_handle.specs.declared.handle.Handle.{Handle}
use Rattle.mh_handle.specs.declared.work.Work.{Work}
use Rattle.mh_handle.specs.Converting.{convert_fields}
use Rattle.mh_handle.specs.Parts.{no_parts}
use Rattle.mh_handle.specs.Recipe.{convert_keys, entries_of, ret_entry_of}
use Rattle.mh_handle.specs.Stands.{HandleView}
use Rattle.mh_handle.specs.Works.{IsUnchanged, Makes, types_in}

-- the key of the conversions to a type: none if nothing changes
abbrev pub use_keys : List Class → MethodTy → MethodTy → List Key
use_keys classes own asked = if is_same_method_type own asked then [] else convert_keys classes asked own

-- the fields of the conversions by the rules to a type: none if the handle has that type
abbrev pub use_fields : Rules → List Class → MethodTy → MethodTy → List Field
use_fields by classes own asked = if is_same_method_type own asked then [] else convert_fields by classes asked own

-- the handle after conversion by the rules to a type: its weight, the types of its side parts, the recipe of its form, and its fields
pub record IsUse (by : Rules) (classes : List Class) (asked : MethodTy) (old new : HandleView) : Type 0 where
  pub weight : new.weight ≡ use_weight old.ty old.weight asked
  pub sides : new.sides ≡ old.sides
  pub recipe : new.form.recipe ≡ old.form.recipe ++ use_keys classes old.ty asked
  pub fields : new.fields ≡ old.fields ++ use_fields by classes old.ty asked

-- the types of the nodes that a conversion by the rules to a type makes: that type, if it is another one
abbrev pub used_types_by : Rules → List Class → MethodTy → ℕ → MethodTy → List MethodTy
used_types_by by classes own weight asked = if is_same_method_type own asked then [] else types_in (convert_row by classes own weight asked)

-- the same of a conversion by `asType`
abbrev pub used_types : List Class → MethodTy → ℕ → MethodTy → List MethodTy
used_types classes own weight asked = used_types_by rules.AsType classes own weight asked

-- what the conversions by the rules to a type add to a handle: one to its weight, one key, and one field for each that changes something
pub record AddsConversions (by : Rules) (classes : List Class) (asked : MethodTy) (t : HandleView) (growth : Growth) : Type 0 where
  pub ty : growth.ty ≡ asked
  pub weight : growth.weight ≡ 1 + t.weight
  pub key : growth.key ≡ Convert (entries_of classes asked.params t.ty.params) (ret_entry_of classes t.ty.ret asked.ret)
  pub parts : growth.parts ≡ record no_parts { fields = convert_fields by classes asked t.ty }

-- a call that asks for no form changes nothing except the seat of types
abbrev pub AsksNothing : Work → Work → Result Handle HandleError → Type 0
AsksNothing old new (Err (FormsFull drawn)) = ⊥
AsksNothing old new result = IsUnchanged old new

-- How a call changes the work if it makes a handle of recipe `after` from one of recipe `before`.
-- If the recipes differ, it asks for the form of the new one. If they are equal, it asks for no form.
abbrev pub MakesFrom : List Key → List Key → Work → Work → Result Handle HandleError → Type 0
MakesFrom before after old new result = ((after ≡ before) × AsksNothing old new result) ⊎ ((after ≢ before) × Makes after old new result)
