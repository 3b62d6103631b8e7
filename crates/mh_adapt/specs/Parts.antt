-- For proofs: no clause of a public function reaches these definitions.
-- What adapters add to the handle that they adapt.
use Rattle.std.specs.Prelude.{◌≡◌, ℕ, ◌+◌, ◌≤◌, [], ◌∷◌, List, length, map, slice_get, Result, Ok, Err, IfOk}
use Rattle.std.specs.Option.{option_map_or}
use Rattle.mh_values.specs.declared.class.Class.{Class}
use Rattle.mh_values.specs.declared.types.MethodTy.{MethodTy}
use Rattle.mh_values.specs.declared.value.Exc.{Exc}
use Rattle.mh_values.specs.declared.value.Value.{Value}
use Rattle.mh_convert.specs.Conversion.{fit}
use Rattle.mh_tree.specs.declared.inserting.Adapter.{Adapter}
use Rattle.mh_tree.specs.declared.inserting.Adapter.TheVariants as adapter
use Rattle.mh_tree.specs.declared.joints.Joint.{Joint}
use Rattle.mh_tree.specs.declared.joints.Joint.TheVariants as joint
use Rattle.mh_form.specs.declared.field.Field.{Field}
use Rattle.mh_form.specs.declared.field.Field.TheVariants as field
use Rattle.mh_form.specs.Erasure.{basic_of, basic_ret_of, erased}
use Rattle.mh_edit.specs.declared.key.Key.{Key}
use Rattle.mh_edit.specs.declared.key.Key.TheVariants as key
use Rattle.mh_handle.specs.declared.error.HandleError.{HandleError}
use Rattle.mh_handle.specs.declared.growth.Growth.{Growth}
use Rattle.mh_handle.specs.declared.handle.Handle.{Handle}
use Rattle.mh_handle.specs.Grows.{Grows}
use Rattle.mh_handle.specs.Parts.{IsPartOf, held_by, no_parts}
use Rattle.mh_handle.specs.Stands.{HandleView}

-- the key of a filter of this type, which takes arguments of its own from a place on
abbrev pub collect_key : ℕ → MethodTy → Key
collect_key place f = key.Collect place (map basic_of f.params) (basic_ret_of f.ret)

-- the key of a combiner of this type, whose result is put at a place
abbrev pub fold_key : ℕ → MethodTy → Key
fold_key place c = key.Fold place (length c.params) (basic_ret_of c.ret)

-- the key of a filter of this type, which takes the result
abbrev pub filterret_key : MethodTy → Key
filterret_key f = key.FilterReturn (basic_ret_of f.ret)

-- the key of a joint with a part of this type
abbrev pub joint_key : Joint → MethodTy → Key
joint_key (joint.Filter place) f = collect_key place f
joint_key joint.FilterReturn f = filterret_key f
joint_key (joint.Fold place) c = fold_key place c
joint_key (joint.Collect place) f = collect_key place f

-- the number of a combiner's arguments fits a key, which has 8 bits for it
abbrev pub IsCounted : Joint → MethodTy → Type 0
IsCounted (joint.Fold place) c = length c.params ≤ 255
IsCounted _ f = Unit {0}

-- the key of an adapter
abbrev pub adapter_key : Adapter → Key
adapter_key (adapter.Bind place v) = key.Bind place
adapter_key (adapter.Drop place types) = key.Add place (map basic_of types.now)
adapter_key (adapter.Permute asked order) = key.Permute (map basic_of asked.now.params) order.now

-- the field of a bound value, converted to the parameter's type: none if it does not fit
abbrev pub bound_fields : Result Value Exc → List Field
bound_fields (Ok fitting) = field.Val (erased fitting) ∷ []
bound_fields (Err e) = []

-- the fields of an adapter of a target of this type
abbrev pub adapter_fields : List Class → Adapter → MethodTy → List Field
adapter_fields classes (adapter.Bind place v) target = option_map_or (λ param. bound_fields (fit classes v param)) (slice_get target.params place) []
adapter_fields classes (adapter.Drop place types) target = []
adapter_fields classes (adapter.Permute asked order) target = []

-- what an adapter without a part adds to a handle: one to its weight, its key and its fields
pub record AddsNode (t : HandleView) (k : Key) (fields : List Field) (by : Growth) : Type 0 where
  pub weight : by.weight ≡ 1 + t.weight
  pub key : by.key ≡ k
  pub parts : by.parts ≡ record no_parts { fields = fields }

-- what an adapter with a part adds to a handle, before the part is added: the part's weight and one more, and its key
pub record AddsPart (t : HandleView) (k : Key) (part : HandleView) (by : Growth) : Type 0 where
  pub weight : by.weight ≡ 1 + t.weight + part.weight
  pub key : by.key ≡ k
  pub parts : by.parts ≡ no_parts

-- a handle that was made has grown by the adapter's key, and by a field that holds the part
abbrev pub GrowsByPart : HandleView → Growth → HandleView → Result Handle HandleError → Type 0
GrowsByPart t by part made = IfOk made (λ new. (f : Field) × IsPartOf part f × Grows t new by.ty by.weight (held_by part) by.key (f ∷ []))
