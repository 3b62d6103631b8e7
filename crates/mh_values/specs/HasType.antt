-- Which values have a type, and which types are below a type.
use Rattle.std.specs.Prelude.{◌==◌, Bool, true, false, ◌&&◌, List, [], ◌∷◌, IsTrue}
use Rattle.std.specs.List.{list_all}
use Rattle.mh_values.specs.declared.class.Class.{Class}
use Rattle.mh_values.specs.declared.class.ClassId.{ClassId}
use Rattle.mh_values.specs.declared.types.Primitive.{Primitive}
use Rattle.mh_values.specs.declared.types.Comp.{Comp}
use Rattle.mh_values.specs.declared.types.Comp.TheVariants as comp
use Rattle.mh_values.specs.declared.types.Ty.{Ty}
use Rattle.mh_values.specs.declared.types.Ty.TheVariants as ty
use Rattle.mh_values.specs.declared.value.Cell.{Cell}
use Rattle.mh_values.specs.declared.value.Cell.TheVariants as cell
use Rattle.mh_values.specs.declared.value.Value.{Value}
use Rattle.mh_values.specs.declared.value.Value.TheVariants as value
use Rattle.mh_values.specs.Class.{is_subclass, object_class, string_class}
use Rattle.mh_values.specs.Primitives.{wrapper_of, is_same_primitive, primitive_of, is_within, is_number}
use Rattle.mh_values.specs.ValueLimits.{is_short_text, are_few_items}

-- whether arrays of one component are arrays of the other: the same primitive type, or a class at or below it
abbrev pub is_component_below : List Class → Comp → Comp → Bool
is_component_below classes (comp.Prim p) (comp.Prim q) = is_same_primitive p q
is_component_below classes (comp.Class c) (comp.Class d) = is_subclass classes c d
is_component_below classes _ _ = false

-- an item that an array of the component may have: a number of the primitive type, or a value of the class; a text is not too long
abbrev pub is_item_of : List Class → Comp → Cell → Bool
is_item_of classes (comp.Prim p) (cell.Prim n) = is_number n p
is_item_of classes (comp.Prim p) _ = false
is_item_of classes (comp.Class t) (cell.Prim n) = false
is_item_of classes (comp.Class t) (cell.Boxed n) = is_subclass classes (wrapper_of (primitive_of n)) t && is_within n
is_item_of classes (comp.Class t) (cell.Text s) = is_subclass classes string_class t && is_short_text s
is_item_of classes (comp.Class t) (cell.Object c k) = is_subclass classes c t
is_item_of classes (comp.Class t) (cell.Thrown e) = is_subclass classes e.class t
is_item_of classes (comp.Class t) cell.Null = true

-- items of the component's type
abbrev pub are_items_of : List Class → Comp → List Cell → Bool
are_items_of classes c items = list_all (is_item_of classes c) items

-- the items of an array have its component's type and are not too many; an array with other items has no type
abbrev pub is_array_of : List Class → Comp → List Cell → Bool
is_array_of classes c items = are_few_items items && are_items_of classes c items

-- a class that is at or above the class of the value; a text that is too long has no class
abbrev pub has_class : List Class → Value → ClassId → Bool
has_class classes (value.Prim n) t = false
has_class classes (value.Boxed n) t = is_subclass classes (wrapper_of (primitive_of n)) t && is_within n
has_class classes (value.Text s) t = is_subclass classes string_class t && is_short_text s
has_class classes (value.Object c k) t = is_subclass classes c t
has_class classes (value.Thrown e) t = is_subclass classes e.class t
has_class classes (value.Array c items) t = t.0 == object_class.0 && is_array_of classes c items
has_class classes value.Null t = true

-- a number of the primitive type, in its range
abbrev pub has_primitive : Value → Primitive → Bool
has_primitive (value.Prim n) p = is_number n p
has_primitive _ p = false

-- an array of such components, or null
abbrev pub has_component : List Class → Value → Comp → Bool
has_component classes (value.Array c items) d = is_component_below classes c d && is_array_of classes c items
has_component classes value.Null d = true
has_component classes _ d = false

-- whether a value has a type
abbrev pub has_type : List Class → Value → Ty → Bool
has_type classes v (ty.Prim p) = has_primitive v p
has_type classes v (ty.Class t) = has_class classes v t
has_type classes v (ty.Array d) = has_component classes v d

-- whether each value of the one type has the other: equal types, a class below a class, an array and Object, arrays of such classes
abbrev pub is_type_below : List Class → Ty → Ty → Bool
is_type_below classes (ty.Prim p) (ty.Prim q) = is_same_primitive p q
is_type_below classes (ty.Class c) (ty.Class d) = is_subclass classes c d
is_type_below classes (ty.Array c) (ty.Class d) = d.0 == object_class.0
is_type_below classes (ty.Array c) (ty.Array d) = is_component_below classes c d
is_type_below classes _ _ = false

-- the values of a list have the types of another list, one for each
abbrev pub HaveTypes : List Class → List Value → List Ty → Type 0
HaveTypes classes [] [] = Unit {0}
HaveTypes classes (v ∷ vs) (t ∷ ts) = IsTrue (has_type classes v t) × HaveTypes classes vs ts
HaveTypes classes _ _ = ⊥

-- whether they do
abbrev pub have_types : List Class → List Value → List Ty → Bool
have_types classes [] [] = true
have_types classes (v ∷ vs) (t ∷ ts) = has_type classes v t && have_types classes vs ts
have_types classes _ _ = false
