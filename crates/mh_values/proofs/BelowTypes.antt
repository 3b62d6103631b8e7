-- Types below types: a value of the one has the other.
use Rattle.std.proofs.Common.{◌≡◌, refl, sym, ap, subst, ◌∙◌, ℕ, ◌==◌, Bool, true, false, ◌&&◌, ◌||◌, List, ◌++◌, drop}
use Rattle.std.proofs.lemmas.Bool.{eqb-true, eq-eqb, and_parts, and_from}
use Rattle.std.proofs.lemmas.List.{take-append-drop}
use Rattle.mh_values.specs.declared.class.Class.{Class}
use Rattle.mh_values.specs.declared.class.ClassId.{ClassId}
use Rattle.mh_values.specs.declared.types.Primitive.{Primitive}
use Rattle.mh_values.specs.declared.types.Comp.{Comp}
use Rattle.mh_values.specs.declared.types.Comp.TheVariants as comp
use Rattle.mh_values.specs.declared.types.Ty.{Ty}
use Rattle.mh_values.specs.declared.types.Ty.TheVariants as ty
use Rattle.mh_values.specs.declared.value.Num.{Num}
use Rattle.mh_values.specs.declared.value.Cell.{Cell}
use Rattle.mh_values.specs.declared.value.Cell.TheVariants as cell
use Rattle.mh_values.specs.declared.value.Value.{Value}
use Rattle.mh_values.specs.declared.value.Value.TheVariants as value
use Rattle.mh_values.specs.Array.{value_of_item, item_type}
use Rattle.mh_values.specs.Class.{is_subclass, builtin_classes, object_class, string_class, throwable_class, internal_error_class, wrong_method_type_class, class_cast_class, null_pointer_class, illegal_argument_class, arithmetic_class}
use Rattle.mh_values.specs.Classes.{AreClasses}
use Rattle.mh_values.specs.HasType.{is_component_below, is_item_of, is_array_of, has_type, is_type_below}
use Rattle.mh_values.proofs.Subclasses.{is_subclass-trans, is_subclass-itself}
use Rattle.mh_values.specs.Primitives.{wrapper_of, primitive_of, is_within}
use Rattle.mh_values.proofs.PrimitiveLaws.{same_primitive-is, same_primitive-itself}
use Rattle.mh_values.specs.ValueLimits.{is_short_text}
use Rattle.mh_values.proofs.SameTypes.{same_class-is}

-- the built-in classes come first
pub in_front : (classes : List Class) → AreClasses classes → classes ≡ builtin_classes ++ drop 28 classes
in_front classes are = sym (take-append-drop 28 classes) ∙ ap (λ front. front ++ drop 28 classes) are.builtin

-- a class that is built in and below Throwable, by computation
pub throwable-below : (classes : List Class) → AreClasses classes → is_subclass classes throwable_class object_class ≡ true
throwable-below classes are = let P : List Class → Type 0 = λ cs. is_subclass cs throwable_class object_class ≡ true in
    subst P (sym (in_front classes are)) refl

pub internal_error-below : (classes : List Class) → AreClasses classes → is_subclass classes internal_error_class throwable_class ≡ true
internal_error-below classes are =
    let P : List Class → Type 0 = λ cs. is_subclass cs internal_error_class throwable_class ≡ true in subst P (sym (in_front classes are)) refl

pub class_cast-below : (classes : List Class) → AreClasses classes → is_subclass classes class_cast_class throwable_class ≡ true
class_cast-below classes are =
    let P : List Class → Type 0 = λ cs. is_subclass cs class_cast_class throwable_class ≡ true in subst P (sym (in_front classes are)) refl

pub null_pointer-below : (classes : List Class) → AreClasses classes → is_subclass classes null_pointer_class throwable_class ≡ true
null_pointer-below classes are =
    let P : List Class → Type 0 = λ cs. is_subclass cs null_pointer_class throwable_class ≡ true in subst P (sym (in_front classes are)) refl

pub illegal_argument-below : (classes : List Class) → AreClasses classes → is_subclass classes illegal_argument_class throwable_class ≡ true
illegal_argument-below classes are =
    let P : List Class → Type 0 = λ cs. is_subclass cs illegal_argument_class throwable_class ≡ true in subst P (sym (in_front classes are)) refl

pub wrong_method_type-below : (classes : List Class) → AreClasses classes → is_subclass classes wrong_method_type_class throwable_class ≡ true
wrong_method_type-below classes are =
    let P : List Class → Type 0 = λ cs. is_subclass cs wrong_method_type_class throwable_class ≡ true in subst P (sym (in_front classes are)) refl

pub arithmetic-below : (classes : List Class) → AreClasses classes → is_subclass classes arithmetic_class throwable_class ≡ true
arithmetic-below classes are =
    let P : List Class → Type 0 = λ cs. is_subclass cs arithmetic_class throwable_class ≡ true in subst P (sym (in_front classes are)) refl

-- nothing but Object is above Object
or_false : (b : Bool) → (b || false) ≡ true → b ≡ true
or_false true h = refl
or_false false h = h

pub object-top : (classes : List Class) → AreClasses classes → (d : ClassId) → is_subclass classes object_class d ≡ true → (d.0 == object_class.0) ≡ true
object-top classes are d h =
    let P : List Class → Type 0 = λ cs. is_subclass cs object_class d ≡ true in
    let q : ((0 == d.0) || false) ≡ true = subst P (in_front classes are) h in
    eq-eqb d.0 0 (sym (eqb-true 0 d.0 (or_false (0 == d.0) q)))

-- ---- components and items

pub component_below-itself : (classes : List Class) (c : Comp) → is_component_below classes c c ≡ true
component_below-itself classes (comp.Prim p) = same_primitive-itself p
component_below-itself classes (comp.Class c) = is_subclass-itself classes c

pub component_below-trans : (classes : List Class) → AreClasses classes → (a b c : Comp) → is_component_below classes a b ≡ true →
    is_component_below classes b c ≡ true → is_component_below classes a c ≡ true
component_below-trans classes are (comp.Prim p) (comp.Prim q) c h k =
    let P : Primitive → Type 0 = λ r. is_component_below classes (comp.Prim r) c ≡ true in subst P (sym (same_primitive-is p q h)) k
component_below-trans classes are (comp.Class a) (comp.Class b) (comp.Class c) h k = is_subclass-trans classes are.ordered.ascending a b c h k
component_below-trans classes are a b c h k = absurd cc

-- what is of a class and within its limits is also of each class above it
within-below : (classes : List Class) → AreClasses classes → (own c d : ClassId) (within : Bool) → is_subclass classes c d ≡ true →
    (is_subclass classes own c && within) ≡ true → (is_subclass classes own d && within) ≡ true
within-below classes are own c d within h k =
    let q = and_parts (is_subclass classes own c) within k in
    and_from (is_subclass classes own d) within (is_subclass-trans classes are.ordered.ascending own c d q.0 h) q.1

-- so is a boxed number, and so is a text
boxed-below : (classes : List Class) → AreClasses classes → (n : Num) (c d : ClassId) → is_subclass classes c d ≡ true →
    (is_subclass classes (wrapper_of (primitive_of n)) c && is_within n) ≡ true → (is_subclass classes (wrapper_of (primitive_of n)) d && is_within n) ≡ true
boxed-below classes are n c d h k = within-below classes are (wrapper_of (primitive_of n)) c d (is_within n) h k

text-below : (classes : List Class) → AreClasses classes → (s : List ℕ) (c d : ClassId) → is_subclass classes c d ≡ true →
    (is_subclass classes string_class c && is_short_text s) ≡ true → (is_subclass classes string_class d && is_short_text s) ≡ true
text-below classes are s c d h k = within-below classes are string_class c d (is_short_text s) h k

pub item-below : (classes : List Class) → AreClasses classes → (c d : Comp) → is_component_below classes c d ≡ true → (i : Cell) → is_item_of classes c i ≡ true
    → is_item_of classes d i ≡ true
item-below classes are (comp.Prim p) (comp.Prim q) h i k =
    let P : Primitive → Type 0 = λ r. is_item_of classes (comp.Prim r) i ≡ true in subst P (same_primitive-is p q h) k
item-below classes are (comp.Class c) (comp.Class d) h (cell.Boxed n) k = boxed-below classes are n c d h k
item-below classes are (comp.Class c) (comp.Class d) h (cell.Text s) k = text-below classes are s c d h k
item-below classes are (comp.Class c) (comp.Class d) h (cell.Object a n) k = is_subclass-trans classes are.ordered.ascending a c d k h
item-below classes are (comp.Class c) (comp.Class d) h (cell.Thrown e) k = is_subclass-trans classes are.ordered.ascending e.class c d k h
item-below classes are (comp.Class c) (comp.Class d) h cell.Null k = refl
item-below classes are c d h i k = absurd cc

-- an item as a value has the component's type
pub item-typed : (classes : List Class) (c : Comp) (i : Cell) → is_item_of classes c i ≡ true → has_type classes (value_of_item i) (item_type c) ≡ true
item-typed classes (comp.Prim p) (cell.Prim n) k = k
item-typed classes (comp.Class c) (cell.Boxed n) k = k
item-typed classes (comp.Class c) (cell.Text s) k = k
item-typed classes (comp.Class c) (cell.Object a n) k = k
item-typed classes (comp.Class c) (cell.Thrown e) k = k
item-typed classes (comp.Class c) cell.Null k = k
item-typed classes c i k = absurd cc

-- ---- values

pub value-below : (classes : List Class) → AreClasses classes → (s t : Ty) → is_type_below classes s t ≡ true → (v : Value) → has_type classes v s ≡ true →
    has_type classes v t ≡ true
value-below classes are (ty.Prim p) (ty.Prim q) h v k =
    let P : Primitive → Type 0 = λ r. has_type classes v (ty.Prim r) ≡ true in subst P (same_primitive-is p q h) k
value-below classes are (ty.Class c) (ty.Class d) h (value.Boxed n) k = boxed-below classes are n c d h k
value-below classes are (ty.Class c) (ty.Class d) h (value.Text s) k = text-below classes are s c d h k
value-below classes are (ty.Class c) (ty.Class d) h (value.Object a n) k = is_subclass-trans classes are.ordered.ascending a c d k h
value-below classes are (ty.Class c) (ty.Class d) h (value.Thrown e) k = is_subclass-trans classes are.ordered.ascending e.class c d k h
value-below classes are (ty.Class c) (ty.Class d) h (value.Array a items) k =
    let q = and_parts (c.0 == object_class.0) (is_array_of classes a items) k in
    let P : ClassId → Type 0 = λ b. is_subclass classes b d ≡ true in
    and_from _ _ (object-top classes are d (subst P (same_class-is c object_class q.0) h)) q.1
value-below classes are (ty.Class c) (ty.Class d) h value.Null k = refl
value-below classes are (ty.Array c) (ty.Class d) h (value.Array a items) k =
    and_from _ _ h (and_parts (is_component_below classes a c) (is_array_of classes a items) k).1
value-below classes are (ty.Array c) (ty.Class d) h value.Null k = refl
value-below classes are (ty.Array c) (ty.Array d) h (value.Array a items) k =
    let q = and_parts (is_component_below classes a c) (is_array_of classes a items) k in
    and_from _ _ (component_below-trans classes are a c d q.0 h) q.1
value-below classes are (ty.Array c) (ty.Array d) h value.Null k = refl
value-below classes are s t h v k = absurd cc

pub type_below-itself : (classes : List Class) (t : Ty) → is_type_below classes t t ≡ true
type_below-itself classes (ty.Prim p) = same_primitive-itself p
type_below-itself classes (ty.Class c) = is_subclass-itself classes c
type_below-itself classes (ty.Array c) = component_below-itself classes c
