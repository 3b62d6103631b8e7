-- Worked examples: what a body of one name gives, on one field and one argument.
use Rattle.std.specs.Prelude.{◌≡◌, refl, [], ◌∷◌, codes, pos, negsuc, Option, Some}
use Rattle.mh_values.specs.declared.types.Comp.TheVariants as comp
use Rattle.mh_values.specs.declared.types.Primitive.TheVariants as primitive
use Rattle.mh_values.specs.declared.types.Ty.{Ty}
use Rattle.mh_values.specs.declared.types.Ty.TheVariants as ty
use Rattle.mh_values.specs.declared.value.Cell.TheVariants as cell
use Rattle.mh_values.specs.declared.value.Num.TheVariants as num
use Rattle.mh_values.specs.declared.value.Value.TheVariants as value
use Rattle.mh_values.specs.Class.{arithmetic_class, class_cast_class, illegal_argument_class, integer_class, internal_error_class, null_pointer_class, object_class}
use Rattle.mh_values.specs.Computation.{Ran, Gave, Threw, Stuck}
use Rattle.mh_values.specs.Exception.{bare, saying}
use Rattle.mh_convert.specs.declared.conv.Conv.{Conv}
use Rattle.mh_convert.specs.declared.conv.RetConv.TheVariants as ret
use Rattle.mh_leaves.specs.Registered.{nothing_registered}
use Rattle.mh_pieces.specs.declared.piece.Piece.TheVariants as piece
use Rattle.mh_form.specs.declared.field.Field.{Field}
use Rattle.mh_form.specs.declared.field.Field.TheVariants as field
use Rattle.mh_form.specs.declared.name.Name.{Name}
use Rattle.mh_form.specs.declared.name.Name.TheVariants as name
use Rattle.mh_form.specs.declared.slot.Slot.{Slot}
use Rattle.mh_form.specs.declared.slot.Slot.TheVariants as slot
use Rattle.mh_form.specs.Run.{run_on}

abbrev ran : Name → Field → Slot → Ran (Option Slot)
ran one f x = run_on nothing_registered (record { params = []; fields = 1; names = one ∷ []; out = Some 1 }) (f ∷ []) (x ∷ []) 0

abbrev gave : Slot → Ran (Option Slot)
gave x = Gave (Some x) []

abbrev int : Ty
int = ty.Prim primitive.I

abbrev long : Ty
long = ty.Prim primitive.J

abbrev conv : Ty → Ty → Conv
conv from to = record { from = from; to = to }

-- an array of the ints 5 and 6
abbrev array : Slot
array = slot.L (value.Array (comp.Prim primitive.I) (cell.Prim (num.I (pos 5)) ∷ cell.Prim (num.I (pos 6)) ∷ []))

-- a field that is not asked
abbrev other : Field
other = field.Val (slot.I (pos 0))

gets : ran (name.Get 0) (field.Val (slot.J (pos 5))) (slot.I (pos 0)) ≡ gave (slot.J (pos 5))
gets = refl

boxes : ran (name.Conv 0 0) (field.Conv (conv int (ty.Class integer_class))) (slot.I (pos 7)) ≡ gave (slot.L (value.Boxed (num.I (pos 7))))
boxes = refl

unboxes : ran (name.Conv 0 0) (field.Conv (conv (ty.Class object_class) long)) (slot.L (value.Boxed (num.I (pos 7)))) ≡ gave (slot.J (pos 7))
unboxes = refl

null_is_not_unboxed : ran (name.Conv 0 0) (field.Conv (conv (ty.Class object_class) long)) (slot.L value.Null) ≡ Threw (bare null_pointer_class) []
null_is_not_unboxed = refl

casts :
    ran (name.Cast 0 0) (field.Conv (conv (ty.Class object_class) (ty.Class integer_class))) (slot.L (value.Boxed (num.I (pos 7))))
    ≡ gave (slot.L (value.Boxed (num.I (pos 7))))
casts = refl

refuses_to_cast :
    ran (name.Cast 0 0) (field.Conv (conv (ty.Class object_class) (ty.Class integer_class))) (slot.L (value.Boxed (num.J (pos 7))))
    ≡ Threw (bare class_cast_class) []
refuses_to_cast = refl

narrows : ran (name.Conv 0 0) (field.Explicit (conv long int)) (slot.J (pos 4294967301)) ≡ gave (slot.I (pos 5))
narrows = refl

null_is_zero_explicitly : ran (name.Conv 0 0) (field.Explicit (conv (ty.Class object_class) long)) (slot.L value.Null) ≡ gave (slot.J (pos 0))
null_is_zero_explicitly = refl

narrows_results : ran (name.Ret 0 (Some 0)) (field.ExplicitRet (ret.Value (conv long int))) (slot.J (negsuc 4294967295)) ≡ gave (slot.I (pos 0))
narrows_results = refl

a_long_is_not_narrowed_by_the_other_rules : ran (name.Conv 0 0) (field.Conv (conv long int)) (slot.J (pos 5)) ≡ Stuck
a_long_is_not_narrowed_by_the_other_rules = refl

keeps_results : ran (name.Ret 0 (Some 0)) (field.Ret ret.Keep) (slot.J (pos 5)) ≡ gave (slot.J (pos 5))
keeps_results = refl

discards_results : ran (name.Ret 0 (Some 0)) (field.Ret ret.Discard) (slot.J (pos 5)) ≡ gave (slot.I (pos 0))
discards_results = refl

gives_default_results : ran (name.Ret 0 (Some 0)) (field.Ret (ret.Default long)) (slot.I (pos 5)) ≡ gave (slot.J (pos 0))
gives_default_results = refl

refuses_to_cast_results :
    ran (name.Ret 0 (Some 0)) (field.Ret (ret.Value (conv (ty.Class object_class) (ty.Class integer_class)))) (slot.L (value.Boxed (num.J (pos 7))))
    ≡ Threw (bare class_cast_class) []
refuses_to_cast_results = refl

raises :
    ran (name.Raise 0) other (slot.L (value.Thrown (saying arithmetic_class (codes "/ by zero"))))
    ≡ Threw (saying arithmetic_class (codes "/ by zero")) []
raises = refl

null_is_not_raised : ran (name.Raise 0) other (slot.L value.Null) ≡ Threw (bare null_pointer_class) []
null_is_not_raised = refl

only_exceptions_are_raised : ran (name.Raise 0) other (slot.L (value.Boxed (num.I (pos 7)))) ≡ Threw (bare class_cast_class) []
only_exceptions_are_raised = refl

makes_arrays :
    ran (name.MakeArray 0 (0 ∷ [])) (field.Comp (comp.Prim primitive.I)) (slot.I (pos 7))
    ≡ gave (slot.L (value.Array (comp.Prim primitive.I) (cell.Prim (num.I (pos 7)) ∷ [])))
makes_arrays = refl

arrays_are_no_items :
    ran (name.MakeArray 0 (0 ∷ [])) (field.Comp (comp.Class object_class)) array
    ≡ Threw (saying internal_error_class (codes "nested array")) []
arrays_are_no_items = refl

checks_arrays : ran (name.CheckArray 0 2) other array ≡ gave (slot.I (pos 0))
checks_arrays = refl

refuses_arrays_of_other_lengths : ran (name.CheckArray 0 1) other array ≡ Threw (saying illegal_argument_class (codes "spread")) []
refuses_arrays_of_other_lengths = refl

null_stands_for_no_items : ran (name.CheckArray 0 0) other (slot.L value.Null) ≡ gave (slot.I (pos 0))
null_stands_for_no_items = refl

null_has_no_items : ran (name.CheckArray 0 1) other (slot.L value.Null) ≡ Threw (bare null_pointer_class) []
null_has_no_items = refl

takes_items : ran (name.Elem 0 1) other array ≡ gave (slot.I (pos 6))
takes_items = refl

joins_pieces :
    ran (name.Join 0 (0 ∷ [])) (field.Joined (piece.Lit (codes "x=") ∷ piece.Arg (ty.Prim primitive.Z) ∷ [])) (slot.I (pos 1))
    ≡ gave (slot.L (value.Text (codes "x=true")))
joins_pieces = refl

-- the pieces of a field that takes no arguments stand for no array of a component type
pieces_make_no_array : ran (name.MakeArray 0 []) (field.Joined (piece.Lit (codes "x") ∷ [])) (slot.I (pos 1)) ≡ Stuck
pieces_make_no_array = refl

components_join_nothing : ran (name.Join 0 []) (field.Comp (comp.Prim primitive.I)) (slot.I (pos 1)) ≡ Stuck
components_join_nothing = refl
