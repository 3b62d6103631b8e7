-- Which texts are descriptors, where the others go wrong, and what descriptors mean, by computation.
use Rattle.std.proofs.Common.{◌≡◌, refl, [], ◌∷◌, ◌++◌, codes, replicate, None, Some, Ok, Err}
use Rattle.mh_values.specs.declared.descriptor.DescriptorError.TheVariants as descriptor
use Rattle.mh_values.specs.declared.types.Primitive.TheVariants as primitive
use Rattle.mh_values.specs.declared.types.Comp.TheVariants as comp
use Rattle.mh_values.specs.declared.types.Ty.TheVariants as ty
use Rattle.mh_values.specs.Class.{class_at, class_below, builtin_classes, object_class, string_class, long_class}
use Rattle.mh_values.specs.Descriptor.{desc, type_desc, types_desc}
use Rattle.mh_values.specs.Grammar.{descriptor_fault, type_fault, types_fault}

whole : descriptor_fault (codes "(I[[JLjava/lang/String;)V") ≡ None
whole = refl

all_letters : descriptor_fault (codes "(BCDFIJSZ)[D") ≡ None
all_letters = refl

nothing : descriptor_fault [] ≡ Some 0
nothing = refl

ends_early : descriptor_fault (codes "(I") ≡ Some 2
ends_early = refl

void_parameter : descriptor_fault (codes "(V)V") ≡ Some 1
void_parameter = refl

void_array : descriptor_fault (codes "()[V") ≡ Some 3
void_array = refl

name_without_bytes : descriptor_fault (codes "(L;)V") ≡ Some 2
name_without_bytes = refl

name_with_dots : descriptor_fault (codes "(Ljava.lang.String;)V") ≡ Some 6
name_with_dots = refl

more_after : descriptor_fault (codes "()VV") ≡ Some 3
more_after = refl

slots_255 : descriptor_fault (codes "(" ++ replicate 127 74 ++ codes "I)V") ≡ None
slots_255 = refl

slots_256 : descriptor_fault (codes "(" ++ replicate 128 74 ++ codes ")V") ≡ Some 128
slots_256 = refl

array_of_longs_takes_one : descriptor_fault (codes "(" ++ replicate 127 74 ++ codes "[J)V") ≡ None
array_of_longs_takes_one = refl

dimensions_255 : descriptor_fault (codes "()" ++ replicate 255 91 ++ codes "I") ≡ None
dimensions_255 = refl

dimensions_256 : descriptor_fault (codes "()" ++ replicate 256 91 ++ codes "I") ≡ Some 257
dimensions_256 = refl

one_type : type_fault (codes "[Ljava/lang/String;") ≡ None
one_type = refl

two_types_alone : type_fault (codes "IJ") ≡ Some 1
two_types_alone = refl

void_alone : type_fault (codes "V") ≡ Some 0
void_alone = refl

types : types_fault (codes "I[JLa;") ≡ None
types = refl

no_types : types_fault [] ≡ Some 0
no_types = refl

types_cut_short : types_fault (codes "I[") ≡ Some 2
types_cut_short = refl

-- ---- what they mean among the built-in classes

int_to_void : desc builtin_classes (codes "(I)V") ≡ Ok (record { params = ty.Prim primitive.I ∷ []; ret = None })
int_to_void = refl

of_all_sorts : desc builtin_classes
    (codes "(Z[JLjava/lang/String;)[Ljava/lang/Object;") ≡ Ok (record {
      params = ty.Prim primitive.Z ∷ ty.Array (comp.Prim primitive.J) ∷ ty.Class string_class
          ∷ [];
      ret = Some (ty.Array (comp.Class object_class));
    })
of_all_sorts = refl

two_dimensions : desc builtin_classes (codes "(I[[J)V") ≡ Err (descriptor.Unsupported 2)
two_dimensions = refl

unknown_class : desc builtin_classes (codes "(Lno/Such;)V") ≡ Err (descriptor.NoClass 2 7)
unknown_class = refl

unknown_item : desc builtin_classes (codes "(I)[Lno/Such;") ≡ Err (descriptor.NoClass 5 7)
unknown_item = refl

bad_first : desc builtin_classes (codes "(Lno/Such;FV)V") ≡ Err (descriptor.Bad 11)
bad_first = refl

left_first : desc builtin_classes (codes "(FLno/Such;)D") ≡ Err (descriptor.Unsupported 1)
left_first = refl

left_out_return : desc builtin_classes (codes "(I)[F") ≡ Err (descriptor.Unsupported 3)
left_out_return = refl

parenthesis_in_a_name : desc (builtin_classes ++ class_below (codes "a)b") 0 ∷ []) (codes "(La)b;)V") ≡ Ok (record {
  params = ty.Class (class_at 28) ∷ [];
  ret =
      None;
})
parenthesis_in_a_name = refl

listed : types_desc builtin_classes (codes "I[ZLjava/lang/Long;") ≡ Ok (ty.Prim primitive.I ∷ ty.Array (comp.Prim primitive.Z) ∷ ty.Class long_class ∷ [])
listed = refl

listed_unknown : types_desc builtin_classes (codes "J[Lx;B") ≡ Err (descriptor.NoClass 3 1)
listed_unknown = refl

alone : type_desc builtin_classes (codes "Ljava/lang/Object;") ≡ Ok (ty.Class object_class)
alone = refl
