-- Printed texts, by computation.
use Rattle.std.proofs.Common.{◌≡◌, refl, List, [], ◌∷◌, ◌++◌, codes, replicate, negsuc, None, Some}
use Rattle.std.specs.Fmt.{digits}
use Rattle.mh_values.specs.declared.types.Comp.TheVariants as comp
use Rattle.mh_values.specs.declared.types.Primitive.TheVariants as primitive
use Rattle.mh_values.specs.declared.types.Ty.TheVariants as ty
use Rattle.mh_values.specs.declared.value.Cell.TheVariants as cell
use Rattle.mh_values.specs.declared.value.Num.TheVariants as num
use Rattle.mh_values.specs.declared.value.Value.TheVariants as value
use Rattle.mh_values.specs.declared.class.Class.{Class}
use Rattle.mh_values.specs.Class.{class_at, class_below, builtin_classes, object_class, string_class, throwable_class}
use Rattle.mh_values.specs.Exception.{saying}
use Rattle.mh_texts.specs.LiteralText.{literal_text}
use Rattle.mh_texts.specs.Printed.{shown_value, shown_type, shown_exception}
use Rattle.mh_texts.specs.Text.{shown_text}

printed_text : shown_value builtin_classes (value.Text (97 ∷ 32 ∷ 44 ∷ 10 ∷ 92 ∷ 233 ∷ 0x1F600 ∷ [])) ≡ codes "s:a\\s\\c\\n\\\\\\u{e9}\\u{1f600}"
unfolding digits
printed_text = refl

printed_array : shown_value builtin_classes (value.Array (comp.Class object_class) (cell.Text (codes "a,b") ∷ cell.Boxed (num.I (negsuc 0)) ∷ cell.Thrown
    (saying throwable_class (codes "m")) ∷ [])) ≡ codes "a:Ljava/lang/Object;[s:a\\cb,I:-1,x:java/lang/Throwable]"
unfolding digits
printed_array = refl

-- a class whose name has a character with an escape
abbrev classes : List Class
classes = builtin_classes ++ class_below (codes "demo\\Text") 0 ∷ []

printed_object : shown_value classes (value.Object (class_at 28) 7) ≡ codes "o:demo\\\\Text#7"
unfolding digits
printed_object = refl

-- a literal has the name itself
written_object : literal_text classes (value.Object (class_at 28) 7) ≡ codes "o:demo\\Text#7"
unfolding digits
written_object = refl

written_array : literal_text classes (value.Array (comp.Class (class_at 28)) (cell.Null ∷ cell.Object (class_at 28) 1 ∷ [])) ≡ codes
    "a:Ldemo\\Text;[null,o:demo\\Text#1]"
unfolding digits
written_array = refl

printed_exception : shown_exception builtin_classes (record {
  class = throwable_class;
  message = codes "/ by";
  cause =
      Some (record { class = class_at 12; message = [] });
}) ≡ codes "java/lang/Throwable s:/\\sby cause java/lang/Error s:"
printed_exception = refl

printed_type : shown_type builtin_classes (record { params = ty.Prim primitive.Z ∷ ty.Array (comp.Class string_class) ∷ []; ret = None }) ≡ codes
    "(Z[Ljava/lang/String;)V"
printed_type = refl

not_cut : shown_text (replicate 1024 97) ≡ replicate 1024 97
not_cut = refl

cut_after : shown_text (replicate 1025 97) ≡ replicate 1024 97 ++ codes "..."
cut_after = refl

cut_within_an_escape : shown_text (replicate 1023 97 ++ 32 ∷ []) ≡ replicate 1023 97 ++ codes "\\..."
cut_within_an_escape = refl
