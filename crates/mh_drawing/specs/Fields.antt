-- What fields hold, as texts.
use Rattle.std.specs.Prelude.{ℕ, List, [], ◌∷◌, ◌++◌, codes, flat_map, Option, None, Some}
use Rattle.std.specs.Fmt.{decimal, signed_decimal}
use Rattle.mh_values.specs.declared.class.Class.{Class}
use Rattle.mh_values.specs.declared.types.Comp.{Comp}
use Rattle.mh_values.specs.declared.types.Ty.{Ty}
use Rattle.mh_values.specs.declared.types.MethodTy.{MethodTy}
use Rattle.mh_values.specs.Array.{item_type}
use Rattle.mh_values.specs.Classes.{name_of}
use Rattle.mh_texts.specs.Printed.{shown_type, shown_value}
use Rattle.mh_texts.specs.Text.{shown_text}
use Rattle.mh_convert.specs.declared.conv.Conv.{Conv}
use Rattle.mh_convert.specs.declared.conv.RetConv.{RetConv}
use Rattle.mh_convert.specs.declared.conv.RetConv.TheVariants as ret
use Rattle.mh_pieces.specs.declared.piece.Piece.{Piece}
use Rattle.mh_pieces.specs.declared.piece.Piece.TheVariants as piece
use Rattle.mh_form.specs.declared.field.Bound.{Bound, Row_of-Field, end_of-Field, more_of-Field}
use Rattle.mh_form.specs.declared.field.Field.{Field}
use Rattle.mh_form.specs.declared.field.Field.TheVariants as field
use Rattle.mh_form.specs.declared.field.Field.TheVariants.{Part'}
use Rattle.mh_form.specs.declared.slot.Slot.{Slot}
use Rattle.mh_form.specs.declared.slot.Slot.TheVariants as slot
use Rattle.mh_handle.specs.Form.{FormView}
use Rattle.mh_drawing.specs.Drawing.{body_text, form_of}

-- a slot: its number, or its value
abbrev pub slot_text : List Class → Slot → List ℕ
slot_text classes (slot.I n) = codes "int " ++ signed_decimal n
slot_text classes (slot.J n) = codes "long " ++ signed_decimal n
slot_text classes (slot.L value) = codes "value " ++ shown_value classes value

-- a type, as the descriptor of a method that takes nothing and returns it
abbrev pub type_text : List Class → Ty → List ℕ
type_text classes ty = shown_type classes (record { params = []; ret = Some ty })

-- a conversion, as the descriptor of a method that makes it
abbrev pub conv_text : List Class → Conv → List ℕ
conv_text classes conv = shown_type classes (record { params = conv.from ∷ []; ret = Some conv.to })

-- the conversion of a result
abbrev pub ret_conv_text : List Class → RetConv → List ℕ
ret_conv_text classes ret.Keep = codes "keeps void"
ret_conv_text classes ret.Discard = codes "drops the result"
ret_conv_text classes (ret.Default ty) = codes "default " ++ type_text classes ty
ret_conv_text classes (ret.Value conv) = codes "converts " ++ conv_text classes conv

-- a piece of a concatenation: a text, or an argument of a type
abbrev pub piece_text : List Class → Piece → List ℕ
piece_text classes (piece.Lit text) = codes " text " ++ shown_text text
piece_text classes (piece.Arg ty) = codes " argument " ++ type_text classes ty

-- the form of a side part, if it is among these
abbrev pub part_text : Option FormView → List ℕ
part_text None = codes "another form"
part_text (Some form) = codes "form " ++ decimal form.number

-- what a field holds; of a side part its form, and what its fields hold
abbrev mutual
  pub held_text : List Class → List FormView → Field → List ℕ
  held_text classes forms (field.Val value) = slot_text classes value
  held_text classes forms (field.Leaf leaf) = codes "leaf " ++ decimal leaf.0
  held_text classes forms (Part' part body shape fields) =
      codes "part (" ++ part_text (form_of forms (body_text body.now)) ++ row_text classes forms fields ++ codes ")"
  held_text classes forms (field.Class class) = codes "class " ++ shown_text (name_of classes class)
  held_text classes forms (field.Conv conv) = codes "conversion " ++ conv_text classes conv
  held_text classes forms (field.Ret conv) = codes "result " ++ ret_conv_text classes conv
  held_text classes forms (field.Explicit conv) = codes "explicit conversion " ++ conv_text classes conv
  held_text classes forms (field.ExplicitRet conv) = codes "explicit result " ++ ret_conv_text classes conv
  held_text classes forms (field.Comp component) = codes "items " ++ type_text classes (item_type component)
  held_text classes forms (field.Joined pieces) = codes "pieces" ++ flat_map (piece_text classes) pieces

  pub row_text : {m : _} → List Class → List FormView → Row_of-Field m → List ℕ
  row_text classes forms end_of-Field = []
  row_text classes forms (more_of-Field f rest) = codes ", " ++ held_text classes forms f ++ row_text classes forms rest

-- the same of a side part: its form, and what its fields hold
abbrev pub bound_text : List Class → List FormView → Bound → List ℕ
bound_text classes forms part =
    codes "part (" ++ part_text (form_of forms (body_text part.body.now))
    ++ flat_map (λ f. codes ", " ++ held_text classes forms f) part.fields.items ++ codes ")"
