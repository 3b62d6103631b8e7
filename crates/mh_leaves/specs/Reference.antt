-- Names of classes and methods, and references to leaves.
use Rattle.std.specs.Prelude.{ℕ, ◌==◌, Bool, not, ◌&&◌, ◌||◌, List, ◌++◌, codes, length, Option, None, Some, option_and_then, if◌then◌else◌}
use Rattle.std.specs.List.{list_all}
use Rattle.mh_base.specs.Ascii.{colon, comma, full_stop, left_bracket, number_sign, semicolon, solidus, space}
use Rattle.mh_base.specs.Lines.{cut_at}
use Rattle.mh_leaves.specs.declared.reference.Reference.{Reference}

-- a character that neither a class name nor a method name has: a space or one of `. ; [ : ,`
abbrev pub ends_names : ℕ → Bool
ends_names b = b == space || b == full_stop || b == semicolon || b == left_bracket || b == colon || b == comma

-- a character of class names: `#` is none
abbrev pub is_of_class_name : ℕ → Bool
is_of_class_name b = not (ends_names b || b == number_sign)

-- a character of method names: `/` is none
abbrev pub is_of_method_name : ℕ → Bool
is_of_method_name b = not (ends_names b || b == solidus)

-- a class name: one or more of its characters
abbrev pub is_class_name : List ℕ → Bool
is_class_name name = not (length name == 0) && list_all is_of_class_name name

-- a method name: one or more of its characters
abbrev pub is_method_name : List ℕ → Bool
is_method_name name = not (length name == 0) && list_all is_of_method_name name

-- the three texts that name a leaf
pub record Texts : Type 0 where
  pub owner : List ℕ
  pub name : List ℕ
  pub descriptor : List ℕ

-- these texts, if the first two are names
abbrev pub if_named : Texts → Option Texts
if_named texts = if is_class_name texts.owner && is_method_name texts.name then Some texts else None

-- the texts of `OWNER.NAME:DESC`: the owner ends at the first `.`, the name at the next `:`
abbrev pub reference_of : List ℕ → Option Texts
reference_of text =
    option_and_then (λ front. option_and_then (λ back. if_named (record { owner = front.0; name = back.0; descriptor = back.1 })) (cut_at colon front.1))
    (cut_at full_stop text)

-- `OWNER.NAME:DESC` of its three texts
abbrev pub reference_text : Texts → List ℕ
reference_text texts = texts.owner ++ codes "." ++ texts.name ++ codes ":" ++ texts.descriptor

-- the texts that a reference has
abbrev pub texts_of : Reference → Texts
texts_of reference = record { owner = reference.owner.now; name = reference.name.now; descriptor = reference.descriptor.now }
