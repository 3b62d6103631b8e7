-- Method descriptors and other texts of types by their grammar: what is written of types (JVMS SE 17, 4.3.2 and 4.3.3).
use Rattle.std.specs.Prelude.{◌≡◌, ℕ, ◌+◌, ◌<◌, ◌≤◌, ◌==◌, Bool, not, ◌||◌, if◌then◌else◌, List, [], ◌∷◌, ◌++◌, length, take, replicate, Option, None, Some, IsTrue}
use Rattle.std.specs.List.{list_all}
use Rattle.mh_base.specs.Ascii.{capital_D, capital_J, full_stop, left_bracket, semicolon}
use Rattle.mh_values.specs.Grammar.{is_base}

-- a type that is no array: a primitive type by its letter, or a class by its name
pub data Element : Type 0 where
  letter : ℕ → Element
  named : List ℕ → Element

-- a type: an element with its number of dimensions
pub record Spelled : Type 0 where
  pub dimensions : ℕ
  pub element : Element

-- the text of an element
abbrev pub element_text : Element → List ℕ
element_text (letter b) = b ∷ []
element_text (named name) = 76 ∷ (name ++ 59 ∷ [])

-- the text of a type: `[` for each dimension, and the element
abbrev pub spelled_text : Spelled → List ℕ
spelled_text t = replicate t.dimensions 91 ++ element_text t.element

-- a byte of a class name: none of `;`, `.` and `[`
abbrev pub is_name_byte : ℕ → Bool
is_name_byte b = not (b == semicolon || (b == full_stop || b == left_bracket))

-- an element of the grammar
abbrev pub IsElement : Element → Type 0
IsElement (letter b) = IsTrue (is_base b)
IsElement (named name) = (0 < length name) × IsTrue (list_all is_name_byte name)

-- a type of the grammar has at most 255 dimensions
abbrev pub IsSpelled : Spelled → Type 0
IsSpelled t = (t.dimensions ≤ 255) × IsElement t.element

-- types of the grammar
abbrev pub AreSpelled : List Spelled → Type 0
AreSpelled [] = Unit {0}
AreSpelled (t ∷ ts) = IsSpelled t × AreSpelled ts

-- the slots of a parameter that is no array: J and D take two
abbrev pub element_slots : Element → ℕ
element_slots (letter b) = if b == capital_J || b == capital_D then 2 else 1
element_slots (named name) = 1

-- the slots of a parameter
abbrev pub spelled_slots : Spelled → ℕ
spelled_slots t = if t.dimensions == 0 then element_slots t.element else 1

-- the slots of all parameters
abbrev pub all_slots : List Spelled → ℕ
all_slots [] = 0
all_slots (t ∷ ts) = spelled_slots t + all_slots ts

-- the texts of types, one after the other
abbrev pub texts_of : List Spelled → List ℕ
texts_of [] = []
texts_of (t ∷ ts) = spelled_text t ++ texts_of ts

-- a return type of the grammar, or void
abbrev pub IsReturn : Option Spelled → Type 0
IsReturn None = Unit {0}
IsReturn (Some t) = IsSpelled t

-- the text of a return type
abbrev pub return_spelled : Option Spelled → List ℕ
return_spelled None = 86 ∷ []
return_spelled (Some t) = spelled_text t

-- a method descriptor: parameters of at most 255 slots between parentheses, and a return type
pub record IsMethodDescriptor (text : List ℕ) : Type 0 where
  pub params : List Spelled
  pub ret : Option Spelled
  pub spelled : AreSpelled params
  pub returns : IsReturn ret
  pub few : all_slots params ≤ 255
  pub is : text ≡ 40 ∷ (texts_of params ++ 41 ∷ return_spelled ret)

-- the text of one type
pub record IsTypeText (text : List ℕ) : Type 0 where
  pub type : Spelled
  pub spelled : IsSpelled type
  pub is : text ≡ spelled_text type

-- the text of one or more types, written one after the other
pub record AreTypeTexts (text : List ℕ) : Type 0 where
  pub types : List Spelled
  pub one : 0 < length types
  pub spelled : AreSpelled types
  pub is : text ≡ texts_of types

-- the first place at which a text continues none of a language: what stands before it begins one of the language, and with the byte there it begins none
pub record IsFirstBad (Is : List ℕ → Type 0) (text : List ℕ) (at : ℕ) : Type 0 where
  pub within : at ≤ length text
  pub before : (rest : List ℕ) × Is (take at text ++ rest)
  pub here : at < length text → (rest : List ℕ) → Is (take (at + 1) text ++ rest) → ⊥
  pub none : Is text → ⊥
