-- What is said, by the grammar alone, of a text of types that was read among classes: it is the text of the types, or a type that `mh` lacks is at the place.
use Rattle.std.specs.Prelude.{◌≡◌, ℕ, ◌+◌, ◌≤◌, ◌==◌, nat_lt, Bool, false, ◌||◌, List, [], ◌++◌, codes, length, flat_map, None, Result, Ok, Err, IsTrue}
use Rattle.mh_base.specs.Ascii.{capital_D, capital_F}
use Rattle.mh_values.specs.declared.class.Class.{Class}
use Rattle.mh_values.specs.declared.descriptor.DescriptorError.{DescriptorError}
use Rattle.mh_values.specs.declared.descriptor.DescriptorError.TheVariants as descriptor
use Rattle.mh_values.specs.declared.types.Ty.{Ty}
use Rattle.mh_values.specs.declared.types.MethodTy.{MethodTy}
use Rattle.mh_values.specs.Classes.{class_named}
use Rattle.mh_values.specs.Spelling.{Element, letter, named, Spelled, spelled_text, IsFirstBad, IsMethodDescriptor, IsTypeText, AreTypeTexts}
use Rattle.mh_values.specs.TypeText.{type_text, method_type_text}

-- ---- a type of the grammar that is no type among the classes

-- `double` or `float`
abbrev pub is_left_out_element : Element → Bool
is_left_out_element (letter b) = b == capital_D || b == capital_F
is_left_out_element (named name) = false

-- a type that `mh` lacks: such a primitive type, an array of one, or an array of more than one dimension
abbrev pub is_left_out : Spelled → Bool
is_left_out t = nat_lt 1 t.dimensions || is_left_out_element t.element

-- a type whose class no one declared: its name, and the place of the name where the type begins at a place, after `L` and any `[`
pub record HasUnknownName (classes : List Class) (from : ℕ) (type : Spelled) (at len : ℕ) : Type 0 where
  pub name : List ℕ
  pub is : type.element ≡ named name
  pub few : type.dimensions ≤ 1
  pub unknown : class_named classes name ≡ None
  pub place : at ≡ from + type.dimensions + 1
  pub long : len ≡ length name

-- why a type that begins at a place cannot be read: `mh` lacks it, or no class has its name
abbrev pub IsNoType : List Class → ℕ → Spelled → DescriptorError → Type 0
IsNoType classes from type descriptor.NoMemory = ⊥
IsNoType classes from type (descriptor.Bad at) = ⊥
IsNoType classes from type (descriptor.NoClass at len) = HasUnknownName classes from type at len
IsNoType classes from type (descriptor.Unsupported at) = (at ≡ from) × IsTrue (is_left_out type)

-- the first type of a text that cannot be read: all types before it can
pub record IsFirstNoType (classes : List Class) (IsBefore : List ℕ → Type 0) (text : List ℕ) (error : DescriptorError) : Type 0 where
  pub front : List ℕ
  pub type : Spelled
  pub rest : List ℕ
  pub is : text ≡ front ++ (spelled_text type ++ rest)
  pub before : IsBefore front
  pub none : IsNoType classes (length front) type error

-- ---- what is said of an answer

-- This holds of a text of a language, given which texts may stand before a type. A text that was read is that of what it was read as. The first bad place is
-- that of the language. A text of the language is refused at its first unsupported or unknown type.
abbrev pub IsReadBy : {A : Type 0} → (List ℕ → Type 0) → (List ℕ → Type 0) → (A → List ℕ) → List Class → List ℕ → Result A DescriptorError → Type 0
IsReadBy Is IsBefore text_of classes text (Ok a) = Is text × (text ≡ text_of a)
IsReadBy Is IsBefore text_of classes text (Err descriptor.NoMemory) = Unit {0}
IsReadBy Is IsBefore text_of classes text (Err (descriptor.Bad at)) = IsFirstBad Is text at
IsReadBy Is IsBefore text_of classes text (Err error) = Is text × IsFirstNoType classes IsBefore text error

-- of one type: nothing stands before it
abbrev pub IsTypeRead : List Class → List ℕ → Result Ty DescriptorError → Type 0
IsTypeRead classes = IsReadBy IsTypeText (λ front. front ≡ []) (type_text classes) classes

-- texts of types, one after the other
pub data AreWritten (classes : List Class) : List ℕ → Type 0 where
  types : (ts : List Ty) → AreWritten classes (flat_map (type_text classes) ts)

-- of one or more types: other types stand before each of them
abbrev pub AreTypesRead : List Class → List ℕ → Result (List Ty) DescriptorError → Type 0
AreTypesRead classes = IsReadBy AreTypeTexts (AreWritten classes) (flat_map (type_text classes)) classes

-- what stands before a type in a method descriptor: `(` and parameters, and before the return type also `)`
pub data BeginsMethod (classes : List Class) : List ℕ → Type 0 where
  parameters : (ts : List Ty) → BeginsMethod classes (codes "(" ++ flat_map (type_text classes) ts)
  all : (ts : List Ty) → BeginsMethod classes (codes "(" ++ flat_map (type_text classes) ts ++ codes ")")

-- of a method descriptor
abbrev pub IsMethodTypeRead : List Class → List ℕ → Result MethodTy DescriptorError → Type 0
IsMethodTypeRead classes = IsReadBy IsMethodDescriptor (BeginsMethod classes) (method_type_text classes) classes
