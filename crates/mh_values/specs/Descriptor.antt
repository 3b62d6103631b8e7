-- What descriptors mean among classes: their types, or the first place that has none.
use Rattle.std.specs.Prelude.{◌≡◌, ℕ, ◌+◌, ◌-◌, ◌==◌, Bool, false, not, ◌||◌, if◌then◌else◌, List, [], ◌∷◌, length, take, drop, Option, None, Some, slice_get, sum_by, unwrap_or, Result, Ok, Err}
use Rattle.std.specs.Option.{option_map_or}
use Rattle.mh_base.specs.Ascii.{capital_L, capital_V, left_bracket, semicolon}
use Rattle.mh_values.specs.declared.class.Class.{Class}
use Rattle.mh_values.specs.declared.descriptor.DescriptorError.{DescriptorError}
use Rattle.mh_values.specs.declared.descriptor.DescriptorError.TheVariants as descriptor
use Rattle.mh_values.specs.declared.types.Comp.{Comp}
use Rattle.mh_values.specs.declared.types.Comp.TheVariants as comp
use Rattle.mh_values.specs.declared.types.Ty.{Ty}
use Rattle.mh_values.specs.declared.types.Ty.TheVariants as ty
use Rattle.mh_values.specs.declared.types.MethodTy.{MethodTy}
use Rattle.mh_values.specs.Array.{item_type}
use Rattle.mh_values.specs.Classes.{class_named}
use Rattle.mh_values.specs.Grammar.{descriptor_fault, type_fault, types_fault}
use Rattle.mh_values.specs.Primitives.{primitive_named}

-- ---- texts of types, type by type

-- a type ends with the `;` of its name, or with a letter that begins neither an array nor a name
abbrev pub ends_type : Bool → ℕ → Bool
ends_type in_name b = if in_name then b == semicolon else not (b == left_bracket || b == capital_L)

-- a byte before the first piece
abbrev pub longer : ℕ → List (List ℕ) → List (List ℕ)
longer b [] = (b ∷ []) ∷ []
longer b (piece ∷ pieces) = (b ∷ piece) ∷ pieces

-- a text cut after each of its types, from within a name or not; a parenthesis is a piece too
abbrev pub pieces : Bool → List ℕ → List (List ℕ)
pieces in_name [] = []
pieces in_name (b ∷ bs) = if ends_type in_name b then (b ∷ []) ∷ pieces false bs else longer b (pieces (in_name || b == capital_L) bs)

-- ---- what one type means

-- goes on with what was found
abbrev pub found_then : {A B : Type 0} → Result A DescriptorError → (A → Result B DescriptorError) → Result B DescriptorError
found_then (Ok a) next = next a
found_then (Err error) next = Err error

-- the primitive type of a letter; the others are left out, at the place of the whole type
abbrev pub primitive_meant : ℕ → ℕ → Result Comp DescriptorError
primitive_meant whole b = option_map_or (λ p. Ok (comp.Prim p)) (primitive_named b) (Err (descriptor.Unsupported whole))

-- the class of a name, or the place of a name that no class has
abbrev pub class_meant : List Class → ℕ → List ℕ → Result Comp DescriptorError
class_meant classes at name = option_map_or (λ c. Ok (comp.Class c)) (class_named classes name) (Err (descriptor.NoClass at (length name)))

-- a type that is no array, at a place within the whole type
abbrev pub element_meant : List Class → ℕ → ℕ → List ℕ → Result Comp DescriptorError
element_meant classes whole at [] = Err (descriptor.Unsupported whole)
element_meant classes whole at (b ∷ bs) = if b == capital_L then class_meant classes (at + 1) (take (length bs - 1) bs) else primitive_meant whole b

-- the type of a type's text at a place; arrays have one dimension
abbrev pub type_meant : List Class → ℕ → List ℕ → Result Ty DescriptorError
type_meant classes at [] = Err (descriptor.Unsupported at)
type_meant classes at (b ∷ bs) =
    if b == left_bracket then found_then (element_meant classes at (at + 1) bs) (λ c. Ok (ty.Array c))
    else found_then (element_meant classes at at (b ∷ bs)) (λ c. Ok (item_type c))

-- ---- what types mean, written one after the other

-- the types of texts that stand from a place on
abbrev pub types_meant : List Class → ℕ → List (List ℕ) → Result (List Ty) DescriptorError
types_meant classes at [] = Ok []
types_meant classes at (text ∷ texts) =
    found_then (type_meant classes at text) (λ t. found_then (types_meant classes (at + length text) texts) (λ ts. Ok (t ∷ ts)))

-- the return type of its text at a place; `V` is void
abbrev pub return_meant : List Class → ℕ → List ℕ → Result (Option Ty) DescriptorError
return_meant classes at text = if option_map_or (λ b. b == capital_V) (slice_get text 0) false then Ok None else found_then (type_meant classes at text)
    (λ t. Ok (Some t))

-- the last piece
abbrev pub last_of : List (List ℕ) → List ℕ
last_of texts = unwrap_or (slice_get texts (length texts - 1)) []

-- the method type of the pieces after `(`, which end at a place: `)` and the return type are the last two
abbrev pub method_of : List Class → ℕ → List (List ℕ) → Result MethodTy DescriptorError
method_of classes end parts =
    found_then (types_meant classes 1 (take (length parts - 2) parts)) (λ params.
    found_then (return_meant classes (end - length (last_of parts)) (last_of parts)) (λ ret.
    Ok (record { params = params; ret = ret })))

-- the method type of a method descriptor
abbrev pub method_meant : List Class → List ℕ → Result MethodTy DescriptorError
method_meant classes text = method_of classes (length text) (pieces false (drop 1 text))

-- ---- what texts mean

-- a text with a fault of its own means nothing; otherwise what it means among the classes decides
abbrev pub unless_bad : {A : Type 0} → Option ℕ → Result A DescriptorError → Result A DescriptorError
unless_bad None meant = meant
unless_bad (Some at) meant = Err (descriptor.Bad at)

-- the method type of a text, or the first place that has none
abbrev pub desc : List Class → List ℕ → Result MethodTy DescriptorError
desc classes text = unless_bad (descriptor_fault text) (method_meant classes text)

-- the types that are written one after the other in a text, or the first place that has none
abbrev pub types_desc : List Class → List ℕ → Result (List Ty) DescriptorError
types_desc classes text = unless_bad (types_fault text) (types_meant classes 0 (pieces false text))

-- the type of a text, or the first place that has none
abbrev pub type_desc : List Class → List ℕ → Result Ty DescriptorError
type_desc classes text = unless_bad (type_fault text) (type_meant classes 0 text)

-- how many bytes texts have together
abbrev pub bytes_of : List (List ℕ) → ℕ
bytes_of texts = sum_by (λ text. length text) texts

-- an answer that is what the text means, unless memory ran out
abbrev pub TellsType : {A : Type 0} → Result A DescriptorError → Result A DescriptorError → Type 0
TellsType (Ok a) meant = meant ≡ Ok a
TellsType (Err descriptor.NoMemory) meant = Unit {0}
TellsType (Err error) meant = meant ≡ Err error
