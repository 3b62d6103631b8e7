-- What texts of types mean among classes is what is said of them by the grammar.
use Rattle.std.proofs.Common.{◌≡◌, refl, sym, ap, subst, ◌∙◌, ℕ, false, List, [], map, flat_map, Option, None, Some, Result, Ok, Err, arith}
use Rattle.std.proofs.lemmas.List.{append-nil}
use Rattle.mh_values.specs.declared.class.Class.{Class}
use Rattle.mh_values.specs.declared.descriptor.DescriptorError.{DescriptorError}
use Rattle.mh_values.specs.declared.descriptor.DescriptorError.TheVariants as descriptor
use Rattle.mh_values.specs.declared.types.Ty.{Ty}
use Rattle.mh_values.specs.Descriptor.{pieces, type_meant, types_meant, method_meant, unless_bad, desc, type_desc, types_desc, TellsType}
use Rattle.mh_values.specs.Grammar.{descriptor_fault, type_fault, types_fault}
use Rattle.mh_values.specs.ReadAs.{IsNoType, IsFirstNoType, IsReadBy, IsTypeRead, AreWritten, types, AreTypesRead, BeginsMethod, IsMethodTypeRead}
use Rattle.mh_values.specs.Spelling.{Spelled, spelled_text, texts_of, IsFirstBad, IsMethodDescriptor, IsTypeText, AreTypeTexts}
use Rattle.mh_values.specs.TypeText.{type_text, method_type_text}
use Rattle.mh_values.proofs.FirstPlace.{descriptor_first_bad, type_first_bad, types_first_bad}
use Rattle.mh_values.proofs.Sound.{descriptor_sound, type_sound, types_sound}
use Rattle.mh_values.proofs.SpelledLists.{TypesSaid, types_said}
use Rattle.mh_values.proofs.SpelledMethods.{method_said}
use Rattle.mh_values.proofs.SpelledPieces.{spelled_pieces}
use Rattle.mh_values.proofs.SpelledTypes.{TypeSaid, type_said}

-- ---- a text of the language

-- what is said of the meaning of a text of a language
abbrev Said : {A : Type 0} → (List ℕ → Type 0) → (A → List ℕ) → List Class → List ℕ → Result A DescriptorError → Type 0
Said IsBefore text_of classes text (Ok a) = text ≡ text_of a
Said IsBefore text_of classes text (Err error) = IsFirstNoType classes IsBefore text error

-- a text that is refused for a type has one of the two refusals
read_said : {A : Type 0} (Is IsBefore : List ℕ → Type 0) (text_of : A → List ℕ) (classes : List Class) (text : List ℕ) (r : Result A DescriptorError) →
    Is text → Said IsBefore text_of classes text r → IsReadBy Is IsBefore text_of classes text r
read_said Is IsBefore text_of classes text (Ok a) is said = (is, said)
read_said Is IsBefore text_of classes text (Err descriptor.NoMemory) is said = tt
read_said Is IsBefore text_of classes text (Err (descriptor.Bad at)) is said = absurd said.none
read_said Is IsBefore text_of classes text (Err (descriptor.NoClass at len)) is said = (is, said)
read_said Is IsBefore text_of classes text (Err (descriptor.Unsupported at)) is said = (is, said)

-- a text with a fault, or without
read_by : {A : Type 0} (Is IsBefore : List ℕ → Type 0) (text_of : A → List ℕ) (classes : List Class) (text : List ℕ) (fault : Option ℕ)
    (r : Result A DescriptorError) →
    (fault ≡ None → Is text) → ((at : ℕ) → fault ≡ Some at → IsFirstBad Is text at) → (Is text → Said IsBefore text_of classes text r) →
    IsReadBy Is IsBefore text_of classes text (unless_bad fault r)
read_by Is IsBefore text_of classes text None r sound bad said = read_said Is IsBefore text_of classes text r (sound refl) (said (sound refl))
read_by Is IsBefore text_of classes text (Some at) r sound bad said = bad at refl

-- ---- one type

type_meaning : (classes : List Class) (t : Spelled) (r : Result Ty DescriptorError) → TypeSaid classes 0 t r →
    Said (λ front. front ≡ []) (type_text classes) classes (spelled_text t) r
type_meaning classes t (Ok s) said = said
type_meaning classes t (Err error) said =
    record { front = []; type = t; rest = []; is = sym (append-nil (spelled_text t)); before = refl; none = said }

pub type_read : (classes : List Class) (text : List ℕ) → IsTypeRead classes text (type_desc classes text)
type_read classes text =
    read_by IsTypeText (λ front. front ≡ []) (type_text classes) classes text (type_fault text) (type_meant classes 0 text) (type_sound text)
    (type_first_bad text)
    (λ d. subst (λ t. Said (λ front. front ≡ []) (type_text classes) classes t (type_meant classes 0 t)) (sym d.is)
    (type_meaning classes d.type (type_meant classes 0 (spelled_text d.type)) (type_said classes 0 d.type d.spelled)))

-- ---- more types

types_meaning : (classes : List Class) (ts : List Spelled) (r : Result (List Ty) DescriptorError) → TypesSaid classes 0 ts r →
    Said (AreWritten classes) (flat_map (type_text classes)) classes (texts_of ts) r
types_meaning classes ts (Ok us) said = said
types_meaning classes ts (Err error) said = record {
  front = flat_map (type_text classes) said.before;
  type = said.type;
  rest = said.rest;
  is = said.is;
  before = types said.before;
  none = subst (λ n. IsNoType classes n said.type error) (omega arith) said.none;
}

types_spelled : (classes : List Class) (ts : List Spelled) (text : List ℕ) → text ≡ texts_of ts → (q : Result (List Ty) DescriptorError) →
    types_meant classes 0 (pieces false text) ≡ q → TypesSaid classes 0 ts q → Said (AreWritten classes) (flat_map (type_text classes)) classes text
    (types_meant classes 0 (pieces false text))
types_spelled classes ts text is q meant said =
    subst (Said (AreWritten classes) (flat_map (type_text classes)) classes text) (sym meant)
    (subst (λ t. Said (AreWritten classes) (flat_map (type_text classes)) classes t q) (sym is) (types_meaning classes ts q said))

pub types_read : (classes : List Class) (text : List ℕ) → AreTypesRead classes text (types_desc classes text)
types_read classes text =
    read_by AreTypeTexts (AreWritten classes) (flat_map (type_text classes)) classes text (types_fault text) (types_meant classes 0 (pieces false text))
    (types_sound text) (types_first_bad text)
    (λ d. types_spelled classes d.types text d.is (types_meant classes 0 (map spelled_text d.types))
    (ap (λ t. types_meant classes 0 (pieces false t)) (d.is ∙ sym (append-nil (texts_of d.types)))
    ∙ ap (types_meant classes 0) (spelled_pieces d.types [] d.spelled ∙ append-nil (map spelled_text d.types)))
    (types_said classes 0 d.types d.spelled))

-- ---- method descriptors

pub method_read : (classes : List Class) (text : List ℕ) → IsMethodTypeRead classes text (desc classes text)
method_read classes text =
    read_by IsMethodDescriptor (BeginsMethod classes) (method_type_text classes) classes text (descriptor_fault text) (method_meant classes text)
    (descriptor_sound text) (descriptor_first_bad text) (method_said classes text)

-- ---- answers

-- what is said of the meaning is said of an answer that tells it
pub read_told : {A : Type 0} (Is IsBefore : List ℕ → Type 0) (text_of : A → List ℕ) (classes : List Class) (text : List ℕ)
    (r meant : Result A DescriptorError) →
    TellsType r meant → IsReadBy Is IsBefore text_of classes text meant → IsReadBy Is IsBefore text_of classes text r
read_told Is IsBefore text_of classes text (Ok a) meant tells said = subst (IsReadBy Is IsBefore text_of classes text) tells said
read_told Is IsBefore text_of classes text (Err descriptor.NoMemory) meant tells said = tt
read_told Is IsBefore text_of classes text (Err (descriptor.Bad at)) meant tells said = subst (IsReadBy Is IsBefore text_of classes text) tells said
read_told Is IsBefore text_of classes text (Err (descriptor.NoClass at len)) meant tells said = subst (IsReadBy Is IsBefore text_of classes text) tells said
read_told Is IsBefore text_of classes text (Err (descriptor.Unsupported at)) meant tells said = subst (IsReadBy Is IsBefore text_of classes text) tells said
