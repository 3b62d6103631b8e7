-- What may follow from each place within a text that is spelled by the grammar.
use Rattle.std.proofs.Common.{◌≡◌, ℕ, ◌+◌, ◌<◌, ◌≤◌, Bool, true, false, List, [], ◌∷◌, ◌++◌, length, replicate, Option}
use Rattle.std.specs.List.{list_all}
use Rattle.mh_values.specs.declared.descriptor.Place.{Place}
use Rattle.mh_values.specs.declared.descriptor.Place.TheVariants as place
use Rattle.mh_values.specs.declared.descriptor.Standing.{Standing}
use Rattle.mh_values.specs.declared.descriptor.Standing.TheVariants as standing
use Rattle.mh_values.specs.Grammar.{slots_from}
use Rattle.mh_values.specs.Spelling.{Element, Spelled, element_text, spelled_text, is_name_byte, IsElement, IsSpelled, AreSpelled, spelled_slots, all_slots, texts_of, IsReturn, return_spelled, IsMethodDescriptor}

-- ---- what may follow from where a text stands

-- parameters after others of so many slots, `)` and a return type
pub record ParametersFrom (n : ℕ) (text : List ℕ) : Type 0 where
  pub params : List Spelled
  pub ret : Option Spelled
  pub spelled : AreSpelled params
  pub returns : IsReturn ret
  pub few : n ≤ 255 → n + all_slots params ≤ 255
  pub is : text ≡ texts_of params ++ 41 ∷ return_spelled ret

-- types, one after the other
pub record TypesFrom (some : Bool) (text : List ℕ) : Type 0 where
  pub types : List Spelled
  pub spelled : AreSpelled types
  pub one : some ≡ false → 0 < length types
  pub is : text ≡ texts_of types

-- what may stand after a type
abbrev pub After : Place → List ℕ → Type 0
After (place.Parameter n) text = ParametersFrom n text
After place.Listed text = TypesFrom true text
After place.Last text = text ≡ []

-- an element after more dimensions
pub record DimensionsFrom (p : Place) (k : ℕ) (text : List ℕ) : Type 0 where
  pub more : ℕ
  pub element : Element
  pub rest : List ℕ
  pub few : k ≤ 255 → k + more ≤ 255
  pub good : IsElement element
  pub after : After p rest
  pub is : text ≡ replicate more 91 ++ (element_text element ++ rest)

-- the rest of a name
pub record NameFrom (p : Place) (has : Bool) (text : List ℕ) : Type 0 where
  pub name : List ℕ
  pub rest : List ℕ
  pub good : list_all is_name_byte name ≡ true
  pub one : has ≡ false → 0 < length name
  pub after : After p rest
  pub is : text ≡ name ++ 59 ∷ rest

-- a return type
abbrev pub ReturnFrom : List ℕ → Type 0
ReturnFrom text = (ret : Option Spelled) × IsReturn ret × (text ≡ return_spelled ret)

-- what may follow
abbrev pub Goes : Standing → List ℕ → Type 0
Goes standing.Front text = IsMethodDescriptor text
Goes (standing.Parameters n) text = ParametersFrom n text
Goes standing.Close text = ReturnFrom text
Goes standing.Alone text = (t : Spelled) × IsSpelled t × (text ≡ spelled_text t)
Goes (standing.Types some) text = TypesFrom some text
Goes (standing.Dimensions p k) text = DimensionsFrom p k text
Goes (standing.Name p has) text = NameFrom p has text
Goes standing.End text = text ≡ []

-- a type, and what may stand after it
pub record BeginsType (p : Place) (b : ℕ) (text : List ℕ) : Type 0 where
  pub type : Spelled
  pub rest : List ℕ
  pub good : IsSpelled type
  pub slots : slots_from b ≡ spelled_slots type
  pub after : After p rest
  pub is : text ≡ spelled_text type ++ rest
