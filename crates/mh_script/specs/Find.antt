-- Which script a call names.
use Rattle.std.specs.Prelude.{◌≡◌, ℕ, Bool, List, Option, is_some, position, option_map}
use Rattle.std.specs.List.{list_any}
use Rattle.std.specs.Str.{bytes_eq}
use Rattle.mh_base.specs.TextMaps.{at_text}
use Rattle.mh_script.specs.declared.script.Script.{Script}
use Rattle.mh_script.specs.declared.scripts.ScriptId.{ScriptId}
use Rattle.mh_script.specs.Index.{ByOwner, are_texts, owned_at}

-- whether a script has this owner, name and descriptor
abbrev pub has_texts : List ℕ → List ℕ → List ℕ → Script → Bool
has_texts owner name descriptor script = are_texts script.method.owner script.method.name script.method.descriptor owner name descriptor

-- the script with this owner, name and descriptor, by its number: the first in the list
abbrev pub script_named : List Script → List ℕ → List ℕ → List ℕ → Option ScriptId
script_named scripts owner name descriptor = option_map (λ at. record { 0 = at }) (position (has_texts owner name descriptor) scripts)

-- whether some script has this owner
abbrev pub has_owner : List Script → List ℕ → Bool
has_owner scripts owner = list_any (λ s. bytes_eq s.method.owner owner) scripts

-- an index finds the scripts of a list, and knows their owners
pub record ArePlaces (places : ByOwner) (scripts : List Script) : Type 0 where
  pub found : (owner name descriptor : List ℕ) → owned_at places owner name descriptor ≡ position (has_texts owner name descriptor) scripts
  pub owners : (owner : List ℕ) → is_some (at_text places owner) ≡ has_owner scripts owner
