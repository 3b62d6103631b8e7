-- Numbers that are found by an owner, a name and a descriptor.
use Rattle.std.specs.Prelude.{◌≡◌, ℕ, Bool, ◌&&◌, ◌||◌, List, Option, None, Some, is_some, option_and_then, if◌then◌else◌}
use Rattle.std.specs.Option.{option_or}
use Rattle.std.specs.BTreeMap.{BTreeMap}
use Rattle.std.specs.Global.{Vec}
use Rattle.std.specs.Str.{bytes_eq}
use Rattle.mh_base.specs.TextMaps.{at_text}

-- numbers by descriptors
abbrev pub ByDescriptor : Type 0
ByDescriptor = BTreeMap (Vec ℕ) ℕ

-- numbers by names and descriptors
abbrev pub ByName : Type 0
ByName = BTreeMap (Vec ℕ) ByDescriptor

-- numbers by owners, names and descriptors
abbrev pub ByOwner : Type 0
ByOwner = BTreeMap (Vec ℕ) ByName

-- the number of a name and a descriptor
abbrev pub named_at : ByName → List ℕ → List ℕ → Option ℕ
named_at names name descriptor = option_and_then (λ descriptors. at_text descriptors descriptor) (at_text names name)

-- the number of an owner, a name and a descriptor
abbrev pub owned_at : ByOwner → List ℕ → List ℕ → List ℕ → Option ℕ
owned_at owners owner name descriptor = option_and_then (λ names. named_at names name descriptor) (at_text owners owner)

-- whether three texts are equal to three others
abbrev pub are_texts : List ℕ → List ℕ → List ℕ → List ℕ → List ℕ → List ℕ → Bool
are_texts owner name descriptor o n d = bytes_eq owner o && (bytes_eq name n && bytes_eq descriptor d)

-- three texts have this number, and all others the one that they had
abbrev pub FindsOneMore : ByOwner → ByOwner → List ℕ → List ℕ → List ℕ → ℕ → Type 0
FindsOneMore old new owner name descriptor number =
    (o n d : List ℕ) → owned_at new o n d ≡ (if are_texts owner name descriptor o n d then Some number else owned_at old o n d)

-- three texts have this number if they had none, and all others the one that they had
abbrev pub FindsFirst : ByOwner → ByOwner → List ℕ → List ℕ → List ℕ → ℕ → Type 0
FindsFirst old new owner name descriptor number =
    (o n d : List ℕ) → owned_at new o n d ≡ option_or (owned_at old o n d) (if are_texts owner name descriptor o n d then Some number else None)

-- there is an entry for one more owner, or again for one that had one
abbrev pub KnowsOneMore : ByOwner → ByOwner → List ℕ → Type 0
KnowsOneMore old new owner = (o : List ℕ) → is_some (at_text new o) ≡ (bytes_eq owner o || is_some (at_text old o))
