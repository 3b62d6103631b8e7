-- A class, as `Lname;`, is a type.
use Rattle.std.proofs.Common.{◌≡◌, true, List, ℕ, [], ◌∷◌, ◌++◌, None}
use Rattle.mh_values.specs.declared.descriptor.Place.TheVariants as place
use Rattle.mh_values.specs.Grammar.{type_fault}
use Rattle.mh_values.proofs.TypeSpelling.{class-read, is_name}

pub named_type : (name : List ℕ) → is_name name ≡ true → type_fault (76 ∷ (name ++ 59 ∷ [])) ≡ None
named_type name good = class-read 1 place.Last name [] good
