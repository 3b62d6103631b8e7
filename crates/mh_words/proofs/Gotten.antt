-- What the getter of many values gives, by what clap found.
use Rattle.std.proofs.Common.{◌≡◌, List, [], Option, Some, None, refl}
use Rattle.std.specs.Prelude.{option_map, unwrap_or}
use Rattle.std.specs.Borrow.{Bor}
use Rattle.clap.specs.Words.{Text}
use Rattle.mh_words.specs.Options.{said}

-- the names behind a reference to them, or none
pub names_or_none : (names : Option (Bor (List (Bor Text)))) (none given : Bor (List (Bor Text))) (all : Option (List Text)) → none.now ≡ []
    → given ≡ unwrap_or names none → option_map (λ s. said s.now) names ≡ all → said given.now ≡ unwrap_or all []
names_or_none None none given all empty is are = rw (is, empty, ← are) refl
names_or_none (Some names) none given all empty is are = rw (is, ← are) refl
