-- What words ask for.
use Rattle.std.proofs.Common.{◌≡◌, sym, ◌∙◌, ap, ap₂, ℕ, List, Option, None, Some}
use Rattle.mh_words.specs.Words.{Named, command_of}
use Rattle.mh_drawn.specs.Words.{Asked, asked_of, both, completed, names_in, names_of, other_words, request_of}

pub no-asked : (words : List (List ℕ)) → None ≡ asked_of words → request_of words ≡ None
no-asked words none = sym (ap (λ asked. both asked (names_of (other_words words))) none)

pub no-names : (words : List (List ℕ)) (asked : Asked) → Some asked ≡ asked_of words → None ≡ names_of (other_words words) → request_of words ≡ None
no-names words asked is none = sym (ap₂ both is none)

pub request : (words : List (List ℕ)) (asked : Asked) (names : Named) → Some asked ≡ asked_of words → Some names ≡ names_of (other_words words) →
    request_of words ≡ Some (asked, names)
request words asked names is are = sym (ap₂ both is are)

-- the names in words, of which the other words were completed
pub of-names : (words others all : List (List ℕ)) (names : Option Named) → others ≡ other_words words → all ≡ completed others →
    names ≡ names_in (command_of all) → names ≡ names_of (other_words words)
of-names words others all names other complete is = is ∙ ap (λ ws. names_in (command_of ws)) (complete ∙ ap completed other)
