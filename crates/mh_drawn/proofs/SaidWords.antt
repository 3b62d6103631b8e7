-- Words after others.
use Rattle.std.proofs.Common.{◌≡◌, ℕ, List, ◌++◌}
use Rattle.std.proofs.lemmas.List.{map-append}
use denote.Ref.{Bor}
use Rattle.mh_words.specs.Options.{said}

pub said_more : (words more : List (Bor (List ℕ))) → said (words ++ more) ≡ said words ++ said more
said_more words more = map-append (λ word. word.now) words more
