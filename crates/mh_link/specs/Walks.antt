-- Going through constants, each one once.
use Rattle.std.specs.Prelude.{ℕ, zero, suc, if◌then◌else◌, List, [], ◌∷◌, ◌++◌, fold}
use Rattle.mh_link.specs.Places.{is_in, Has}

-- one that was seen is passed over; any other is noted, and then those that it looks at are gone through
unfoldable pub visited : (ℕ → List ℕ) → ℕ → List ℕ → ℕ → List ℕ
visited own zero seen c = if is_in seen c then seen else seen ++ c ∷ []
visited own (suc n) seen c = if is_in seen c then seen else fold (λ s d. visited own n s d) (seen ++ c ∷ []) (own c)

-- several, one after the other
abbrev pub walked : (ℕ → List ℕ) → ℕ → List ℕ → List ℕ → List ℕ
walked own n seen cs = fold (λ s c. visited own n s c) seen cs

-- with each number that was seen, those that it looks at were seen
abbrev pub IsClosed : (ℕ → List ℕ) → List ℕ → Type 0
IsClosed own seen = (c d : ℕ) → Has seen c → Has (own c) d → Has seen d
