-- What clap finds in the words, by what its clauses say of the command line that it is told of.
use Rattle.std.proofs.Common.{arith, ◌≡◌, ◌⊎◌, refl, subst, true, false, List, [], ◌∷◌, Some, None, inl, inr}
use Rattle.clap.specs.Words.{App, IsAmong, Kinds, Row, Text, fault_of, is_simple, is_simple_and_free, matches_of}
use Rattle.clap.specs.Walk.{is_empty}
use Rattle.clap.specs.declared.error.kind.ErrorKind.{ErrorKind}
use Rattle.clap.specs.declared.error.kind.ErrorKind.TheVariants as kind
use Rattle.mh_words.specs.Options.{app, found}

-- a kind that is among others is one of some
are_some : (k : ErrorKind) (kinds : Kinds) → IsAmong k kinds → is_empty kinds ≡ false
are_some k [] among = absurd among
are_some k (x ∷ xs) among = grind arith

-- clap's clauses speak of such a command line exactly
is_exact : is_simple_and_free app ≡ true
is_exact = refl

-- the rows that a parse gives
pub taken : (a : App) (words : List Text) (rows : List Row) → a ≡ app → (is_simple_and_free a ≡ true → fault_of a words ≡ [])
    → (is_simple a ≡ true → rows ≡ matches_of a words) → Some rows ≡ found words
unfolding found
taken a words rows same free simple =
    let no_fault : fault_of app words ≡ [] = subst (λ b. is_simple_and_free b ≡ true → fault_of b words ≡ []) same free refl in
    let are : rows ≡ matches_of app words = subst (λ b. is_simple b ≡ true → rows ≡ matches_of b words) same simple refl in
    rw (no_fault, are) refl

-- a parse that is refused, but not for want of memory
pub refused : (a : App) (words : List Text) (k : ErrorKind) → a ≡ app
    → (is_simple_and_free a ≡ true → (k ≡ kind.OutOfMemory) ⊎ IsAmong k (fault_of a words))
    → (k ≡ kind.OutOfMemory → ⊥) → None ≡ found words
unfolding found
refused a words k same free other =
    let cause : (k ≡ kind.OutOfMemory) ⊎ IsAmong k (fault_of app words) =
    subst (λ b. is_simple_and_free b ≡ true → (k ≡ kind.OutOfMemory) ⊎ IsAmong k (fault_of b words)) same free refl in
    elim cause [
      | inl memory ↦ absurd (other memory)
      | inr among ↦ rw (are_some k (fault_of app words) among) refl
    ]
