-- Types read one after the other.
use Rattle.std.proofs.Common.{◌≡◌, refl, sym, ap, subst, ℕ, ◌+◌, ◌≤◌, ◌==◌, Bool, true, false, ◌||◌, if◌then◌else◌, List, [], ◌∷◌, length, take, Result, Ok, Err, arith}
use Rattle.std.proofs.lemmas.List.Sums.{sum_by-cons, sum_by-take-le}
use Rattle.std.specs.Result.{IsErrAnd}
use Rattle.mh_values.specs.declared.descriptor.DescriptorError.{DescriptorError}
use Rattle.mh_values.specs.declared.descriptor.DescriptorError.TheVariants as descriptor
use Rattle.mh_values.specs.Descriptor.{found_then, pieces, ends_type, longer, bytes_of, TellsType}

-- a refusal of a part is that of the whole
pub TellsType-part : {A B : Type 0} (e : DescriptorError) (meant : Result A DescriptorError) (next : A → Result B DescriptorError) →
    TellsType {A = A} (Err e) meant →
    TellsType {A = B} (Err e) (found_then meant next)
TellsType-part descriptor.NoMemory meant next is = tt
TellsType-part (descriptor.Bad at) meant next is = ap (λ r. found_then r next) is
TellsType-part (descriptor.NoClass at len) meant next is = ap (λ r. found_then r next) is
TellsType-part (descriptor.Unsupported at) meant next is = ap (λ r. found_then r next) is

-- a refusal is the answer, whichever it is
pub TellsType-err : {A : Type 0} (e : DescriptorError) (meant : Result A DescriptorError) → meant ≡ Err e → TellsType {A = A} (Err e) meant
TellsType-err descriptor.NoMemory meant is = tt
TellsType-err (descriptor.Bad at) meant is = is
TellsType-err (descriptor.NoClass at len) meant is = is
TellsType-err (descriptor.Unsupported at) meant is = is

-- an error that `?` hands on
pub TellsType-handed : {A : Type 0} (r : Result A DescriptorError) (e : DescriptorError) (meant : Result A DescriptorError) → IsErrAnd r (λ y. y ≡ e) →
    TellsType {A = A} (Err e) meant → TellsType r meant
TellsType-handed (Ok a) e meant given is = absurd given
TellsType-handed {A} (Err y) e meant given is = subst (λ x. TellsType {A = A} (Err x) meant) (sym given) is

-- ---- the pieces have all bytes of the text

bytes_of-cons : (t : List ℕ) (ts : List (List ℕ)) → bytes_of (t ∷ ts) ≡ length t + bytes_of ts
bytes_of-cons t ts = sum_by-cons (λ text. length text) t ts

longer-bytes : (b : ℕ) (ps : List (List ℕ)) → bytes_of (longer b ps) ≡ 1 + bytes_of ps
longer-bytes b [] = refl
longer-bytes b (p ∷ ps) = omega (arith, bytes_of-cons (b ∷ p) ps, bytes_of-cons p ps)

pub pieces-bytes : (in_name : Bool) (text : List ℕ) → bytes_of (pieces in_name text) ≡ length text
pieces-bytes in_name [] = refl
pieces-bytes in_name (b ∷ bs) =
    let ended : bytes_of ((b ∷ []) ∷ pieces false bs) ≡ length (b ∷ bs) = omega (arith, bytes_of-cons (b ∷ []) (pieces false bs), pieces-bytes false bs) in
    let more : bytes_of (longer b (pieces (in_name || b == 76) bs)) ≡ length (b ∷ bs) =
    omega (arith, longer-bytes b (pieces (in_name || b == 76) bs), pieces-bytes (in_name || b == 76) bs) in
    elim (ends_type in_name b) as (λ t. bytes_of (if t then (b ∷ []) ∷ pieces false bs else longer b (pieces (in_name || b == 76) bs)) ≡ length (b ∷ bs)) [
      | true ↦ ended
      | false ↦ more
    ]

-- the first texts have at most the bytes of all
pub bytes_of-take : (n : ℕ) (texts : List (List ℕ)) → bytes_of (take n texts) ≤ bytes_of texts
bytes_of-take n texts = sum_by-take-le (λ text. length text) texts n
