-- The index of the buckets of hashes: empty, and with one item more.
use Rattle.std.proofs.Common.{◌≡◌, ℕ, zero, suc, ◌+◌, ◌<◌, ◌%◌, List, [], ◌∷◌, ◌++◌, length, set, sym, refl, ap, ◌∙◌, subst, arith, length-append, ◌*◌, ◌-◌, ⊎_elim, inr}
use Rattle.std.specs.Prelude.{bit_and}
use Rattle.std.specs.Prelude.{slice_index}
use Rattle.std.proofs.lemmas.List.{length-map, map-append}
use Rattle.std.proofs.lemmas.Option.{slice_get-map, get_or_from_slice_get, slice_get-get_or}
use Rattle.std.proofs.Math.Nat.{mod-lt}
use Rattle.std.proofs.lemmas.Nat.{and_mask, pow-add}
use Rattle.std.proofs.lemmas.Grind.{get_or_default_zero}
use Rattle.std.specs.Option.{option_map}
use Rattle.std.specs.Prelude.{replicate, get_or}
use lib.ListN.{length-set}
use Rattle.mh_setonce.specs.Index.{IsIndex, AreIndexed, IsPower, IsSize, buckets_of}
use Rattle.mh_setonce.proofs.Indexes.{is_index-more}

-- the bucket at a place
pub bucket-at : (count : ℕ) (hashes : List ℕ) (i : ℕ) → i < length hashes → slice_index (buckets_of count hashes) i ≡ slice_index hashes i % count
bucket-at count hashes i low =
    let at = slice_get-get_or hashes i 0 low in
    get_or_from_slice_get (buckets_of count hashes) i (slice_index hashes i % count) 0
    (slice_get-map (λ hash. hash % count) hashes i ∙ ap (option_map (λ hash. hash % count)) at)

pub bucket-count : (count : ℕ) (hashes : List ℕ) → length (buckets_of count hashes) ≡ length hashes
bucket-count count hashes = length-map hashes (λ hash. hash % count)

zeros : (n i : ℕ) → slice_index (replicate n 0) i ≡ 0
zeros zero i = refl
zeros (suc n) zero = refl
zeros (suc n) (suc i) = zeros n i

-- what was read of a list of numbers
pub read-is : (xs : List ℕ) (i x : ℕ) → x ≡ get_or xs i x → i < length xs → x ≡ slice_index xs i
read-is xs i x e low = e ∙ get_or_default_zero xs i x low

-- one item more
pub indexed-add : (hashes newest before hashes' before' : List ℕ) (hash bucket place count : ℕ) → AreIndexed hashes newest before →
    length hashes < length newest → bucket ≡ hash % length newest → bucket < length newest → place ≡ slice_index newest bucket →
    hashes' ≡ hashes ++ hash ∷ [] → before' ≡ before ++ place ∷ [] → count ≡ length hashes + 1 → AreIndexed hashes' (set newest bucket count) before'
indexed-add hashes newest before hashes' before' hash bucket place count old room b small is h f c =
    let n : ℕ = length newest in
    let more = is_index-more (buckets_of n hashes) newest before bucket place old.index small is in
    let len : length (set newest bucket count) ≡ n = length-set newest bucket count in
    let many : length (buckets_of n hashes) + 1 ≡ count = ap (λ k. k + 1) (bucket-count n hashes) ∙ sym c in
    let all : buckets_of n hashes' ≡ buckets_of n hashes ++ bucket ∷ [] =
    ap (buckets_of n) h ∙ (map-append (λ v. v % n) hashes (hash ∷ []) ∙ ap (λ v. buckets_of n hashes ++ v ∷ []) (sym b)) in
    let counted : length hashes' ≡ length hashes + 1 = ap length h ∙ length-append hashes (hash ∷ []) in
    record {
      index = subst (λ k. IsIndex (buckets_of k hashes') (set newest bucket count) before') (sym len)
          (subst (λ v. IsIndex v (set newest bucket count) before') (sym all)
          (subst (λ v. IsIndex (buckets_of n hashes ++ bucket ∷ []) (set newest bucket count) v) (sym f)
          (subst (λ k. IsIndex (buckets_of n hashes ++ bucket ∷ []) (set newest bucket k) (before ++ place ∷ [])) many more)));
      fits = omega (arith, len, counted, room);
      sized = subst IsSize (sym len) old.sized;
    }

-- one item more, where the number of buckets and the bucket's latest place were read
pub indexed-read : (hashes newest before hashes' before' : List ℕ) (hash size bucket place count : ℕ) → AreIndexed hashes newest before →
    length hashes < length newest → size ≡ length newest → bucket ≡ hash % size → place ≡ get_or newest bucket place → hashes' ≡ hashes ++ hash ∷ [] →
    before' ≡ before ++ place ∷ [] → count ≡ length hashes + 1 → AreIndexed hashes' (set newest bucket count) before'
indexed-read hashes newest before hashes' before' hash size bucket place count old room many b is h f c =
    let some : 0 < size = omega (arith, many, room) in
    let small : bucket < length newest = omega (arith, many, b, mod-lt hash some) in
    indexed-add hashes newest before hashes' before' hash bucket place count old room (b ∙ ap (λ k. hash % k) many) small
    (read-is newest bucket place is small) h f c

-- as many buckets as there are, where there is one
pub some-power : (n : ℕ) → IsSize n → 0 < n → IsPower n
some-power n size some = ⊎_elim (λ (none : n ≡ 0). absurd (omega (arith, none, some))) (λ (power : IsPower n). power) size

-- twice as many buckets
pub twice-power : (n m : ℕ) → IsSize n → 0 < n → m ≡ n * 2 → IsSize m
twice-power n m size some e =
    let p = some-power n size some in
    inr (p.0 + 1, e ∙ (ap (λ k. k * 2) p.1 ∙ sym (pow-add 2 p.0 1)))

-- the bucket of a hash, by the low bits
pub low-bits : (hash n : ℕ) → IsPower n → bit_and hash (n - 1) ≡ hash % n
low-bits hash n p = ap (λ k. bit_and hash (k - 1)) p.1 ∙ (and_mask hash p.0 ∙ ap (λ k. hash % k) (sym p.1))
