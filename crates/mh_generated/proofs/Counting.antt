-- Lists that are made up to a number: one item more.
use Rattle.std.proofs.Common.{◌≡◌, ◌∙◌, ap, refl, ℕ, ◌+◌, List, [], ◌∷◌, ◌++◌, arith}
use Rattle.std.specs.List.{flat_map, range_with_len}
use Rattle.std.proofs.lemmas.List.{append-nil}
use Rattle.std.proofs.lemmas.List.Concat.{flat_map-append}
use Rattle.mh_base.proofs.Lists.{range_more}
use Rattle.mh_generated.specs.Plan.{call_text, calls_text, thread_text, threads_text}

-- the texts of numbers from 0 on: that of one more
texts-more : (f : ℕ → List ℕ) (count : ℕ) → flat_map f (range_with_len 0 (count + 1)) ≡ flat_map f (range_with_len 0 count) ++ f count
texts-more f count =
    let last : 0 + count ≡ count = omega arith in
    ap (flat_map f) (range_more 0 count ∙ ap (λ n. range_with_len 0 count ++ n ∷ []) last)
    ∙ flat_map-append f (range_with_len 0 count) (count ∷ [])
    ∙ ap (λ t. flat_map f (range_with_len 0 count) ++ t) (append-nil (f count))

-- the lines of one call more
pub calls_text_more : (sites thread count : ℕ) →
    calls_text sites thread (count + 1) ≡ calls_text sites thread count ++ call_text sites thread count
unfolding calls_text
calls_text_more sites thread count = texts-more (call_text sites thread) count

-- those of no calls
pub calls_text_none : (sites thread : ℕ) → calls_text sites thread 0 ≡ []
unfolding calls_text
calls_text_none sites thread = refl

-- the lines of one thread more
pub threads_text_more : (sites count : ℕ) → threads_text sites (count + 1) ≡ threads_text sites count ++ thread_text sites count
unfolding threads_text
threads_text_more sites count = texts-more (thread_text sites) count

-- those of no threads
pub threads_text_none : (sites : ℕ) → threads_text sites 0 ≡ []
unfolding threads_text
threads_text_none sites = refl
