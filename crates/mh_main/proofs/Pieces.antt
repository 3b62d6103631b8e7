-- A line that is written piece by piece.
use Rattle.std.proofs.Common.{◌≡◌, ◌∙◌, sym, ap, ℕ, ◌+◌, ◌<◌, ◌≤◌, min, List, ◌++◌, length, take, drop, Option, Some, None, arith, append_assoc, get_or}
use Rattle.std.proofs.Math.Seq.{take-append-add}
use Rattle.std.proofs.lemmas.List.{take-append-le, take_min, take-append-drop, drop_more}
use Rattle.std.proofs.lemmas.Grind.{flat_map-append}
use Rattle.std.specs.List.{flat_map}
use Rattle.std.specs.Io.KnownBytes.{Appends}
use Rattle.mh_outside.specs.Causes.{AppendsPart}

-- a front part of a piece between others
take-within : (a b c : List ℕ) (n : ℕ) → take (length a + min n (length b)) (a ++ (b ++ c)) ≡ a ++ take n b
take-within a b c n =
    let few : min n (length b) ≤ length b = omega arith in
    take-append-add a (b ++ c) (min n (length b)) ∙ ap (λ r. a ++ r) (take-append-le (min n (length b)) b c few ∙ take_min n b)

-- a front part of the next piece, after pieces that were written whole
pub AppendsPart-after : (old mid new : Option (List ℕ)) (a b c : List ℕ) → Appends old mid a → AppendsPart mid new b → AppendsPart old new (a ++ (b ++ c))
AppendsPart-after None mid new a b c before part = (0, tt)
AppendsPart-after (Some x) None new a b c before part = absurd before
AppendsPart-after (Some x) (Some y) None a b c before part = absurd part.1
AppendsPart-after (Some x) (Some y) (Some z) a b c before part = (
  length a + min part.0 (length b),
  part.1 ∙ ap (λ r. r ++ take part.0 b) before ∙ append_assoc x a (take part.0 b) ∙
      ap (λ r. x ++ r) (sym (take-within a b c part.0)),
)

-- the pieces up to a place, the one there, and the rest
flat_map-at : {P : Type 0} (bytes : P → List ℕ) (pieces : List P) (i : ℕ) (d : P) → i < length pieces →
    flat_map bytes pieces ≡ flat_map bytes (take i pieces) ++ (bytes (get_or pieces i d) ++ flat_map bytes (drop (i + 1) pieces))
flat_map-at bytes pieces i d in_range =
    ap (flat_map bytes) (sym (take-append-drop i pieces)) ∙ flat_map-append bytes (take i pieces) (drop i pieces) ∙
    ap (λ r. flat_map bytes (take i pieces) ++ flat_map bytes r) (drop_more pieces i d in_range)

-- a write that broke off at a piece
pub AppendsPart-at : {P : Type 0} (bytes : P → List ℕ) (old mid new : Option (List ℕ)) (pieces : List P) (i : ℕ) (d : P) → i < length pieces →
    Appends old mid (flat_map bytes (take i pieces)) → AppendsPart mid new (bytes (get_or pieces i d)) → AppendsPart old new (flat_map bytes pieces)
AppendsPart-at bytes old mid new pieces i d in_range before part =
    rw (flat_map-at bytes pieces i d in_range) (AppendsPart-after old mid new (flat_map bytes (take i pieces)) (bytes (get_or pieces i d))
    (flat_map bytes (drop (i + 1) pieces)) before part)
