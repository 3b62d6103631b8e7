-- Bytes that were written or read a piece at a time.
use Rattle.std.proofs.Common.{◌≡◌, ◌∙◌, ap, ℕ, ◌+◌, ◌-◌, ◌<◌, ◌≤◌, List, ◌++◌, length, take, drop, Option, Some, None, arith, append_assoc, length-append, length-drop}
use Rattle.std.proofs.lemmas.List.{take_all, take-append-le, length-take-le}
use Rattle.std.proofs.Math.Seq.{take-add}
use Rattle.std.specs.Io.KnownBytes.{Appends}
use Rattle.mh_outside.specs.Contents.{Contents, unknown, absent, file, HasRead, IsFront, IsWhole}

-- a piece after a front part
pub Appends-then : (old mid new : Option (List ℕ)) (bytes : List ℕ) (at n : ℕ) → Appends old mid (take at bytes) → Appends mid new (take n (drop at bytes)) →
    Appends old new (take (at + n) bytes)
Appends-then None mid new bytes at n front piece = tt
Appends-then (Some x) None new bytes at n front piece = absurd front
Appends-then (Some x) (Some y) None bytes at n front piece = absurd piece
Appends-then (Some x) (Some y) (Some z) bytes at n front piece =
    rw (piece, front, append_assoc, take-add at n bytes)

-- what the code calls the rest from a place on
pub slice_from : (at : ℕ) (bytes : List ℕ) → take (length bytes - at) (drop at bytes) ≡ drop at bytes
slice_from at bytes = take_all (length bytes - at) (drop at bytes) (omega (arith, length-drop at bytes))

-- a piece that was read after the front
pub IsFront-then : (contents : Contents) (got buf : List ℕ) (n : ℕ) → n ≤ length buf → IsFront contents got → HasRead contents (length got) n buf →
    IsFront contents (got ++ take n buf)
IsFront-then unknown got buf n le front read = tt
IsFront-then absent got buf n le front read = absurd read
IsFront-then (file bytes) got buf n le front read =
    rw (length-append, length-take-le, read.same, take-add) (ap (λ p. p ++ take n (drop (length got) bytes)) front)

-- the same of a buffer whose first part was read into
pub IsFront-piece : (contents : Contents) (got buf rest new : List ℕ) (at n : ℕ) → at ≡ length got → n ≤ length buf → new ≡ got ++ take n (buf ++ rest) →
    HasRead contents at n buf → IsFront contents got → IsFront contents new
IsFront-piece contents got buf rest new at n e le new_is read front =
    rw (new_is, take-append-le n buf rest le) (IsFront-then contents got buf n le front (rw e at read))

-- the front is all, where a read gave nothing
pub IsWhole-from_front : (contents : Contents) (got buf new : List ℕ) (at n : ℕ) → at ≡ length got → 0 < length buf → new ≡ got →
    HasRead contents at n buf → n ≡ 0 →
    IsFront contents got → IsWhole contents new
IsWhole-from_front unknown got buf new at n e room same read none front = tt
IsWhole-from_front absent got buf new at n e room same read none front = read
IsWhole-from_front (file bytes) got buf new at n e room same read none front =
    let all : length bytes ≤ length got = omega (arith, read.ends none room, e) in same ∙ front ∙ take_all (length got) bytes all
