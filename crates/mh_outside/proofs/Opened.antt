-- Reads of a file that is open at a place.
use Rattle.std.proofs.Common.{◌≡◌, ◌∙◌, sym, ap, ℕ, ◌+◌, ◌≤◌, List, length, take, drop, Option, Some, None}
use Rattle.std.proofs.Math.Seq.{length-take-le, drop_at, drop-drop}
use Rattle.std.specs.Io.KnownBytes.{Consumes}
use Rattle.mh_outside.specs.Contents.{Contents, StandsAt}

-- what is left of a known rest after a read
left_after : (bytes : List ℕ) (at n : ℕ) (buf : List ℕ) (new : Option (List ℕ)) → n ≤ length buf → Consumes (Some (drop at bytes)) new (take n buf) →
    new ≡ Some (drop (at + n) bytes)
left_after bytes at n buf None within read = absurd read
left_after bytes at n buf (Some rest) within read =
    let long : length (take n buf) ≡ n = length-take-le n buf within in
    ap (λ (xs : List ℕ). Some xs) (sym (sym (drop-drop n at bytes) ∙ ap (λ (xs : List ℕ). drop n xs) read ∙ drop_at (take n buf) rest n long))

-- a file that was open at a place, after a read
pub StandsAt-read : (contents : Contents) (at n : ℕ) (buf : List ℕ) (old new : Option (List ℕ)) → n ≤ length buf → StandsAt contents at old →
    Consumes old new (take n buf) → StandsAt contents (at + n) new
StandsAt-read contents at n buf old new within stands read = record {
  there = stands.there;
  rest = λ bytes is. left_after bytes at n buf new within (rw (stands.rest bytes is) at read);
}
