-- What is read at a position is spelled there.
use Rattle.std.proofs.Common.{◌≡◌, ℕ, ◌+◌, ◌≤◌, true, false, List, length, drop, Ok, Err, refl, sym, ap, subst, ◌∙◌, arith}
use Rattle.std.proofs.lemmas.List.{length-take-le}
use Rattle.byteorder.specs.Endian.{big_number}
use Rattle.byteorder.specs.Numbers.{big_from-take}
use Rattle.mh_class_bytes.specs.Position.{Position}
use Rattle.mh_class_bytes.specs.Bytes.{skip, bytes_at}
use Rattle.mh_class_bytes.specs.Format.{Format, number, run, here, verdict, check, refuse, done, choose, blame, part, ◌>>=◌, Spells, reads, and_then, or_fault, cut, filled}
use Rattle.mh_class_bytes.proofs.FormatParts.{Stands, and_then_ok, blamed_ok, run_at, number_run, ok_pair, front, front_len, taken, nothing, two_parts, filled_ok, cut_front, whole_part}

-- What is read at a position is spelled there.
pub sound : {K A : Type 0} (f : Format K A) (p : Position) (x : A) (q : Position) → p.at ≤ length p.bytes → reads f p ≡ Ok (x, q) → Stands f p x q
sound (number kind n) p x q le e =
    let r = number_run kind n p (x, q) e in
    let v : x ≡ big_number n (front n p) = r.1 ∙ sym (big_from-take 0 n n (drop p.at p.bytes) (omega arith)) in
    taken (number kind n) p x q n r.0 (front_len n p r.0, v) r.2
sound (run kind n) p x q le e =
    let r = run_at kind n p (x, q) e in
    taken (run kind n) p x q n r.0 (front_len n p r.0, r.1) r.2
sound {K = K} here p x q le e = let k = ok_pair K p.at p x q e in nothing here p x q le (refl, sym k.0) (sym k.1)
sound {K = K} (verdict (Ok v)) p x q le e = let k = ok_pair K tt p x q e in nothing (verdict (Ok v)) p x q le (refl, refl) (sym k.1)
sound (verdict (Err d)) p x q le e = absurd cc
sound {K = K} (check true place kind) p x q le e = let k = ok_pair K tt p x q e in nothing (check true place kind) p x q le (refl, refl) (sym k.1)
sound (check false place kind) p x q le e = absurd cc
sound (refuse place kind) p x q le e = absurd cc
sound {K = K} (done y) p x q le e = let k = ok_pair K y p x q e in nothing (done y) p x q le (refl, sym k.0) (sym k.1)
sound (choose true f g) p x q le e = let s = sound f p x q le e in record {
  text = s.text;
  rest = s.rest;
  split = s.split;
  within = s.within;
  spells =
      s.spells;
  after = s.after;
}
sound (choose false f g) p x q le e = let s = sound g p x q le e in record {
  text = s.text;
  rest = s.rest;
  split = s.split;
  within = s.within;
  spells =
      s.spells;
  after = s.after;
}
sound (blame place kind f) p x q le e = let s = sound f p x q le (blamed_ok place kind (reads f p) (x, q) e) in record {
  text = s.text;
  rest = s.rest;
  split =
      s.split;
  within = s.within;
  spells = s.spells;
  after = s.after;
}
sound (part short n left f) p x q le e =
    let b = and_then_ok (or_fault short (bytes_at n p)) (λ c. and_then (reads f (cut c.1.at p)) (filled left c.1)) (x, q) e in
    let c = b.0 in
    let r = run_at short n p c b.1 in
    let d = and_then_ok (reads f (cut c.1.at p)) (filled left c.1) (x, q) b.2 in
    let y = d.0 in
    let k = filled_ok left c.1 y x q d.2 in
    let end : c.1.at ≡ p.at + n = ap (λ (z : Position). z.at) r.2 in
    let inner : reads f (cut (p.at + n) p) ≡ Ok y = subst (λ (m : ℕ). reads f (cut m p) ≡ Ok y) end d.1 in
    let s = sound f (cut (p.at + n) p) y.0 y.1 (omega (arith, length-take-le (p.at + n) p.bytes r.0)) inner in
    let at_end : p.at + length s.text ≡ p.at + n = sym (ap (λ (z : Position). z.at) s.after) ∙ k.0 ∙ end in
    let same : front n p ≡ s.text = whole_part n p s.text s.rest r.0 (sym (cut_front n p) ∙ s.split) at_end in
    let spells : Spells f p.at (front n p) x = subst (λ (v : _). Spells f p.at (front n p) v) k.1 (subst (λ (t : List ℕ). Spells f p.at t y.0) (sym same)
    s.spells) in
    taken (part short n left f) p x q n r.0 (front_len n p r.0, spells) (sym k.2 ∙ r.2)
sound (f >>= g) p x q le e =
    let b = and_then_ok (reads f p) (λ y. reads (g y.0) y.1) (x, q) e in
    let s = sound f p b.0.0 b.0.1 le b.1 in
    let second : reads (g b.0.0) (skip (length s.text) p) ≡ Ok (x, q) = subst (λ (m : Position). reads (g b.0.0) m ≡ Ok (x, q)) s.after b.2 in
    let t = sound (g b.0.0) (skip (length s.text) p) x q s.within second in
    two_parts f g p b.0.0 x q s.text s.rest s.split s.spells t
