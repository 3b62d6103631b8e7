-- What is spelled at a position is read there, whatever follows it.
use Rattle.std.proofs.Common.{◌≡◌, ℕ, ◌+◌, ◌≤◌, true, false, ltb, eqb, List, [], ◌++◌, length, take, drop, Ok, Err, refl, sym, ap, ◌∙◌, append_assoc, arith}
use Rattle.std.proofs.lemmas.Bool.{le-ltb}
use Rattle.std.proofs.lemmas.Bool.Decides.{nat_tests}
use Rattle.std.proofs.lemmas.List.{append-nil, length-append, length-drop, length-take-le, take_at, drop_at, drop-drop}
use Rattle.byteorder.specs.Endian.{big_number}
use Rattle.byteorder.specs.Numbers.{big_from-append}
use Rattle.mh_class_bytes.specs.Position.{Position}
use Rattle.mh_class_bytes.specs.Bytes.{skip, number_at, bytes_at}
use Rattle.mh_class_bytes.specs.Format.{Format, number, run, here, verdict, check, refuse, done, choose, blame, part, ◌>>=◌, Spells, reads, or_fault, blamed, cut}
use Rattle.mh_class_bytes.proofs.FormatParts.{okr, cut_front}

fits : (n : ℕ) (p : Position) (text rest : List ℕ) → p.at ≤ length p.bytes → drop p.at p.bytes ≡ text ++ rest → length text ≡ n →
    ltb (length p.bytes) (p.at + n) ≡ false
fits n p text rest le split len = le-ltb _ _ (omega (arith, ap length split, length-append text rest, length-drop p.at p.bytes))

run_again : {K : Type 0} (kind : K) (n : ℕ) (p : Position) (text rest : List ℕ) → p.at ≤ length p.bytes → drop p.at p.bytes ≡ text ++ rest → length text ≡ n →
    or_fault kind (bytes_at n p) ≡ Ok (text, skip n p)
run_again {K = K} kind n p text rest le split len =
    let t : take n (drop p.at p.bytes) ≡ text = ap (take n) split ∙ take_at text rest n len in
    rw (fits n p text rest le split len) (ap (λ (x : List ℕ). okr K (x, skip n p)) t)

number_again : {K : Type 0} (kind : K) (n : ℕ) (p : Position) (text rest : List ℕ) → p.at ≤ length p.bytes → drop p.at p.bytes ≡ text ++ rest → length text ≡ n
    → or_fault kind (number_at n p) ≡ Ok (big_number n text, skip n p)
number_again {K = K} kind n p text rest le split len =
    let t : big_number n (drop p.at p.bytes) ≡ big_number n text = ap (big_number n) split ∙ big_from-append n text rest (omega (arith, len)) in
    rw (fits n p text rest le split len) (ap (λ (x : ℕ). okr K (x, skip n p)) t)

same_place : (p : Position) (n m : ℕ) → n ≡ m → skip n p ≡ skip m p
same_place p n m e = ap (λ (k : ℕ). skip k p) e

no_bytes : (p : Position) (text : List ℕ) → text ≡ [] → p ≡ skip (length text) p
no_bytes p text e = let k : p.at ≡ p.at + 0 = omega arith in ap (λ (m : ℕ). at_place m) k ∙ same_place p 0 (length text) (sym (ap length e))
  where
    at_place : ℕ → Position
    at_place m = record { bytes = p.bytes; at = m }

split_len : (p : Position) (text rest : List ℕ) → p.at ≤ length p.bytes → drop p.at p.bytes ≡ text ++ rest → p.at + length text ≤ length p.bytes
split_len p text rest le split = omega (arith, ap length split, length-append text rest, length-drop p.at p.bytes)

-- What is spelled at a position is read there, whatever follows it.
pub complete : {K A : Type 0} (f : Format K A) (p : Position) (x : A) (text rest : List ℕ) → p.at ≤ length p.bytes → drop p.at p.bytes ≡ text ++ rest →
    Spells f p.at text x → reads f p ≡ Ok (x, skip (length text) p)
complete {K = K} (number kind n) p x text rest le split s =
    number_again kind n p text rest le split s.0 ∙ ap (λ (v : ℕ). okr K (v, skip n p)) (sym s.1) ∙ ap (λ (m : Position). okr K (x, m))
    (same_place p n (length text) (sym s.0))
complete {K = K} (run kind n) p x text rest le split s =
    run_again kind n p text rest le split s.0 ∙ ap (λ (v : List ℕ). okr K (v, skip n p)) (sym s.1) ∙ ap (λ (m : Position). okr K (x, m))
    (same_place p n (length text) (sym s.0))
complete {K = K} here p x text rest le split s = ap (λ (v : ℕ). okr K (v, p)) (sym s.1) ∙ ap (λ (m : Position). okr K (x, m)) (no_bytes p text s.0)
complete {K = K} (verdict (Ok v)) p x text rest le split s = ap (λ (m : Position). okr K (tt, m)) (no_bytes p text s.0)
complete {K = K} (verdict (Err d)) p x text rest le split s = absurd (cc s.1)
complete {K = K} (check true place kind) p x text rest le split s = ap (λ (m : Position). okr K (tt, m)) (no_bytes p text s.0)
complete {K = K} (check false place kind) p x text rest le split s = absurd (cc s.1)
complete {K = K} (refuse place kind) p x text rest le split s = absurd s
complete {K = K} {A = A} (done y) p x text rest le split s = ap (λ (v : A). okr K (v, p)) (sym s.1) ∙ ap (λ (m : Position). okr K (x, m)) (no_bytes p text s.0)
complete {K = K} (choose true f g) p x text rest le split s = complete f p x text rest le split s
complete {K = K} (choose false f g) p x text rest le split s = complete g p x text rest le split s
complete {K = K} (blame place kind f) p x text rest le split s = ap (blamed place kind) (complete f p x text rest le split s)
complete {K = K} (part short n left f) p x text rest le split s =
    let first = run_again short n p text rest le split s.0 in
    let in_bytes = split_len p text rest le split in
    let inside : drop p.at (take (p.at + n) p.bytes) ≡ text ++ [] = cut_front n p ∙ ap (take n) split ∙ take_at text rest n s.0 ∙ sym (append-nil text) in
    let second = complete f (cut (p.at + n) p) x text [] (omega (arith, s.0, length-take-le (p.at + n) p.bytes (omega (arith, s.0)))) inside s.1 in
    let third : reads f (cut (p.at + n) p) ≡ Ok (x, skip n (cut (p.at + n) p)) =
    second ∙ ap (λ (m : Position). okr K (x, m)) (same_place (cut (p.at + n) p) (length text) n s.0) in
    let same : eqb (p.at + n) (p.at + n) ≡ true = grind (arith, nat_tests) in
    rw (first, third, same) (ap (λ (m : Position). okr K (x, m)) (same_place p n (length text) (sym s.0)))
complete {K = K} (f >>= g) p x text rest le split s =
    let y = s.0 in
    let t1 = s.1 in
    let t2 = s.2 in
    let split1 : drop p.at p.bytes ≡ t1 ++ (t2 ++ rest) = split ∙ ap (λ (t : List ℕ). t ++ rest) s.3 ∙ append_assoc t1 t2 rest in
    let first = complete f p y t1 (t2 ++ rest) le split1 s.4 in
    let m = skip (length t1) p in
    let le2 : m.at ≤ length m.bytes = split_len p t1 (t2 ++ rest) le split1 in
    let split2 : drop m.at m.bytes ≡ t2 ++ rest = sym (drop-drop (length t1) p.at p.bytes) ∙ ap (drop (length t1)) split1 ∙ drop_at t1 (t2 ++ rest) (length t1)
    refl in
    let second = complete (g y) m x t2 rest le2 split2 s.5 in
    let len : p.at + length t1 + length t2 ≡ p.at + length text = omega (arith, ap length s.3, length-append t1 t2) in
    rw first (second ∙ ap (λ (k : ℕ). okr K (x, at_place k)) len)
  where
    at_place : ℕ → Position
    at_place k = record { bytes = p.bytes; at = k }
