-- Values that stand at a position, and the parts that they are read from.
use Rattle.std.proofs.Common.{◌≡◌, ℕ, ◌+◌, ◌≤◌, Bool, true, false, cond, ltb, eqb, List, [], ◌++◌, length, take, drop, Ok, Err, refl, sym, ap, ◌∙◌, append_assoc, arith}
use Rattle.std.proofs.lemmas.Bool.{ltb-false, eqb-true}
use Rattle.std.proofs.lemmas.List.{append-nil, length-append, length-drop, length-take-le, take-append-drop, drop_at, drop-drop, drop-take, nil_from_length}
use Rattle.byteorder.specs.Endian.{big_number}
use Rattle.mh_class_bytes.specs.Position.{Position}
use Rattle.mh_class_bytes.specs.Bytes.{skip, number_at, bytes_at}
use Rattle.mh_class_bytes.specs.Format.{Format, ◌>>=◌, Spells, Checked, Reading, and_then, or_fault, fault, blamed, filled}

-- A value stands at a position, and another position is after it.
pub record Stands {K A : Type 0} (f : Format K A) (p : Position) (x : A) (q : Position) : Type 0 where
  pub text : List ℕ
  pub rest : List ℕ
  pub split : drop p.at p.bytes ≡ text ++ rest
  pub within : p.at + length text ≤ length p.bytes
  pub spells : Spells f p.at text x
  pub after : q ≡ skip (length text) p

pub and_then_ok : {K A B : Type 0} (r : Checked K A) (f : A → Checked K B) (y : B) → and_then r f ≡ Ok y → (x : A) × (r ≡ Ok x) × (f x ≡ Ok y)
and_then_ok (Ok x) f y e = (x, refl, e)
and_then_ok (Err d) f y e = absurd cc

pub blamed_ok : {K A : Type 0} (place : ℕ) (kind : K) (r : Reading K A) (y : A × Position) → blamed place kind r ≡ Ok y → r ≡ Ok y
blamed_ok place kind (Ok x) y e = e
blamed_ok place kind (Err d) y e = absurd cc

-- the run of bytes at a position
pub run_at : {K : Type 0} (kind : K) (n : ℕ) (p : Position) (y : List ℕ × Position) → or_fault kind (bytes_at n p) ≡ Ok y → (p.at + n ≤ length p.bytes)
    × (y.0 ≡ take n (drop p.at p.bytes)) × (y.1 ≡ skip n p)
run_at {K = K} kind n p y e = go (ltb (length p.bytes) (p.at + n)) refl e
  where
    go : (b : Bool) → ltb (length p.bytes) (p.at + n) ≡ b →
        or_fault {K = K} {X = List ℕ} kind (cond b (Err (record { at = p.at })) (Ok (take n (drop p.at p.bytes), skip n p))) ≡ Ok y →
        (p.at + n ≤ length p.bytes) × (y.0 ≡ take n (drop p.at p.bytes)) × (y.1 ≡ skip n p)
    go true t h = absurd cc
    go false t h = (ltb-false _ _ t, ap (λ (z : Reading K (List ℕ)). val z) (sym h), ap (λ (z : Reading K (List ℕ)). pos z) (sym h))
      where
        val : Reading K (List ℕ) → List ℕ
        val (Ok z) = z.0
        val (Err d) = []

        pos : Reading K (List ℕ) → Position
        pos (Ok z) = z.1
        pos (Err d) = p

pub number_run : {K : Type 0} (kind : K) (n : ℕ) (p : Position) (y : ℕ × Position) → or_fault kind (number_at n p) ≡ Ok y → (p.at + n ≤ length p.bytes)
    × (y.0 ≡ big_number n (drop p.at p.bytes)) × (y.1 ≡ skip n p)
number_run {K = K} kind n p y e = go (ltb (length p.bytes) (p.at + n)) refl e
  where
    go : (b : Bool) → ltb (length p.bytes) (p.at + n) ≡ b →
        or_fault {K = K} {X = ℕ} kind (cond b (Err (record { at = p.at })) (Ok (big_number n (drop p.at p.bytes), skip n p))) ≡ Ok y →
        (p.at + n ≤ length p.bytes) × (y.0 ≡ big_number n (drop p.at p.bytes)) × (y.1 ≡ skip n p)
    go true t h = absurd cc
    go false t h = (ltb-false _ _ t, ap (λ (z : Reading K ℕ). val z) (sym h), ap (λ (z : Reading K ℕ). pos z) (sym h))
      where
        val : Reading K ℕ → ℕ
        val (Ok z) = z.0
        val (Err d) = 0

        pos : Reading K ℕ → Position
        pos (Ok z) = z.1
        pos (Err d) = p

abbrev pub okr : (K : Type 0) {A : Type 0} → A × Position → Reading K A
okr K x = Ok x

abbrev pair : {A : Type 0} → A → Position → A × Position
pair a p = (a, p)

pub ok_pair : (K : Type 0) {A : Type 0} (a : A) (p : Position) (x : A) (q : Position) → okr K (a, p) ≡ okr K (x, q) → (a ≡ x) × (p ≡ q)
ok_pair K {A = A} a p x q e =
    let k : pair a p ≡ pair x q = cc in
    (ap (λ (z : A × Position). z.0) k, ap (λ (z : A × Position). z.1) k)

abbrev pub front : ℕ → Position → List ℕ
front n p = take n (drop p.at p.bytes)

pub front_len : (n : ℕ) (p : Position) → p.at + n ≤ length p.bytes → length (front n p) ≡ n
front_len n p le = length-take-le n (drop p.at p.bytes) (omega (arith, length-drop p.at p.bytes))

-- what takes n bytes
pub taken : {K A : Type 0} (f : Format K A) (p : Position) (x : A) (q : Position) (n : ℕ) → p.at + n ≤ length p.bytes → Spells f p.at (front n p) x →
    q ≡ skip n p → Stands f p x q
taken f p x q n le s e =
    let len = front_len n p le in
    record {
      text = front n p;
      rest = drop n (drop p.at p.bytes);
      split = sym (take-append-drop n (drop p.at p.bytes));
      within = omega (arith, len);
      spells =
          s;
      after = e ∙ ap (λ (m : ℕ). skip m p) (sym len);
    }

-- what takes no bytes
pub nothing : {K A : Type 0} (f : Format K A) (p : Position) (x : A) (q : Position) → p.at ≤ length p.bytes → Spells f p.at [] x → q ≡ p → Stands f p x q
nothing f p x q le s e =
    let k : p.at + 0 ≡ p.at = omega arith in
    let z : skip 0 p ≡ p = ap (λ (m : ℕ). at_place m) k in
    record { text = []; rest = drop p.at p.bytes; split = refl; within = omega arith; spells = s; after = e ∙ sym z }
  where
    at_place : ℕ → Position
    at_place m = record { bytes = p.bytes; at = m }

pub two_parts : {K A B : Type 0} (f : Format K A) (g : A → Format K B) (p : Position) (y : A) (x : B) (q : Position) (t1 r1 : List ℕ) →
    drop p.at p.bytes ≡ t1 ++ r1 → Spells f p.at t1 y → Stands (g y) (skip (length t1) p) x q → Stands (f >>= g) p x q
two_parts f g p y x q t1 r1 split s t =
    let r1-is : drop (p.at + length t1) p.bytes ≡ r1 = sym (drop-drop (length t1) p.at p.bytes) ∙ ap (drop (length t1)) split ∙ drop_at t1 r1 (length t1) refl
    in
    let whole : drop p.at p.bytes ≡ (t1 ++ t.text) ++ t.rest = split ∙ ap (λ (r : List ℕ). t1 ++ r) (sym r1-is ∙ t.split) ∙ sym (append_assoc t1 t.text t.rest)
    in
    let len : p.at + length t1 + length t.text ≡ p.at + length (t1 ++ t.text) = omega (arith, length-append t1 t.text) in
    record {
      text = t1 ++ t.text;
      rest = t.rest;
      split = whole;
      within = omega (arith, len, t.within);
      spells = (y, t1, t.text, refl, s, t.spells);
      after = t.after ∙ ap (λ (m : ℕ). at_place m) len;
    }
  where
    at_place : ℕ → Position
    at_place m = record { bytes = p.bytes; at = m }

pub filled_ok : {K A : Type 0} (left : K) (end : Position) (y : A × Position) (x : A) (q : Position) → filled left end y ≡ Ok (x, q) → (y.1.at ≡ end.at)
    × (y.0 ≡ x) × (end ≡ q)
filled_ok {K = K} {A = A} left end y x q e = go (eqb y.1.at end.at) refl e
  where
    go : (b : Bool) → eqb y.1.at end.at ≡ b → cond {A = Reading K A} b (Ok (y.0, end)) (fault y.1.at left) ≡ Ok (x, q) → (y.1.at ≡ end.at) × (y.0 ≡ x)
        × (end ≡ q)
    go true t h = let k = ok_pair K y.0 end x q h in (eqb-true _ _ t, k.0, k.1)
    go false t h = absurd cc

pub cut_front : (n : ℕ) (p : Position) → drop p.at (take (p.at + n) p.bytes) ≡ front n p
cut_front n p = drop-take p.at n p.bytes

pub whole_part : (n : ℕ) (p : Position) (text rest : List ℕ) → p.at + n ≤ length p.bytes → front n p ≡ text ++ rest → p.at + length text ≡ p.at + n →
    front n p ≡ text
whole_part n p text rest le split len =
    let total : length (text ++ rest) ≡ n = ap length (sym split) ∙ front_len n p le in
    let none : rest ≡ [] = nil_from_length rest (omega (arith, total, length-append text rest)) in
    split ∙ ap (λ (r : List ℕ). text ++ r) none ∙ append-nil text
