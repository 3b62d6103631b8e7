-- Reading so many of one format, as a loop does.
use Rattle.std.proofs.Common.{◌≡◌, ℕ, zero, suc, ◌-◌, ◌+◌, ◌≤◌, ◌<◌, List, [], ◌∷◌, ◌++◌, Ok, Err, refl, sym, ◌∙◌, arith}
use Rattle.mh_class_bytes.specs.Position.{Position}
use Rattle.mh_class_bytes.specs.Format.{Format, Reading, reads, repeated, listed}
use Rattle.mh_class_bytes.specs.declared.fault.Fault.{Fault}

-- one step
pub repeated-step : {K S : Type 0} (step : S → Format K S) (n : ℕ) (s t : S) (p q : Position) → reads (step s) p ≡ Ok (t, q) →
    reads (repeated step (suc n) s) p ≡ reads (repeated step n t) q
unfolding repeated
repeated-step step n s t p q h = rw h refl

-- a step with a fault
pub repeated-err : {K S : Type 0} (step : S → Format K S) (n : ℕ) (s : S) (p : Position) (e : Fault K) → reads (step s) p ≡ Err e →
    reads (repeated step (suc n) s) p ≡ Err e
unfolding repeated
repeated-err step n s p e h = rw h refl

-- no step
pub repeated-zero : {K S : Type 0} (step : S → Format K S) (s : S) (p : Position) → reads (repeated step 0 s) p ≡ Ok (s, p)
unfolding repeated
repeated-zero step s p = refl

-- one step more was made
pub repeated_next : {K S : Type 0} (step : S → Format K S) (count i : ℕ) (s t : S) (p q : Position) (total : Reading K S) → i < count →
    reads (step s) p ≡ Ok (t, q) → reads (repeated step (count - i) s) p ≡ total → reads (repeated step (count - (i + 1)) t) q ≡ total
repeated_next step count i s t p q total lt h so_far =
    let k : count - i ≡ suc (count - (i + 1)) = omega arith in
    sym (repeated-step step (count - (i + 1)) s t p q h) ∙ rw (← k) so_far

-- a step has a fault
pub repeated_stops : {K S : Type 0} (step : S → Format K S) (count i : ℕ) (s : S) (p : Position) (e : Fault K) (total : Reading K S) → i < count →
    reads (step s) p ≡ Err e → reads (repeated step (count - i) s) p ≡ total → total ≡ Err e
repeated_stops step count i s p e total lt h so_far =
    let k : count - i ≡ suc (count - (i + 1)) = omega arith in
    sym so_far ∙ rw k (repeated-err step (count - (i + 1)) s p e h)

-- all steps were made
pub repeated_done : {K S : Type 0} (step : S → Format K S) (count i : ℕ) (s : S) (p : Position) (total : Reading K S) → count ≤ i →
    reads (repeated step (count - i) s) p ≡ total → total ≡ Ok (s, p)
repeated_done step count i s p total le so_far =
    let k : count - i ≡ 0 = omega arith in
    sym so_far ∙ rw k (repeated-zero step s p)

-- steps that change nothing any more
pub repeated_idle : {K S : Type 0} (step : S → Format K S) (n : ℕ) (s : S) (p : Position) → reads (step s) p ≡ Ok (s, p) →
    reads (repeated step n s) p ≡ Ok (s, p)
repeated_idle step zero s p h = repeated-zero step s p
repeated_idle step (suc n) s p h = repeated-step step n s s p p h ∙ repeated_idle step n s p h

-- one more item of a list
pub listed_next : {K A : Type 0} (one : Format K A) (so_far : List A) (x : A) (p q : Position) → reads one p ≡ Ok (x, q) →
    reads (listed one so_far) p ≡ Ok (so_far ++ x ∷ [], q)
listed_next one so_far x p q h = rw h refl

-- an item of a list has a fault
pub listed_stops : {K A : Type 0} (one : Format K A) (so_far : List A) (p : Position) (e : Fault K) → reads one p ≡ Err e → reads (listed one so_far) p ≡ Err e
listed_stops one so_far p e h = rw h refl
