-- Finding the call sites one instruction after the other, as a loop does.
use Rattle.std.proofs.Common.{◌≡◌, ℕ, suc, ◌-◌, ◌+◌, ◌≤◌, ◌<◌, ltb, List, ◌++◌, length, Ok, Err, refl, sym, subst, ◌∙◌, arith}
use Rattle.std.proofs.lemmas.Bool.{lt-leb, le-leb}
use Rattle.mh_class_bytes.specs.Position.{Position}
use Rattle.mh_class_bytes.specs.Bytes.{MovesOn}
use Rattle.mh_class_bytes.specs.declared.fault.Fault.{Fault}
use Rattle.mh_class_bytes.specs.Format.{reads, repeated}
use Rattle.mh_class_bytes.proofs.Moves.{moves_again}
use Rattle.mh_class_bytes.proofs.Repeated.{repeated-step, repeated-err, repeated_idle}
use Rattle.mh_classfile.specs.declared.site.Method.{Method}
use Rattle.mh_classfile.specs.declared.site.Site.{Site}
use Rattle.mh_class_pool.specs.declared.fault.ClassKind.{ClassKind}
use Rattle.mh_class_pool.specs.Entries.{Slot}
use Rattle.mh_classfile.specs.Code.{instruction, next_site, code_sites}

-- the loop's state: what is still found after what was found is all
pub record IsFinding (pool : List Slot) (method : Method) (room start end : ℕ) (from p : Position) (before found : List Site) : Type 0 where
  pub most : ℕ
  pub enough : end ≤ p.at + most
  pub begun : start ≤ p.at
  pub moves : MovesOn from p
  pub so_far : reads (repeated (next_site pool method room start end) most found) p ≡ reads (code_sites pool method room start end before) from

pub finding-starts : (pool : List Slot) (method : Method) (room start end : ℕ) (p : Position) (before : List Site) → start ≤ p.at →
    IsFinding pool method room start end p p before before
finding-starts pool method room start end p before le = record {
  most = end - start;
  enough = omega arith;
  begun = le;
  moves = record { bytes = refl; onward = omega arith };
  so_far = refl;
}

step : (pool : List Slot) (method : Method) (room start end : ℕ) (p q : Position) (found here : List Site) → p.at < end →
    reads (instruction pool method (ltb (length found) room) start) p ≡ Ok (here, q) →
    reads (next_site pool method room start end found) p ≡ Ok (found ++ here, q)
step pool method room start end p q found here lt h = rw (lt-leb end p.at lt, h) refl

step-err : (pool : List Slot) (method : Method) (room start end : ℕ) (p : Position) (found : List Site) (f : Fault ClassKind) → p.at < end →
    reads (instruction pool method (ltb (length found) room) start) p ≡ Err f → reads (next_site pool method room start end found) p ≡ Err f
step-err pool method room start end p found f lt h = rw (lt-leb end p.at lt, h) refl

idle : (pool : List Slot) (method : Method) (room start end : ℕ) (p : Position) (found : List Site) → end ≤ p.at →
    reads (next_site pool method room start end found) p ≡ Ok (found, p)
idle pool method room start end p found le = rw (le-leb end p.at le) refl

-- one step less
one_left : (pool : List Slot) (method : Method) (room start end : ℕ) (from p : Position) (before found : List Site) →
    (s : IsFinding pool method room start end from p before found) → p.at < end
    → reads (repeated (next_site pool method room start end) (suc (s.most - 1)) found) p ≡ reads (code_sites pool method room start end before) from
one_left pool method room start end from p before found s lt =
    let em : s.most ≡ suc (s.most - 1) = omega (arith, s.enough) in
    subst (λ (k : ℕ). reads (repeated (next_site pool method room start end) k found) p ≡ reads (code_sites pool method room start end before) from) em s.so_far

pub finding-next : (pool : List Slot) (method : Method) (room start end : ℕ) (from p q : Position) (before found here : List Site) →
    IsFinding pool method room start end from p before found → p.at < end → p.at < q.at → MovesOn p q
    → reads (instruction pool method (ltb (length found) room) start) p ≡ Ok (here, q) → IsFinding pool method room start end from q before (found ++ here)
finding-next pool method room start end from p q before found here s lt on m h =
    let one = step pool method room start end p q found here lt h in
    record {
      most = s.most - 1;
      enough = omega (arith, s.enough);
      begun = omega (arith, s.begun);
      moves = moves_again s.moves m;
      so_far = sym (repeated-step (next_site pool method room start end) (s.most - 1) found (found ++ here) p q one) ∙ one_left pool method room start end from
          p before found s lt;
    }

pub finding-stops : (pool : List Slot) (method : Method) (room start end : ℕ) (from p : Position) (before found : List Site) (f : Fault ClassKind) →
    IsFinding pool method room start end from p before found → p.at < end
    → reads (instruction pool method (ltb (length found) room) start) p ≡ Err f → reads (code_sites pool method room start end before) from ≡ Err f
finding-stops pool method room start end from p before found f s lt h =
    sym (one_left pool method room start end from p before found s lt) ∙ repeated-err (next_site pool method room start end) (s.most - 1) found p f
    (step-err pool method room start end p found f lt h)

pub finding-done : (pool : List Slot) (method : Method) (room start end : ℕ) (from p : Position) (before found : List Site) →
    IsFinding pool method room start end from p before found → end ≤ p.at → reads (code_sites pool method room start end before) from ≡ Ok (found, p)
finding-done pool method room start end from p before found s le =
    sym s.so_far ∙ repeated_idle (next_site pool method room start end) s.most found p (idle pool method room start end p found le)
