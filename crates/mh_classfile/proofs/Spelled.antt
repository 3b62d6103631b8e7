-- What holds of each value that a part of a class file spells, by the parts of that part.
use Rattle.std.proofs.Common.{◌≡◌, sym, subst, zero, suc, ℕ, ◌+◌, Bool, true, false, List, length, Ok}
use Rattle.mh_class_bytes.specs.Format.{verdict, check, done, choose, part, ◌>>=◌, repeated, Spells}
use Rattle.mh_class_pool.specs.declared.fault.ClassKind.{ClassKind}
use Rattle.mh_class_pool.specs.Entries.{ClassPart}
use Rattle.mh_class_pool.specs.References.{Verdict}

-- whatever bytes spell there has the property
pub record Gives {A : Type 0} (P : A → Type 0) (f : ClassPart A) : Type 0 where
  pub each : (at : ℕ) (bytes : List ℕ) (x : A) → Spells f at bytes x → P x

-- a value
pub value-gives : {A : Type 0} (P : A → Type 0) (y : A) → P y → Gives P (done y)
value-gives P y p = record { each = λ at bytes x h. subst P (sym h.1) p }

-- a condition
pub verdict-gives : (v : Verdict) → Gives (λ _. v ≡ Ok tt) (verdict v)
verdict-gives v = record { each = λ at bytes x h. h.1 }

-- likewise one that is tested
pub check-gives : (holds : Bool) (place : ℕ) (kind : ClassKind) → Gives (λ _. holds ≡ true) (check holds place kind)
check-gives holds place kind = record { each = λ at bytes x h. h.1 }

-- either of two
pub choice-gives : {A : Type 0} (P : A → Type 0) (b : Bool) (f g : ClassPart A) → Gives P f → Gives P g → Gives P (choose b f g)
choice-gives P true f g one other = record { each = λ at bytes x h. one.each at bytes x h }
choice-gives P false f g one other = record { each = λ at bytes x h. other.each at bytes x h }

-- one after another, by what the first gives
pub both-give : {A B : Type 0} (P : A → Type 0) (Q : B → Type 0) (f : ClassPart A) (g : A → ClassPart B) → Gives P f →
    ((y : A) → P y → Gives Q (g y)) → Gives Q (f >>= g)
both-give P Q f g first next = record {
  each = λ at bytes x h. (next h.0 (first.each at h.1 h.0 h.4)).each (at + length h.1) h.2 x h.5;
}

-- one after another, whatever the first gives
pub later-gives : {A B : Type 0} (Q : B → Type 0) (f : ClassPart A) (g : A → ClassPart B) → ((y : A) → Gives Q (g y)) → Gives Q (f >>= g)
later-gives Q f g next = record { each = λ at bytes x h. (next h.0).each (at + length h.1) h.2 x h.5 }

-- steps that keep a property
pub steps-give : {S : Type 0} (P : S → Type 0) (step : S → ClassPart S) → ((s : S) → P s → Gives P (step s)) → (n : ℕ) (s : S) → P s →
    Gives P (repeated step n s)
unfolding repeated
steps-give P step next zero s p = value-gives P s p
steps-give P step next (suc n) s p = both-give P P (step s) (repeated step n) (next s p) (λ y q. steps-give P step next n y q)

-- a part of so many bytes
pub part-gives : {A : Type 0} (P : A → Type 0) (short : ClassKind) (n : ℕ) (left : ClassKind) (f : ClassPart A) → Gives P f → Gives P (part short n left f)
part-gives P short n left f inner = record { each = λ at bytes x h. inner.each at bytes x h.1 }
