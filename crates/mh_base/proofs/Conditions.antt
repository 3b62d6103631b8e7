-- What an answer tells of the conditions before it.
use Rattle.std.proofs.Common.{◌≡◌, refl, ◌⊎◌, inl, inr, ℕ, Bool, true, false, Option, None, Some, Result, Ok, Err}
use Rattle.mh_base.specs.declared.lines.LineFault.{LineFault}
use Rattle.mh_base.specs.Lines.{after_line}
use Rattle.mh_base.specs.Provided.{provided, provided_some}

-- a condition holds where the answer is not its fault
pub passes : {A K : Type 0} (b : Bool) (kind : K) (next r : Result A K) → (Err kind ≡ r → ⊥) → provided b kind next ≡ r → (b ≡ true) × (next ≡ r)
passes true kind next r other h = (refl, h)
passes false kind next r other h = absurd (other h)

-- something is there where the answer is not the fault
pub passes_some : {A B K : Type 0} (o : Option A) (kind : K) (next : A → Result B K) (r : Result B K) → (Err kind ≡ r → ⊥) →
    provided_some o kind next ≡ r → (a : A) × (o ≡ Some a) × (next a ≡ r)
passes_some (Some a) kind next r other h = (a, refl, h)
passes_some None kind next r other h = absurd (other h)

-- each holds where there is a value
pub provided-parts : {A K : Type 0} (b : Bool) (kind : K) (next : Result A K) (a : A) → provided b kind next ≡ Ok a → (b ≡ true) × (next ≡ Ok a)
provided-parts b kind next a h = passes b kind next (Ok a) (λ e. cc) h

pub provided_some-parts : {A B K : Type 0} (o : Option A) (kind : K) (next : A → Result B K) (b : B) → provided_some o kind next ≡ Ok b →
    (a : A) × (o ≡ Some a) × (next a ≡ Ok b)
provided_some-parts o kind next b h = passes_some o kind next (Ok b) (λ e. cc) h

-- the line was taken before those after it
pub after_line-parts : {S K : Type 0} (n : ℕ) (r : Result S K) (rest : S → Result S (LineFault K)) (s : S) → after_line n r rest ≡ Ok s →
    (next : S) × (r ≡ Ok next) × (rest next ≡ Ok s)
after_line-parts n (Ok next) rest s h = (next, refl, h)
after_line-parts n (Err kind) rest s h = absurd cc

-- a condition holds, or the answer is its fault
pub either : {A K : Type 0} (b : Bool) (kind : K) (next r : Result A K) → provided b kind next ≡ r → (b ≡ false) ⊎ (next ≡ r)
either true kind next r h = inr h
either false kind next r h = inl refl

-- something is there, or the answer is the fault
pub either_some : {A B K : Type 0} (o : Option A) (kind : K) (next : A → Result B K) (r : Result B K) → provided_some o kind next ≡ r →
    (o ≡ None) ⊎ ((a : A) × (o ≡ Some a) × (next a ≡ r))
either_some (Some a) kind next r h = inr (a, refl, h)
either_some None kind next r h = inl refl
