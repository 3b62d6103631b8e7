-- Lines that build nothing: the first that has no meaning after those before it.
use Rattle.std.proofs.Common.{◌≡◌, refl, ap, ◌∙◌, ℕ, ◌+◌, List, [], ◌∷◌, ◌++◌, length, Result, Ok, Err, arith}
use Rattle.mh_base.specs.Lines.{after_line, built_from, fault_at}
use Rattle.mh_base.specs.declared.lines.LineFault.{LineFault}

-- where lines stop that are counted from a number
pub record Stops {S K : Type 0} (step : S → List ℕ → Result S K) (n : ℕ) (start : S) (lines : List (List ℕ)) (fault : LineFault K) : Type 0 where
  pub before : List (List ℕ)
  pub line : List ℕ
  pub after : List (List ℕ)
  pub are : lines ≡ before ++ line ∷ after
  pub number : fault.line ≡ n + length before
  pub so_far : S
  pub built : built_from step n start before ≡ Ok so_far
  pub fails : step so_far line ≡ Err fault.kind

stops_at : {S K : Type 0} (step : S → List ℕ → Result S K) (n : ℕ) (start : S) (line : List ℕ) (lines : List (List ℕ)) (fault : LineFault K)
    (r : Result S K) → step start line ≡ r → ((next : S) → built_from step (n + 1) next lines ≡ Err fault → Stops step (n + 1) next lines fault) →
    after_line n r (λ next. built_from step (n + 1) next lines) ≡ Err fault → Stops step n start (line ∷ lines) fault
stops_at {S} {K} step n start line lines fault (Ok next) is more h =
    let later = more next h in
    record {
      before = line ∷ later.before;
      line = later.line;
      after = later.after;
      are = ap (λ ls. line ∷ ls) later.are;
      number = omega (arith, later.number);
      so_far = later.so_far;
      built = ap (λ r. after_line n r (λ s. built_from step (n + 1) s later.before)) is ∙ later.built;
      fails = later.fails;
    }
stops_at {S} {K} step n start line lines fault (Err kind) is more h =
    let here : fault_at n kind ≡ fault = cc in
    let at : n ≡ fault.line = ap (λ (f : LineFault K). f.line) here in
    record {
      before = [];
      line = line;
      after = lines;
      are = refl;
      number = omega (arith, at);
      so_far = start;
      built = refl;
      fails = is ∙ ap (λ (f : LineFault K). Err f.kind) here;
    }

pub stops : {S K : Type 0} (step : S → List ℕ → Result S K) (n : ℕ) (start : S) (lines : List (List ℕ)) (fault : LineFault K) →
    built_from step n start lines ≡ Err fault → Stops step n start lines fault
stops step n start [] fault h = absurd cc
stops step n start (line ∷ lines) fault h =
    stops_at step n start line lines fault (step start line) refl (λ next k. stops step (n + 1) next lines fault k) h
