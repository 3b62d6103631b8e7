-- Which stop is reported once one thread more has ended, and what is known then.
use Rattle.std.proofs.Common.{◌≡◌, refl, sym, ◌∙◌, ap, subst, ℕ, suc, ◌+◌, List, [], ◌∷◌, ◌++◌, length, Option, None, Some, arith}
use Rattle.mh_attempt.specs.declared.error.WorkError.{WorkError}
use Rattle.mh_attempt.specs.declared.error.WorkError.TheVariants.{NoMemory, FormsFull, TypesFull}
use Rattle.mh_runtime.specs.declared.stops.Stop.{Stop}
use Rattle.mh_runtime.specs.Joining.{IfDrawsKnown, IfForms}
use Rattle.mh_runtime.specs.Stops.{stop_after, stop_at, stop_of, stops_after, reported_of}

-- ---- which stop

-- one thread more has ended
pub stops-push : (thread : ℕ) (reported : Option Stop) (ends : List (Option WorkError)) (end : Option WorkError) →
    stops_after thread reported (ends ++ end ∷ []) ≡ stop_after (stops_after thread reported ends) (stop_at (thread + length ends) end)
stops-push thread reported [] end =
    let same : thread ≡ thread + 0 = omega arith in ap (λ n. stop_after reported (stop_at n end)) same
stops-push thread reported (first ∷ ends) end =
    let same : suc thread + length ends ≡ thread + suc (length ends) = omega arith in
    stops-push (suc thread) (stop_after reported (stop_at thread first)) ends end
    ∙ ap (λ n. stop_after (stops_after (suc thread) (stop_after reported (stop_at thread first)) ends) (stop_at n end)) same

pub stop-of-push : (ends : List (Option WorkError)) (end : Option WorkError) (n : ℕ) → n ≡ length ends →
    stop_of (ends ++ end ∷ []) ≡ stop_after (stop_of ends) (stop_at n end)
stop-of-push ends end n is =
    let same : 0 + length ends ≡ n = omega (arith, is) in
    stops-push 0 None ends end ∙ ap (λ k. stop_after (stop_of ends) (stop_at k end)) same

-- ---- what is known of it

-- P holds unless the thread has stopped for want of memory
abbrev pub IfMemory : Option WorkError → Type 0 → Type 0
IfMemory None P = P
IfMemory (Some (FormsFull drawn)) P = P
IfMemory (Some (TypesFull bucket)) P = P
IfMemory (Some NoMemory) P = Unit {0}

-- what holds of the error of either stop holds of that which is reported
pub reported-either : (P : WorkError → Type 0) (e f : WorkError) (low high : Stop) → low.error ≡ e → high.error ≡ f → P e → P f →
    P (reported_of e f low high).error
reported-either P NoMemory f low high is_low is_high one other = subst P (sym is_low) one
reported-either P (TypesFull bucket) f low high is_low is_high one other = subst P (sym is_low) one
reported-either P (FormsFull drawn) NoMemory low high is_low is_high one other = subst P (sym is_high) other
reported-either P (FormsFull drawn) (TypesFull bucket) low high is_low is_high one other = subst P (sym is_low) one
reported-either P (FormsFull drawn) (FormsFull other_drawn) low high is_low is_high one other = subst P (sym is_low) one

module _ (P Q D : Type 0) (step : P → D → Q) where
  -- the lower stop stays
  kept : (e : WorkError) → D → IfForms e P → IfForms e Q
  kept NoMemory own known = tt
  kept (TypesFull bucket) own known = tt
  kept (FormsFull drawn) own known = step known own

  -- there is another one
  kept-reported : (e f : WorkError) (low high : Stop) → low.error ≡ e → high.error ≡ f → IfForms e P → IfMemory (Some f) D →
      IfForms (reported_of e f low high).error Q
  kept-reported NoMemory f low high is_low is_high known own = subst (λ x. IfForms x Q) (sym is_low) tt
  kept-reported (TypesFull bucket) f low high is_low is_high known own = subst (λ x. IfForms x Q) (sym is_low) tt
  kept-reported (FormsFull drawn) NoMemory low high is_low is_high known own = subst (λ x. IfForms x Q) (sym is_high) tt
  kept-reported (FormsFull drawn) (TypesFull bucket) low high is_low is_high known own = subst (λ x. IfForms x Q) (sym is_low) (step known own)
  kept-reported (FormsFull drawn) (FormsFull other) low high is_low is_high known own = subst (λ x. IfForms x Q) (sym is_low) (step known own)

  -- one thread more has ended, of which D is known unless it had no memory
  pub draws-next : (thread : ℕ) (reported : Option Stop) (end : Option WorkError) → IfMemory end D → IfDrawsKnown reported P →
      IfDrawsKnown (stop_after reported (stop_at thread end)) Q
  draws-next thread None None own known = step known own
  draws-next thread None (Some NoMemory) own known = tt
  draws-next thread None (Some (TypesFull bucket)) own known = tt
  draws-next thread None (Some (FormsFull drawn)) own known = step known own
  draws-next thread (Some low) None own known = kept low.error own known
  draws-next thread (Some low) (Some f) own known = kept-reported low.error f low (record { thread = thread; error = f }) refl refl known own
