-- Which stop is reported of workers, that have the numbers after those of the plan's threads.
use Rattle.std.proofs.Common.{◌≡◌, refl, sym, ◌∙◌, ap, ap₂, ℕ, suc, ◌+◌, List, [], ◌∷◌, length, Option, None, Some, arith}
use Rattle.std.specs.Prelude.{option_map, slice_get}
use Rattle.mh_jobs.specs.Given.{Given}
use Rattle.mh_attempt.specs.declared.error.WorkError.{WorkError}
use Rattle.mh_attempt.specs.declared.error.WorkError.TheVariants.{NoMemory, FormsFull, TypesFull}
use Rattle.mh_runtime.specs.declared.stops.Stop.{Stop}
use Rattle.mh_runtime.specs.Bases.{Base}
use Rattle.mh_runtime.specs.RunStops.{HasWorked, IsNew, IsStopOfWorkers, raised}
use Rattle.mh_runtime.specs.Stops.{reported_of, stop_after, stop_at, stop_of, stops_after}
use Rattle.mh_runtime.proofs.reports.LowestStops.{reported-lowest}

module _ (threads : ℕ) where
  -- the same stops with higher numbers
  abbrev raise : Option Stop → Option Stop
  raise stop = option_map (raised threads) stop

  reported-raised : (e f : WorkError) (low high : Stop) → reported_of e f (raised threads low) (raised threads high) ≡ raised threads (reported_of e f low high)
  reported-raised NoMemory f low high = refl
  reported-raised (TypesFull bucket) f low high = refl
  reported-raised (FormsFull drawn) NoMemory low high = refl
  reported-raised (FormsFull drawn) (TypesFull bucket) low high = refl
  reported-raised (FormsFull drawn) (FormsFull other) low high = refl

  after-raised : (n : ℕ) (reported : Option Stop) (end : Option WorkError) →
      stop_after (raise reported) (stop_at (threads + n) end) ≡ raise (stop_after reported (stop_at n end))
  after-raised n None None = refl
  after-raised n None (Some e) = refl
  after-raised n (Some low) None = refl
  after-raised n (Some low) (Some f) = ap Some (reported-raised low.error f low (record { thread = n; error = f }))

  stops-raised : (n : ℕ) (reported : Option Stop) (ends : List (Option WorkError)) →
      stops_after (threads + n) (raise reported) ends ≡ raise (stops_after n reported ends)
  stops-raised n reported [] = refl
  stops-raised n reported (end ∷ ends) =
      let next : suc (threads + n) ≡ threads + suc n = omega arith in
      ap₂ (λ k stop. stops_after k stop ends) next (after-raised n reported end) ∙ stops-raised (suc n) (stop_after reported (stop_at n end)) ends

  from-first : (ends : List (Option WorkError)) → stops_after threads None ends ≡ raise (stop_of ends)
  from-first ends =
      let same : threads ≡ threads + 0 = omega arith in
      ap (λ k. stops_after k None ends) same ∙ stops-raised 0 None ends

  the-same : (a b : Stop) → Some a ≡ Some b → a ≡ b
  the-same a b same = cc same

  -- it is that of the lowest worker, as it is of threads
  pub workers-stop : (given : Given) (base : Base) → IsNew given base → (workers : ℕ) (ends : List (Option WorkError)) (stop : Stop) →
      length ends ≡ workers → ((worker : ℕ) (end : Option WorkError) → slice_get ends worker ≡ Some end → HasWorked given base (threads + worker) end) →
      stops_after threads None ends ≡ Some stop → IsStopOfWorkers given workers threads stop
  workers-stop given base base_is workers ends stop count worked is = by (stop_of ends) refl
    where
      by : (own : Option Stop) → stop_of ends ≡ own → IsStopOfWorkers given workers threads stop
      by None none = let other : Some stop ≡ None = sym is ∙ (from-first ends ∙ ap raise none) in absurd (cc other)
      by (Some own) some = record {
        base = base;
        base_is = base_is;
        ends = ends;
        count = count;
        worked = worked;
        own = own;
        reported = reported-lowest ends own some;
        stop_is = the-same stop (raised threads own) (sym is ∙ (from-first ends ∙ ap raise some));
      }
