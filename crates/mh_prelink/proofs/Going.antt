-- A worker that goes on.
use Rattle.std.proofs.Common.{◌≡◌, ℕ, ◌+◌, ◌-◌, ◌<◌, [], ◌∷◌, ◌++◌, All, sym, ◌∙◌, subst, arith, None, vec_len, vec_capacity}
use Rattle.std.specs.declared.option.Option.{Option}
use Rattle.std.proofs.lemmas.Fn.{FoldsTo-push}
use Rattle.std.proofs.lemmas.List.Elements.{All-push}
use Rattle.mh_prelink.specs.declared.worked.Work.{Work}
use Rattle.mh_prelink.specs.Steps.{Went, WentUntil, HasUntil, Goes, Ended}

module _ {P E : Type 0} (step : P → ℕ → Option E → P → Type 0) (has : P → ℕ → Type 0) (room : P → ℕ → Type 0) (bound : ℕ) where
  pub goes_ends : (p : P) (w : Work P E) → Goes step has room bound p w → Ended step has room bound p w
  goes_ends p w h = record {
    did = record {
      went = subst (λ s. WentUntil step p w.taken.items s w.pass) (sym h.stop) h.went;
      linked = subst (λ s. HasUntil has w.pass w.taken.items s) (sym h.stop) h.linked;
    };
    goes = λ _. h;
  }

  pub goes_more : (p : P) (w w' : Work P E) (y : ℕ) → Goes step has room bound p w → vec_len w.taken < bound
      → w'.taken.items ≡ w.taken.items ++ y ∷ [] → vec_len w'.taken ≡ vec_len w.taken + 1 → vec_capacity w'.taken ≡ vec_capacity w.taken → w'.stop ≡ w.stop
      → step w.pass y None w'.pass → has w'.pass y → ((k : ℕ) → has w.pass k → has w'.pass k) → ((n : ℕ) → room w.pass (n + 1) → room w'.pass n)
      → Goes step has room bound p w'
  goes_more p w w' y h few items len capacity stop stepped linked kept left =
      let n = bound - vec_len w'.taken in
      let before : bound - vec_len w.taken ≡ n + 1 = omega (arith, len, few) in
      record {
        went = subst (λ z. Went step p z w'.pass) (sym items) (FoldsTo-push (λ m x q. step m x None q) p w.taken.items w.pass y w'.pass h.went stepped);
        linked = subst (λ z. All (has w'.pass) z) (sym items) (All-push (has w'.pass) w.taken.items y (λ k d b. kept _ (h.linked k d b)) linked);
        stop = stop ∙ h.stop;
        left = left n (subst (room w.pass) before h.left);
        capacity = omega (arith, capacity, h.capacity);
      }
