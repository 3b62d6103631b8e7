-- A join keeps the rule.
use Rattle.std.proofs.Common.{◌≡◌, ℕ, ◌+◌, sum_by, set, sym, refl, ◌∙◌, arith}
use Rattle.std.proofs.lemmas.List.Elements.{All-append, All-nil}
use mathlib.Core.Option.{some}
use lib.ListN.{get_elem?}
use Rattle.atomic_table.specs.Table.{Joins}
use Rattle.atomic_table.proofs.Lists.{set_else}
use Rattle.mh_intern.specs.declared.holding.Holding.{Holding}
use Rattle.mh_intern.specs.Buckets.{bucket_of, bucket_at}
use Rattle.mh_intern.specs.Held.{on_slot, on_type, has, weight, asks, uses, IsFull, Fits, Held}
use Rattle.mh_seats.specs.Room.{times}
use Rattle.mh_intern.specs.Kinds.{joined_views, nothing}
use Rattle.mh_seats.proofs.Totals.{total_set, each_set}
use Rattle.mh_intern.proofs.Measures.{weight_joined, keeps_joined, zeros_joined, on_slot-holds_joined, on_slot_joined, on_type_joined, has-holds_joined, has_joined, asks_joined, uses_joined}

fits_joined : (v w : Holding) → Fits v → Fits w → Fits (joined_views v w)
fits_joined v w f g = record {
  slots = λ k e. omega (
    arith,
    on_slot_joined v w k,
    f.slots k (omega (arith, keeps_joined v w (bucket_at k))),
    g.slots k
        (omega (arith, keeps_joined v w (bucket_at k))),
  );
  types = λ t e. omega (
    arith,
    on_type_joined v w t,
    f.types t (omega (arith, keeps_joined v w (bucket_of t))),
    g.types t
        (omega (arith, keeps_joined v w (bucket_of t))),
  );
  zeros = λ k e. omega (
    arith,
    zeros_joined v w k,
    f.zeros k (omega (arith, keeps_joined v w (bucket_at k))),
    g.zeros k
        (omega (arith, keeps_joined v w (bucket_at k))),
  );
  full = All-append IsFull w.full v.full g.full f.full;
  idle = λ e t. omega (arith, asks_joined v w t, f.idle (omega (arith, weight_joined v w)) t, g.idle (omega (arith, weight_joined v w)) t);
}

fits_nothing : Fits nothing
fits_nothing = record { slots = λ k e. refl; types = λ t e. refl; zeros = λ k e. refl; full = All-nil IsFull; idle = λ e t. refl }

pub joins_allowed : (id : ℕ) (v : Holding) (other : ℕ) (w : Holding) → Joins Held id v other w (joined_views v w) nothing
joins_allowed id v other w s h at apart there =
    let both : Holding = joined_views v w in
    let same : (f : Holding → ℕ) → f both ≡ f v + f w → f nothing ≡ 0 → sum_by f (set (set s.views id both) other nothing) ≡ sum_by f s.views =
    λ f added spent. omega (arith, total_set f s.views id v both at, total_set f (set s.views id both) other w nothing there) in
    let theirs : get_elem? s.views other ≡ some w = sym (set_else s.views id other both apart) ∙ there in
    record {
      wide = h.wide;
      words = λ k lt. h.words k lt ∙ sym (same (λ u. on_slot k u.holds) (on_slot-holds_joined v w k) refl);
      whole = same weight (weight_joined v w) refl ∙ h.whole;
      keepers = λ b lt. same (λ u. times b u.keeps) (keeps_joined v w b) refl ∙ h.keepers b lt;
      slots = λ k. omega (arith, same (λ u. on_slot k u.entries) (on_slot_joined v w k) refl, h.slots k);
      types = λ t. omega (arith, same (λ u. on_type t u.entries) (on_type_joined v w t) refl, h.types t);
      held = λ k t e. same (λ u. has k t u.holds) (has-holds_joined v w k t) refl ∙ h.held k t (sym (same (λ u. has k t u.entries) (has_joined v w k t) refl) ∙
          e);
      zeros = λ k lt. h.zeros k (omega (arith, same (λ u. times k u.zeros) (zeros_joined v w k) refl));
      asked = λ t e. same (uses t) (uses_joined v w t) refl ∙ h.asked t (sym (same (asks t) (asks_joined v w t) refl) ∙ e);
      each = each_set Fits (set s.views id both) other nothing (each_set Fits s.views id both h.each (fits_joined v w (h.each id v at) (h.each other w theirs)))
          fits_nothing;
    }
