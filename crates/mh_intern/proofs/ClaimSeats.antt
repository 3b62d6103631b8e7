-- The splits, the joins and the start of the table of claims.
use Rattle.std.proofs.Common.{◌≡◌, ℕ, zero, suc, ◌==◌, inl, List, [], ◌∷◌, map, length, slice_index, set, replicate, sym, refl, ap, ◌∙◌, subst, arith, Some, None}
use Rattle.std.proofs.lemmas.List.{length-replicate, length-map}
use mathlib.Core.Option.{some, some-injective, some-ne-none}
use mathlib.Core.Option as home
use lib.ListN.{get_elem?}
use Rattle.atomic_table.specs.Seated.{TableId}
use Rattle.atomic_table.specs.Table.{Splits, Joins, opening}
use Rattle.mh_intern.specs.declared.keeper.Claimer.{Claimer}
use Rattle.mh_seats.specs.Room.{times}
use Rattle.mh_intern.specs.Claims.{KeeperSlot, HasKeeper, Claimed, unclaimed, claims_joined, spent_claimer}
use Rattle.mh_seats.proofs.Totals.{total_set, total_cut, each_set, each_more}
use Rattle.mh_intern.proofs.Measures.{count_append}
use Rattle.mh_intern.proofs.Claiming.{Names}

module _ (holders : TableId) where
  pub splits_allowed : (id : ℕ) (v : Claimer) → Splits (Claimed holders) id v v (unclaimed v)
  splits_allowed id v s k at = record {
    wide = k.wide;
    many = k.many;
    each = k.each;
    claims = λ b small. omega (arith, total_cut (λ (u : Claimer). times b u.claims) s.views id v v (unclaimed v) at, k.claims b small);
    names = each_more (Names holders) (set s.views id v) (unclaimed v) (each_set (Names holders) s.views id v k.names (k.names id v at)) (k.names id v at);
  }

  pub joins_allowed : (id : ℕ) (v : Claimer) (other : ℕ) (w : Claimer) → Joins (Claimed holders) id v other w (claims_joined v w) spent_claimer
  joins_allowed id v other w s k at apart there =
      let both : Claimer = claims_joined v w in
      record {
        wide = k.wide;
        many = k.many;
        each = k.each;
        claims = λ b small.
            omega (
              arith,
              total_set (λ (u : Claimer). times b u.claims) s.views id v both at,
              total_set (λ (u : Claimer). times b u.claims) (set s.views id both) other w spent_claimer there,
              count_append (λ (y : ℕ). y == b) w.claims v.claims,
              k.claims b small,
            );
        names = each_set (Names holders) (set s.views id both) other spent_claimer (each_set (Names holders) s.views id both k.names (k.names id v at))
            (λ t e. absurd (no_name t e));
      }
    where
      no_name : (t : TableId) → None ≡ Some t → ⊥
      no_name t e = cc

  some_at : (l : List KeeperSlot) (b : ℕ) (h : home.Option KeeperSlot) → get_elem? (map some l) b ≡ some h →
      (x : KeeperSlot) × (h ≡ some x) × (get_elem? l b ≡ some x)
  some_at [] b h e = absurd (some-ne-none h (sym e))
  some_at (x ∷ xs) zero h e = (x, sym (some-injective (some x) h e), refl)
  some_at (x ∷ xs) (suc b) h e = some_at xs b h e

  pub opens : (keepers : List KeeperSlot) (v : Claimer) → length keepers ≡ 64 →
      ((b : ℕ) (x : KeeperSlot) → get_elem? keepers b ≡ some x → HasKeeper holders b x) →
      v.claims ≡ [] → Names holders v
      → Claimed holders (opening (replicate 64 0) keepers v)
  opens keepers v many good unclaimed names = record {
    wide = length-replicate {A = ℕ} 64 0;
    many = length-map keepers some ∙ many;
    each = λ b h e.
        let p = some_at keepers b h e in
        inl (zero_at b, (p.0, p.1, good b p.0 p.2));
    claims = λ b small. let q : times b v.claims ≡ 0 = ap (times b) unclaimed in let z = zero_at b in
        omega (arith, Rattle.std.proofs.lemmas.List.Sums.sum_by-cons (λ (u : Claimer). times b u.claims) v []);
    names = only;
  }
    where
      zero_at : (b : ℕ) → slice_index (replicate 64 0) b ≡ 0
      zero_at b = nil_or 64 b
        where
          nil_or : (n b : ℕ) → slice_index (replicate n 0) b ≡ 0
          nil_or zero b = refl
          nil_or (suc n) zero = refl
          nil_or (suc n) (suc b) = nil_or n b

      only : (i : ℕ) (u : Claimer) → get_elem? (v ∷ []) i ≡ some u → Names holders u
      only zero u e = subst (Names holders) (some-injective v u e) names
      only (suc i) u e = absurd (some-ne-none u (sym e))
