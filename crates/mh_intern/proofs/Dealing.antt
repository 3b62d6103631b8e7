-- The keepers, bucket by bucket.
use Rattle.std.proofs.Common.{◌≡◌, ℕ, zero, suc, List, [], ◌∷◌, ◌++◌, length, Some, sym, refl, subst, arith, ◌⊎◌, inl, inr, ⊎_elim}
use mathlib.Core.Option.{some, some-injective, some-ne-none}
use lib.ListN.{get_elem?}
use Rattle.atomic_table.specs.Seated.{TableId}
use Rattle.mh_intern.specs.declared.keeper.Keeper.{Keeper}
use Rattle.mh_intern.specs.Lists.{Listed}
use Rattle.mh_intern.specs.Keep.{IsKeeper}
use Rattle.mh_intern.specs.Claims.{KeeperSlot, HasKeeper}

module _ {A : Type 0} where
  at_end : (l : List A) (a b : A) (j : ℕ) → get_elem? (l ++ a ∷ []) j ≡ some b → (get_elem? l j ≡ some b) ⊎ ((j ≡ length l) × (a ≡ b))
  at_end [] a b zero e = inr (refl, some-injective a b e)
  at_end [] a b (suc j) e = absurd (some-ne-none b (sym e))
  at_end (x ∷ xs) a b zero e = inl e
  at_end (x ∷ xs) a b (suc j) e = ⊎_elim (λ (p : get_elem? xs j ≡ some b). inl p) (λ (p : (j ≡ length xs) × (a ≡ b)). inr (omega (arith, p.0), p.1))
      (at_end xs a b j e)

pub one_more : (holders : TableId) (keepers new : List KeeperSlot) (k : Keeper) → new ≡ keepers ++ Some k ∷ [] → IsKeeper holders (length keepers) k
    → ((b : ℕ) (x : KeeperSlot) → get_elem? keepers b ≡ some x → HasKeeper holders b x) →
    (b : ℕ) (x : KeeperSlot) → get_elem? new b ≡ some x → HasKeeper holders b x
one_more holders keepers new k is good all b x e = ⊎_elim
    (λ (p : get_elem? keepers b ≡ some x). all b x p)
    (λ (p : (b ≡ length keepers) × (Some k ≡ x)). (k, sym p.1, subst (λ (z : ℕ). IsKeeper holders z k) (sym p.0) good))
    (at_end keepers (Some k) x b (subst (λ (l : List KeeperSlot). get_elem? l b ≡ some x) is e))

pub listed_none : (b : ℕ) → Listed b []
listed_none b = record { slots = λ k ne. refl; types = λ t ne. refl; one_slot = λ k. omega arith; one_type = λ t. omega arith }
