-- What is counted of a view, in lists that are put together.
use Rattle.std.proofs.Common.{◌≡◌, ℕ, ◌+◌, ◌==◌, ◌&&◌, Bool, cond, List, ◌∷◌, ◌++◌, count_by, arith, length-append}
use Rattle.std.proofs.lemmas.List.Sums.{sum_by-cons, sum_by-append}
use Rattle.mh_values.specs.declared.types.MethodTy.{MethodTy}
use Rattle.mh_values.specs.Same.{is_same_method_type}
use Rattle.mh_intern.specs.declared.holding.Entry.{Entry}
use Rattle.mh_intern.specs.declared.holding.FullBucket.{FullBucket}
use Rattle.mh_intern.specs.declared.holding.Holding.{Holding}
use Rattle.mh_intern.specs.Held.{times_type, on_slot, on_type, has, weight, asks, uses}
use Rattle.mh_seats.specs.Room.{times}
use Rattle.mh_intern.specs.Kinds.{joined_views}

module _ {A : Type 0} (p : A → Bool) where
  pub count_append : (xs ys : List A) → count_by p (xs ++ ys) ≡ count_by p xs + count_by p ys
  count_append xs ys = sum_by-append (λ x. cond (p x) 1 0) xs ys

  pub count_cons : (x : A) (xs : List A) → count_by p (x ∷ xs) ≡ cond (p x) 1 0 + count_by p xs
  count_cons x xs = sum_by-cons (λ x. cond (p x) 1 0) x xs

-- how often a type stands in two lists, one after the other
pub times_type-append : (t : MethodTy) (ts us : List MethodTy) → times_type t (ts ++ us) ≡ times_type t ts + times_type t us
times_type-append t ts us = count_append (λ (u : MethodTy). is_same_method_type u t) ts us

-- what is counted of two views that are joined
module _ (v w : Holding) where
  pub weight_joined : weight (joined_views v w) ≡ weight v + weight w
  weight_joined = omega (arith, length-append w.holds v.holds)

  pub keeps_joined : (b : ℕ) → times b (joined_views v w).keeps ≡ times b v.keeps + times b w.keeps
  keeps_joined b = omega (arith, count_append (λ (y : ℕ). y == b) w.keeps v.keeps)

  pub zeros_joined : (b : ℕ) → times b (joined_views v w).zeros ≡ times b v.zeros + times b w.zeros
  zeros_joined b = omega (arith, count_append (λ (y : ℕ). y == b) w.zeros v.zeros)

  pub on_slot-holds_joined : (k : ℕ) → on_slot k (joined_views v w).holds ≡ on_slot k v.holds + on_slot k w.holds
  on_slot-holds_joined k = omega (arith, count_append (λ (e : Entry). e.slot == k) w.holds v.holds)

  pub on_slot_joined : (k : ℕ) → on_slot k (joined_views v w).entries ≡ on_slot k v.entries + on_slot k w.entries
  on_slot_joined k = omega (arith, count_append (λ (e : Entry). e.slot == k) w.entries v.entries)

  pub on_type_joined : (t : MethodTy) → on_type t (joined_views v w).entries ≡ on_type t v.entries + on_type t w.entries
  on_type_joined t = omega (arith, count_append (λ (e : Entry). is_same_method_type e.ty t) w.entries v.entries)

  pub has-holds_joined : (k : ℕ) (t : MethodTy) → has k t (joined_views v w).holds ≡ has k t v.holds + has k t w.holds
  has-holds_joined k t = omega (arith, count_append (λ (e : Entry). (e.slot == k) && is_same_method_type e.ty t) w.holds v.holds)

  pub has_joined : (k : ℕ) (t : MethodTy) → has k t (joined_views v w).entries ≡ has k t v.entries + has k t w.entries
  has_joined k t = omega (arith, count_append (λ (e : Entry). (e.slot == k) && is_same_method_type e.ty t) w.entries v.entries)

  pub asks_joined : (t : MethodTy) → asks t (joined_views v w) ≡ asks t v + asks t w
  asks_joined t = omega (arith, count_append (λ (u : MethodTy). is_same_method_type u t) w.asked v.asked)

  pub uses_joined : (t : MethodTy) → uses t (joined_views v w) ≡ uses t v + uses t w
  uses_joined t =
      omega (
        arith,
        on_type_joined t,
        count_append (λ (u : MethodTy). is_same_method_type u t) w.wanted v.wanted,
        sum_by-append
            (λ (f : FullBucket). on_type t f.entries) w.full v.full,
      )
