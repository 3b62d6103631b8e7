-- A split keeps the rule.
use Rattle.std.proofs.Common.{◌≡◌, ℕ, ◌+◌, ◌≤◌, [], ◌∷◌, ◌++◌, sum_by, set, sym, ◌∙◌, arith}
use Rattle.atomic_table.specs.Table.{Splits}
use Rattle.mh_values.specs.declared.types.MethodTy.{MethodTy}
use Rattle.mh_intern.specs.declared.holding.Holding.{Holding}
use Rattle.mh_intern.specs.Held.{on_slot, on_type, has, weight, asks, uses, Fits, Held}
use Rattle.mh_seats.specs.Room.{times}
use Rattle.mh_seats.proofs.Totals.{total_cut, each_set, each_more}

-- the two parts of a view: what was after_read may be lost, and more may be asked for
pub record Parts (v l r : Holding) : Type 0 where
  pub weight : weight v ≡ weight l + weight r
  pub keeps : (b : ℕ) → times b v.keeps ≡ times b l.keeps + times b r.keeps
  pub of_slot : (k : ℕ) → on_slot k v.holds ≡ on_slot k l.holds + on_slot k r.holds
  pub holds : (k : ℕ) (t : MethodTy) → has k t v.holds ≡ has k t l.holds + has k t r.holds
  pub slots : (k : ℕ) → on_slot k v.entries ≡ on_slot k l.entries + on_slot k r.entries
  pub types : (t : MethodTy) → on_type t v.entries ≡ on_type t l.entries + on_type t r.entries
  pub entries : (k : ℕ) (t : MethodTy) → has k t v.entries ≡ has k t l.entries + has k t r.entries
  pub zeros : (k : ℕ) → times k l.zeros + times k r.zeros ≤ times k v.zeros
  pub asked : (t : MethodTy) → asks t v ≤ asks t l + asks t r
  pub used : (t : MethodTy) → asks t l + asks t r ≡ 0 → uses t v ≡ 0 → uses t l + uses t r ≡ 0
  pub left : Fits l
  pub right : Fits r

pub parts_allowed : (id : ℕ) (v l r : Holding) → ((Fits v) → Parts v l r) → Splits Held id v l r
parts_allowed id v l r made s h at =
    let p : Parts v l r = made (h.each id v at) in
    let same : (f : Holding → ℕ) → f v ≡ f l + f r → sum_by f (set s.views id l ++ r ∷ []) ≡ sum_by f s.views =
    λ f e. omega (arith, total_cut f s.views id v l r at) in
    record {
      wide = h.wide;
      words = λ k lt. h.words k lt ∙ sym (same (λ u. on_slot k u.holds) (p.of_slot k));
      whole = same weight p.weight ∙ h.whole;
      keepers = λ b lt. same (λ u. times b u.keeps) (p.keeps b) ∙ h.keepers b lt;
      slots = λ k. omega (arith, same (λ u. on_slot k u.entries) (p.slots k), h.slots k);
      types = λ t. omega (arith, same (λ u. on_type t u.entries) (p.types t), h.types t);
      held = λ k t e. same (λ u. has k t u.holds) (p.holds k t) ∙ h.held k t (sym (same (λ u. has k t u.entries) (p.entries k t)) ∙ e);
      zeros = λ k lt. h.zeros k (omega (arith, total_cut (λ (u : Holding). times k u.zeros) s.views id v l r at, p.zeros k));
      asked = λ t e.
          let a = total_cut (asks t) s.views id v l r at in
          let b = total_cut (uses t) s.views id v l r at in
          let more = p.asked t in
          let m = Rattle.mh_seats.proofs.Totals.at_most (asks t) s.views id v at in
          let old : sum_by (uses t) s.views ≡ 0 = h.asked t (omega arith) in
          let m' = Rattle.mh_seats.proofs.Totals.at_most (uses t) s.views id v at in
          let none : uses t l + uses t r ≡ 0 = p.used t (omega arith) (omega arith) in
          omega arith;
      each = each_more Fits (set s.views id l) r (each_set Fits s.views id l h.each p.left) p.right;
    }
