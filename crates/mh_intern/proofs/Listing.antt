-- The list of a bucket stays one when an entry is put into it.
use Rattle.std.proofs.Common.{◌≡◌, ℕ, ◌+◌, ◌<◌, ◌≤◌, List, Option, Some, sym, refl, ap, ◌∙◌, subst, arith, ⊎_elim}
use native.Mathlib.Decide.{ℕ_discrete}
use mathlib.Core.Logic.{dite}
use Rattle.mh_values.specs.declared.types.MethodTy.{MethodTy}
use Rattle.mh_values.specs.Same.{is_same_method_type}
use Rattle.mh_intern.specs.declared.holding.Entry.{Entry}
use Rattle.mh_intern.specs.Buckets.{bucket_of, bucket_at}
use Rattle.mh_intern.specs.Held.{on_slot, on_type, has}
use Rattle.mh_intern.specs.Lists.{Listed, Places, FindsEntry}
use Rattle.mh_intern.proofs.Entries.{bit, has-on_slot, type_missed, type_hit, either_type}

pub listed_slot : (b k : ℕ) (t : MethodTy) (es : List Entry) → Listed b es → b < 64 → 0 < has k t es → (k < 2048) × (bucket_at k ≡ b)
listed_slot b k t es l small mine =
    let at : bucket_at k ≡ b = dite (ℕ_discrete (bucket_at k) b) (λ e. e) (λ ne. let z = l.slots k ne in absurd (omega (arith, has-on_slot k t es))) in
    (omega arith, at)

-- an entry that was found in the list: its type, and its slot
pub listed_found : (b : ℕ) (t : MethodTy) (es ds : List Entry) {o : Option Entry} {e : Entry} → Listed b es → b < 64 → ds ≡ es → FindsEntry t ds o → o ≡ Some e
    → (e.ty ≡ t) × (e.slot < 2048) × (bucket_at e.slot ≡ b)
listed_found b t es ds {o} {e} l small is found some_is =
    let f : FindsEntry t es (Some e) = subst (λ (z : List Entry × Option Entry). FindsEntry t z.0 z.1) (λ i. (is i, some_is i)) found in
    let k = listed_slot b e.slot e.ty es l small f.1 in
    (f.0, k.0, k.1)

pub listed_placed : (b : ℕ) (e : Entry) (old new : List Entry) → Listed b old → Places e old new → bucket_of e.ty ≡ b → bucket_at e.slot ≡ b →
    on_type e.ty old ≡ 0 → Listed b new
listed_placed b e old new l p of_type of_slot none =
    let types : (u : MethodTy) → on_type u new ≤ on_type u old + bit (is_same_method_type e.ty u) = p.types in
    record {
      slots = λ k ne. p.slots k (λ q. ne (ap bucket_at q ∙ of_slot)) ∙ l.slots k ne;
      types = λ u ne. omega (arith, types u, type_missed e.ty u (is_same_method_type e.ty u) refl (λ q. ne (ap bucket_of (sym q) ∙ of_type)), l.types u ne);
      one_slot = λ k. dite (ℕ_discrete k e.slot)
          (λ q. subst (λ (z : ℕ). on_slot z new ≤ 1) (sym q) (p.once (l.one_slot e.slot)))
          (λ ne. omega (arith, p.slots k ne, l.one_slot k));
      one_type = λ u. ⊎_elim
          (λ (q : e.ty ≡ u).
          let a : on_type u old ≡ on_type e.ty old = ap (λ (z : MethodTy). on_type z old) (sym q) in
          let o : bit (is_same_method_type e.ty u) ≡ 1 = subst (λ (z : MethodTy). bit (is_same_method_type e.ty z) ≡ 1) q (type_hit e.ty) in
          omega (arith, types u))
          (λ (apart : ¬ (e.ty ≡ u)). omega (arith, types u, type_missed e.ty u (is_same_method_type e.ty u) refl apart, l.one_type u))
          (either_type e.ty u);
    }
