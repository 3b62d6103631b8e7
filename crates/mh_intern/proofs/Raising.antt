-- The raises of a word by a keeper, for a request.
use Rattle.std.proofs.Common.{◌≡◌, ℕ, ◌+◌, ◌%◌, ◌<◌, ◌≤◌, ◌≢◌, ◌==◌, ◌&&◌, List, [], ◌∷◌, sum_by, slice_index, sym, refl, ap, ◌∙◌, subst, arith, ⊎_elim}
use native.Mathlib.Decide.{ℕ_discrete}
use mathlib.Core.Logic.{dite}
use Rattle.atomic_table.specs.Table.{Allows, keeps}
use Rattle.mh_values.specs.declared.types.MethodTy.{MethodTy}
use Rattle.mh_values.specs.Same.{is_same_method_type}
use Rattle.mh_intern.specs.declared.holding.Entry.{Entry}
use Rattle.mh_intern.specs.declared.holding.Holding.{Holding}
use Rattle.mh_intern.specs.Buckets.{bucket_of, bucket_at}
use Rattle.mh_intern.specs.Held.{times_type, on_slot, on_type, has, Fits, Held}
use Rattle.mh_seats.specs.Room.{times, limit}
use Rattle.mh_intern.specs.Lists.{Places}
use Rattle.mh_intern.specs.Kinds.{after_raise}
use Rattle.mh_intern.specs.Plays.{HMe}
use Rattle.mh_seats.proofs.Totals.{total_set, at_most}
use Rattle.mh_intern.proofs.Measures.{count_cons}
use Rattle.mh_intern.proofs.Entries.{type_missed, type_hit, either_type, bit, not_hit, has-on_slot, one_le}
use Rattle.mh_intern.proofs.Turning.{word_fits, Turns, Tallies, turned, same_entries}
use Rattle.mh_intern.proofs.Callers.{slot_hit, slot_missed}
use Rattle.mh_intern.proofs.Keepers.{all_of, zeros_left}

-- a raise of the slot of an entry
pub raises_listed : (slots id k : ℕ) (e : Entry) (me : HMe) → e.slot ≡ k → k < 2048 → 1 ≤ me.0.room → 0 < times (bucket_at k) me.0.keeps →
    0 < has e.slot e.ty me.0.entries
    → Allows Held slots id me k (λ n. (n + 1) % 18446744073709551616) (λ n m. (m.0 ≡ after_raise e me.0.entries me.0) × (m.1 ≡ me.1))
raises_listed slots id k e me is small room kept mine s h _ at _ =
    let v : Holding = me.0 in
    let n : ℕ = slice_index s.words k in
    let w : Holding = after_raise e v.entries v in
    let f : Fits v = h.each id v at in
    let fit : n ≤ limit = word_fits s h k small in
    let no_wrap : (n + 1) % 18446744073709551616 ≡ n + 1 = omega arith in
    let t : Turns k n (n + 1) v w = record {
      weight = omega arith;
      keeps = λ b. refl;
      here = omega (arith, count_cons (λ (x : Entry). x.slot == k) e v.holds, slot_hit e k is);
      there = λ j apart. omega (arith, count_cons (λ (x : Entry). x.slot == j) e v.holds, slot_missed e k j is apart);
      asked = λ u. omega arith;
      used = λ u. omega arith;
      fits = record { slots = f.slots; types = f.types; zeros = λ j none. refl; full = f.full; idle = λ none u. f.idle (omega arith) u };
    } in
    let g : Tallies s id k (n + 1) w = same_entries s h id k (n + 1) v w at refl
    (λ j u none nowhere.
    let m = at_most (λ (x : Holding). has j u x.entries) s.views id v at in
    omega (arith, count_cons (λ (x : Entry). (x.slot == j) && is_same_method_type x.ty u) e v.holds, not_hit e j u v.entries mine (omega arith)))
    (zeros_left s h id k (n + 1) v w at refl small kept) in
    (w, keeps, tt, rw no_wrap (turned s h id k (n + 1) v w at small t g), (refl, refl))

-- a raise of a slot that was noted as zero, for a type that has no entry
pub raises_new : (slots id k : ℕ) (e : Entry) (entries : List Entry) (me : HMe) → e.slot ≡ k → k < 2048 → 1 ≤ me.0.room → 0 < times (bucket_at k) me.0.keeps
    → bucket_of e.ty ≡ bucket_at k → me.0.wanted ≡ e.ty ∷ [] → 0 < times k me.0.zeros → on_type e.ty me.0.entries ≡ 0 → Places e me.0.entries entries
    → Allows Held slots id me k (λ n. (n + 1) % 18446744073709551616) (λ n m. (m.0 ≡ after_raise e entries me.0) × (m.1 ≡ me.1))
raises_new slots id k e entries me is small room kept here wanted zero_read absent p s h _ at _ =
    let v : Holding = me.0 in
    let n : ℕ = slice_index s.words k in
    let w : Holding = after_raise e entries v in
    let f : Fits v = h.each id v at in
    let m0 = at_most (λ (u : Holding). times k u.zeros) s.views id v at in
    let n0 : n ≡ 0 = h.zeros k (omega arith) in
    let no_wrap : (n + 1) % 18446744073709551616 ≡ n + 1 = omega arith in
    let b : ℕ = bucket_at k in
    let small_b : b < 64 = omega arith in
    let kept_type : 0 < times (bucket_of e.ty) v.keeps = subst (λ (z : ℕ). 0 < times z v.keeps) (sym here) kept in
    let my_slot : on_slot k v.entries ≡ sum_by (λ u. on_slot k u.entries) s.views = all_of s h id b v at small_b kept (λ u. on_slot k u.entries)
    (λ u fu none. fu.slots k none) in
    let my_type : on_type e.ty v.entries ≡ sum_by (λ u. on_type e.ty u.entries) s.views =
    all_of s h id b v at small_b kept (λ u. on_type e.ty u.entries) (λ u fu none. fu.types e.ty (subst (λ (z : ℕ). times z u.keeps ≡ 0) (sym here) none)) in
    let other_slot : (j : ℕ) → j ≢ k → on_slot j entries ≡ on_slot j v.entries = λ j apart. p.slots j (λ q. apart (q ∙ is)) in
    let once : on_slot k v.entries ≤ 1 → on_slot k entries ≤ 1 = subst (λ (z : ℕ). on_slot z v.entries ≤ 1 → on_slot z entries ≤ 1) is p.once in
    let types : (u : MethodTy) → on_type u entries ≤ on_type u v.entries + bit (is_same_method_type e.ty u) = p.types in
    let t : Turns k n (n + 1) v w = record {
      weight = omega arith;
      keeps = λ b. refl;
      here = omega (arith, count_cons (λ (x : Entry). x.slot == k) e v.holds, slot_hit e k is);
      there = λ j apart. omega (arith, count_cons (λ (x : Entry). x.slot == j) e v.holds, slot_missed e k j is apart);
      asked = λ u. omega arith;
      used = λ u.
          let q : times_type u v.wanted ≡ times_type u (e.ty ∷ []) = ap (times_type u) wanted in
          omega (arith, types u, count_cons (λ (x : MethodTy). is_same_method_type x u) e.ty []);
      fits = record {
        slots = λ j none. dite (ℕ_discrete j k)
            (λ same. let q : times (bucket_at j) v.keeps ≡ times (bucket_at k) v.keeps = ap (λ (z : ℕ). times (bucket_at z) v.keeps) same in
            absurd (omega arith))
            (λ apart. other_slot j apart ∙ f.slots j none);
        types = λ u none. ⊎_elim
            (λ (same : e.ty ≡ u). let q : times (bucket_of e.ty) v.keeps ≡ times (bucket_of u) v.keeps =
            ap (λ (z : MethodTy). times (bucket_of z) v.keeps) same in absurd (omega arith))
            (λ (apart : ¬ (e.ty ≡ u)). omega (arith, types u, type_missed e.ty u (is_same_method_type e.ty u) refl apart, f.types u none))
            (either_type e.ty u);
        zeros = λ j none. refl;
        full = f.full;
        idle = λ none u. f.idle (omega arith) u;
      };
    } in
    let free : sum_by (λ u. on_slot k u.holds) s.views ≡ 0 = sym (h.words k small) ∙ n0 in
    let g : Tallies s id k (n + 1) w = record {
      slots = λ j.
          let c = total_set (λ (u : Holding). on_slot j u.entries) s.views id v w at in
          dite (ℕ_discrete j k)
          (λ same.
          let a : on_slot j entries ≡ on_slot k entries = ap (λ (z : ℕ). on_slot z entries) same in
          let a' : on_slot j v.entries ≡ on_slot k v.entries = ap (λ (z : ℕ). on_slot z v.entries) same in
          let a'' : sum_by (λ u. on_slot j u.entries) s.views ≡ sum_by (λ u. on_slot k u.entries) s.views =
          ap (λ (z : ℕ). sum_by (λ u. on_slot z u.entries) s.views) same in
          let o = once (omega (arith, h.slots k)) in
          omega arith)
          (λ apart. omega (arith, other_slot j apart, h.slots j));
      types = λ u.
          let c = total_set (λ (x : Holding). on_type u x.entries) s.views id v w at in
          ⊎_elim
          (λ (same : e.ty ≡ u).
          let a : on_type u v.entries ≡ on_type e.ty v.entries = ap (λ (z : MethodTy). on_type z v.entries) (sym same) in
          let a' : sum_by (λ x. on_type u x.entries) s.views ≡ sum_by (λ x. on_type e.ty x.entries) s.views =
          ap (λ (z : MethodTy). sum_by (λ x. on_type z x.entries) s.views) (sym same) in
          let o : bit (is_same_method_type e.ty u) ≡ 1 = subst (λ (z : MethodTy). bit (is_same_method_type e.ty z) ≡ 1) same (type_hit e.ty) in
          omega (arith, types u))
          (λ (apart : ¬ (e.ty ≡ u)). omega (arith, types u, type_missed e.ty u (is_same_method_type e.ty u) refl apart, h.types u))
          (either_type e.ty u);
      held = λ j u none.
          let c = total_set (λ (x : Holding). has j u x.entries) s.views id v w at in
          let d = total_set (λ (x : Holding). has j u x.holds) s.views id v w at in
          let mine : 0 < has e.slot e.ty entries = p.mine in
          let now : has j u entries ≡ 0 = let z = at_most (λ (x : Holding). has j u x.entries) s.views id v at in omega arith in
          let new : has j u (e ∷ v.holds) ≡ has j u v.holds =
          omega (arith, count_cons (λ (x : Entry). (x.slot == j) && is_same_method_type x.ty u) e v.holds, not_hit e j u entries mine now) in
          dite (ℕ_discrete j k)
          (λ same.
          let le : sum_by (λ x. has j u x.holds) s.views ≤ sum_by (λ x. on_slot j x.holds) s.views =
          one_le (λ (x : Holding). has j u x.holds) (λ x. on_slot j x.holds) (λ x. has-on_slot j u x.holds) s.views in
          let a : sum_by (λ x. on_slot j x.holds) s.views ≡ sum_by (λ x. on_slot k x.holds) s.views =
          ap (λ (z : ℕ). sum_by (λ x. on_slot z x.holds) s.views) same in
          omega arith)
          (λ apart.
          let o : has j u entries ≡ has j u v.entries = p.others j u (λ q. apart (q ∙ is)) in
          let old = h.held j u (omega arith) in
          omega arith);
      zeros = zeros_left s h id k (n + 1) v w at refl small kept;
    } in
    (w, keeps, tt, rw no_wrap (turned s h id k (n + 1) v w at small t g), (refl, refl))
