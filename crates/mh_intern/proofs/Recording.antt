-- A hold that is counted, or no more, and what is noted of it.
use Rattle.std.proofs.lemmas.Bool.{ne_eqb}
use Rattle.std.proofs.Common.{All, Option, Some, None, Result, Ok, Err, OnOk, OnErr, nat_lt, inl, inr, ⊎_elim, ◌≡◌, ℕ, zero, suc, ◌+◌, ◌-◌, ◌<◌, ◌≤◌, ◌≢◌, ◌==◌, ◌&&◌, Bool, true, false, cond, List, [], ◌∷◌, ◌++◌, length, sum_by, count_by, get_or, drop, set, replicate, refl, sym, ap, ◌∙◌, subst, arith, length-append}
use Rattle.std.proofs.lemmas.List.Sums.{sum_by-cons, sum_by-append}
use native.Mathlib.Decide.{ℕ_discrete}
use mathlib.Core.Logic.{dite}
use mathlib.Core.Option.{some, some-injective, some-ne-none}
use lib.ListN.{get_elem?}
use Rattle.mh_values.specs.declared.types.MethodTy.{MethodTy}
use Rattle.mh_values.specs.Same.{is_same_method_type}
use Rattle.mh_intern.specs.declared.holding.Entry.{Entry}
use Rattle.mh_intern.specs.declared.holding.Holding.{Holding}
use Rattle.mh_intern.specs.declared.notes.Note.{Note}
use Rattle.mh_intern.specs.declared.error.InternError.{InternError}
use Rattle.mh_intern.specs.declared.error.InternError.TheVariants.{NoMemory, TypesFull}
use Rattle.mh_intern.specs.Held.{has}
use Rattle.mh_intern.specs.Kinds.{held_less}
use Rattle.mh_intern.specs.Interning.{Interned}
use Rattle.mh_intern.specs.Lists.{Agrees, entry, is_entry, removed}
use Rattle.mh_intern.specs.Notes.{owed, noted_of, IsCovered, IsNoted, Owe, Records, Forgets, as_kept}
use Rattle.mh_seats.proofs.Totals.{total_set, each_set, each_more}
use Rattle.mh_intern.proofs.Measures.{count_cons}
use Rattle.mh_intern.proofs.Entries.{bit, In, entry-is, entry-itself, removed_count, removed_length}
use Rattle.mh_intern.proofs.Finding.{no_sum, cond_less}
use Rattle.mh_intern.proofs.Noting.{in_counted, noted_held, unowed, counts_one, noted_same}

-- ---- notes of what is counted

-- the notes owe the same
owe_set : (notes : List Note) (i c : ℕ) (m : Note) → get_elem? notes i ≡ some m → Owe notes (set notes i (record m { counted = c }))
owe_set notes i c m at =
    let new : Note = record m { counted = c } in
    record {
      each = λ p. omega (arith, total_set (λ (x : Note). cond (p x.entry) x.owed 0) notes i m new at);
      total = omega (arith, total_set (λ (x : Note). x.owed) notes i m new at);
      covered = λ holds all. each_set (IsCovered holds) notes i new all (all i m at);
    }

owe_same : (notes : List Note) → Owe notes notes
owe_same notes = record { each = λ p. refl; total = refl; covered = λ holds all. all }

pub records_same : (e : Entry) (notes : List Note) → Records e notes notes
records_same e notes = record { owe = owe_same notes; noted = λ k t. omega arith; small = λ lt all. all }

pub records_set : (e : Entry) (notes : List Note) (i c : ℕ) (m : Note) → get_elem? notes i ≡ some m → m.entry ≡ e → c ≤ m.counted + 1
    → Records e notes (set notes i (record m { counted = c }))
records_set e notes i c m at is le =
    let new : Note = record m { counted = c } in
    record {
      owe = owe_set notes i c m at;
      noted = λ k t.
          let q : bit (is_entry m.entry (entry k t)) ≡ bit (is_entry e (entry k t)) = ap (λ z. bit (is_entry z (entry k t))) is in
          omega (
            arith,
            total_set (λ (x : Note). cond (is_entry x.entry (entry k t)) x.counted 0) notes i m new at,
            at_least (is_entry m.entry (entry k t)) m.counted c le,
          );
      small = λ lt all. each_set (λ (x : Note). x.entry.slot < 2048) notes i new all (all i m at);
    }
  where
    at_least : (b : Bool) (x c : ℕ) → c ≤ x + 1 → cond b c 0 ≤ cond b x 0 + bit b
    at_least true x c le = le
    at_least false x c le = omega arith

pub records_push : (e : Entry) (notes : List Note) → Records e notes (notes ++ record { entry = e; counted = 1; owed = 0 } ∷ [])
records_push e notes =
    let new : Note = record { entry = e; counted = 1; owed = 0 } in
    record {
      owe = record {
        each = λ p. omega (
          arith,
          sum_by-append (λ (x : Note). cond (p x.entry) x.owed 0) notes (new ∷ []),
          sum_by-cons (λ (x : Note). cond (p x.entry) x.owed 0) new [],
          none_of (p e),
        );
        total = omega (arith, sum_by-append (λ (x : Note). x.owed) notes (new ∷ []), sum_by-cons (λ (x : Note). x.owed) new []);
        covered = λ holds all. each_more (IsCovered holds) notes new all (λ lt. absurd (omega arith));
      };
      noted = λ k t. omega (
        arith,
        sum_by-append (λ (x : Note). cond (is_entry x.entry (entry k t)) x.counted 0) notes (new ∷ []),
        sum_by-cons (λ (x : Note). cond (is_entry x.entry (entry k t)) x.counted 0) new [],
      );
      small = λ lt all. each_more (λ (x : Note). x.entry.slot < 2048) notes new all lt;
    }
  where
    none_of : (b : Bool) → ◌≡◌ {A = ℕ} (cond b 0 0) 0
    none_of true = refl
    none_of false = refl

-- no hold of the slot is noted as counted
pub forgets_none : (k : ℕ) (notes : List Note) → ((i : ℕ) (n : Note) → get_elem? notes i ≡ some n → n.entry.slot ≡ k → n.counted ≡ 0) → Forgets k notes notes
forgets_none k notes none_are = record {
  owe = owe_same notes;
  fewer = λ j t. omega arith;
  one_less = λ t all. inl (no_sum (λ (x : Note). cond (is_entry x.entry (entry k t)) x.counted 0) notes
      (λ i n at. test n t (is_entry n.entry (entry k t)) refl (none_are i n at)));
  small = λ all. all;
}
  where
    test : (n : Note) (t : MethodTy) (b : Bool) → is_entry n.entry (entry k t) ≡ b → (n.entry.slot ≡ k → n.counted ≡ 0) →
        cond (is_entry n.entry (entry k t)) n.counted 0 ≡ 0
    test n t false q no_one = ap (λ z. cond z n.counted 0) q
    test n t true q no_one = ap (λ z. cond z n.counted 0) q ∙ no_one (ap (λ z. z.slot) (entry-is n.entry (entry k t) q))

pub forgets_set : (k : ℕ) (notes : List Note) (i : ℕ) (m : Note) → get_elem? notes i ≡ some m → m.entry.slot ≡ k → 0 < m.counted
    → Forgets k notes (set notes i (record m { counted = m.counted - 1 }))
forgets_set k notes i m at is lt =
    let new : Note = record m { counted = m.counted - 1 } in
    let sums : (j : ℕ) (t : MethodTy) → noted_of j t (set notes i new) + bit (is_entry m.entry (entry j t)) ≡ noted_of j t notes = λ j t. omega (
      arith,
      total_set (λ (x : Note). cond (is_entry x.entry (entry j t)) x.counted 0) notes i m new at,
      cond_less (is_entry m.entry (entry j t)) m.counted lt,
      small_bit (is_entry m.entry (entry j t)) m.counted lt,
    ) in
    record {
      owe = owe_set notes i (m.counted - 1) m at;
      fewer = λ j t. omega (arith, sums j t);
      one_less = λ t all.
          let same : m.entry ≡ entry k t = λ z. record { slot = is z; ty = all i m at is lt z } in
          let hit : bit (is_entry m.entry (entry k t)) ≡ 1 = ap (λ z. bit (is_entry z (entry k t))) same ∙ ap bit (entry-itself (entry k t)) in
          inr (omega (arith, sums k t));
      small = λ all. each_set (λ (x : Note). x.entry.slot < 2048) notes i new all (all i m at);
    }
  where
    small_bit : (b : Bool) (x : ℕ) → 0 < x → bit b ≤ cond b x 0
    small_bit true x lt = lt
    small_bit false x lt = omega arith

module _ (v : Holding) (notes new : List Note) (n : IsNoted v notes) where
  -- one hold more is counted, and noted
  pub noted_recorded : (e : Entry) (w : Holding) → 1 ≤ (as_kept v).room → w.holds ≡ e ∷ v.holds → w.kept ≡ e ∷ v.kept → w.room ≡ v.room - 1 → e.slot < 2048
      → Records e notes new → IsNoted w new
  noted_recorded e w room holds kept rooms small r =
      let o = counts_one v notes n e w room holds kept rooms in
      record {
        counts = λ p. o.counts p ∙ ap (λ z. count_by p w.holds + z) (sym (r.owe.each p));
        many = o.many ∙ ap (λ z. length w.holds + z) (sym r.owe.total);
        known = λ k t.
            let more : has k t w.holds ≡ bit (is_entry e (entry k t)) + has k t v.holds =
            ap (has k t) holds ∙ count_cons (λ (x : Entry). is_entry x (entry k t)) e v.holds in
            omega (arith, n.known k t, r.noted k t);
        covered = r.owe.covered w.holds o.covered;
        room = omega (arith, o.room, r.owe.total);
        small = r.small small n.small;
      }

  -- one hold less is counted, of a slot of which none is owed
  pub noted_lowered : (e : Entry) → Agrees v.holds → In v.kept e → ((i : ℕ) (m : Note) → get_elem? notes i ≡ some m → m.entry.slot ≡ e.slot → m.owed ≡ 0)
      → Forgets e.slot notes new → IsNoted (held_less e v) new
  noted_lowered e agrees kept unowed f =
      let mine : In v.holds e = in_counted v notes n e kept in
      record {
        counts = λ p. omega (arith, removed_count p e v.kept kept, removed_count p e v.holds mine, n.counts p, f.owe.each p);
        many = omega (arith, removed_length e v.kept kept, removed_length e v.holds mine, n.many, f.owe.total);
        known = λ k t. fewer k t (is_entry e (entry k t)) refl;
        covered = f.owe.covered (removed e v.holds) (λ i m at lt.
            let apart : e.slot ≢ m.entry.slot = λ q. absurd (omega (arith, unowed i m at (sym q))) in
            let off : bit (is_entry e m.entry) ≡ 0 = ap (λ b. bit (b && is_same_method_type e.ty m.entry.ty)) (ne_eqb e.slot m.entry.slot apart) in
            omega (arith, n.covered i m at lt, removed_count (λ (x : Entry). is_entry x m.entry) e v.holds mine));
        room = omega (arith, n.room, f.owe.total);
        small = f.small n.small;
      }
    where
      one_type : (t : MethodTy) → e.ty ≡ t → (i : ℕ) (m : Note) → get_elem? notes i ≡ some m → m.entry.slot ≡ e.slot → 0 < m.counted → m.entry.ty ≡ t
      one_type t same i m at is lt = (agrees m.entry e (noted_held v notes n i m at lt) (in_counted v notes n e kept)).0 is ∙ same

      fewer : (k : ℕ) (t : MethodTy) (b : Bool) → is_entry e (entry k t) ≡ b → noted_of k t new ≤ has k t (removed e v.holds)
      fewer k t false q =
          let off : bit (is_entry e (entry k t)) ≡ 0 = ap bit q in
          omega (arith, f.fewer k t, n.known k t, removed_count (λ (x : Entry). is_entry x (entry k t)) e v.holds (in_counted v notes n e kept))
      fewer k t true q =
          let same : e ≡ entry k t = entry-is e (entry k t) q in
          let hit : bit (is_entry e (entry k t)) ≡ 1 = ap bit q in
          let to_k : noted_of e.slot t new ≡ noted_of k t new = ap (λ z. noted_of z.slot t new) same in
          let from_k : noted_of e.slot t notes ≡ noted_of k t notes = ap (λ z. noted_of z.slot t notes) same in
          ⊎_elim
          (λ (z : noted_of e.slot t notes ≡ 0). omega (arith, f.fewer k t))
          (λ (z : noted_of e.slot t new + 1 ≤ noted_of e.slot t notes). omega (
            arith,
            n.known k t,
            removed_count (λ (x : Entry). is_entry x (entry k t)) e v.holds (in_counted v notes n e kept),
          ))
          (f.one_less t (one_type t (ap (λ z. z.ty) same)))

-- what was answered to a request
pub noted_asked : (v : Holding) (notes : List Note) → IsNoted v notes → (t : MethodTy) (r : Result Entry InternError) (w : Holding) → 1 ≤ (as_kept v).room
    → Interned t v r w → IsNoted w notes
noted_asked v notes n t (Ok e) w room (is, small, now) =
    counts_one v notes n e w room (ap (λ z. z.holds) now) (ap (λ z. z.kept) now) (ap (λ z. z.room) now)
noted_asked v notes n t (Err NoMemory) w room now = noted_same v notes n w (ap (λ z. z.holds) now) (ap (λ z. z.kept) now) (ap (λ z. z.room) now)
noted_asked v notes n t (Err (TypesFull b)) w room (is, (f, for, now)) =
    noted_same v notes n w (ap (λ z. z.holds) now) (ap (λ z. z.kept) now) (ap (λ z. z.room) now)
