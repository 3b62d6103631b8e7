-- Reading the pool one entry after the other, as a loop does.
use Rattle.std.proofs.Common.{◌≡◌, ℕ, suc, ◌-◌, ◌+◌, ◌≤◌, ◌<◌, ◌^◌, Bool, true, false, eqb, leb, List, [], ◌∷◌, ◌++◌, length, Some, None, Ok, Err, refl, sym, ap, subst, ◌∙◌, append_assoc, arith}
use Rattle.std.proofs.lemmas.List.{length-append}
use Rattle.mh_class_bytes.specs.Bytes.{MovesOn}
use Rattle.mh_class_bytes.specs.Position.{Position}
use Rattle.mh_class_bytes.specs.declared.fault.Fault.{Fault}
use Rattle.mh_class_bytes.specs.Format.{reads, repeated}
use Rattle.mh_class_bytes.proofs.Moves.{moves_again}
use Rattle.mh_class_bytes.proofs.Repeated.{repeated-step, repeated-err, repeated_idle}
use Rattle.mh_class_pool.specs.declared.entry.Entry.{Entry}
use Rattle.mh_class_pool.specs.declared.fault.ClassKind.{ClassKind}
use Rattle.mh_class_pool.specs.Entries.{Slot, entry, is_wide, is_full, if_dynamic, indexes_of, next_slots, pool_of, AreKept}
use Rattle.mh_class_pool.proofs.NextEntry.{step, step-err, idle}
use Rattle.mh_class_pool.proofs.Dynamics.{no_dynamics, if_dynamic-few, dynamics-narrow, dynamics-wide}

-- the loop's state: what is read before, followed by what is still read, is the pool
pub record IsReading (start p : Position) (slots : List Slot) (kept : List ℕ) (count : ℕ) : Type 0 where
  pub moves : MovesOn start p
  pub most : ℕ
  pub enough : count ≤ length slots + most
  pub so_far : reads (repeated (next_slots count) most slots) p ≡ reads (pool_of count) start
  pub are_kept : AreKept slots kept
  pub small : count < 2 ^ 16

-- what is asked of the next entry, by what was kept so far
pub record IsAsked (slots : List Slot) (kept : List ℕ) (count : ℕ) (is_last is_filled : Bool) : Type 0 where
  pub left : length slots < count
  pub last : is_last ≡ eqb (length slots + 1) count
  pub filled : is_filled ≡ leb 256 (length kept)

pub starts : (start : Position) (count : ℕ) → count < 2 ^ 16 → IsReading start start (None ∷ []) [] count
starts start count small = record {
  moves = record { bytes = refl; onward = omega arith };
  most = count;
  enough = omega arith;
  so_far = refl;
  are_kept = record { dynamics = sym no_dynamics; few = omega arith; small = omega arith };
  small = small;
}

module _ (start p : Position) (slots : List Slot) (kept : List ℕ) (count : ℕ) (is_last is_filled : Bool) (r : IsReading start p slots kept count)
    (asked : IsAsked slots kept count is_last is_filled) where
  -- the tests of the next entry, in terms of the slots so far
  tests : entry is_last is_filled ≡ entry (eqb (length slots + 1) count) (is_full slots)
  tests =
      let filled : is_filled ≡ is_full slots = asked.filled ∙ ap (λ (xs : List ℕ). leb 256 (length xs)) r.are_kept.dynamics in
      rw (asked.last, filled) refl

  -- what is still read, by one step and the others
  step_first : reads (repeated (next_slots count) (suc (r.most - 1)) slots) p ≡ reads (pool_of count) start
  step_first =
      let some : r.most ≡ suc (r.most - 1) = omega (arith, r.enough, asked.left) in
      subst (λ (n : ℕ). reads (repeated (next_slots count) n slots) p ≡ reads (pool_of count) start) some r.so_far

  module _ (q : Position) (e : Entry) (h : reads (entry is_last is_filled) p ≡ Ok (e, q)) (m : MovesOn p q) where
    -- what is read next, if an index is left
    stepped : (all : List Slot) → slots ++ indexes_of p.at e ≡ all → reads (repeated (next_slots count) (r.most - 1) all) q ≡ reads (pool_of count) start
    stepped all same =
        let next : reads (next_slots count slots) p ≡ Ok (slots ++ indexes_of p.at e, q) =
        step count slots p q e asked.left (ap (λ f. reads f p) (sym tests) ∙ h) in
        subst (λ (x : List Slot). reads (repeated (next_slots count) (r.most - 1) x) q ≡ reads (pool_of count) start) same
        (sym (repeated-step (next_slots count) (r.most - 1) slots (slots ++ indexes_of p.at e) p q next) ∙ step_first)

    pub next_narrow : is_wide e ≡ false → IsReading start q (slots ++ Some (p.at, e) ∷ []) (kept ++ if_dynamic (length slots) e) count
    next_narrow narrow =
        let indexes : indexes_of p.at e ≡ Some (p.at, e) ∷ [] = rw narrow refl in
        record {
          moves = moves_again r.moves m;
          most = r.most - 1;
          enough = omega (arith, r.enough, asked.left, length-append slots (Some (p.at, e) ∷ []));
          so_far = stepped (slots ++ Some (p.at, e) ∷ []) (ap (λ (x : List Slot). slots ++ x) indexes);
          are_kept = record {
            dynamics = dynamics-narrow slots kept p.at e r.are_kept.dynamics;
            few = omega (arith, r.are_kept.few, if_dynamic-few kept (length slots) e, length-append slots (Some (p.at, e) ∷ []));
            small = omega (arith, r.small, asked.left, length-append slots (Some (p.at, e) ∷ []));
          };
          small = r.small;
        }

    pub next_wide : is_wide e ≡ true → IsReading start q ((slots ++ Some (p.at, e) ∷ []) ++ None ∷ []) (kept ++ if_dynamic (length slots) e) count
    next_wide wide =
        let one = length-append slots (Some (p.at, e) ∷ []) in
        let two = length-append (slots ++ Some (p.at, e) ∷ []) (None ∷ []) in
        let indexes : indexes_of p.at e ≡ Some (p.at, e) ∷ None ∷ [] = rw wide refl in
        record {
          moves = moves_again r.moves m;
          most = r.most - 1;
          enough = omega (arith, r.enough, asked.left, one, two);
          so_far = stepped ((slots ++ Some (p.at, e) ∷ []) ++ None ∷ [])
              (ap (λ (x : List Slot). slots ++ x) indexes ∙ sym (append_assoc slots (Some (p.at, e) ∷ []) (None ∷ [])));
          are_kept = record {
            dynamics = dynamics-wide slots kept p.at e r.are_kept.dynamics;
            few = omega (arith, r.are_kept.few, if_dynamic-few kept (length slots) e, one, two);
            small = omega (arith, r.small, asked.left, one, two);
          };
          small = r.small;
        }

  pub stops : (f : Fault ClassKind) → reads (entry is_last is_filled) p ≡ Err f → reads (pool_of count) start ≡ Err f
  stops f h =
      let here : reads (next_slots count slots) p ≡ Err f = step-err count slots p f asked.left (ap (λ g. reads g p) (sym tests) ∙ h) in
      sym step_first ∙ repeated-err (next_slots count) (r.most - 1) slots p f here

pub all_read : (start p : Position) (slots : List Slot) (kept : List ℕ) (count : ℕ) → IsReading start p slots kept count → count ≤ length slots →
    reads (pool_of count) start ≡ Ok (slots, p)
all_read start p slots kept count r enough =
    sym r.so_far ∙ repeated_idle (next_slots count) r.most slots p (idle count slots p enough)
