-- The different types that recorded targets hold.
use Rattle.std.proofs.Common.{◌≡◌, refl, sym, ◌∙◌, ap, subst, ℕ, zero, suc, ◌+◌, ◌<◌, Bool, true, List, [], ◌∷◌}
use Rattle.std.proofs.Common.{⊎_elim, Option, None, Some, arith}
use Rattle.std.specs.Prelude.{Contains}
use Rattle.std.specs.List.{flat_map, list_any}
use Rattle.std.proofs.lemmas.Bool.{or_cases, or_left, or_right}
use Rattle.std.proofs.lemmas.List.Folds.{list_any-append}
use Rattle.std.proofs.lemmas.Map.Made.{length-from_keys}
use Rattle.mh_base.proofs.Tests.{same_tests}
use Rattle.mh_values.specs.declared.types.MethodTy.{MethodTy}
use Rattle.mh_values.specs.Same.{is_same_method_type}
use Rattle.mh_intern.specs.declared.holding.Entry.{Entry}
use Rattle.mh_intern.specs.Held.{on_type, times_type}
use Rattle.mh_intern.specs.Seats.{distinct_types}
use Rattle.mh_jobs.specs.Given.{Given}
use Rattle.mh_link.specs.Linked.{held_by}
use Rattle.mh_link.specs.Sites.{linked_at}
use Rattle.mh_report.specs.declared.attempt.Attempt.{Attempt}
use Rattle.mh_report.specs.Recorded.{held_at, held_from, types}
use Rattle.mh_report.specs.Results.{Serials, serial_at}
use Rattle.mh_runtime.proofs.forms.Needed.{in-flat, of-flat}
use Rattle.mh_runtime.proofs.types.TypeLists.{any-counted, any-turned, counted-any, is_one, same-equivalence}
use Rattle.mh_runtime.proofs.types.SeatKinds.{lasts, lasts-count, last-held, held-last, lasts-distinct}

-- ---- the types of a table

module _ (given : Given) (p : MethodTy → Bool) where
  -- whether what the attempt of a serial number links at a site holds such a type
  abbrev holds_one : ℕ → ℕ → Bool
  holds_one site serial = list_any p (held_by given.leaves (linked_at given site serial))

  -- what a site of the table holds, the table holds
  in-table : (first : ℕ) (table : Serials) (place serial : ℕ) → serial_at table place ≡ Some serial → holds_one (first + place) serial ≡ true →
      list_any p (held_from given first table) ≡ true
  in-table first [] place serial at there = cc
  in-table first (entry ∷ table) zero serial at there =
      list_any-append p (held_at given first entry) (held_from given (first + 1) table) ∙
      or_left (list_any p (held_at given first entry)) (list_any p (held_from given (first + 1) table))
      (ap (λ s. list_any p (held_at given first s)) at ∙ subst (λ site. holds_one site serial ≡ true) (omega arith) there)
  in-table first (entry ∷ table) (suc place) serial at there =
      list_any-append p (held_at given first entry) (held_from given (first + 1) table) ∙
      or_right (list_any p (held_at given first entry)) (list_any p (held_from given (first + 1) table))
      (in-table (first + 1) table place serial at (subst (λ site. holds_one site serial ≡ true) (omega arith) there))

  -- a site of the table, with its serial number, where such a type is held
  abbrev AtSite : ℕ → Serials → Type 0
  AtSite first table = (place serial : ℕ) × (serial_at table place ≡ Some serial) × (holds_one (first + place) serial ≡ true)

  -- what the table holds, a site of it holds
  of-table : (first : ℕ) (table : Serials) → list_any p (held_from given first table) ≡ true → AtSite first table
  of-table first [] there = cc
  of-table first (entry ∷ table) there = ⊎_elim
      (λ (here : list_any p (held_at given first entry) ≡ true). at-first entry here)
      (λ (rest : list_any p (held_from given (first + 1) table) ≡ true).
      let found = of-table (first + 1) table rest in
      (suc found.0, found.1, found.2, subst (λ site. holds_one site found.1 ≡ true) (omega arith) found.3))
      (or_cases (list_any p (held_at given first entry)) (list_any p (held_from given (first + 1) table))
      (sym (list_any-append p (held_at given first entry) (held_from given (first + 1) table)) ∙ there))
    where
      at-first : (entry : Option ℕ) → list_any p (held_at given first entry) ≡ true → AtSite first (entry ∷ table)
      at-first None here = cc
      at-first (Some serial) here = (0, serial, refl, subst (λ site. holds_one site serial ≡ true) (omega arith) here)

-- ---- the theorem

-- where a seat holds just what the linkages of recorded attempts hold, and the table has the serials of just those, the seat holds as many types as
-- the table says
pub held-types : (given : Given) (recorded : List Attempt) (linked : Serials) (holds : List Entry) →
    ((t : MethodTy) → on_type t holds ≡ times_type t (flat_map (λ a. held_by given.leaves (linked_at given a.site a.serial)) recorded)) →
    ((site serial : ℕ) → serial_at linked site ≡ Some serial → (a : Attempt) × Contains recorded a × (a.serial ≡ serial) × (a.site ≡ site)) →
    ((a : Attempt) → Contains recorded a → serial_at linked a.site ≡ Some a.serial) →
    distinct_types holds ≡ types given linked
held-types given recorded linked holds just back forth =
    sym (lasts-count holds) ∙ length-from_keys same-equivalence (lasts holds) (held_from given 0 linked) (lasts-distinct holds)
    (λ t. same_tests (is_one (lasts holds) t) (is_one (held_from given 0 linked) t) (to t) (from t))
  where
    to : (t : MethodTy) → is_one (lasts holds) t ≡ true → is_one (held_from given 0 linked) t ≡ true
    to t there =
        let p : MethodTy → Bool = is_same_method_type t in
        let f : Attempt → List MethodTy = λ a. held_by given.leaves (linked_at given a.site a.serial) in
        let held = last-held t holds there in
        let same = just t in
        let more : 0 < times_type t (flat_map f recorded) = omega (arith, held, same) in
        let among : is_one (flat_map f recorded) t ≡ true =
        sym (any-turned t (flat_map f recorded)) ∙ counted-any (λ (u : MethodTy). is_same_method_type u t) (flat_map f recorded) more in
        let found = of-flat p f recorded among in
        in-table given p 0 linked found.0.site found.0.serial (forth found.0 found.1)
        (subst (λ site. holds_one given p site found.0.serial ≡ true) (omega arith) found.2)

    from : (t : MethodTy) → is_one (held_from given 0 linked) t ≡ true → is_one (lasts holds) t ≡ true
    from t there =
        let p : MethodTy → Bool = is_same_method_type t in
        let f : Attempt → List MethodTy = λ a. held_by given.leaves (linked_at given a.site a.serial) in
        let found = of-table given p 0 linked there in
        let place : ℕ = found.0 in
        let serial : ℕ = found.1 in
        let made = back place serial found.2 in
        let a : Attempt = made.0 in
        let at_place : holds_one given p place serial ≡ true = subst (λ site. holds_one given p site serial ≡ true) (omega arith) found.3 in
        let here : list_any p (f a) ≡ true =
        ap (λ s. holds_one given p a.site s) made.2 ∙ (ap (λ site. holds_one given p site serial) made.3 ∙ at_place) in
        let among : list_any (λ u. is_same_method_type u t) (flat_map f recorded) ≡ true =
        any-turned t (flat_map f recorded) ∙ in-flat p f recorded a made.1 here in
        let more = any-counted (λ (u : MethodTy). is_same_method_type u t) (flat_map f recorded) among in
        let same = just t in
        held-last t holds (omega (arith, more, same))
