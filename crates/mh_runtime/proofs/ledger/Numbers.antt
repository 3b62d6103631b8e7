-- How many attempts a run makes, and which serials they have.
use Rattle.std.proofs.Common.{◌≡◌, refl, sym, ◌∙◌, ap, ap₂, subst, ℕ, suc, ◌+◌, ◌<◌, ◌≤◌, List, [], ◌∷◌, ◌++◌, length, map, Some, arith}
use Rattle.std.specs.Prelude.{◌==◌, Contains, filter, slice_get, sum_by}
use Rattle.std.specs.List.{flat_map, list_any}
use Rattle.std.specs.List.Sorted.{IsNonDecreasingBy, IsPermutation}
use Rattle.std.proofs.lemmas.Bool.Decides.{nat_tests}
use Rattle.std.proofs.lemmas.List.{get_or-map, length-map, map-append}
use Rattle.std.proofs.lemmas.List.Concat.{length-flat_map}
use Rattle.std.proofs.lemmas.List.Folds.{fold-map}
use Rattle.std.proofs.lemmas.List.Sums.{count_by-le-length, length-filter, sum-map, sum_by-cons}
use Rattle.mh_tickets.specs.Draws.{EachOnce, once_up_to}
use Rattle.mh_jobs.specs.Given.{Given}
use Rattle.mh_plan.specs.declared.call.Call.{Call}
use Rattle.mh_plan.specs.Naming.{first_places, naming_of, pairs_named, sites_named}
use Rattle.mh_report.specs.declared.attempt.Attempt.{Attempt}
use Rattle.mh_runtime.specs.Attempts.{sites_of}
use Rattle.mh_runtime.specs.Joined.{AreInOrder, AreJoined, AreUsed, ThreadPasses}
use Rattle.mh_runtime.specs.Passes.{LinkPass}
use Rattle.mh_runtime.proofs.ledger.Owners.{IsThread, attempts_in, thread-of}
use Rattle.mh_runtime.proofs.ledger.Serials.{contains-times, in-order}

-- ---- lists

-- where each item of a list counts no more than that of another list at its place, the whole counts no more
pub sum-within : {X Y : Type 0} (f : X → ℕ) (g : Y → ℕ) (xs : List X) (ys : List Y) → length xs ≡ length ys →
    ((i : ℕ) (x : X) (y : Y) → slice_get xs i ≡ Some x → slice_get ys i ≡ Some y → f x ≤ g y) → sum_by f xs ≤ sum_by g ys
sum-within f g [] ys same each = omega arith
sum-within f g (x ∷ xs) [] same each = absurd (omega (arith, same))
sum-within f g (x ∷ xs) (y ∷ ys) same each =
    omega (arith, each 0 x y refl refl, sum-within f g xs ys (omega (arith, same)) (λ i. each (suc i)), sum_by-cons f x xs, sum_by-cons g y ys)

pub flat-same : {X Y : Type 0} (f g : X → List Y) (xs : List X) → ((i : ℕ) (x : X) → slice_get xs i ≡ Some x → f x ≡ g x) → flat_map f xs ≡ flat_map g xs
flat-same f g [] each = refl
flat-same f g (x ∷ xs) each = ap₂ (λ ys zs. ys ++ zs) (each 0 x refl) (flat-same f g xs (λ i. each (suc i)))

pub map-flat : {X Y Z : Type 0} (h : Y → Z) (f : X → List Y) (xs : List X) → map h (flat_map f xs) ≡ flat_map (λ x. map h (f x)) xs
map-flat h f [] = refl
map-flat h f (x ∷ xs) = map-append h (f x) (flat_map f xs) ∙ ap (λ zs. map h (f x) ++ zs) (map-flat h f xs)

pub flat-map : {X Y Z : Type 0} (f : Y → List Z) (g : X → Y) (xs : List X) → flat_map f (map g xs) ≡ flat_map (λ x. f (g x)) xs
flat-map f g [] = refl
flat-map f g (x ∷ xs) = ap (λ zs. f (g x) ++ zs) (flat-map f g xs)

pub contains-map : {X Y : Type 0} (f : X → Y) (xs : List X) (x : X) → Contains xs x → Contains (map f xs) (f x)
contains-map f xs x h = (h.0, omega (arith, h.1, length-map xs f), get_or-map f xs h.0 x (f x) h.1 ∙ ap f h.2)

-- ---- numbers that each stand once

once-within : (n x : ℕ) → 0 < once_up_to n x → (1 ≤ x) × (x ≤ n)
once-within n x some = (grind (arith, nat_tests), grind (arith, nat_tests))

-- are at least 1, and at most as great as there are numbers
pub number-within : (numbers : List ℕ) (x : ℕ) → EachOnce numbers → Contains numbers x → (1 ≤ x) × (x ≤ length numbers)
number-within numbers x once h =
    once-within (length numbers) x (omega (arith, once x, contains-times x numbers h))

-- ---- attempts

module _ (given : Given) (threads : List (List Call)) (all : List ThreadPasses) (used : AreUsed given threads all) where
  -- a thread attempts each site once that it names, at most
  thread-few : (thread : ℕ) (passes : ThreadPasses) (is : IsThread given threads all thread passes) →
      length passes.links.attempts ≤ length (first_places [] (flat_map sites_named is.calls))
  thread-few thread passes is =
      let sites : List ℕ = first_places [] (flat_map sites_named is.calls) in
      let kept : length (sites_of passes.links.attempts) ≡ length (filter (λ k. list_any (λ s. s == k) (sites_of passes.links.attempts)) sites) =
      ap length is.used.run.in_order in
      omega (
        arith,
        kept,
        length-map passes.links.attempts (λ (a : Attempt). a.site),
        length-filter (λ k. list_any (λ s. s == k) (sites_of passes.links.attempts)) sites,
        count_by-le-length (λ k. list_any (λ s. s == k) (sites_of passes.links.attempts)) sites,
      )

  pub attempts-few : length (attempts_in all) ≤ pairs_named threads
  attempts-few =
      let places : List Call → ℕ = λ calls. length (first_places [] (flat_map sites_named calls)) in
      let whole : pairs_named threads ≡ sum_by places threads =
      sum-map (λ sites. length (first_places [] sites)) (naming_of threads)
      ∙ fold-map (λ n sites. n + length (first_places [] sites)) (λ calls. flat_map sites_named calls) 0 threads in
      let few : sum_by (λ (p : ThreadPasses). length p.links.attempts) all ≤ sum_by places threads =
      sum-within (λ (p : ThreadPasses). length p.links.attempts) places all threads used.count (λ thread passes calls at named.
      thread-few thread passes (record { calls = calls; named = named; at = at; used = used.each thread calls passes named at })) in
      omega (arith, whole, few, length-flat_map (λ (p : ThreadPasses). p.links.attempts) all)

  -- the serials of all attempts are the numbers that were drawn
  pub numbered : (joined : LinkPass) → AreJoined all joined → map (λ (a : Attempt). a.serial) joined.attempts ≡ joined.seat.numbers
  numbered joined is_joined =
      ap (map (λ (a : Attempt). a.serial)) is_joined.attempts
      ∙ (map-flat (λ (a : Attempt). a.serial) (λ (p : ThreadPasses). p.links.attempts) all
      ∙ (flat-same (λ (p : ThreadPasses). map (λ (a : Attempt). a.serial) p.links.attempts) (λ (p : ThreadPasses). p.links.seat.numbers) all
      (λ i p at. (thread-of given threads all used i p at).used.run.numbered)
      ∙ sym is_joined.numbers))

  -- sorted by their serials, they are in order
  pub sorted-in_order : (joined : LinkPass) (ordered : List Attempt) → AreJoined all joined → IsPermutation joined.attempts ordered →
      IsNonDecreasingBy (λ (a : Attempt). a.serial) ordered → AreInOrder joined.attempts ordered
  sorted-in_order joined ordered is_joined same up =
      in-order joined.attempts ordered joined.seat.numbers (numbered joined is_joined) is_joined.each_once same up

  -- a serial is at most the number of pairs of a thread and a site that it names
  pub serial-within : (joined : LinkPass) → AreJoined all joined → (a : Attempt) → Contains (attempts_in all) a →
      (1 ≤ a.serial) × (a.serial ≤ pairs_named threads)
  serial-within joined is_joined a h =
      let there : Contains joined.seat.numbers a.serial =
      subst (λ ns. Contains ns a.serial) (numbered joined is_joined)
      (contains-map (λ (x : Attempt). x.serial) joined.attempts a (subst (λ xs. Contains xs a) (sym is_joined.attempts) h)) in
      let within = number-within joined.seat.numbers a.serial is_joined.each_once there in
      let count : length joined.seat.numbers ≡ length (attempts_in all) =
      ap length (sym (numbered joined is_joined)) ∙ (length-map joined.attempts (λ (x : Attempt). x.serial) ∙ ap length is_joined.attempts) in
      (within.0, omega (arith, within.1, count, attempts-few))
