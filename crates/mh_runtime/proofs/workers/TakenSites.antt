-- What workers have attempted that have taken numbers of sites, no number twice.
use Rattle.std.proofs.Common.{◌≡◌, ◌≢◌, refl, sym, ◌∙◌, ap, subst, ℕ, zero, suc, ◌+◌, ◌<◌, ◌≤◌, List, [], ◌∷◌, ◌++◌, length, map, get_or, Some, None}
use Rattle.std.proofs.Common.{⊎_elim, arith}
use Rattle.std.specs.Prelude.{All, AllPairs, Contains, IsSome, cond, slice_get}
use Rattle.std.specs.List.{flat_map}
use Rattle.std.proofs.lemmas.Bool.{cases_eq, eq-eqb, ne_eqb}
use Rattle.std.proofs.lemmas.List.{get_or-map, length-map, map-append}
use Rattle.std.proofs.lemmas.List.Concat.{flat_map-cons}
use Rattle.std.proofs.lemmas.List.Elements.{All-contains, All-contains_itself, All-head, All-map, All-tail, All-weaker, Contains-get_or}
use Rattle.std.proofs.lemmas.List.Sums.{sum_by-append}
use Rattle.std.proofs.lemmas.Option.{slice_get_within}
use Rattle.mh_seats.specs.Room.{limit, times}
use Rattle.mh_tickets.specs.Draws.{EachOnce}
use Rattle.mh_condy.specs.Passes.{TableView}
use Rattle.mh_jobs.specs.Given.{Given}
use Rattle.mh_prelink.specs.Results.{all_taken}
use Rattle.mh_report.specs.declared.attempt.Attempt.{Attempt}
use Rattle.mh_report.specs.Results.{serial_at}
use Rattle.mh_runtime.specs.declared.linker.Linker.{Linker}
use Rattle.mh_runtime.specs.declared.prelinking.Prelinked.{Prelinked}
use Rattle.mh_runtime.specs.Attempts.{AreLinked, IsThreadRun, sites_of}
use Rattle.mh_runtime.specs.Ledger.{IsOfWorker}
use Rattle.mh_runtime.specs.Passes.{HasSerials}
use Rattle.mh_runtime.specs.Prelinked.{IsPrelinked, WorkersEndAnyhow}
use Rattle.mh_runtime.specs.Workers.{KnowsSite, Worker, first_of}
use Rattle.mh_runtime.proofs.ledger.Numbers.{contains-map, flat-same, map-flat, number-within}
use Rattle.mh_runtime.proofs.ledger.Parts.{in-part, part-in}
use Rattle.mh_runtime.proofs.ledger.Places.{place-contains}
use Rattle.mh_runtime.proofs.ledger.Serials.{contains-times, is_it, times-cons, times-contains}
use Rattle.mh_runtime.proofs.workers.WorkerSteps.{knows-still}

-- ---- numbers of which none stands twice

-- how often the numbers below n stand in a list, together
abbrev counted : ℕ → List ℕ → ℕ
counted zero xs = 0
counted (suc n) xs = counted n xs + times n xs

counted-none : (n : ℕ) → counted n [] ≡ 0
counted-none zero = refl
counted-none (suc n) = omega (arith, counted-none n)

counted-above : (n y : ℕ) (ys : List ℕ) → n ≤ y → counted n (y ∷ ys) ≡ counted n ys
counted-above zero y ys above = refl
counted-above (suc n) y ys above =
    let other : is_it y n ≡ 0 = ap (λ b. cond b 1 0) (ne_eqb y n (λ same. absurd (omega (arith, same, above)))) in
    omega (arith, counted-above n y ys (omega (arith, above)), times-cons n y ys, other)

counted-below : (n y : ℕ) (ys : List ℕ) → y < n → counted n (y ∷ ys) ≡ suc (counted n ys)
counted-below zero y ys below = absurd (omega (arith, below))
counted-below (suc n) y ys below = ⊎_elim
    (λ (same : y ≡ n).
    let one : is_it y n ≡ 1 = ap (λ b. cond b 1 0) (eq-eqb y n same) in
    omega (arith, counted-above n y ys (omega (arith, same)), times-cons n y ys, one))
    (λ (other : y ≡ n → ⊥).
    let none : is_it y n ≡ 0 = ap (λ b. cond b 1 0) (ne_eqb y n other) in
    omega (arith, counted-below n y ys (omega (arith, below, other)), times-cons n y ys, none))
    (cases_eq y n)

counted-all : (n : ℕ) (ys : List ℕ) → All (λ y. y < n) ys → counted n ys ≡ length ys
counted-all n [] all = counted-none n
counted-all n (y ∷ ys) all =
    omega (
      arith,
      counted-below n y ys (All-head (λ z. z < n) y ys all),
      counted-all n ys (All-tail (λ z. z < n) y ys all),
    )

counted-few : (n : ℕ) (ys : List ℕ) → ((y : ℕ) → times y ys ≤ 1) → counted n ys ≤ n
counted-few zero ys once = omega arith
counted-few (suc n) ys once = omega (arith, counted-few n ys once, once n)

-- numbers below n are at most n
pub few-below : (n : ℕ) (ys : List ℕ) → All (λ y. y < n) ys → ((y : ℕ) → times y ys ≤ 1) → length ys ≤ n
few-below n ys below once = omega (arith, counted-all n ys below, counted-few n ys once)

module _ {A : Type 0} (f : A → ℕ) where
  -- items that are apart have each number once
  pub apart-once : (xs : List A) → AllPairs (λ a b. f a ≢ f b) xs → (x : ℕ) → times x (map f xs) ≤ 1
  apart-once [] apart x = omega arith
  apart-once (a ∷ xs) apart x = ⊎_elim
      (λ (same : f a ≡ x). omega (arith, times-cons x (f a) (map f xs), no-other same (times x (map f xs)) refl, one same))
      (λ (other : f a ≡ x → ⊥).
      let none : is_it (f a) x ≡ 0 = ap (λ b. cond b 1 0) (ne_eqb (f a) x other) in
      omega (arith, times-cons x (f a) (map f xs), none, apart-once xs rest x))
      (cases_eq (f a) x)
    where
      rest : AllPairs (λ a b. f a ≢ f b) xs
      rest i j d below within = apart (suc i) (suc j) d (omega (arith, below)) (omega (arith, within))

      one : f a ≡ x → is_it (f a) x ≡ 1
      one same = ap (λ b. cond b 1 0) (eq-eqb (f a) x same)

      no-other : f a ≡ x → (n : ℕ) → times x (map f xs) ≡ n → times x (map f xs) ≡ 0
      no-other same zero is = is
      no-other same (suc n) is =
          let there = times-contains x (map f xs) (omega (arith, is)) in
          let within : there.0 < length xs = omega (arith, there.1, length-map xs f) in
          let at : f (get_or xs there.0 a) ≡ x = sym (get_or-map f xs there.0 a x within) ∙ there.2 in
          absurd (apart 0 (suc there.0) a (omega arith) (omega (arith, within)) (same ∙ sym at))

  -- and the other way round
  pub once-apart : (xs : List A) → ((x : ℕ) → times x (map f xs) ≤ 1) → AllPairs (λ a b. f a ≢ f b) xs
  once-apart [] once i j d below within = absurd (omega (arith, within))
  once-apart (a ∷ xs) once zero zero d below within = absurd (omega (arith, below))
  once-apart (a ∷ xs) once zero (suc j) d below within = λ same.
      let there : Contains (map f xs) (f a) =
      subst (Contains (map f xs)) (sym same) (contains-map f xs (get_or xs j d) (Contains-get_or xs j d (omega (arith, within)))) in
      let one : is_it (f a) (f a) ≡ 1 = ap (λ b. cond b 1 0) (eq-eqb (f a) (f a) refl) in
      absurd (omega (arith, once (f a), times-cons (f a) (f a) (map f xs), one, contains-times (f a) (map f xs) there))
  once-apart (a ∷ xs) once (suc i) zero d below within = absurd (omega (arith, below))
  once-apart (a ∷ xs) once (suc i) (suc j) d below within =
      once-apart xs (λ x. omega (arith, once x, times-cons x (f a) (map f xs))) i j d (omega (arith, below)) (omega (arith, within))

-- ---- one worker

module _ (taken : List ℕ) (attempts : List Attempt) (apart : AllPairs (λ (a b : Attempt). a.site ≢ b.site) attempts)
    (reached : All (λ (a : Attempt). Contains taken a.site) attempts) where
  -- a site was attempted no more often than it was taken
  attempted-few : (x : ℕ) → times x (sites_of attempts) ≤ times x taken
  attempted-few x = by (times x (sites_of attempts)) refl
    where
      by : (n : ℕ) → times x (sites_of attempts) ≡ n → times x (sites_of attempts) ≤ times x taken
      by zero is = omega (arith, is)
      by (suc n) is =
          let there : Contains taken x =
          All-contains (Contains taken) (sites_of attempts) x (All-map (Contains taken) (λ (a : Attempt). a.site) attempts reached)
          (times-contains x (sites_of attempts) (omega (arith, is))) in
          omega (arith, apart-once (λ (a : Attempt). a.site) attempts apart x, contains-times x taken there)

-- ---- all workers

module _ {J : Type 0} where
  attempted-once : (ws : List (Worker J)) → ((n : ℕ) (w : Worker J) → slice_get ws n ≡ Some w → IsThreadRun w.taken w.pass.links) → (x : ℕ) →
      times x (sites_of (flat_map (λ w. w.pass.links.attempts) ws)) ≤ times x (all_taken ws)
  attempted-once [] runs x = omega arith
  attempted-once (w ∷ ws) runs x =
      let made : List Attempt = flat_map (λ (v : Worker J). v.pass.links.attempts) ws in
      let run = runs 0 w refl in
      let split : times x (sites_of (w.pass.links.attempts ++ made)) ≡ times x (sites_of w.pass.links.attempts ++ sites_of made) =
      ap (times x) (map-append (λ (a : Attempt). a.site) w.pass.links.attempts made) in
      let taken : times x (all_taken (w ∷ ws)) ≡ times x (w.taken ++ all_taken ws) =
      ap (times x) (flat_map-cons (λ (v : Worker J). v.taken) w ws) in
      omega (
        arith,
        split,
        taken,
        sum_by-append (λ y. is_it y x) (sites_of w.pass.links.attempts) (sites_of made),
        sum_by-append (λ y. is_it y x) w.taken (all_taken ws),
        attempted-few w.taken w.pass.links.attempts run.apart run.reached x,
        attempted-once ws (λ n v is. runs (suc n) v is) x,
      )

module _ {J : Type 0} (given : Given) (linker : Linker J) (table : TableView) (threads workers : ℕ) (state : Prelinked J)
    (is : IsPrelinked given linker table threads workers state) where
  abbrev attempts : List Attempt
  attempts = state.pass.links.attempts

  -- the serials of their attempts are the numbers that were drawn
  pub serials-drawn : map (λ (a : Attempt). a.serial) attempts ≡ state.pass.links.seat.numbers
  serials-drawn =
      ap (map (λ (a : Attempt). a.serial)) is.gathered.attempts
      ∙ (map-flat (λ (a : Attempt). a.serial) (λ (w : Worker J). w.pass.links.attempts) is.all
      ∙ (flat-same (λ (w : Worker J). map (λ (a : Attempt). a.serial) w.pass.links.attempts) (λ (w : Worker J). w.pass.links.seat.numbers) is.all
      (λ n w at. (is.gathered.used n w at).run.numbered)
      ∙ sym is.gathered.numbers))

  pub serials-whole : state.pass.links.seat.room + length state.pass.links.seat.numbers ≡ limit
  serials-whole = let room = is.gathered.links_room in let count = is.count in omega (arith, room, count)

  pub serials-once : EachOnce state.pass.links.seat.numbers
  serials-once = is.gathered.links_known serials-whole

  -- no site was attempted twice
  pub sites-once : (x : ℕ) → times x (sites_of attempts) ≤ 1
  sites-once x =
      let same : times x (sites_of attempts) ≡ times x (sites_of (flat_map (λ (w : Worker J). w.pass.links.attempts) is.all)) =
      ap (λ made. times x (sites_of made)) is.gathered.attempts in
      omega (arith, same, attempted-once is.all (λ n w at. (is.gathered.used n w at).run) x, is.once x)

  -- whose an attempt is
  pub record IsMadeBy (a : Attempt) : Type 0 where
    pub number : ℕ
    pub worker : Worker J
    pub at : slice_get is.all number ≡ Some worker
    pub own : Contains worker.pass.links.attempts a
    pub thread_is : a.thread ≡ threads + number
    pub site_is : Contains worker.taken a.site

  pub made-by : (a : Attempt) → Contains attempts a → IsMadeBy a
  made-by a h =
      let found = in-part (λ (w : Worker J). w.pass.links.attempts) is.all a (subst (λ made. Contains made a) is.gathered.attempts h) in
      let own = is.gathered.used found.0 found.1 found.2 in
      record {
        number = found.0;
        worker = found.1;
        at = found.2;
        own = found.3;
        thread_is = All-contains (λ (x : Attempt). x.thread ≡ found.1.pass.links.thread) found.1.pass.links.attempts a own.run.own found.3 ∙ own.thread_is;
        site_is = All-contains (λ (x : Attempt). Contains found.1.taken x.site) found.1.pass.links.attempts a own.run.reached found.3;
      }

  -- it is one of a site, and a worker's
  pub of-site : (a : Attempt) → Contains attempts a → a.site < length given.jobs
  of-site a h =
      let made = made-by a h in
      All-contains (λ site. site < length given.jobs) (all_taken is.all) a.site is.below
      (part-in (λ (w : Worker J). w.taken) is.all made.number made.worker a.site made.at made.site_is)

  pub of-worker : (a : Attempt) → Contains attempts a → IsOfWorker threads workers a.thread
  of-worker a h =
      let made = made-by a h in
      let within : made.number < length is.all = slice_get_within is.all made.number made.worker made.at in
      let same = made.thread_is in
      let count = is.count in
      (omega (arith, same), omega (arith, same, within, count))

  -- there are no more attempts than sites
  pub attempts-few : length attempts ≤ length given.jobs
  attempts-few =
      let sites : All (λ site. site < length given.jobs) (sites_of attempts) =
      All-map (λ site. site < length given.jobs) (λ (a : Attempt). a.site) attempts
      (All-weaker (Contains attempts) (λ (a : Attempt). a.site < length given.jobs) of-site attempts (All-contains_itself attempts)) in
      omega (arith, few-below (length given.jobs) (sites_of attempts) sites sites-once, length-map attempts (λ (a : Attempt). a.site))

  -- so no serial exceeds their number
  pub serial-few : (a : Attempt) → Contains attempts a → (1 ≤ a.serial) × (a.serial ≤ length given.jobs)
  serial-few a h =
      let there : Contains state.pass.links.seat.numbers a.serial =
      subst (λ ns. Contains ns a.serial) serials-drawn (contains-map (λ (x : Attempt). x.serial) attempts a h) in
      let within = number-within state.pass.links.seat.numbers a.serial serials-once there in
      let count : length state.pass.links.seat.numbers ≡ length attempts = ap length (sym serials-drawn) ∙ length-map attempts (λ (x : Attempt). x.serial) in
      (within.0, omega (arith, within.1, count, attempts-few))

  -- where none has stopped, each site is linked
  pub all-known : state.stop ≡ None → (site : ℕ) → site < length given.jobs → KnowsSite state.pass site
  all-known none site within =
      let taken : Contains (all_taken is.all) site = times-contains site (all_taken is.all) (let one = is.every none site within in omega (arith, one)) in
      let found = in-part (λ (w : Worker J). w.taken) is.all site taken in
      let ends = subst (WorkersEndAnyhow given (first_of given linker table).links is.all state.pass) none is.gathered.ends in
      let there : Contains is.all found.1 = place-contains is.all found.0 found.1 found.2 in
      let linked = All-contains (λ (w : Worker J). AreLinked w.pass.links.linked w.taken) is.all found.1 ends.0 there in
      knows-still site found.1.pass state.pass
      (All-contains (λ (w : Worker J). HasSerials w.pass.links.linked state.pass.links.linked) is.all found.1 is.gathered.linked there)
      (All-contains (λ k. IsSome (serial_at found.1.pass.links.linked k)) found.1.taken site linked found.3)
