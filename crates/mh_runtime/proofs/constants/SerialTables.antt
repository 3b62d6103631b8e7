-- What an attempt asks for, where constants are what they are by the serials of a run: it is what it asks for by one of the tables that a run can have.
use Rattle.std.proofs.Common.{◌≡◌, refl, sym, ◌∙◌, ap, subst, ℕ, suc, ◌*◌, ◌≤◌, Bool, true, if◌then◌else◌, ◌⊎◌, inl, inr, List, [], ◌∷◌, length, map, Option}
use Rattle.std.proofs.Common.{None, Some, Ok, Err, ⊎_elim, arith}
use Rattle.std.specs.Prelude.{Contains, is_ok, is_some, option_map, slice_get, unwrap_or}
use Rattle.std.specs.List.{list_any, range_with_len}
use Rattle.std.specs.Option.{option_map_or}
use Rattle.std.proofs.lemmas.Bool.{both_ways, cases_eq}
use Rattle.std.proofs.lemmas.List.{length-map}
use Rattle.std.proofs.lemmas.Nat.{mul-le}
use Rattle.std.proofs.lemmas.Option.{slice_get-get_or}
use Rattle.mh_values.specs.declared.value.Exc.{Exc}
use Rattle.mh_values.specs.declared.value.Value.{Value}
use Rattle.mh_values.specs.declared.types.MethodTy.{MethodTy}
use Rattle.mh_edit.specs.declared.key.Key.{Key}
use Rattle.mh_handle.specs.Recipe.{recipe}
use Rattle.mh_handle.specs.SameRecipes.{same_recipe}
use Rattle.mh_jobs.specs.declared.job.Argument.{Argument}
use Rattle.mh_jobs.specs.declared.job.Argument.TheVariants as argument
use Rattle.mh_jobs.specs.declared.job.BootstrapCall.{BootstrapCall}
use Rattle.mh_jobs.specs.declared.job.Job.{Job}
use Rattle.mh_jobs.specs.declared.sites.Bootstrap.{Bootstrap}
use Rattle.mh_jobs.specs.declared.unresolved.Part.{Part}
use Rattle.mh_jobs.specs.declared.unresolved.Part.TheVariants.{Known, Constant}
use Rattle.mh_jobs.specs.Given.{Found, Given, under}
use Rattle.mh_jobs.specs.Thrown.{OrThrown, ◌>>=◌}
use Rattle.mh_link.specs.Asking.{asked_at, asked_of_call, asks}
use Rattle.mh_link.specs.Completed.{completed}
use Rattle.mh_link.specs.Constants.{Serials, serial_at, values_of}
use Rattle.mh_link.specs.Made.{edits, nodes, types_of}
use Rattle.mh_link.specs.Named.{AreConstJobs, Constants, run_of}
use Rattle.mh_link.specs.Places.{Has, is_in}
use Rattle.mh_link.specs.Resolved.{Agree, arguments_of_site, asked, call_under, resolved_parts, taken}
use Rattle.mh_link.specs.Sites.{edits_at, types_at, with_serials}
use Rattle.mh_link.proofs.walking.Asking.{asks-same, completed-same}
use Rattle.mh_link.proofs.walking.Places.{has-cons}
use Rattle.mh_link.proofs.constants.SameCalls.{call-same}
use Rattle.mh_condy.specs.Nodes.{AreNodes, Nodes, found_in, is_known, node_in, serials_in}
use Rattle.mh_condy.specs.Recorded.{ConstView}
use Rattle.mh_condy.proofs.Together.{asked-serials}
use Rattle.mh_condy.proofs.WholeTrails.{call-values, found-values}
use Rattle.mh_report.specs.Forms.{const_tables, tables}
use Rattle.mh_runtime.proofs.ledger.Parts.{at-map, part-in}
use Rattle.mh_runtime.proofs.ledger.Places.{in-range, place-contains}

-- ---- tables

-- each serial is one of the first so many
abbrev pub AreWithin : ℕ → Serials → Type 0
AreWithin most table = (c serial : ℕ) → serial_at table c ≡ Some serial → (1 ≤ serial) × (serial ≤ most)

at-place : {A : Type 0} (xs : List A) (x : A) (h : Contains xs x) → slice_get xs h.0 ≡ Some x
at-place xs x h = slice_get-get_or xs h.0 x h.1 ∙ ap Some h.2

-- a completed table is one of those that give each constant a serial
pub completed-listed : (table : Serials) (most : ℕ) → AreWithin most table → 1 ≤ most → Contains (tables (length table) most) (completed table)
completed-listed [] most within some = (0, omega arith, refl)
completed-listed (entry ∷ table) most within some =
    let rest = completed-listed table most (λ c serial at. within (suc c) serial at) some in
    let first : (1 ≤ unwrap_or entry 1) × (unwrap_or entry 1 ≤ most) = by entry (λ serial at. within 0 serial at) in
    let here = in-range most (unwrap_or entry 1) first.0 first.1 in
    part-in (λ (t : Serials). map (λ serial. Some serial ∷ t) (range_with_len 1 most)) (tables (length table) most) rest.0 (completed table)
    (Some (unwrap_or entry 1) ∷ completed table) (at-place (tables (length table) most) (completed table) rest)
    (place-contains (map (λ serial. Some serial ∷ completed table) (range_with_len 1 most)) here.0 (Some (unwrap_or entry 1) ∷ completed table)
    (at-map (λ serial. Some serial ∷ completed table) (range_with_len 1 most) here.0 (unwrap_or entry 1)
    (at-place (range_with_len 1 most) (unwrap_or entry 1) here)))
  where
    by : (o : Option ℕ) → ((serial : ℕ) → o ≡ Some serial → (1 ≤ serial) × (serial ≤ most)) → (1 ≤ unwrap_or o 1) × (unwrap_or o 1 ≤ most)
    by None is = (omega arith, some)
    by (Some serial) is = is serial refl

-- without constants there is one
none-listed : (table : Serials) (most : ℕ) → length table ≡ 0 → Contains (tables (length table) most) (completed table)
none-listed [] most none = (0, omega arith, refl)
none-listed (entry ∷ table) most none = absurd (omega (arith, none))

-- the completed table of a run of so many threads, of which there is one at least
pub table-listed : (given : Given) (threads : ℕ) (table : Serials) → length table ≡ length given.constants → 1 ≤ threads →
    AreWithin (threads * length given.constants) table → Contains (const_tables given threads) (completed table)
table-listed given threads table count some within =
    subst (λ n. Contains (tables n (threads * length given.constants)) (completed table)) count
    (⊎_elim
    (λ (none : length table ≡ 0). none-listed table (threads * length given.constants) none)
    (λ (more : length table ≡ 0 → ⊥). completed-listed table (threads * length given.constants) within
    (positive threads (length given.constants) some (omega (arith, count, more))))
    (cases_eq (length table) 0))
  where
    positive : (m n : ℕ) → 1 ≤ m → 1 ≤ n → 1 ≤ m * n
    positive m n a b = let p = mul-le 1 1 m n a b in omega (arith, p)

-- ---- attempts

-- the arguments are those of constants that are all known, or an exception is thrown
known-or-thrown : (known : Found) (thrown : Option Exc) (parts : List Part) →
    ((c : ℕ) → Has (asked known parts) c → is_some (known c) ≡ true) ⊎ ((e : Exc) × (resolved_parts known thrown parts ≡ Err e))
known-or-thrown known thrown [] = inl (λ c h. absurd (both_ways (is_in [] c) refl h))
known-or-thrown known thrown (Known a ∷ parts) = elim (known-or-thrown known thrown parts) [
  | inl all ↦ inl all
  | inr e ↦ inr (e.0, ap (λ (r : OrThrown (List Argument)). r >>= (λ others. Ok (a ∷ others))) e.1)
]
known-or-thrown known thrown (Constant c ∷ parts) = by (known c) refl (known-or-thrown known thrown parts)
  where
    only : (o : OrThrown Value) → known c ≡ Some o → (cs : List ℕ) → ((d : ℕ) → Has cs d → is_some (known d) ≡ true) →
        (d : ℕ) → Has (c ∷ cs) d → is_some (known d) ≡ true
    only o is cs rest d h = elim (has-cons c cs d h) [
      | inl e ↦ ap (λ x. is_some (known x)) (sym e) ∙ ap is_some is
      | inr there ↦ rest d there
    ]

    by : (o : Option (OrThrown Value)) → known c ≡ o →
        ((d : ℕ) → Has (asked known parts) d → is_some (known d) ≡ true) ⊎ ((e : Exc) × (resolved_parts known thrown parts ≡ Err e)) →
        ((d : ℕ) → Has (asked known (Constant c ∷ parts)) d → is_some (known d) ≡ true)
        ⊎ ((e : Exc) × (resolved_parts known thrown (Constant c ∷ parts) ≡ Err e))
    by None none rest = inr (_, ap (λ o. taken o >>= (λ value. resolved_parts known thrown parts >>= (λ others. Ok (argument.Value value ∷ others)))) none)
    by (Some (Err e)) is rest =
        inr (e, ap (λ o. taken o >>= (λ value. resolved_parts known thrown parts >>= (λ others. Ok (argument.Value value ∷ others)))) is)
    by (Some (Ok v)) is rest = elim rest [
      | inl all ↦ inl (λ d h. only (Ok v) is (asked known parts) all d (subst (λ o. Has (c ∷ (if is_ok (taken o) then asked known parts else [])) d) is h))
      | inr e ↦ inr (
        e.0,
        ap (λ o. taken o >>= (λ value. resolved_parts known thrown parts >>= (λ others. Ok (argument.Value value ∷ others)))) is
            ∙ ap (λ (r : OrThrown (List Argument)). r >>= (λ others. Ok (argument.Value v ∷ others))) e.1,
      )
    ]

module _ (given : Given) (named : AreConstJobs (run_of given)) (all : Nodes) (are_nodes : AreNodes (run_of given) all) where
  abbrev run : Constants
  run = run_of given

  abbrev table : Serials
  table = serials_in all

  abbrev values : Found
  values = values_of run table

  -- all that the job's call looks at is known
  abbrev LooksKnown : Job → Type 0
  LooksKnown job = (c : ℕ) → Has (asked_at values job) c → is_some (values c) ≡ true

  -- by the completed table the call is the same
  agree-completed : (job : Job) → LooksKnown job → Agree values (values_of run (completed table)) (asked_at values job)
  agree-completed job known =
      let call = arguments_of_site job.call in
      let looked : (c : ℕ) → Has (asked_of_call (found_in all) call) c → is_known all c ≡ true = λ c h.
      sym (known-found c) ∙ known c (subst (λ cs. Has cs c) (call-values run named all are_nodes call) h) in
      (asks-same run named table (completed table) call (completed-same table (asks run table call) (asked-serials run named all are_nodes call looked))).2
    where
      some-found : (o : Option ConstView) → is_some (option_map (λ (node : ConstView). node.value) o) ≡ is_some o
      some-found None = refl
      some-found (Some n) = refl

      known-found : (c : ℕ) → is_some (values c) ≡ is_known all c
      known-found c = ap is_some (sym (found-values run named all are_nodes c)) ∙ some-found (node_in all c)

  -- the call of a job's site is an exception, or looks at what is known alone
  job-known : (job : Job) → LooksKnown job ⊎ ((e : Exc) × (call_under values job.call ≡ Err e))
  job-known job = by job.call refl
    where
      by : (call : OrThrown Bootstrap) → job.call ≡ call → LooksKnown job ⊎ ((e : Exc) × (call_under values job.call ≡ Err e))
      by (Err e) is = inr (e, ap (call_under values) is)
      by (Ok bootstrap) is = elim (known-or-thrown values bootstrap.arguments.thrown bootstrap.arguments.parts) [
        | inl all_known ↦ inl (λ c h. all_known c (subst (λ call. Has (asked_of_call values (arguments_of_site call)) c) is h))
        | inr e ↦ inr (
          e.0,
          ap (call_under values) is
              ∙ ap (λ (r : OrThrown (List Argument)). r >>= (λ arguments. Ok
              (record { method = bootstrap.method; name = bootstrap.name; ty = bootstrap.ty; arguments = arguments }))) e.1,
        )
      ]

  -- what an attempt makes of its call is among what it makes by the completed table, where an exception makes nothing
  module _ {R : Type 0} (p : R → Bool) (made : OrThrown BootstrapCall → List R) (none : (e : Exc) → made (Err e) ≡ []) where
    -- by what is known
    abbrev made_by : Found → Option Job → List R
    made_by known at = option_map_or (λ (job : Job). made (call_under known job.call)) at []

    pub made-completed : (site : ℕ) → list_any p (made_by values (slice_get given.jobs site)) ≡ true →
        list_any p (made_by (values_of run (completed table)) (slice_get given.jobs site)) ≡ true
    made-completed site there = by (slice_get given.jobs site) there
      where
        by : (o : Option Job) → list_any p (made_by values o) ≡ true → list_any p (made_by (values_of run (completed table)) o) ≡ true
        by None there = there
        by (Some job) there = elim (job-known job) [
          | inl known ↦
              ap (λ call. list_any p (made call)) (sym (call-same values (values_of run (completed table)) job.call (agree-completed job known)).0) ∙ there
          | inr e ↦ absurd (both_ways (list_any p []) refl (sym (ap (list_any p) (ap made e.1 ∙ none e.0)) ∙ there))
        ]

  pub edits-completed : (q : List Key) (site serial : ℕ) →
      list_any (same_recipe q) (edits_at (recipe given.leaves) (with_serials table given) site serial) ≡ true →
      list_any (same_recipe q) (edits_at (recipe given.leaves) (with_serials (completed table) given) site serial) ≡ true
  edits-completed q site serial =
      made-completed (same_recipe q) (λ call. edits (recipe given.leaves) given.leaves given.scripts call serial) (λ e. refl) site

  pub types-completed : (p : MethodTy → Bool) (site serial : ℕ) → list_any p (types_at (with_serials table given) site serial) ≡ true →
      list_any p (types_at (with_serials (completed table) given) site serial) ≡ true
  types-completed p site serial =
      made-completed p (λ call. types_of given.leaves (nodes given.leaves given.scripts call serial)) (λ e. refl) site

-- ---- what a run can need

-- what constants are by the serials of a run, as far as attempts ask for forms and types: by one of the tables of so many threads
pub record IsAmongTables (given : Given) (threads : ℕ) (values : Found) : Type 0 where
  pub table : Serials
  pub listed : Contains (const_tables given threads) table
  pub edits : (q : List Key) (site serial : ℕ) → list_any (same_recipe q) (edits_at (recipe given.leaves) (under values given) site serial) ≡ true →
      list_any (same_recipe q) (edits_at (recipe given.leaves) (with_serials table given) site serial) ≡ true
  pub types : (p : MethodTy → Bool) (site serial : ℕ) → list_any p (types_at (under values given) site serial) ≡ true →
      list_any p (types_at (with_serials table given) site serial) ≡ true

pub among-tables : (given : Given) → AreConstJobs (run_of given) → (all : Nodes) → AreNodes (run_of given) all → length all ≡ length given.constants →
    (threads : ℕ) → 1 ≤ threads → AreWithin (threads * length given.constants) (serials_in all) →
    IsAmongTables given threads (values_of (run_of given) (serials_in all))
among-tables given named all are_nodes count threads some within = record {
  table = completed (serials_in all);
  listed = table-listed given threads (serials_in all) (length-map all (λ o. option_map (λ (node : ConstView). node.serial) o) ∙ count) some within;
  edits = edits-completed given named all are_nodes;
  types = types-completed given named all are_nodes;
}
