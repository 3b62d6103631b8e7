-- Which constants are asked: the recursive reading, a walk, and what it depends on.
use Rattle.std.proofs.Common.{◌≡◌, refl, sym, ◌∙◌, ap, subst, ℕ, zero, suc, ◌<◌, ◌≤◌, true, inl, inr, List, [], ◌∷◌, ◌++◌, append-nil, append_assoc, Option, Some, None, Ok, Err, arith}
use Rattle.std.specs.Prelude.{fold, option_map, is_some, unwrap_or, length}
use Rattle.mh_jobs.specs.Thrown.{OrThrown}
use Rattle.mh_jobs.specs.Given.{Found}
use Rattle.mh_link.specs.Resolved.{Agree}
use Rattle.mh_link.specs.Places.{Has, first_places}
use Rattle.mh_jobs.specs.declared.unresolved.StaticArguments.{StaticArguments}
use Rattle.mh_link.specs.Named.{Constants, AreConstJobs}
use Rattle.mh_link.specs.Depth.{rank, most_depth}
use Rattle.mh_link.specs.Constants.{Serials, serial_at, const_under, values_of}
use Rattle.mh_link.specs.Asking.{asked_of_call, asked_by, below, with_below, asks, asked_by_all}
use Rattle.mh_link.specs.Walks.{walked, IsClosed}
use Rattle.mh_link.specs.Completed.{AgreeAt, HaveSerials, completed}
use Rattle.mh_link.proofs.walking.Places.{first-append, first-twice, flat-has, has-cons, has-here, has-there, in-first}
use Rattle.mh_link.proofs.walking.Walks.{below-same, below-seen, below-stays, below-suc, closed-all, notes, with-below-same, with-closed}
use Rattle.mh_link.proofs.constants.Asked.{agree-each, rank-falls, rank-small, under-same}
use Rattle.mh_link.proofs.constants.FixedPoint.{fixed}
use Rattle.mh_link.proofs.constants.Resolving.{resolving}

-- what a call looks at depends on what is found of that alone
pub asked-same : (found other : Found) (call : OrThrown StaticArguments) → Agree found other (asked_of_call found call) →
    asked_of_call found call ≡ asked_of_call other call
asked-same found other (Err e) agree = refl
asked-same found other (Ok b) agree = (resolving found other b agree).1

module _ (run : Constants) (named : AreConstJobs run) (found : Found) where
  -- the constants that stand below one are those that it looks at, each directly followed by those that stand below that
  pub below-again : (c : ℕ) → below (asked_by run found) most_depth c ≡ with_below (asked_by run found) most_depth (asked_by run found c)
  below-again c =
      sym (below-stays (asked_by run found) (rank run) (rank-falls run named found) most_depth c (rank-small run c))
      ∙ below-suc (asked_by run found) most_depth c

  -- a walk notes where each first stands
  pub walk-notes : (seen cs : List ℕ) → IsClosed (asked_by run found) seen →
      walked (asked_by run found) most_depth seen cs ≡ seen ++ first_places seen (with_below (asked_by run found) most_depth cs)
  walk-notes seen cs closed =
      notes (asked_by run found) (rank run) (rank-falls run named found) most_depth (suc most_depth) seen cs
      (λ c d is low asks. closed c d is asks) (λ c h. let s = rank-small run c in omega arith) (omega arith)

  -- and leaves what was seen closed
  pub walk-closed : (seen cs : List ℕ) → IsClosed (asked_by run found) seen → IsClosed (asked_by run found) (walked (asked_by run found) most_depth seen cs)
  walk-closed seen cs closed =
      subst (λ s. IsClosed (asked_by run found) s) (sym (walk-notes seen cs closed))
      (λ c d is looks.
      closed-all (asked_by run found) (rank run) (rank-falls run named found) (suc most_depth) seen (with_below (asked_by run found) most_depth cs)
      (λ c d is low asks. closed c d is asks)
      (with-closed (asked_by run found) (rank run) (rank-falls run named found) most_depth cs (λ c h. rank-small run c))
      c d is (let s = rank-small run c in omega arith) looks)

module _ (run : Constants) (named : AreConstJobs run) (table : Serials) where
  -- one call after the other notes where each first stands in what all ask
  pub walks-note : (seen : List ℕ) (calls : List (OrThrown StaticArguments)) → IsClosed (asked_by run (values_of run table)) seen →
      fold (λ s call. walked (asked_by run (values_of run table)) most_depth s (asked_of_call (values_of run table) call)) seen calls
      ≡ seen ++ first_places seen (asked_by_all run table calls)
  walks-note seen [] closed = sym (append-nil seen)
  walks-note seen (call ∷ calls) closed =
      let own : ℕ → List ℕ = asked_by run (values_of run table) in
      let here : List ℕ = asked_of_call (values_of run table) call in
      let noted : List ℕ = first_places seen (asks run table call) in
      let step : walked own most_depth seen here ≡ seen ++ noted =
      walk-notes run named (values_of run table) seen here closed
      ∙ ap (λ xs. seen ++ xs) (sym (first-twice seen [] (with_below own most_depth here) (λ k h. absurd (none k h)))) in
      let after : IsClosed own (seen ++ noted) =
      subst (λ s. IsClosed own s) step (walk-closed run named (values_of run table) seen here closed) in
      ap (λ s. fold (λ s call. walked own most_depth s (asked_of_call (values_of run table) call)) s calls) step
      ∙ (walks-note (seen ++ noted) calls after
      ∙ (append_assoc seen noted (first_places (seen ++ noted) (asked_by_all run table calls))
      ∙ ap (λ xs. seen ++ xs) (sym (first-append seen (asks run table call) (asked_by_all run table calls)))))
    where
      none : (k : ℕ) → Has [] k → ⊥
      none k h = cc

  module _ (other : Serials) where
    abbrev own : ℕ → List ℕ
    own = asked_by run (values_of run table)

    abbrev late : ℕ → List ℕ
    late = asked_by run (values_of run other)

    -- a constant is the same in both, and looks at the same
    abbrev IsSame : ℕ → Type 0
    IsSame c = (values_of run table c ≡ values_of run other c) × (own c ≡ late c)

    value-from : (c : ℕ) → serial_at table c ≡ serial_at other c → ((d : ℕ) → Has (own c) d → values_of run table d ≡ values_of run other d) → IsSame c
    value-from c at lower =
        let same = under-same run (values_of run table) (values_of run other) c (agree-each (values_of run table) (values_of run other) (own c) lower) in (
          fixed run named table c
              ∙ (ap (λ o. option_map (λ serial. const_under run (values_of run table) c serial) o) at
              ∙ (each (serial_at other c) same.0 ∙ sym (fixed run named other c))),
          same.1,
        )
      where
        each : (o : Option ℕ) → ((serial : ℕ) → const_under run (values_of run table) c serial ≡ const_under run (values_of run other) c serial) →
            option_map (λ serial. const_under run (values_of run table) c serial) o ≡ option_map (λ serial. const_under run (values_of run other) c serial) o
        each None same = refl
        each (Some s) same = ap (λ v. Some v) (same s)

    -- where the serials of a constant and of all that stands below it are the same, it is the same
    value-same : (n c : ℕ) → rank run c ≤ n → AgreeAt table other (c ∷ below own most_depth c) → IsSame c
    value-same zero c low agree =
        value-from c (agree c (has-here c (below own most_depth c)))
        (λ d h. absurd (let f = rank-falls run named (values_of run table) c d h in omega arith))
    value-same (suc n) c low agree =
        value-from c (agree c (has-here c (below own most_depth c)))
        (λ d h. (value-same n d (let f = rank-falls run named (values_of run table) c d h in omega arith)
        (λ e is. agree e (has-there c (below own most_depth c) e (subst (λ xs. Has xs e) (sym (below-again run named (values_of run table) c))
        (flat-has (λ x. x ∷ below own most_depth x) (own c) d e h is))))).0)

    -- so is each of what a call asks
    each-same : (cs : List ℕ) → AgreeAt table other (with_below own most_depth cs) → (c : ℕ) → Has (with_below own most_depth cs) c → IsSame c
    each-same cs agree c h =
        value-same most_depth c (rank-small run c) (λ d is. agree d (within d is))
      where
        within : (d : ℕ) → Has (c ∷ below own most_depth c) d → Has (with_below own most_depth cs) d
        within d is = elim (has-cons c (below own most_depth c) d is) [
          | inl e ↦ subst (λ x. Has (with_below own most_depth cs) x) e h
          | inr under ↦
              below-seen own (rank run) (rank-falls run named (values_of run table)) most_depth (suc most_depth) (with_below own most_depth cs)
              (λ x y is low looks. with-closed own (rank run) (rank-falls run named (values_of run table)) most_depth cs (λ x h. rank-small run x) x y is looks)
              c h (let s = rank-small run c in omega arith) d under
        ]

    -- what a call asks, where the serials are the same, is the same
    pub asks-same : (call : OrThrown StaticArguments) → AgreeAt table other (asks run table call) →
        (asks run table call ≡ asks run other call)
        × ((c : ℕ) → Has (asks run table call) c → values_of run table c ≡ values_of run other c)
        × Agree (values_of run table) (values_of run other) (asked_of_call (values_of run table) call)
    asks-same call agree = (
      ap (λ cs. first_places [] cs) (with-below-same own late most_depth (below-same own late most_depth) here (λ c h. (same c h).1)
          ∙ ap (λ cs. with_below late most_depth cs) looked.1),
      λ c h. (same c (sym (in-first [] (with_below own most_depth here) c) ∙ h)).0,
      looked.0,
    )
      where
        here : List ℕ
        here = asked_of_call (values_of run table) call

        same : (c : ℕ) → Has (with_below own most_depth here) c → IsSame c
        same = each-same here (λ c h. agree c (in-first [] (with_below own most_depth here) c ∙ h))

        looked : Agree (values_of run table) (values_of run other) here × (here ≡ asked_of_call (values_of run other) call)
        looked =
            let a = agree-each (values_of run table) (values_of run other) here
            (λ c h. (same c (flat-has (λ x. x ∷ below own most_depth x) here c c h (has-here c (below own most_depth c)))).0) in
            (a, asked-same (values_of run table) (values_of run other) call a)

-- a table is completed without a change to what is asked
pub completed-same : (table : Serials) (cs : List ℕ) → HaveSerials table cs → AgreeAt table (completed table) cs
completed-same table cs have c h = at table c (have c h)
  where
    at : (t : Serials) (c : ℕ) → is_some (serial_at t c) ≡ true → serial_at t c ≡ serial_at (completed t) c
    at [] c some = refl
    at (None ∷ t) zero some = cc
    at (Some s ∷ t) zero some = refl
    at (k ∷ t) (suc c) some = at t c some

pub completed-has : (table : Serials) (c : ℕ) → c < length table → serial_at (completed table) c ≡ Some (unwrap_or (serial_at table c) 1)
completed-has [] c within = absurd (omega arith)
completed-has (k ∷ table) zero within = refl
completed-has (k ∷ table) (suc c) within = completed-has table c (omega arith)
