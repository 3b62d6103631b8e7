-- The types that the lanes of a run have asked for are among those that the run can need.
use Rattle.std.proofs.Common.{◌≡◌, sym, ◌∙◌, ap, ℕ, zero, suc, ◌<◌, Bool, true, List, length, map, Some, ⊎_elim, arith}
use Rattle.std.specs.Prelude.{Contains, slice_get}
use Rattle.std.specs.List.{flat_map, list_any}
use Rattle.std.proofs.lemmas.Bool.{or_cases, or_left, or_right}
use Rattle.std.proofs.lemmas.List.Folds.{list_any-append}
use Rattle.std.proofs.lemmas.Option.{slice_get-get_or}
use Rattle.mh_values.specs.declared.types.MethodTy.{MethodTy}
use Rattle.mh_values.specs.Same.{is_same_method_type}
use Rattle.mh_intern.specs.Held.{times_type}
use Rattle.mh_intern.specs.Views.{SeatView}
use Rattle.mh_jobs.specs.Given.{Found, Given, under}
use Rattle.mh_link.specs.Sites.{types_at, with_serials}
use Rattle.mh_plan.specs.Naming.{naming_of, pairs_named}
use Rattle.mh_report.specs.Forms.{const_tables}
use Rattle.mh_report.specs.Types.{all_types, attempt_types, named_types, plan_types, thread_types}
use Rattle.mh_runtime.specs.declared.lane.Lane.{Lane}
use Rattle.mh_runtime.specs.Asking.{WasAsked, run_types}
use Rattle.mh_runtime.specs.Joined.{AreJoined, AreUsed, ThreadPasses}
use Rattle.mh_runtime.specs.Joining.{calls_of, lanes_types}
use Rattle.mh_runtime.specs.Lanes.{passes_of}
use Rattle.mh_runtime.specs.Passes.{LinkPass}
use Rattle.mh_runtime.proofs.forms.Needed.{among-named, in-flat, made-same, of-flat}
use Rattle.mh_runtime.proofs.ledger.Numbers.{serial-within}
use Rattle.mh_runtime.proofs.ledger.Owners.{attempts_in, reached}
use Rattle.mh_runtime.proofs.ledger.Parts.{at-map, part-in}
use Rattle.mh_runtime.proofs.ledger.Places.{place-contains}
use Rattle.mh_runtime.proofs.constants.SerialTables.{IsAmongTables}
use Rattle.mh_runtime.proofs.types.TypeLists.{any-turned, counted-any, is_one}

-- where one number is 0 only with another one, it is more where the other one is
pub more-with : (m n : ℕ) → (m ≡ 0 → n ≡ 0) → 0 < n → 0 < m
more-with zero n only some = let none = only (omega arith) in absurd (omega (arith, none, some))
more-with (suc m) n only some = omega arith

module _ {J : Type 0} (given : Given) (values : Found) (lanes : List (Lane J)) (used : AreUsed given (calls_of lanes) (map passes_of lanes)) (joined : LinkPass)
    (is_joined : AreJoined (map passes_of lanes) joined) (tables : IsAmongTables given (length (calls_of lanes)) values) where
  -- where constants are what they are by the serials of the run
  abbrev g : Given
  g = under values given

  -- what a lane has asked for is among what the run can need
  module _ (p : MethodTy → Bool) (lane : Lane J) (at : Contains lanes lane) where
    -- the types of the leaves that are called
    abbrev called : List MethodTy
    called = plan_types given.leaves (calls_of lanes)

    -- those of the attempts that link sites
    abbrev linked : List MethodTy
    linked = flat_map (λ table. named_types (with_serials table given) (calls_of lanes)) (const_tables given (length (calls_of lanes)))

    -- the lane stands at its place
    place : slice_get lanes at.0 ≡ Some lane
    place = slice_get-get_or lanes at.0 lane at.1 ∙ ap Some at.2

    -- those of the lane's attempts
    made-among : list_any p (flat_map (attempt_types g) lane.pass.links.attempts) ≡ true → list_any p linked ≡ true
    made-among there =
        let by_table : Given = with_serials tables.table given in
        in-flat p (λ table. named_types (with_serials table given) (calls_of lanes)) (const_tables given (length (calls_of lanes))) tables.table tables.listed
        (among-named p (λ site serial. types_at by_table site serial) (naming_of (calls_of lanes)) lane.pass.links.attempts (pairs_named (calls_of lanes))
        (λ a h.
        let whole : Contains (attempts_in (map passes_of lanes)) a =
        part-in (λ (x : ThreadPasses). x.links.attempts) (map passes_of lanes) at.0 (passes_of lane) a (at-map passes_of lanes at.0 lane place) h in
        let within = serial-within given (calls_of lanes) (map passes_of lanes) used joined is_joined a whole in
        (reached given (calls_of lanes) (map passes_of lanes) used a whole, within.0, within.1))
        (made-same p (λ site serial. types_at g site serial) (λ site serial. types_at by_table site serial) lane.pass.links.attempts (tables.types p) there))

    -- those of the leaves that it calls
    called-among : list_any p (thread_types given.leaves lane.calls.now) ≡ true → list_any p called ≡ true
    called-among there =
        in-flat p (λ cs. thread_types given.leaves cs) (calls_of lanes) lane.calls.now
        (place-contains (calls_of lanes) at.0 lane.calls.now (at-map (λ (l : Lane J). l.calls.now) lanes at.0 lane place)) there

    -- and all of them
    lane-among : list_any p (run_types g lane.pass.links.attempts (thread_types given.leaves lane.calls.now)) ≡ true →
        list_any p (all_types given (calls_of lanes)) ≡ true
    lane-among there =
        list_any-append p called linked
        ∙ ⊎_elim
        (λ (made : list_any p (flat_map (attempt_types g) lane.pass.links.attempts) ≡ true).
        or_right (list_any p called) (list_any p linked) (made-among made))
        (λ (own : list_any p (thread_types given.leaves lane.calls.now) ≡ true). or_left (list_any p called) (list_any p linked) (called-among own))
        (or_cases (list_any p (flat_map (attempt_types g) lane.pass.links.attempts)) (list_any p (thread_types given.leaves lane.calls.now))
        (sym (list_any-append p (flat_map (attempt_types g) lane.pass.links.attempts) (thread_types given.leaves lane.calls.now)) ∙ there))

  -- what all lanes have asked for
  lanes-among : (p : MethodTy → Bool) → list_any p (lanes_types g lanes) ≡ true → list_any p (all_types given (calls_of lanes)) ≡ true
  lanes-among p there =
      let found = of-flat p (λ (lane : Lane J). run_types g lane.pass.links.attempts (thread_types given.leaves lane.calls.now)) lanes there in
      lane-among p found.0 found.1 found.2

  -- so is all that a seat was asked for, where that is what the lanes have asked for
  pub asked-needed : (seat : SeatView) → WasAsked (lanes_types g lanes) seat → (t : MethodTy) → 0 < times_type t seat.asked →
      is_one (all_types given (calls_of lanes)) t ≡ true
  asked-needed seat was t some =
      let p : MethodTy → Bool = λ u. is_same_method_type u t in
      sym (any-turned t (all_types given (calls_of lanes)))
      ∙ lanes-among p
      (counted-any p (lanes_types g lanes) (more-with (times_type t (lanes_types g lanes)) (times_type t seat.asked) (was t) some))
