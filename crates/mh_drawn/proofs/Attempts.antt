-- What an attempt at one more call site leaves of the tables.
use Rattle.std.proofs.Common.{◌≡◌, sym, ◌∙◌, ap, subst, ℕ, suc, ◌+◌, ◌^◌, ◌≤◌, ◌++◌, length, Some, Result, Ok, Err, IfErr, IfOk, OnOk, arith}
use Rattle.std.specs.Prelude.{slice_get}
use Rattle.std.proofs.lemmas.List.Elements.{All-weaker}
use Rattle.mh_intern.specs.Held.{times_type}
use Rattle.mh_intern.specs.Views.{SeatView}
use Rattle.mh_intern.proofs.Measures.{times_type-append}
use Rattle.mh_handle.specs.declared.work.Work.{Work}
use Rattle.mh_handle.specs.Recipe.{recipe}
use Rattle.mh_handle.specs.Works.{GoesOn, IsReady}
use Rattle.mh_jobs.specs.declared.job.Job.{Job}
use Rattle.mh_jobs.specs.Given.{Found, Given, under}
use Rattle.mh_link.specs.Sites.{edits_at, types_at}
use Rattle.mh_condy.specs.Nodes.{Knows, found_in, unresolved}
use Rattle.mh_condy.specs.Passes as consts
use Rattle.mh_condy.specs.Resolving.{GoesOnResolving}
use Rattle.mh_attempt.specs.declared.error.WorkError.{WorkError}
use Rattle.mh_attempt.specs.declared.error.WorkError.TheVariants as work
use Rattle.mh_attempt.specs.Asked.{Asks, HasAsked, HasDrawn, attempt_draws}
use Rattle.mh_attempt.specs.AskedTypes.{AsksNoOther, AsksTypes}
use Rattle.mh_attempt.specs.Constants.{AsksConstants, AsksFirst, HaveGoneFirst, given_in}
use Rattle.mh_attempt.specs.Linkage.{AddsLinkage, LinkageView}
use Rattle.mh_drawn.specs.Linked.{Gives, GivesNodes, HasAskedFor, HasLinked, HasRoomAfter, HasStopped, IsLinkageOf, IsOf, StaysLent, StopsAttempt, WasAsked, edits_to, serial_of, types_to}
use Rattle.mh_drawn.proofs.Resolved.{resolved-next}
use Rattle.mh_drawn.proofs.Values.{edits-agree, found-known, gives-before, types-agree}

-- there is room for one more attempt
pub is-ready : (given : Given) (count : ℕ) (w : Work) (constants : consts.PassView) → count ≤ 4095 → IsOf given w →
    HasLinked given count w.pass.now w.seat.now constants → IsReady w attempt_draws
is-ready given count w constants few of linked = record {
  of_table = of.forms;
  room = omega (arith, few, linked.room.numbers);
  of_types = of.types;
  holds = omega (arith, few, linked.room.holds);
}

-- the recipes and the types of one more call site
edits-next : (given : Given) (count : ℕ) →
    edits_to given (count + 1) ≡ edits_to given count ++ edits_at (recipe given.leaves) given count (serial_of count)
edits-next given count = let on : count + 1 ≡ suc count = omega arith in ap (edits_to given) on

types-next : (given : Given) (count : ℕ) → types_to given (count + 1) ≡ types_to given count ++ types_at given count (serial_of count)
types-next given count = let on : count + 1 ≡ suc count = omega arith in ap (types_to given) on

-- what is lent, after more attempts
pub lent_both : (old mid new : Work) → StaysLent old mid → StaysLent mid new → StaysLent old new
lent_both old mid new one more = record {
  types = more.types ∙ one.types;
  lent = more.lent ∙ one.lent;
  forms = more.forms ∙ one.forms;
  borrow = more.borrow ∙ one.borrow;
}

-- ---- an attempt, where constants have these values

-- what the seat was asked for
no-other : (given : Given) (count : ℕ) (old new : SeatView) → WasAsked (types_to given count) old →
    AsksNoOther (types_at given count (serial_of count)) old new → WasAsked (types_to given (count + 1)) new
no-other given count old new was asks-no t none =
    let each = ap (times_type t) (types-next given count) ∙ times_type-append t (types_to given count) (types_at given count (serial_of count)) in
    let first : times_type t (types_to given count) ≡ 0 = omega (arith, none, each) in
    asks-no t (omega (arith, none, each, was t first))

-- ---- an attempt

module _ (given : Given) (count : ℕ) (job : Job) (named : slice_get given.jobs count ≡ Some job) (p q : consts.PassView) (old new : Work)
    (of : IsOf given old) (linked : HasLinked given count old.pass.now old.seat.now p) (goes : GoesOn attempt_draws old new) (on : GoesOnResolving p q) where
  pub still-of : IsOf given new
  still-of = record {
    leaves = ap (λ l. l.now) goes.leaves ∙ of.leaves;
    forms = goes.table ∙ of.forms ∙ sym (ap (λ f. f.now) goes.forms);
    types = goes.seat ∙ of.types ∙ sym (ap (λ t. t.now) goes.types);
  }

  pub still-lent : StaysLent old new
  still-lent = record { types = goes.types; lent = goes.lent; forms = goes.forms; borrow = goes.borrow }

  whole : (r : Result LinkageView WorkError) → AddsLinkage old new r → new.seat.now.room + length new.seat.now.holds ≡ 2 ^ 62
  whole (Ok linkage) adds = omega (arith, adds.1.room, adds.1.many, linked.room.whole)
  whole (Err e) adds = omega (arith, adds.1.room, adds.1.many, linked.room.whole)

  room-left : (r : Result LinkageView WorkError) → AddsLinkage old new r → HasRoomAfter (count + 1) new.pass.now new.seat.now
  room-left r adds = record {
    numbers = omega (arith, linked.room.numbers, goes.room);
    holds = omega (arith, linked.room.holds, goes.holds);
    whole = whole r adds;
  }

  -- ---- where constants have values that agree with what is known of them

  module _ (known : Found) (gives : GivesNodes known q.known) (gone : HaveGoneFirst given job p q) where
    before : HasAskedFor (under known given) count old.pass.now old.seat.now
    before = linked.asked_for known (gives-before known p.known q.known on.known gives)

    edits-are : edits_at (recipe given.leaves) (given_in q given) count (serial_of count)
        ≡ edits_at (recipe given.leaves) (under known given) count (serial_of count)
    edits-are = edits-agree given known count (serial_of count) job named p q gone.0 gone.1 gives

    types-are : types_at (given_in q given) count (serial_of count) ≡ types_at (under known given) count (serial_of count)
    types-are = types-agree given known count (serial_of count) job named p q gone.0 gone.1 gives

    asked-types : AsksNoOther (types_at (given_in q given) count (serial_of count)) old.seat.now new.seat.now →
        WasAsked (types_to (under known given) (count + 1)) new.seat.now
    asked-types asks =
        no-other (under known given) count old.seat.now new.seat.now before.types
        (subst (λ ts. AsksNoOther ts old.seat.now new.seat.now) types-are asks)

    asked-more : (l : LinkageView) → Asks (edits_at (recipe given.leaves) (given_in q given) count (serial_of count)) old new (Ok l) →
        AsksTypes (types_at (given_in q given) count (serial_of count)) old new (Ok l) →
        HasAskedFor (under known given) (count + 1) new.pass.now new.seat.now
    asked-more l asks types = record {
      asked = subst (λ rs. HasAsked rs new.pass.now)
          (ap (λ rs. edits_to (under known given) count ++ rs) edits-are ∙ sym (edits-next (under known given) count))
          (asks.asked (edits_to (under known given) count) before.asked);
      types = asked-types types;
    }

    stopped-forms : (drawn : ℕ) → HasRoomAfter (count + 1) new.pass.now new.seat.now →
        Asks {A = LinkageView} (edits_at (recipe given.leaves) (given_in q given) count (serial_of count)) old new (Err (work.FormsFull drawn)) →
        HasStopped (under known given) (count + 1) new.pass.now new.seat.now (work.FormsFull drawn)
    stopped-forms drawn room asks = (
      room,
      subst (λ rs. HasDrawn (2 ^ 62) rs new.pass.now)
          (ap (λ rs. edits_to (under known given) count ++ rs) edits-are ∙ sym (edits-next (under known given) count))
          (asks.0 (2 ^ 62) linked.within (edits_to (under known given) count) before.asked),
      asks.1,
    )

  -- ---- how it ends

  pub linked-more : (r : Result LinkageView WorkError) → AddsLinkage old new r →
      AsksFirst given job p q old.seat.now new.seat.now r → OnOk r (unresolved q.known ≤ q.seat.room) →
      Asks (edits_at (recipe given.leaves) (given_in q given) count (serial_of count)) old new r →
      AsksTypes (types_at (given_in q given) count (serial_of count)) old new r →
      OnOk r (HasLinked given (count + 1) new.pass.now new.seat.now q)
  linked-more (Ok linkage) adds gone serials asks asked = record {
    room = room-left (Ok linkage) adds;
    within = asks.within (2 ^ 62) linked.within;
    asked_for = λ known gives. asked-more known gives gone linkage asks asked;
    resolved = resolved-next given count job named p q gone.0 linked.resolved on gone.1;
    serials = serials;
  }
  linked-more (Err e) adds gone serials asks asked = tt

  pub stopped : (r : Result LinkageView WorkError) → AddsLinkage old new r → AsksFirst given job p q old.seat.now new.seat.now r →
      Asks (edits_at (recipe given.leaves) (given_in q given) count (serial_of count)) old new r →
      AsksTypes (types_at (given_in q given) count (serial_of count)) old new r →
      IfErr r (StopsAttempt given (count + 1) new.pass.now new.seat.now q)
  stopped (Ok linkage) adds gone asks asked = tt
  stopped (Err work.NoMemory) adds gone asks asked = tt
  stopped (Err (work.FormsFull drawn)) adds gone asks asked = (
    resolved-next given count job named p q gone.0 linked.resolved on gone.1,
    λ known gives. stopped-forms known gives gone drawn (room-left (Err (work.FormsFull drawn)) adds) asks,
  )
  stopped (Err (work.TypesFull bucket)) adds gone asks asked = (
    resolved-next given count job named p q gone.0 linked.resolved on gone.1,
    λ known gives. (room-left (Err (work.TypesFull bucket)) adds, asked-types known gives gone asked.0, asked.1),
  )

  pub linkage-of : (r : Result LinkageView WorkError) → IfOk r (λ l. (l.job ≡ job) × (l.serial ≡ serial_of count)) →
      IfOk r (λ l. AsksConstants given job p q l.under) → job.site ≡ count → IfOk r (IsLinkageOf (found_in q.known) count)
  linkage-of (Ok l) is asks site = record {
    site = ap (λ (j : Job). j.site) is.0 ∙ site;
    serial = is.1;
    found = All-weaker (Knows q.known) (Gives (found_in q.known)) (found-known q.known) l.under asks.knows;
  }
  linkage-of (Err e) is asks site = tt
