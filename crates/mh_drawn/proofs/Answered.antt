-- Call sites that are linked one after the other.
use Rattle.std.proofs.Common.{◌≡◌, refl, sym, ◌∙◌, ap, subst, ℕ, ◌+◌, ◌^◌, ◌≤◌, ◌⊎◌, inl, inr, List, [], ◌∷◌, ◌++◌, length, length-append, Some, slice_get, arith}
use Rattle.std.specs.List.{IsDistinct}
use Rattle.std.proofs.lemmas.List.Elements.{All-weaker}
use Rattle.mh_base.proofs.Slices.{slice_get-push}
use Rattle.mh_seats.specs.Room.{limit}
use Rattle.mh_tickets.specs.Seats.{SeatView as SerialsSeat, new_seat as new_serials}
use Rattle.mh_intern.specs.Views.{SeatView as TypesSeat, TypesId, new_seat}
use Rattle.mh_handle.specs.Passes.{PassView, SeatView, TableView, pass_at, seat_at}
use Rattle.mh_jobs.specs.Given.{Found, Given, under}
use Rattle.mh_condy.specs.Nodes.{Keeps, Nodes, found_in}
use Rattle.mh_condy.specs.Passes as consts
use Rattle.mh_attempt.specs.Linkage.{LinkageView}
use Rattle.mh_drawing.specs.declared.place.Place.{Place}
use Rattle.mh_drawing.specs.declared.site.Site.{Site}
use Rattle.mh_drawn.specs.Linked.{AreLinkages, Gives, HasAskedFor, HasLinked, IsAnswered, IsLinkageOf, unused}
use Rattle.mh_drawn.proofs.Resolved.{few-unresolved, resolved-none}
use Rattle.mh_drawn.proofs.Values.{found-later}

-- a list with one more
pub longer : {A : Type 0} (count : ℕ) (old new : List A) (x : A) → length old ≡ count → new ≡ old ++ x ∷ [] → length new ≡ count + 1
longer count old new x long more_is = ap length more_is ∙ length-append old (x ∷ []) ∙ ap (λ n. n + 1) long

-- one more of a list of which each is right at its place
more : {A : Type 0} (Is : ℕ → A → Type 0) (count : ℕ) (old new : List A) (x : A) → length old ≡ count →
    ((k : ℕ) (y : A) → slice_get old k ≡ Some y → Is k y) → Is count x → new ≡ old ++ x ∷ [] →
    (length new ≡ count + 1) × ((k : ℕ) (y : A) → slice_get new k ≡ Some y → Is k y)
more {A = A} Is count old new x long each is more_is =
    (longer count old new x long more_is, one)
  where
    cases : (k : ℕ) (y : A) → (slice_get old k ≡ Some y) ⊎ ((k ≡ length old) × (x ≡ y)) → Is k y
    cases k y (inl earlier) = each k y earlier
    cases k y (inr last) = subst (λ n. Is n y) (sym long ∙ sym last.0) (subst (Is count) last.1 is)

    one : (k : ℕ) (y : A) → slice_get new k ≡ Some y → Is k y
    one k y at = cases k y (slice_get-push old x k y (subst (λ xs. slice_get xs k ≡ Some y) more_is at))

-- one linkage more, whose attempt has learnt more of the constants
pub more-linkages : (known later : Nodes) (count : ℕ) (old new : List LinkageView) (linkage : LinkageView) → Keeps known later →
    AreLinkages (found_in known) count old → IsLinkageOf (found_in later) count linkage → new ≡ old ++ linkage ∷ [] →
    AreLinkages (found_in later) (count + 1) new
more-linkages known later count old new linkage keeps are is more_is =
    more (IsLinkageOf (found_in later)) count old new linkage are.0
    (λ k l at.
    let one = are.1 k l at in
    record {
      site = one.site;
      serial = one.serial;
      found = All-weaker (Gives (found_in known)) (Gives (found_in later)) (found-later known later keeps) l.under one.found;
    }) is more_is

-- each of the first call sites is answered, so many of them
abbrev pub AreSome : Given → List Place → ℕ → List Site → Type 0
AreSome given places count sites =
    (length sites ≡ count) × ((number : ℕ) (site : Site) → slice_get sites number ≡ Some site → IsAnswered given places number site)

pub more-answered : (given : Given) (places : List Place) (count : ℕ) (old new : List Site) (site : Site) → AreSome given places count old →
    IsAnswered given places count site → new ≡ old ++ site ∷ [] → AreSome given places (count + 1) new
more-answered given places count old new site are is more_is = more (IsAnswered given places) count old new site are.0 are.1 is more_is

-- nothing was linked yet
module _ (given : Given) (table : TableView) (types : TypesId) (constants : consts.TableView) where
  none-asked : (known : Found) → HasAskedFor (under known given) 0 (pass_at table (seat_at table 0)) (new_seat types (2 ^ 62))
  unfolding IsDistinct
  none-asked known = record { asked = record { once = tt; same = λ recipe. refl }; types = λ t none. refl }

  pub none-linked : length given.constants ≤ 2 ^ 62 →
      HasLinked given 0 (pass_at table (seat_at table 0)) (new_seat types (2 ^ 62)) (unused given constants)
  none-linked few = record {
    room = record { numbers = omega arith; holds = omega arith; whole = omega arith };
    within = record { few = omega arith; room = omega arith };
    asked_for = λ known gives. none-asked known;
    resolved = resolved-none given constants;
    serials = let few' = few-unresolved (length given.constants) in omega (arith, few, few');
  }

-- the same of first passes and a first seat
pub fresh : (given : Given) (table : TableView) (pass : PassView) (seat : SeatView) (types : TypesId) (types_seat : TypesSeat)
    (constants : consts.TableView) (asked : consts.PassView) (serials : SerialsSeat) → length given.constants ≤ 2 ^ 62 →
    pass ≡ pass_at table seat → seat ≡ seat_at table 0 → types_seat ≡ new_seat types (2 ^ 62) →
    asked ≡ consts.pass_at constants 0 (length given.constants) serials → serials ≡ new_serials constants.serials limit →
    HasLinked given 0 pass types_seat asked
fresh given table pass seat types types_seat constants asked serials few at first new unasked all =
    subst (λ p. HasLinked given 0 p types_seat asked) (sym (at ∙ ap (pass_at table) first))
    (subst (λ s. HasLinked given 0 (pass_at table (seat_at table 0)) s asked) (sym new)
    (subst (HasLinked given 0 (pass_at table (seat_at table 0)) (new_seat types (2 ^ 62)))
    (sym (unasked ∙ ap (consts.pass_at constants 0 (length given.constants)) all)) (none-linked given table types constants few)))
