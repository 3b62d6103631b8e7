-- Passes over the constants are joined one after the other.
use Rattle.std.proofs.Common.{◌≡◌, sym, ◌∙◌, ap, ℕ, ◌+◌, ◌*◌, List, [], ◌∷◌, ◌++◌, append-nil, append_assoc, length, length-append, map, arith}
use Rattle.std.specs.List.{flat_map}
use Rattle.std.proofs.lemmas.Grind.{flat_map-append}
use Rattle.std.proofs.lemmas.List.{length-map}
use Rattle.std.proofs.lemmas.List.Elements.{All-push, All-weaker}
use Rattle.mh_tickets.specs.Seats.{KnowsAll, SeatView, joined_seats}
use Rattle.mh_condy.specs.declared.pass.ConstAttempt.{ConstAttempt}
use Rattle.mh_condy.specs.Nodes.{Keeps}
use Rattle.mh_condy.proofs.Trails.{keeps-both}
use Rattle.mh_runtime.specs.Bases.{Base}
use Rattle.mh_runtime.specs.Joined.{ThreadPasses}
use Rattle.mh_runtime.specs.Joining.{JoinsConstants}
use Rattle.mh_runtime.specs.Lanes.{HasResolved}
use Rattle.mh_runtime.specs.Passes.{HasBoth, LinkPass, split_room}

-- what items have, and one item more
pub after-more : {X Y : Type 0} (f : X → List Y) (before : List Y) (xs : List X) (x : X) →
    (before ++ flat_map f xs) ++ f x ≡ before ++ flat_map f (xs ++ x ∷ [])
after-more f before xs x =
    append_assoc before (flat_map f xs) (f x)
    ∙ ap (λ ys. before ++ ys) (sym (flat_map-append f xs (x ∷ []) ∙ ap (λ ys. flat_map f xs ++ ys) (append-nil (f x))))

-- one pass more was joined
pub constants-push : (base : Base) (all : List ThreadPasses) (p : ThreadPasses) (old new : LinkPass) → JoinsConstants base all old.constants →
    HasBoth old p.links new → new.constants.seat ≡ joined_seats old.constants.seat p.links.constants.seat → KnowsAll new.constants.seat →
    JoinsConstants base (all ++ p ∷ []) new.constants
constants-push base all p old new before both seat knows = record {
  table = both.constants_table ∙ before.table;
  learnt = keeps-both base.links.constants.known old.constants.known new.constants.known before.learnt both.constants.mine;
  known = All-push (λ (q : ThreadPasses). Keeps q.links.constants.known new.constants.known) all p
      (All-weaker (λ (q : ThreadPasses). Keeps q.links.constants.known old.constants.known)
      (λ (q : ThreadPasses). Keeps q.links.constants.known new.constants.known)
      (λ q keeps. keeps-both q.links.constants.known old.constants.known new.constants.known keeps both.constants.mine) all before.known)
      both.constants.theirs;
  attempts = both.constants.attempts ∙ (ap (λ made. made ++ p.links.constants.attempts) before.attempts
      ∙ after-more (λ (q : ThreadPasses). q.links.constants.attempts) base.links.constants.attempts all p);
  recorded = both.constants.recorded ∙ (ap (λ made. made ++ p.links.constants.recorded) before.recorded
      ∙ after-more (λ (q : ThreadPasses). q.links.constants.recorded) base.links.constants.recorded all p);
  numbers = ap (λ (s : SeatView). s.numbers) seat ∙ (ap (λ ns. ns ++ p.links.constants.seat.numbers) before.numbers
      ∙ after-more (λ (q : ThreadPasses). q.links.constants.seat.numbers) base.links.constants.seat.numbers all p);
  each_once = λ once. knows;
}

-- ---- rooms

-- a pass that was split off has as many numbers and as much room as it was given
pub resolved-whole : (base links : LinkPass) → HasResolved base links →
    links.constants.seat.room + length links.constants.seat.numbers ≡ split_room
resolved-whole base links is =
    let drawn = is.goes.attempts in
    let numbers : length links.constants.seat.numbers ≡ length (map (λ (a : ConstAttempt). a.serial) drawn.more) = ap length drawn.numbers in
    let count : length (map (λ (a : ConstAttempt). a.serial) drawn.more) ≡ length drawn.more = length-map drawn.more (λ (a : ConstAttempt). a.serial) in
    let room = drawn.room in
    omega (arith, numbers, count, room)

-- one pass more was joined, of so many
pub room-push : (count whole n : ℕ) (old other new : SeatView) → new ≡ joined_seats old other → other.room + length other.numbers ≡ split_room →
    old.room + length old.numbers + split_room * count ≡ whole + split_room * n →
    new.room + length new.numbers + split_room * count ≡ whole + split_room * (n + 1)
room-push count whole n old other new seat own before =
    let numbers : length new.numbers ≡ length old.numbers + length other.numbers =
    ap (λ (s : SeatView). length s.numbers) seat ∙ length-append old.numbers other.numbers in
    let room : new.room ≡ old.room + other.room = ap (λ (s : SeatView). s.room) seat in
    omega (arith, numbers, room, own, before)
