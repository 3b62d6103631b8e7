-- How each kind of step of the table of holders changes a view.
use Rattle.std.specs.Prelude.{ℕ, zero, suc, ◌+◌, ◌-◌, ◌==◌, cond, List, [], ◌∷◌, ◌++◌, drop, slice_index, replicate}
use Rattle.mh_values.specs.declared.types.MethodTy.{MethodTy}
use Rattle.mh_intern.specs.declared.holding.Entry.{Entry}
use Rattle.mh_intern.specs.declared.holding.FullBucket.{FullBucket}
use Rattle.mh_intern.specs.declared.holding.Holding.{Holding}
use Rattle.mh_intern.specs.Buckets.{buckets}
use Rattle.mh_seats.specs.Room.{limit}
use Rattle.mh_intern.specs.Lists.{removed}

-- the view of a seat that has nothing: a join leaves it of the other seat
abbrev pub nothing : Holding
nothing = record { holds = []; kept = []; room = 0; asked = []; full = []; keeps = []; entries = []; zeros = []; busy = []; wanted = [] }

-- the view of a caller
abbrev pub caller : List Entry → ℕ → List MethodTy → List FullBucket → Holding
caller holds room asked full = record nothing { holds = holds; room = room; asked = asked; full = full }

-- the view of a keeper that reads for a request
abbrev pub keeper : List ℕ → List Entry → List ℕ → List ℕ → List MethodTy → ℕ → Holding
keeper keeps entries zeros busy wanted room =
    record nothing { room = room; keeps = keeps; entries = entries; zeros = zeros; busy = busy; wanted = wanted }

-- the view of a keeper of one bucket that has no request
abbrev pub at_rest : ℕ → List Entry → Holding
at_rest bucket entries = keeper (bucket ∷ []) entries [] [] [] 0

-- two views together
abbrev pub joined_views : Holding → Holding → Holding
joined_views v w = record {
  holds = w.holds ++ v.holds;
  kept = w.kept ++ v.kept;
  room = w.room + v.room;
  asked = w.asked ++ v.asked;
  full = w.full ++ v.full;
  keeps = w.keeps ++ v.keeps;
  entries = w.entries ++ v.entries;
  zeros = w.zeros ++ v.zeros;
  busy = w.busy ++ v.busy;
  wanted = w.wanted ++ v.wanted;
}

-- a caller has one hold more that the words count, and room for one less
abbrev pub held_more : Entry → Holding → Holding
held_more e v = record v { holds = e ∷ v.holds; kept = e ∷ v.kept; room = v.room - 1 }

-- a caller has one hold less that the words count, and room for one more
abbrev pub held_less : Entry → Holding → Holding
held_less e v = record v { holds = removed e v.holds; kept = removed e v.kept; room = v.room + 1 }

-- a caller keeps one hold more, which stands on one that is counted
abbrev pub kept_more : Entry → Holding → Holding
kept_more e v = record v { kept = e ∷ v.kept }

-- the same, where the type was asked for
abbrev pub kept_asked : Entry → Holding → Holding
kept_asked e v = record v { kept = e ∷ v.kept; asked = e.ty ∷ v.asked }

-- a caller keeps one hold less, and as many as before are counted
abbrev pub kept_less : Entry → Holding → Holding
kept_less e v = record v { kept = removed e v.kept }

-- so many holds more are counted, of those that a caller keeps
abbrev pub counted_more : ℕ → Entry → Holding → Holding
counted_more n e v = record v { holds = replicate n e ++ v.holds; room = v.room - n }

-- a keeper with these notes
abbrev pub with_notes : List ℕ → List ℕ → Holding → Holding
with_notes zeros busy v = record v { zeros = zeros; busy = busy }

-- a keeper has read a slot, found n, and noted it as zero or as not zero
abbrev pub after_read : ℕ → ℕ → Holding → Holding
after_read k n v = with_notes (cond (n == 0) (k ∷ v.zeros) v.zeros) (cond (n == 0) v.busy (k ∷ v.busy)) v

-- a keeper has raised a word for a request, and has this list now
abbrev pub after_raise : Entry → List Entry → Holding → Holding
after_raise e entries v = record v { holds = e ∷ v.holds; room = v.room - 1; entries = entries; zeros = []; busy = []; wanted = [] }

-- room is cut off for a new caller
abbrev pub less_room : ℕ → Holding → Holding
less_room room v = record v { room = v.room - room }

-- a caller has asked for a type, and sent one room along
abbrev pub after_request : MethodTy → Holding → Holding
after_request t v = record v { room = v.room - 1; asked = t ∷ v.asked }

-- a request for a type, with its one room
abbrev pub request : MethodTy → Holding
request t = keeper [] [] [] [] (t ∷ []) 1

-- a keeper has replied, and is at rest
abbrev pub after_reply : Holding → Holding
after_reply v = record v { holds = []; room = 0; zeros = []; busy = []; wanted = [] }

-- its reply: the hold, which the caller keeps
abbrev pub reply : Holding → Holding
reply v = record (caller v.holds v.room [] []) { kept = v.holds }

-- the bucket of a keeper, with what was read in it
abbrev pub full_bucket : Holding → FullBucket
full_bucket v = record { bucket = slice_index v.keeps 0; entries = v.entries; busy = v.busy }

-- its refusal: the room of the request, and the full bucket
abbrev pub refusal : Holding → Holding
refusal v = caller v.holds v.room [] (full_bucket v ∷ [])

-- the numbers from a on
abbrev pub up_from : ℕ → ℕ → List ℕ
up_from a zero = []
up_from a (suc n) = a ∷ up_from (suc a) n

-- at the start one seat has all the room and keeps all buckets
abbrev pub first : Holding
first = record nothing { room = limit; keeps = up_from 0 buckets }

-- a seat without the first of its buckets
abbrev pub without_first : Holding → Holding
without_first v = record v { keeps = drop 1 v.keeps }

-- a keeper of the first of its buckets
abbrev pub first_keeper : Holding → Holding
first_keeper v = at_rest (slice_index v.keeps 0) []

-- the first seat, once the buckets below b have keepers of their own
abbrev pub dealt : ℕ → Holding
dealt b = record nothing { room = limit; keeps = up_from b (buckets - b) }
