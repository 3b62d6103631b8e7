-- How many constants are not known, under any rank.
use Rattle.std.proofs.Common.{◌≡◌, refl, ap, ℕ, zero, suc, ◌<◌, ◌≤◌, Bool, true, false, ◌&&◌, if◌then◌else◌, List, [], ◌∷◌, Option, Some, None, Ok, Err, arith}
use Rattle.std.specs.Prelude.{IfOk, OnOk, Result, is_none, nat_lt, unwrap_or}
use denote.Ref.{Bor}
use Rattle.mh_base.specs.declared.memory.NoMemory.{NoMemory}
use Rattle.std.proofs.lemmas.Bool.{lt-ltb}
use Rattle.std.proofs.lemmas.List.Sums.{sum_by-cons}
use Rattle.mh_jobs.specs.declared.unresolved.Part.{Part}
use Rattle.mh_jobs.specs.declared.unresolved.Part.TheVariants.{Known, Constant}
use Rattle.mh_jobs.specs.declared.unresolved.StaticArguments.{StaticArguments}
use Rattle.mh_link.specs.Named.{Constants}
use Rattle.mh_link.specs.Resolved.{asked}
use Rattle.mh_link.specs.Depth.{depth, most_depth, rank}
use Rattle.mh_link.proofs.constants.Depths.{depth-small}
use Rattle.mh_condy.specs.declared.attempt.Asked.{Asked}
use Rattle.mh_condy.specs.Given.{AreAsked, AreUnder}
use Rattle.mh_condy.specs.Nodes.{Nodes, found_in, unknown, unresolved}
use Rattle.mh_condy.specs.Passes.{PassView}
use Rattle.mh_condy.specs.Recorded.{ConstView}
use Rattle.mh_condy.specs.Runs.{HavePlaces}
use Rattle.mh_condy.specs.Trails.{GoesBeside, trail_of}

abbrev counted : Bool → ℕ
counted b = if b then 1 else 0

and-left : (a b : Bool) → counted (a && b) ≤ counted a
and-left false b = omega arith
and-left true false = omega arith
and-left true true = omega arith

and-true : (a b : Bool) → b ≡ true → counted (a && b) ≡ counted a
and-true false b e = refl
and-true true b e = ap counted e

-- those under a rank are some of all
pub unknown-within : (ranks : ℕ → ℕ) (r : ℕ) (known : Nodes) → unknown ranks r known ≤ unresolved known
unknown-within ranks r [] = omega arith
unknown-within ranks r (o ∷ known) =
    let all = sum_by-cons (λ (o : Option ConstView). if is_none o then 1 else 0) o known in
    let here = and-left (is_none o) (nat_lt (ranks zero) r) in
    let rest = unknown-within (λ c. ranks (suc c)) r known in
    omega arith

-- those under a rank that is above all ranks are all
pub unknown-all : (ranks : ℕ → ℕ) (r : ℕ) (known : Nodes) → ((c : ℕ) → ranks c < r) → unknown ranks r known ≡ unresolved known
unknown-all ranks r [] high = refl
unknown-all ranks r (o ∷ known) high =
    let all = sum_by-cons (λ (o : Option ConstView). if is_none o then 1 else 0) o known in
    let here = and-true (is_none o) (nat_lt (ranks zero) r) (lt-ltb (ranks zero) r (high zero)) in
    let rest = unknown-all (λ c. ranks (suc c)) r known (λ c. high (suc c)) in
    omega arith

-- no constant stands deeper than 64
rank-small : (run : Constants) (c : ℕ) → rank run c < 65
unfolding most_depth
rank-small run c = cases (depth run c) refl
  where
    cases : (o : Option ℕ) → depth run c ≡ o → unwrap_or o 0 < 65
    cases None is = omega arith
    cases (Some k) is = let s = depth-small run 64 c k is in omega arith

-- as many serials are left at least as there are constants that are not known
pub room-left : (run : Constants) (cs : List ℕ) (old new : PassView) → GoesBeside run cs (trail_of old) (trail_of new) →
    unresolved old.known ≤ old.seat.room → unresolved new.known ≤ new.seat.room
room-left run cs old new goes room =
    let drawn = goes.room 65 (λ d h. rank-small run d) in
    let before = unknown-all (rank run) 65 old.known (rank-small run) in
    let after = unknown-all (rank run) 65 new.known (rank-small run) in
    omega arith

pub room-left-ok : (run : Constants) (c : ℕ) (old new : PassView) (result : Result (Bor ConstView) NoMemory) →
    OnOk result (GoesBeside run (c ∷ []) (trail_of old) (trail_of new)) → unresolved old.known ≤ old.seat.room →
    OnOk result (unresolved new.known ≤ new.seat.room)
room-left-ok run c old new (Ok node) goes room = room-left run (c ∷ []) old new goes room
room-left-ok run c old new (Err e) goes room = tt

-- after the constants among arguments were gone through, too
pub room-left-asked : (run : Constants) (arguments : StaticArguments) (old new : PassView) (result : Result Asked NoMemory) →
    IfOk result (AreAsked run arguments old new) → unresolved old.known ≤ old.seat.room → OnOk result (unresolved new.known ≤ new.seat.room)
room-left-asked run arguments old new (Ok a) are room = room-left run (asked (found_in new.known) arguments.parts) old new are.goes room
room-left-asked run arguments old new (Err e) are room = tt

-- constants of the run stand under a rank that is above all
pub under-all : (run : Constants) (parts : List Part) → HavePlaces run parts → AreUnder run 65 parts
under-all run [] places = tt
under-all run (Known a ∷ parts) places = under-all run parts (λ i d at. places (suc i) d at)
under-all run (Constant c ∷ parts) places = (rank-small run c, places zero c refl, under-all run parts (λ i d at. places (suc i) d at))
