-- What resolving a constant leaves of a pass.
use Rattle.std.specs.Prelude.{◌≡◌, ℕ, suc, ◌+◌, ◌<◌, ◌≤◌, List, [], ◌∷◌, ◌++◌, length, map, All, AllPairs, None, Some, Result, IfOk, IsSome, OnErr, OnOk}
use denote.Ref.{Bor}
use Rattle.mh_base.specs.declared.memory.NoMemory.{NoMemory}
use Rattle.mh_tickets.specs.Seats.{KnowsAll}
use Rattle.mh_link.specs.Named.{Constants}
use Rattle.mh_link.specs.Depth.{rank}
use Rattle.mh_condy.specs.declared.pass.ConstAttempt.{ConstAttempt}
use Rattle.mh_condy.specs.Nodes.{Keeps, node_in, unknown}
use Rattle.mh_condy.specs.Passes.{PassView}
use Rattle.mh_condy.specs.Recorded.{ConstView}
use Rattle.mh_condy.specs.Trails.{GoesBeside, trail_of}

-- each number is greater than those before it
abbrev pub Rise : List ℕ → Type 0
Rise numbers = AllPairs (λ a b. a < b) numbers

-- attempts were made, each with a number that was drawn for it
pub record Attempts (old new : PassView) : Type 0 where
  pub more : List ConstAttempt
  pub attempts : new.attempts ≡ old.attempts ++ more
  pub own : All (λ a. a.thread ≡ old.thread) more
  pub tickets : new.seat.tickets ≡ old.seat.tickets
  pub numbers : new.seat.numbers ≡ old.seat.numbers ++ map (λ a. a.serial) more
  pub room : new.seat.room + length more ≡ old.seat.room
  pub rise : Rise old.seat.numbers → Rise new.seat.numbers
  pub knows : KnowsAll old.seat → KnowsAll new.seat

-- the pass stays with its table and its thread, and what it has stays so
pub record GoesOnResolving (old new : PassView) : Type 0 where
  pub table : new.table ≡ old.table
  pub thread : new.thread ≡ old.thread
  pub known : Keeps old.known new.known
  pub attempts : Attempts old new
  pub recorded : (more : List ConstAttempt) × (new.recorded ≡ old.recorded ++ more)

-- a pass has drawn at most as many serials as there are constants of a rank below a number that it had not learnt, however resolving them ended
abbrev pub DrawsFew : Constants → ℕ → PassView → PassView → Type 0
DrawsFew run under old new = old.seat.room ≤ unknown (rank run) under old.known + new.seat.room

-- a constant was resolved, or memory ran out
pub record Resolves (run : Constants) (c : ℕ) (old new : PassView) (result : Result (Bor ConstView) NoMemory) : Type 0 where
  pub goes_on : GoesOnResolving old new
  -- the answer is what the pass has learnt of the constant then: the first that was put into its cell
  pub found : IfOk result (λ node. node_in new.known c ≡ Some node.now)
  -- a constant that the pass had learnt is answered, and changes nothing
  pub resolved : OnErr result (node_in old.known c ≡ None)
  pub learnt : IsSome (node_in old.known c) → new ≡ old
  -- the constants that it asks were gone through, in which order, and by which attempts
  pub goes : OnOk result (GoesBeside run (c ∷ []) (trail_of old) (trail_of new))
  -- and few serials were drawn for that
  pub few : DrawsFew run (suc (rank run c)) old new
