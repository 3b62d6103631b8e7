-- How a pass goes through constants while other passes do, in which order it attempts them, and what it makes.
use Rattle.std.specs.Prelude.{◌≡◌, ℕ, ◌+◌, ◌<◌, ◌≤◌, true, false, ◌||◌, ◌⊎◌, List, [], ◌∷◌, ◌++◌, map, Some}
use Rattle.mh_link.specs.Named.{Constants}
use Rattle.mh_link.specs.Depth.{most_depth, rank}
use Rattle.mh_link.specs.Places.{is_in, Has, first_new}
use Rattle.mh_link.specs.Asking.{asked_by, with_below}
use Rattle.mh_condy.specs.Nodes.{AreNodes, IsNodeOf, Keeps, Nodes, found_in, is_known, node_in, unknown}
use Rattle.mh_condy.specs.Passes.{PassView}
use Rattle.mh_condy.specs.Recorded.{ConstView}

-- of a pass: what is known, the constants that were attempted, in order, those whose nodes it has put, and how many serials it may draw
pub record Trail : Type 0 where
  pub known : Nodes
  pub attempts : List ℕ
  pub put : List ℕ
  pub left : ℕ

-- that of a pass
abbrev pub trail_of : PassView → Trail
trail_of pass = record {
  known = pass.known;
  attempts = map (λ a. a.constant) pass.attempts;
  put = map (λ a. a.constant) pass.recorded;
  left = pass.seat.room;
}

-- nothing is known, and nothing was attempted
pub record IsFresh (p : Trail) : Type 0 where
  pub known : (c : ℕ) → is_known p.known c ≡ false
  pub attempts : p.attempts ≡ []

-- ---- one pass alone

-- these constants are gone through
pub record GoesOn (run : Constants) (cs : List ℕ) (old new : Trail) : Type 0 where
  pub sound : AreNodes run new.known
  pub keeps : Keeps old.known new.known
  -- they and all that stands below them are known then, and no other than before
  pub known : (k : ℕ) → is_known new.known k ≡ (is_known old.known k || is_in (with_below (asked_by run (found_in new.known)) most_depth cs) k)
  -- each that was not known is attempted once, at its first place
  pub attempts : new.attempts ≡ old.attempts ++ first_new (is_known old.known) (with_below (asked_by run (found_in new.known)) most_depth cs)
  -- at most as many serials were drawn as constants became known, under each rank that is above theirs
  pub room : (r : ℕ) → ((c : ℕ) → Has cs c → rank run c < r) →
      unknown (rank run) r new.known + old.left ≤ unknown (rank run) r old.known + new.left

-- ---- beside others

-- each node that the pass has put is what is recorded of its constant under what the pass knows
pub record AreOwnNodes (run : Constants) (p : Trail) : Type 0 where
  pub each : (c : ℕ) (node : ConstView) → node_in p.known c ≡ Some node → Has p.put c → IsNodeOf run p.known c node
  pub there : (c : ℕ) → Has p.put c → is_known p.known c ≡ true

-- the pass has put all that it knows
abbrev pub HasPutAll : Trail → Type 0
HasPutAll p = (c : ℕ) → is_known p.known c ≡ true → Has p.put c

-- no number stands twice
abbrev pub AreApart : List ℕ → Type 0
AreApart [] = Unit {0}
AreApart (c ∷ cs) = (is_in cs c ≡ false) × AreApart cs

-- the constants that were attempted since
pub record AttemptsMore (run : Constants) (cs : List ℕ) (old new : Trail) : Type 0 where
  pub more : List ℕ
  pub are : new.attempts ≡ old.attempts ++ more
  -- each once, and none that was known; each is known then
  pub apart : AreApart more
  pub fresh : (c : ℕ) → Has more c → is_known old.known c ≡ false
  pub known : (c : ℕ) → Has more c → is_known new.known c ≡ true
  -- where all nodes that there are in the end are what they should be, these stand below what was gone through
  pub asked : (all : Nodes) → Keeps new.known all → AreNodes run all → (c : ℕ) → Has more c →
      Has (with_below (asked_by run (found_in all)) most_depth cs) c
  pub under : (r : ℕ) → ((c : ℕ) → Has cs c → rank run c < r) → (c : ℕ) → Has more c → rank run c < r

-- the pass goes through these constants while other passes do
pub record GoesBeside (run : Constants) (cs : List ℕ) (old new : Trail) : Type 0 where
  pub sound : AreOwnNodes run new
  pub keeps : Keeps old.known new.known
  pub known : (c : ℕ) → Has cs c → is_known new.known c ≡ true
  -- nothing becomes known that stands deeper than these
  pub above : (r : ℕ) → ((c : ℕ) → Has cs c → rank run c < r) → (k : ℕ) → r ≤ rank run k → is_known new.known k ≡ is_known old.known k
  pub attempts : AttemptsMore run cs old new
  -- what was put stays so, and no node was put that was known
  pub put : (c : ℕ) → Has old.put c → Has new.put c
  pub put_new : (c : ℕ) → Has new.put c → Has old.put c ⊎ (is_known old.known c ≡ false)
  pub room : (r : ℕ) → ((c : ℕ) → Has cs c → rank run c < r) →
      unknown (rank run) r new.known + old.left ≤ unknown (rank run) r old.known + new.left
  -- a pass that has put all that it knows goes on as one alone
  pub alone : HasPutAll new → AreNodes run old.known → GoesOn run cs old new

-- each node that there is in the end was put by a pass that knows nothing else
pub record PutBy (run : Constants) (all : Nodes) (c : ℕ) (node : ConstView) : Type 0 where
  pub pass : Trail
  pub own : AreOwnNodes run pass
  pub keeps : Keeps pass.known all
  pub at : node_in pass.known c ≡ Some node
  pub has : Has pass.put c
