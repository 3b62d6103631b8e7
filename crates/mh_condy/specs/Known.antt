-- How what is known of constants grows, a constant at a time.
use Rattle.std.specs.Prelude.{◌≡◌, ◌≢◌, ℕ, Option, None, Some, Result, Ok, Err}
use denote.Ref.{Bor}
use Rattle.mh_setonce.specs.declared.put.Put.{Put}
use Rattle.mh_setonce.specs.declared.put.Put.TheVariants.{Mine, Theirs}
use Rattle.mh_condy.specs.Nodes.{Nodes, Keeps, node_in}
use Rattle.mh_condy.specs.Recorded.{ConstView}

-- this is what is recorded of the constant, if something is known of it
abbrev pub FindsNode : Nodes → ℕ → Option (Bor ConstView) → Type 0
FindsNode known c None = node_in known c ≡ None
FindsNode known c (Some node) = node_in known c ≡ Some node.now

-- what is known stays known, and nothing more is learnt, except of one constant
pub record LearnsOne (c : ℕ) (old new : Nodes) : Type 0 where
  pub keeps : Keeps old new
  pub others : (k : ℕ) → k ≢ c → node_in new k ≡ node_in old k

-- what is known of a constant after a put: ours, or another one; ours is handed back then, and if memory ran out
abbrev pub PutsNode : Nodes → ConstView → Result (Put ConstView) ConstView → Type 0
PutsNode known ours (Ok (Mine node)) = (node.now ≡ ours) × (node_in known ours.job.number ≡ Some ours)
PutsNode known ours (Ok (Theirs node back)) = node_in known ours.job.number ≡ Some node.now
PutsNode known ours (Err back) = back ≡ ours
