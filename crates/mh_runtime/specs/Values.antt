-- Values of dynamic constants that a pass may be spoken of under: those that agree with all that it has seen of them.
use Rattle.std.specs.Prelude.{◌≡◌, ℕ, List, Option, Some, All}
use Rattle.mh_cells.specs.Values.{value_at}
use Rattle.mh_condy.specs.Nodes.{Nodes, node_in}
use Rattle.mh_condy.specs.Recorded.{ConstView, FindingView}
use Rattle.mh_jobs.specs.Given.{Found, Given, under}
use Rattle.mh_attempt.specs.Linkage.{LinkageView}
use Rattle.mh_runtime.specs.declared.pass.Pass.{Pass}
use Rattle.mh_runtime.specs.Passes.{LinkPass}

-- this was found of a constant
abbrev pub Gives : Found → FindingView → Type 0
Gives known f = known f.constant ≡ Some f.value

-- each constant that is known has its recorded value
abbrev pub GivesNodes : Found → Nodes → Type 0
GivesNodes known nodes = (c : ℕ) (node : ConstView) → node_in nodes c ≡ Some node → known c ≡ Some node.value

-- and so has each that the attempts of linkages have found, wherever they were made
abbrev pub GivesFound : Found → List (Option LinkageView) → Type 0
GivesFound known linkages = (site : ℕ) (l : LinkageView) → value_at linkages site ≡ Some l → All (Gives known) l.under

-- these values are those that a pass has seen; a thread that finds a linkage need not have its constants
pub record Agrees (known : Found) (pass : LinkPass) : Type 0 where
  pub nodes : GivesNodes known pass.constants.known
  pub found : GivesFound known pass.linkages

-- this holds of what a run is given under each values that agree with a pass
abbrev pub AtLinks : Given → LinkPass → (Given → Type 0) → Type 0
AtLinks given links P = (known : Found) → Agrees known links → P (under known given)

-- the same of a whole pass
abbrev pub At : {J : Type 0} → Given → Pass J → (Given → Type 0) → Type 0
At given pass P = AtLinks given pass.links P
