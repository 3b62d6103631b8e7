-- How a call of a linked site of the worked examples ended.
use Rattle.std.specs.Prelude.{ℕ, List, map, Option, Some, None, Result, Ok, Err}
use Rattle.mh_values.specs.declared.value.Exc.{Exc}
use Rattle.mh_values.specs.declared.value.Value.{Value}
use Rattle.mh_values.specs.Computation.{Gave, Threw, Stuck}
use Rattle.mh_tree.specs.Meaning.{Done}
use Rattle.mh_link.specs.Linked.{Linked, site_call}
use Rattle.mh_link.proofs.worked.Host.{host}

-- how a call ended, and the numbers of the leaves that it called
abbrev pub told : Done → Option (Result (Option Value) Exc × List ℕ)
told (Gave r calls) = Some (Ok r, map (λ c. c.leaf.0) calls)
told (Threw e calls) = Some (Err e, map (λ c. c.leaf.0) calls)
told Stuck = None

-- how a call of a linked site ended
abbrev pub calling : Linked → List Value → Option (Result (Option Value) Exc × List ℕ)
calling site args = told (site_call host site args)
