use Rattle.std.proofs.Common.{sym, ℕ, List, Bor, map, arith}
use Rattle.std.proofs.lemmas.List.{length-map}
use Rattle.mh_plan.proofs.Tokens.{is_call-few}
use Rattle.mh_plan.proofs.grammar.is_call.Goals as goal

pub returns-in_default : goal.returns-in_default
returns-in_default c = sym (is_call-few (map (λ (t : Bor (List ℕ)). t.now) c.args.tokens.now) (simp length-map (omega arith)))
