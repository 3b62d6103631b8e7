use Rattle.std.proofs.Common.{sym, ℕ, List, Bor, map, arith}
use Rattle.std.proofs.lemmas.List.{length-map}
use Rattle.mh_script.proofs.OtherCounts.{body_fault-few}
use Rattle.mh_script.proofs.fault.body_fault.Goals as goal

pub returns-in_default : goal.returns-in_default
returns-in_default c =
    sym (body_fault-few c.args.classes.now c.args.steps.now (map (λ (t : Bor (List ℕ)). t.now) c.args.tokens.now) (simp length-map (omega arith)))
