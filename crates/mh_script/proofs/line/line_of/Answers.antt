use Rattle.std.proofs.Common.{ℕ, List, Bor, map, arith}
use Rattle.std.proofs.lemmas.List.{length-map}
use Rattle.mh_script.proofs.OtherCounts.{line_of-few}
use Rattle.mh_script.proofs.line.line_of.Goals as goal

pub returns-in_default : goal.returns-in_default
returns-in_default c =
    line_of-few c.args.classes.now (map (λ (t : Bor (List ℕ)). t.now) c.args.tokens.now) (simp length-map (omega arith))
