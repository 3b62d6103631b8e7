use Rattle.std.proofs.Common.{ℕ, List, Bor, map, arith}
use Rattle.std.proofs.lemmas.List.{length-map}
use Rattle.mh_leaves.proofs.Tokens.{tokens_meaning-other}
use Rattle.mh_leaves.proofs.manifest.read_tokens.Goals as goal

pub returns-in_default : goal.returns-in_default
returns-in_default c =
    let tokens = map (λ (t : Bor (List ℕ)). t.now) c.args.tokens.now in
    tokens_meaning-other c.args.leaves.now tokens (simp length-map (omega arith)) (simp length-map (omega arith))

pub returns-in_default-2 : goal.returns-in_default-2
returns-in_default-2 c =
    let tokens = map (λ (t : Bor (List ℕ)). t.now) c.args.tokens.now in
    tokens_meaning-other c.args.leaves.now tokens (simp length-map (omega arith)) (simp length-map (omega arith))

pub returns-in_default-3 : goal.returns-in_default-3
returns-in_default-3 c =
    let tokens = map (λ (t : Bor (List ℕ)). t.now) c.args.tokens.now in
    tokens_meaning-other c.args.leaves.now tokens (simp length-map (omega arith)) (simp length-map (omega arith))
