use Rattle.std.proofs.Common.{ap, sym, ◌∙◌, ℕ, List, Bor, map, Ok, arith}
use Rattle.std.proofs.lemmas.List.{length-map}
use Rattle.mh_plan.proofs.Tokens.{tokens_meaning-few}
use Rattle.mh_plan.proofs.calls.read_tokens.Goals as goal

pub returns-in_default : goal.returns-in_default
returns-in_default c =
    tokens_meaning-few c.args.of.now.leaves.now c.args.of.now.jobs.now c.args.threads.now.items
    (map (λ (t : Bor (List ℕ)). t.now) c.args.tokens.now) (simp length-map (omega arith))
    ∙ ap (λ threads. Ok threads) (sym c.in_ok-add_thread.ensures)
