use Rattle.mh_bench.proofs.LettingGo.{copy_let_go}
use Rattle.mh_bench.proofs.types.dup_turn.Goals as goal

pub returns : goal.returns
returns c = record { same = copy_let_go _ _ _ _ c.requires.room c.in_ok-copy.ensures.ok c.release.ensures.released }
