use Rattle.std.proofs.lemmas.Result.{on_ok_weaker}
use Rattle.mh_made_class.proofs.Runs.{four_pieces}
use Rattle.mh_made_class.proofs.constants.push_members.Goals as goal

pub returns : goal.returns
returns c =
    on_ok_weaker c.push_word-4.result (λ h. four_pieces _ _ _ _ _ _ _ _ _ c.in_ok-push_word.ensures c.in_ok-push_word-2.ensures c.in_ok-push_word-3.ensures h)
    c.push_word-4.ensures
