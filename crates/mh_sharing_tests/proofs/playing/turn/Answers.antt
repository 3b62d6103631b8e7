use Rattle.mh_sharing_tests.proofs.InHand.{in_hand, hand_after}
use Rattle.mh_sharing_tests.proofs.playing.turn.Goals as goal

pub dup-requires-clause-held : goal.dup-requires-clause-held
dup-requires-clause-held g c = in_hand _ _ _ c.requires.hand

pub release-requires-clause-held : goal.release-requires-clause-held
release-requires-clause-held g c = in_hand _ _ _ c.requires.hand

pub returns-in_ok-held-in_default-clause-hand : goal.returns-in_ok-held-in_default-clause-hand
returns-in_ok-held-in_default-clause-hand g c =
    let answer = c.in_ok-held-in_default.ensures in
    hand_after _ _ _ _ _ _ _ c.requires.hand c.release.ensures.released answer.interned.1 answer.held
