use denote.RattleType.{RattleType}
use denote.Param.Send.{IsSync}
use Rattle.mh_setonce.proofs.Sent as sent
use Rattle.mh_setonce.specs.contracts.mark.Mark.{the_row}

pub sync : (T : RattleType) → IsSync (the_row T)
sync = sent.mark_sync
