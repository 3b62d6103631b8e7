use denote.RattleType.{RattleType}
use denote.Param.Send.{IsSend}
use Rattle.mh_setonce.proofs.Sent as sent
use Rattle.mh_setonce.specs.contracts.mark.Mark.{the_row}

pub send : (T : RattleType) → IsSend (the_row T)
send = sent.mark_send
