use Rattle.mh_intern.proofs.Opening.{opens}
use Rattle.mh_intern.proofs.holders.new_holders.Goals as goal

pub of_words-requires : goal.of_words-requires
of_words-requires c = opens
