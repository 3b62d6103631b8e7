use Rattle.mh_pieces.proofs.lengths.+hexadecimal_length.Given as goal

abbrev pub decreases-hexadecimal_length : goal.decreases-hexadecimal_length
decreases-hexadecimal_length l = l.number
