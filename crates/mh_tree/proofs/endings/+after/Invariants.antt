use Rattle.mh_tree.proofs.endings.+after.Given as goal

abbrev pub decreases-after : goal.decreases-after
decreases-after l = l.count
