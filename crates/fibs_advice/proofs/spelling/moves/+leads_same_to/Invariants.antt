use Rattle.fibs_advice.proofs.spelling.moves.+leads_same_to.Given as goal

abbrev pub decreases-leads_same_to : goal.decreases-leads_same_to
decreases-leads_same_to l = l.place
