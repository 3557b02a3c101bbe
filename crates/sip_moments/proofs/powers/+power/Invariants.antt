use Rattle.sip_moments.proofs.powers.+power.Given as goal

abbrev pub decreases-power : goal.decreases-power
decreases-power g l = l.degree
