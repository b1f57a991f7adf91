use Rattle.fields_values.proofs.push.+fits.Given as goal

abbrev pub decreases-fits : goal.decreases-fits
decreases-fits l = l.size
