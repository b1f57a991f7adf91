use Rattle.fields_plain.proofs.time.+year_of.Given as goal

abbrev pub decreases-year_of : goal.decreases-year_of
decreases-year_of l = l.count
