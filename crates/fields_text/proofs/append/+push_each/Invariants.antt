use Rattle.fields_text.proofs.append.+push_each.Given as goal

abbrev pub decreases-push_each : goal.decreases-push_each
decreases-push_each l = l.size
