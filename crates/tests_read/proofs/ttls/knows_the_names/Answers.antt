use Rattle.tests_read.proofs.ttls.knows_the_names.Goals as goal

pub returns-clause-others : goal.returns-clause-others
returns-clause-others c = c.names_are_fields.ensures.others
