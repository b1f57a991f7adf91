use Rattle.dns_dig.proofs.header.write_recursion_warning.Goals as goal

pub returns-clause-text : goal.returns-clause-text
returns-clause-text g c = λ ok. rw c.lacks_recursion.ensures at (c.write_if.ensures.text ok)
