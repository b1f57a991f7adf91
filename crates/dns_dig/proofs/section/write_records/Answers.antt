use Rattle.dns_dig.proofs.section.write_records.Goals as goal

pub returns-in-Ok-clause-text : goal.returns-in-Ok-clause-text
returns-in-Ok-clause-text g c = λ ok. rw c.in-Ok.is (rw c.record_heading-heading.ensures at (c.write_each.ensures.text ok))

pub returns-in-Err-clause-text : goal.returns-in-Err-clause-text
returns-in-Err-clause-text g c = λ ok. rw c.in-Err.is (rw c.record_heading-heading.ensures at (c.write_missing.ensures.text ok))
