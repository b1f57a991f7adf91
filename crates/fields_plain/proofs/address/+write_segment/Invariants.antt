use Rattle.fields_plain.proofs.address.+write_segment.Given as goal

abbrev pub decreases-write_segment : goal.decreases-write_segment
decreases-write_segment g l = l.segment
