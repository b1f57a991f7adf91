use Rattle.fields_lists.proofs.type_map.+write_bits.Given as goal

abbrev pub decreases-write_bits : goal.decreases-write_bits
decreases-write_bits g l = l.count
