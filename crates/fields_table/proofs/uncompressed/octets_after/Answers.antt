use Rattle.std.proofs.Common.{rules}
use Rattle.fields_table.specs.DataOrders.{part_octets}
use Rattle.fields_table.specs.EncodedFields.{part_of}
use Rattle.fields_table.proofs.ComparedOctets.{after_prefix, other_prefix}
use Rattle.fields_table.proofs.uncompressed.octets_after.Goals as goal

pub returns-in-Octets-clause-after : goal.returns-in-Octets-clause-after
returns-in-Octets-clause-after c = after_prefix _ c.in-Octets.own.now (part_octets (part_of c.args.field.now)) (search rules) _ c.strip_prefix.ensures.cases

pub returns-in-Octets-clause-other : goal.returns-in-Octets-clause-other
returns-in-Octets-clause-other c = other_prefix _ c.in-Octets.own.now (part_octets (part_of c.args.field.now)) (search rules) _ c.strip_prefix.ensures.cases

pub returns-in-Name-clause-after : goal.returns-in-Name-clause-after
returns-in-Name-clause-after c = after_prefix _ c.as_slice.result.now (part_octets (part_of c.args.field.now)) (search rules) _ c.strip_prefix-in-Name.ensures.cases

pub returns-in-Name-clause-other : goal.returns-in-Name-clause-other
returns-in-Name-clause-other c = other_prefix _ c.as_slice.result.now (part_octets (part_of c.args.field.now)) (search rules) _ c.strip_prefix-in-Name.ensures.cases
