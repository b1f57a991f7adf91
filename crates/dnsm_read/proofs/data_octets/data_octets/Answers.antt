use Rattle.fields_table.specs.Data.{parts_of}
use Rattle.fields_table.specs.DataOrders.{octets_of_parts}
use Rattle.dnsm_read.proofs.theory.UncompressedLemmas.{copied}
use Rattle.dnsm_read.proofs.data_octets.data_octets.Goals as goal

pub returns-clause-octets : goal.returns-clause-octets
returns-clause-octets c =
    let found = c.in_ok-data.ensures in
    let fields = c.in_ok-data.«data» in (
      octets_of_parts (parts_of fields),
      copied c.args.octets.now c.args.item.now fields found.rtype found.there found.encoded (c.fields_are_all.ensures fields),
      c.write_fields.ensures,
    )
