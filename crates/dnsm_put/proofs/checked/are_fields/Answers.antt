use Rattle.std.proofs.Common.{subst}
use Rattle.dns_name.specs.Names.{fault_of}
use Rattle.fields_table.specs.Data.{parts_of}
use Rattle.fields_table.specs.UncompressedData.{IsUncompressedData, UncompressedDataFault}
use Rattle.fields_table.proofs.theory.UncompressedOctets.{not_uncompressed}
use Rattle.dnsm_put.specs.Rdata.{data_type}
use Rattle.dnsm_put.proofs.checked.are_fields.Goals as goal

pub returns-in-Ok-clause-yes : goal.returns-in-Ok-clause-yes
returns-in-Ok-clause-yes c = λ t.
    let item = c.args.item.now in
    (parts_of c.in-Ok._fields, subst (λ n. IsUncompressedData n item.rdata.now (parts_of c.in-Ok._fields)) c.data_type.ensures c.in-Ok.ensures.ok)

pub returns-in-Err-clause-no : goal.returns-in-Err-clause-no
returns-in-Err-clause-no c = λ t has.
    let item = c.args.item.now in
    let fault = subst (λ n. UncompressedDataFault n item.rdata.now (fault_of c.in-Err.field-0)) c.data_type.ensures c.in-Err.ensures.err in
    not_uncompressed (data_type item) item.rdata.now fault has.0 has.1
