use Rattle.std.proofs.Common.{◌≡◌, refl, subst}
use Rattle.dns_name.specs.Names.{fault_of}
use Rattle.fields_table.specs.Data.{parts_of}
use Rattle.fields_table.specs.UncompressedData.{IsUncompressedData, UncompressedDataFault}
use Rattle.dnsm_make.specs.Built.{item_data_type}
use Rattle.dnsm_make.proofs.new_data.fields_of.Goals as goal

pub returns-in-Ok-clause-fields : goal.returns-in-Ok-clause-fields
returns-in-Ok-clause-fields c =
    let item = c.args.item.now in
    let same : c.layout_type-layout.result ≡ item_data_type item = cc in
    subst (λ n. IsUncompressedData n item.rdata.now (parts_of c.in-Ok.fields)) same c.in-Ok.ensures.ok

pub returns-in-Err-clause-none : goal.returns-in-Err-clause-none
returns-in-Err-clause-none c =
    let item = c.args.item.now in
    let same : c.layout_type-layout.result ≡ item_data_type item = cc in
    (refl, (fault_of c.in-Err.field-0, subst (λ n. UncompressedDataFault n item.rdata.now (fault_of c.in-Err.field-0)) same c.in-Err.ensures.err))
