use Rattle.std.proofs.Common.{List, sym, subst, ◌∙◌}
use Rattle.dns_wire.specs.Parts.{Part}
use Rattle.fields_table.specs.UncompressedData.{IsUncompressedData}
use Rattle.fields_records.proofs.RdataLemmas.{has_fields}
use Rattle.fields_records.proofs.rdata.rdata_of.Goals as goal

pub owned_data-requires-clause-encoded : goal.owned_data-requires-clause-encoded
owned_data-requires-clause-encoded c = (has_fields c.args.rtype c.args.octets.items c.requires.0 c.requires.1).there

pub owned_data-requires-clause-short : goal.owned_data-requires-clause-short
owned_data-requires-clause-short c = (has_fields c.args.rtype c.args.octets.items c.requires.0 c.requires.1).short

pub returns-clause-rdata : goal.returns-clause-rdata
returns-clause-rdata c =
    let same = (has_fields c.args.rtype c.args.octets.items c.requires.0 c.requires.1).parts_are in
    subst (λ (parts : List Part). IsUncompressedData c.args.rtype c.args.octets.items parts) (sym (c.owned_data.ensures.parts ∙ same)) c.requires.1
