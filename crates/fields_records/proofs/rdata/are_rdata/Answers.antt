use Rattle.std.proofs.Common.{Bool, sym, subst}
use Rattle.std.specs.Prelude.{◌↔◌, IsTrue}
use Rattle.fields_table.specs.UncompressedData.{IsUncompressedData}
use Rattle.fields_text.specs.Reading.{HasValue}
use Rattle.fields_records.proofs.RdataLemmas.{are_tested}
use Rattle.fields_records.proofs.rdata.are_rdata.Goals as goal

pub returns : goal.returns
returns c =
    subst (λ (b : Bool). IsTrue b ↔ HasValue (IsUncompressedData c.args.rtype c.args.octets.now)) (sym c.is_ok.ensures.value)
    (are_tested c.args.rtype c.args.octets.now c.from_uncompressed.result c.from_uncompressed.ensures.ok c.from_uncompressed.ensures.err)
