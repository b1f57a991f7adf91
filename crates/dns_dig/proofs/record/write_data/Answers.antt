use Rattle.std.proofs.Common.{◌≡◌, ◌∙◌, ℕ, List, ap, sym, subst}
use Rattle.std.specs.Fmt.{WritesInCalls}
use Rattle.dns_item.specs.Items.{RecordItem}
use Rattle.dns_item.specs.ParsedRecord.{encoded_record}
use Rattle.dns_item.specs.Record.{data_of}
use Rattle.dns_name.specs.Names.{fault_of}
use Rattle.fields_table.specs.Data.{parts_of, rtype_of}
use Rattle.fields_table.specs.FieldData.{type_layout}
use Rattle.fields_table.specs.FieldParts.{named_parts}
use Rattle.fields_table.specs.Table.{definitions_of}
use Rattle.fields_records.specs.DataTexts.{data_text}
use Rattle.fields_records.specs.RdataTexts.{rdata_text}
use Rattle.dns_lines.proofs.theory.ShownRecords.{there, parts_there, parts_missing}
use Rattle.dns_dig.proofs.record.write_data.Goals as goal

pub returns-in-Ok-clause-text : goal.returns-in-Ok-clause-text
returns-in-Ok-clause-text g c = λ ok.
    let x = encoded_record c.args.parsed.now in
    let r = c.in-Ok.found in
    let returned = rw c.in-Ok.is at c.to_any_record.ensures.returned in
    let given = returned.gives (there x c.requires.read) in
    let rtype : rtype_of (data_of r) ≡ x.entry.rtype = ap (λ (item : RecordItem). item.rtype) given.0 in
    let printed = rw c.«data».ensures at (c.write_data_text.ensures.text ok) in
    subst (λ (t : List ℕ). WritesInCalls g.T.TextWriter.takes c.args.writer.now t c.write_data_text.new.f)
    (ap (λ (n : ℕ). data_text (named_parts (definitions_of n) (parts_of (data_of r)))) rtype
    ∙ ap (rdata_text x) (sym (parts_there x c.requires.read (type_layout x.entry.rtype) (parts_of (data_of r)) given.1))) printed

pub returns-in-Err-clause-text : goal.returns-in-Err-clause-text
returns-in-Err-clause-text g c = λ ok.
    let x = encoded_record c.args.parsed.now in
    let returned = rw c.in-Err.is at c.to_any_record.ensures.returned in
    let given = returned.gives (there x c.requires.read) in
    subst (λ (t : List ℕ). WritesInCalls g.T.TextWriter.takes c.args.writer.now t c.write_octets.new.writer)
    (ap (rdata_text x) (sym (parts_missing x c.requires.read (type_layout x.entry.rtype) (fault_of c.in-Err.field-0) given))) (c.write_octets.ensures.text ok)
