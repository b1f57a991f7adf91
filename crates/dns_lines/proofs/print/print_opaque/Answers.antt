use Rattle.std.proofs.Common.{◌≡◌, ◌∙◌, ℕ, List, ap, drop, codes, ◌++◌, ◌∷◌, [], Some}
use Rattle.dns_name.specs.NameTexts.{name_text}
use Rattle.dns_item.specs.RecordPrinting.{record_fields_text}
use Rattle.dns_item.specs.RecordReading.{up_to_rdata_end}
use Rattle.dns_data.specs.Printing.{opaque_text}
use Rattle.dns_data.specs.UnknownData.{unknown_rtype_of, unknown_octets}
use Rattle.dns_wire.specs.Parts.Part.{Octets}
use Rattle.dns_item.specs.ParsedRecord.{encoded_record}
use Rattle.dns_item.specs.Record.{data_of}
use Rattle.dns_lines.specs.Show.{line}
use Rattle.dns_lines.proofs.theory.PrintedLines.{printed_as}
use Rattle.dns_lines.proofs.theory.ShownRecords.{there, opaque_is_ok, same_text, printed_item}
use Rattle.dns_lines.proofs.print.print_opaque.Goals as goal

pub unwrap-record-requires : goal.unwrap-record-requires
unwrap-record-requires g c = opaque_is_ok _ _ (encoded_record c.args.record.now) c.requires.read c.requires.short c.to_any_record.result c.to_any_record.ensures.returned

pub returns : goal.returns
returns g c =
    let x = encoded_record c.args.record.now in
    let r = c.unwrap-record.result in
    let returned = rw c.unwrap-record.ensures at c.to_any_record.ensures.returned in
    let given = returned.gives (there x c.requires.read) in
    let octets : unknown_octets (data_of r) ≡ drop x.entry.rdata_start (up_to_rdata_end x.octets x.entry) = let e = given.1.1 in cc e in
    printed_as _ _ _ _ c.writeln.result
    (printed_item c.args.word.now _ ∙ ap (λ (text : List ℕ). Some (line (c.args.word.now ++ codes " " ++ text)))
    (same_text unknown_rtype_of (λ unknown. Octets (unknown_octets unknown) ∷ []) x r _ given.0 _
    ∙ ap (λ (o : List ℕ). record_fields_text (name_text x.entry.owner) x.entry.ttl x.entry.class x.entry.rtype (opaque_text o)) octets))
    c.writeln.ensures.bytes
