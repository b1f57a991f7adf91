use Rattle.std.proofs.Common.{◌≡◌, ◌∙◌, ap, drop, ◌∷◌, []}
use Rattle.dns_item.specs.RecordReading.{up_to_rdata_end}
use Rattle.dns_data.specs.UnknownData.{unknown_rtype_of, unknown_octets}
use Rattle.dns_wire.specs.Parts.Part.{Octets}
use Rattle.dns_item.specs.ParsedRecord.{encoded_record}
use Rattle.dns_item.specs.Record.{data_of}
use Rattle.dns_lines.proofs.theory.ShownRecords.{there, opaque_is_ok}
use Rattle.dns_lines.specs.ZoneLines.{covers_no_type}
use Rattle.dns_dig.proofs.signature.covers_no_type.Goals as goal

pub unwrap-found-requires : goal.unwrap-found-requires
unwrap-found-requires c =
    opaque_is_ok unknown_rtype_of (λ unknown. Octets (unknown_octets unknown) ∷ []) (encoded_record c.args.parsed.now) c.requires.read c.requires.short
    c.to_any_record.result c.to_any_record.ensures.returned

pub returns : goal.returns
returns c =
    let x = encoded_record c.args.parsed.now in
    let r = c.unwrap-found.result in
    let returned = rw c.unwrap-found.ensures at c.to_any_record.ensures.returned in
    let given = returned.gives (there x c.requires.read) in
    let octets : unknown_octets (data_of r) ≡ drop x.entry.rdata_start (up_to_rdata_end x.octets x.entry) = let e = given.1.1 in cc e in
    let rdata = ap (λ b. b.now) c.data-2.ensures ∙ (ap unknown_octets c.data.ensures ∙ octets) in
    c.begins_with_zeros.ensures ∙ ap covers_no_type rdata
