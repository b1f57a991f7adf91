use Rattle.std.proofs.Common.{◌≡◌, ◌∙◌, ap, drop, ◌∷◌, []}
use Rattle.dns_name.specs.ParsedName.{labels}
use Rattle.dns_item.specs.RecordReading.{up_to_rdata_end}
use Rattle.dns_data.specs.UnknownData.{unknown_rtype_of, unknown_octets}
use Rattle.dns_wire.specs.Parts.Part.{Octets}
use Rattle.dns_item.specs.ParsedRecord.{encoded_record}
use Rattle.dns_item.specs.Record.{data_of}
use Rattle.fields_plain.specs.ZoneNames.{zone_name_text}
use Rattle.dns_lines.proofs.theory.PrintedLines.{printed_as}
use Rattle.dns_lines.proofs.theory.ShownRecords.{there, opaque_is_ok}
use Rattle.dns_lines.proofs.LineLemmas.{opaque_printed}
use Rattle.dns_lines.proofs.zone_lines.print_opaque.Goals as goal

pub unwrap-found-requires : goal.unwrap-found-requires
unwrap-found-requires g c =
    opaque_is_ok unknown_rtype_of (λ unknown. Octets (unknown_octets unknown) ∷ []) (encoded_record c.args.parsed.now) c.requires.read c.requires.short
    c.to_any_record.result c.to_any_record.ensures.returned

pub returns : goal.returns
returns g c =
    let x = encoded_record c.args.parsed.now in
    let r = c.unwrap-found.result in
    let returned = rw c.unwrap-found.ensures at c.to_any_record.ensures.returned in
    let given = returned.gives (there x c.requires.read) in
    let octets : unknown_octets (data_of r) ≡ drop x.entry.rdata_start (up_to_rdata_end x.octets x.entry) = let e = given.1.1 in cc e in
    printed_as _ _ _ _ c.writeln.result
    (opaque_printed x _ _ _ _ _
    (ap (λ n. zone_name_text (labels n)) c.owner.ensures ∙ ap (λ i. zone_name_text i.owner) given.0)
    (c.as_secs-ttl.ensures ∙ c.ttl.ensures ∙ ap (λ i. i.ttl) given.0)
    (c.class.ensures ∙ ap (λ i. i.class) given.0)
    (c.rtype.ensures ∙ ap (λ i. i.rtype) given.0)
    (ap unknown_octets c.data-octets.ensures ∙ octets))
    c.writeln.ensures.bytes
