use Rattle.std.proofs.Common.{◌∷◌, ◌++◌, codes, rules}
use Rattle.dns_print.proofs.theory.Prints.{print_four}
use Rattle.json_print.proofs.theory.Pieces.{object_made}
use Rattle.dns_json.proofs.record.write_record.Goals as goal
use Rattle.json.specs.Json.{number, string}
use Rattle.dns_item.specs.ParsedRecord.{encoded_record}
use Rattle.dns_lines.specs.ZoneLines.{rdata_octets}
use Rattle.fields_plain.specs.ZoneNames.{zone_name_text}
use Rattle.dns_json.specs.Header.{class_members, type_members}
use Rattle.dns_json.specs.Records.{presentation, rdata_members, text_members, ttl_text}

pub returns-clause-text : goal.returns-clause-text
returns-clause-text g c = λ ok.
    let x = encoded_record c.args.parsed.now in
    let front = rw (c.owner.ensures, c.rtype.ensures, c.class.ensures) at (c.write_owner.ensures.text (search rules)) in
    let octets = c.write_ttl_and_octets.ensures.text (search rules) in
    let text = c.write_presentation.ensures.text (search rules) in
    let brace = c.write_text.ensures.text ok in
    print_four _ _ _ _ _ _ _ _ _ _ _ front octets text brace
    (object_made (codes "NAME", string (zone_name_text x.entry.owner))
    (type_members (codes "TYPE") (codes "TYPEname") x.entry.rtype ++ class_members (codes "CLASS") (codes "CLASSname") x.entry.class)
    ((codes "TTL", number (ttl_text x.entry.ttl)) ∷ rdata_members (rdata_octets x)) (text_members x.entry.rtype (presentation x)))
