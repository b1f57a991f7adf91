use Rattle.std.proofs.Common.{rules}
use Rattle.dns_code.specs.Header.{fields}
use Rattle.dns_print.proofs.theory.Prints.{print_four}
use Rattle.dns_json.proofs.HeaderTexts.{header_made}
use Rattle.dns_json.proofs.header.write_header.Goals as goal

pub returns-clause-text : goal.returns-clause-text
returns-clause-text g c = λ ok.
    let id = rw c.id.ensures at (c.write_id.ensures.text (search rules)) in
    let kind = c.write_kind.ensures.text (search rules) in
    let flags = c.write_flags.ensures.text (search rules) in
    let rcode = rw (c.from.ensures, c.to_int.ensures.value, c.rcode.ensures) at (c.write_number_member.ensures.text ok) in
    print_four _ _ _ _ _ _ _ _ _ _ _ id kind flags rcode (header_made (fields c.args.header))
