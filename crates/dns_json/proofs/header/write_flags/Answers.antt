use Rattle.std.proofs.Common.{codes, rules}
use Rattle.dns_print.proofs.theory.Prints.{print_four}
use Rattle.json_print.proofs.theory.Pieces.{four_members}
use Rattle.dns_json.proofs.header.write_flags.Goals as goal
use Rattle.json.specs.Json.{boolean}
use Rattle.dns_code.specs.Header.{fields}

pub returns-clause-text : goal.returns-clause-text
returns-clause-text g c = λ ok.
    let f = fields c.args.header in
    let rd = rw c.rd.ensures at (c.write_boolean_member.ensures.text (search rules)) in
    let ra = rw c.ra.ensures at (c.write_boolean_member-2.ensures.text (search rules)) in
    let ad = rw c.ad.ensures at (c.write_boolean_member-3.ensures.text (search rules)) in
    let cd = rw c.cd.ensures at (c.write_boolean_member-4.ensures.text ok) in
    print_four _ _ _ _ _ _ _ _ _ _ _ rd ra ad cd (four_members (codes "RD", boolean f.rd) (codes "RA", boolean f.ra) (codes "AD", boolean f.ad) (codes "CD", boolean f.cd))
