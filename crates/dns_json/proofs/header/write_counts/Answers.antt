use Rattle.std.proofs.Common.{codes, rules}
use Rattle.dns_print.proofs.theory.Prints.{print_four}
use Rattle.json_print.proofs.theory.Pieces.{four_members}
use Rattle.dns_json.proofs.header.write_counts.Goals as goal
use Rattle.dns_code.specs.HeaderCounts.{counts}
use Rattle.json_print.specs.Values.{numeral}

pub returns-clause-text : goal.returns-clause-text
returns-clause-text g c = λ ok.
    let n = counts c.args.counts in
    let questions = rw (c.from.ensures, c.qdcount.ensures) at (c.write_number_member.ensures.text (search rules)) in
    let answers = rw (c.from-2.ensures, c.ancount.ensures) at (c.write_number_member-2.ensures.text (search rules)) in
    let authorities = rw (c.from-3.ensures, c.nscount.ensures) at (c.write_number_member-3.ensures.text (search rules)) in
    let additionals = rw (c.from-4.ensures, c.arcount.ensures) at (c.write_number_member-4.ensures.text ok) in
    print_four _ _ _ _ _ _ _ _ _ _ _ questions answers authorities additionals
    (four_members (codes "QDCOUNT", numeral n.qdcount) (codes "ANCOUNT", numeral n.ancount) (codes "NSCOUNT", numeral n.nscount) (codes "ARCOUNT", numeral n.arcount))
