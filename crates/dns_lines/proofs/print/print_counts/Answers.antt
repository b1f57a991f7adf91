use Rattle.dns_code.specs.HeaderCounts.{counts}
use Rattle.dns_lines.proofs.theory.PrintedLines.{printed_as}
use Rattle.dns_lines.proofs.ShownHeader.{printed_counts}
use Rattle.dns_lines.proofs.print.print_counts.Goals as goal

pub returns : goal.returns
returns g c =
    printed_as _ _ _ _ c.writeln.result
    (printed_counts (counts c.args.counts) _ _ _ _ c.qdcount-questions.ensures c.ancount-answers.ensures c.nscount-authorities.ensures c.arcount-additionals.ensures)
    c.writeln.ensures.bytes
