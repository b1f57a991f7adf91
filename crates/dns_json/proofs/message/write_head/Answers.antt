use Rattle.std.proofs.Common.{◌≡◌, rules, subst, take}
use Rattle.std.specs.Fmt.{WritesInCalls}
use Rattle.dns_code.specs.Header.{fields_in}
use Rattle.dns_code.specs.HeaderCounts.{Counts, counts}
use Rattle.dns_print.proofs.theory.Prints.{print_two}
use Rattle.dns_read.specs.Message.{message_octets}
use Rattle.dns_lines.specs.Show.{counts_of}
use Rattle.json_print.specs.Texts.{members_text}
use Rattle.dns_json.specs.Header.{count_members}
use Rattle.dns_json.proofs.HeaderTexts.{head_made}
use Rattle.dns_json.proofs.message.write_head.Goals as goal

pub returns-clause-text : goal.returns-clause-text
returns-clause-text g c = λ ok.
    let b = message_octets c.args.message.now in
    let n = c.header_counts.ensures in
    let numbers : counts c.header_counts.result ≡ counts_of b = λ i. record { qdcount = n.qdcount i; ancount = n.ancount i; nscount = n.nscount i; arcount = n.arcount i } in
    let header = rw c.header.ensures at (c.write_header.ensures.text (search rules)) in
    let others =
    subst (λ (n : Counts). WritesInCalls g.T.TextWriter.takes c.write_header.new.writer (members_text (count_members n)) c.write_counts.new.writer) numbers
    (c.write_counts.ensures.text ok) in
    print_two _ _ _ _ _ _ _ header others (head_made (fields_in (take 4 b)) (counts_of b))
