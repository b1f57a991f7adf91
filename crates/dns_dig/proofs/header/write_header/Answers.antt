use Rattle.std.proofs.Common.{◌≡◌, refl, rules, subst, take}
use Rattle.std.specs.Fmt.{WritesInCalls}
use Rattle.dns_code.specs.Header.{fields_in}
use Rattle.dns_code.specs.HeaderCounts.{Counts, counts}
use Rattle.dns_print.proofs.theory.Prints.{print_three}
use Rattle.dns_read.specs.Message.{message_octets}
use Rattle.dns_lines.specs.Show.{counts_of}
use Rattle.dns_dig.specs.Header.{flags_line}
use Rattle.dns_dig.proofs.header.write_header.Goals as goal

pub returns-clause-text : goal.returns-clause-text
returns-clause-text g c = λ ok.
    let b = message_octets c.args.message.now in
    let n = c.header_counts.ensures in
    let numbers : counts c.header_counts.result ≡ counts_of b = λ i. record { qdcount = n.qdcount i; ancount = n.ancount i; nscount = n.nscount i; arcount = n.arcount i } in
    let status = rw (c.header-header.ensures, c.opt_rcode.ensures) at (c.write_status.ensures.text (search rules)) in
    let given = rw c.header-header.ensures at (c.write_flags_and_counts.ensures.text (search rules)) in
    let flags =
    subst (λ (n : Counts). WritesInCalls g.T.TextWriter.takes c.write_status.new.writer (flags_line (fields_in (take 4 b)) n) c.write_flags_and_counts.new.writer) numbers given in
    let recursion = rw c.header-header.ensures at (c.write_recursion_warning.ensures.text (search rules)) in
    let extra = rw c.extra_octets.ensures at (c.write_extra_warning.ensures.text (search rules)) in
    let end = c.write_text.ensures.text ok in
    print_three _ _ _ _ _ _ _ _ _ status flags (print_three _ _ _ _ _ _ _ _ _ recursion extra end refl) refl
