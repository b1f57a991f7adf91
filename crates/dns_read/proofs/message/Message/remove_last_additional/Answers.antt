use Rattle.std.proofs.Common.{◌∙◌, ◌-◌, ap, arith, length, take, drop}
use Rattle.std.specs.Int.{w16}
use Rattle.dns_name.specs.Parsers.{number_at}
use Rattle.dns_code.specs.HeaderSection.{header_size}
use Rattle.dns_read.specs.Message.{message_octets}
use Rattle.dns_octets.proofs.theory.Overwritten.{kept_before, kept_after}
use Rattle.dns_read.proofs.HeaderLemmas.{written_number}
use Rattle.dns_read.proofs.message.Message.remove_last_additional.Goals as goal

pub returns-clause-count : goal.returns-clause-count
returns-clause-count g c =
    let b = message_octets c.args.self.now in
    let long = c.args.self.now.long in
    ap (λ d. number_at w16 d 10) c.write_at.ensures.octets
    ∙ written_number b c.to_be_bytes.result 10 (c.arcount-count.result - 1) (omega (arith, long)) (ap length c.to_be_bytes.ensures) (omega (arith, c.arcount-count.type_inv)) c.to_be_bytes.ensures
    ∙ ap (λ n. n - 1) (c.arcount-count.ensures ∙ c.header_counts.ensures.arcount)

pub returns-clause-before : goal.returns-clause-before
returns-clause-before g c =
    let long = c.args.self.now.long in
    ap (take 10) c.write_at.ensures.octets ∙ kept_before (message_octets c.args.self.now) c.to_be_bytes.result 10 (omega (arith, long))

pub returns-clause-after : goal.returns-clause-after
returns-clause-after g c =
    let long = c.args.self.now.long in
    ap (drop header_size) c.write_at.ensures.octets
    ∙ kept_after (message_octets c.args.self.now) c.to_be_bytes.result 10 header_size (omega (arith, ap length c.to_be_bytes.ensures)) (omega (arith, long))
