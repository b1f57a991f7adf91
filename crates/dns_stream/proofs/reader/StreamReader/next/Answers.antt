use Rattle.std.proofs.Common.{ap, refl}
use Rattle.dns_read.specs.Message.{message_octets}
use Rattle.dns_stream.specs.declared.reader.StreamReader.{StreamReader}
use Rattle.dns_stream.specs.Readers.{allocated, left, limit}
use Rattle.dns_stream.proofs.ReaderLemmas.{takes_message}
use Rattle.dns_stream.proofs.reader.StreamReader.next.Goals as goal

pub returns-in-Frame : goal.returns-in-Frame
returns-in-Frame c =
    let takes = c.in-Frame.ensures in
    let message = message_octets c.message_before.result in
    let leaves = takes_message c.args.self.now c.advance.new.self c.in-Frame.len message takes c.message_before.ensures in
    ((refl, λ _. tt, (leaves, takes.limit_stays, takes.allocated_stays)), record { none = tt; accepted = takes.accepted; refused = tt; after = tt })

pub returns-in-Partial : goal.returns-in-Partial
returns-in-Partial c =
    let kept = c.in-Partial.ensures.2 in (
      (refl, λ _. tt, (ap (λ (r : StreamReader). left r) kept, ap (λ (r : StreamReader). limit r) kept, ap (λ (r : StreamReader). allocated r) kept)),
      record { none = c.in-Partial.ensures.0; accepted = c.in-Partial.ensures.1; refused = tt; after = tt },
    )

pub returns-in-Refused : goal.returns-in-Refused
returns-in-Refused c =
    let kept = c.in-Refused.ensures.1 in (
      (refl, λ _. tt, (ap (λ (r : StreamReader). left r) kept, ap (λ (r : StreamReader). limit r) kept, ap (λ (r : StreamReader). allocated r) kept)),
      record { none = tt; accepted = tt; refused = c.in-Refused.ensures.0; after = tt },
    )
