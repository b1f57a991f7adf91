use Rattle.std.proofs.Common.{◌≡◌, rules, true}
use Rattle.dns_name.specs.NameReading.{name_labels}
use Rattle.dns_name.proofs.theory.NameLemmas.{name_is}
use Rattle.dns_read.specs.Message.{message_octets}
use Rattle.dns_edit.proofs.CaseLemmas.{written_name}
use Rattle.dns_edit.proofs.question.set_question_case.Goals as goal

pub returns-clause-reads : goal.returns-clause-reads
returns-clause-reads g c =
    let yes : c.asks_for.result ≡ true = search (rules, c.if-not-asks_for.false) in
    written_name (message_octets c.args.message.now) c.as_slice.result.now c.as_slice-octets.result.now (message_octets c.overwrite.new.self)
    (name_labels c.args.name.now) (name_is c.args.name.now) c.as_slice.ensures.octets c.as_slice-octets.ensures (c.asks_for.ensures.0 yes) c.overwrite.ensures.octets
