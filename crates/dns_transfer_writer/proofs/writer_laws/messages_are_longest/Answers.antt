use Rattle.dns_transfer_writer.proofs.LongestLemmas.{longest}
use Rattle.dns_transfer_writer.proofs.writer_laws.messages_are_longest.Goals as goal

pub returns : goal.returns
returns c = longest
