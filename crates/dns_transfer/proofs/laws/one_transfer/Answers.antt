use Rattle.dns_transfer.proofs.TransferLemmas.{taken_or_refused, some_transfer, one_transfer, nothing_follows}
use Rattle.dns_transfer.proofs.laws.one_transfer.Goals as goal

pub returns : goal.returns
returns c = record { messages = taken_or_refused; some = some_transfer; one = one_transfer; last = nothing_follows }
