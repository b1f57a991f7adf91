use Rattle.std.proofs.Common.{◌≡◌, length}
use Rattle.dns_message.specs.Transfers.{asked_of, state_of}
use Rattle.example_transfer.proofs.Reading.{ReadsSome}
use Rattle.example_transfer.proofs.transfer.print_transfer.Given as goal

abbrev pub invariant-messages : goal.invariant-messages
invariant-messages g l = record {
  reads : ReadsSome l.by_ixfr l.kept.items (asked_of l.fn.transfer) (state_of l.fn.transfer) (state_of l.current) l.fn.stream l.rest (g.W.Write.contents l.fn.writer) (g.W.Write.contents l.writer);
  asked : asked_of l.current ≡ asked_of l.fn.transfer;
}

abbrev pub decreases-messages : goal.decreases-messages
decreases-messages g l = length l.rest
