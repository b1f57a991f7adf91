use Rattle.std.proofs.Common.{◌++◌, length, map, vec_items}
use Rattle.dns_message.specs.Streams.{BeginsWithAll, left}
use Rattle.tests_message.proofs.tour.received.Given as goal

abbrev pub invariant-loop-message : goal.invariant-loop-message
invariant-loop-message l = BeginsWithAll (left l.fn.reader ++ l.octets) (map vec_items l.messages.items) (left l.reader)

abbrev pub decreases-loop-message : goal.decreases-loop-message
decreases-loop-message l = length (left l.reader)
