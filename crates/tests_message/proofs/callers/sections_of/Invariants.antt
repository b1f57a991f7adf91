use Rattle.std.proofs.Common.{◌≡◌, ◌++◌}
use Rattle.dns_message.specs.Messages.MessageIter.{items_left}
use Rattle.tests_message.specs.Callers.{sections_among}
use Rattle.tests_message.proofs.callers.sections_of.Given as goal

abbrev pub invariant-loop-item : goal.invariant-loop-item
invariant-loop-item g l = l.found.items ++ sections_among (items_left l.item-iterator) ≡ sections_among (items_left l.initial.item-iterator)
