use Rattle.dns_reply.proofs.WithinLemmas.{names_are_led}
use Rattle.dns_reply.proofs.laws.names_are_led.Goals as goal

pub returns : goal.returns
returns c = names_are_led
