use Rattle.dns_read.specs.StartOrFault.{questions_skip_or_stop, records_skip_or_stop}
use Rattle.dns_read.proofs.laws.skipped_or_stopped.Goals as goal

pub returns : goal.returns
returns c = record { questions = questions_skip_or_stop; records = records_skip_or_stop }
