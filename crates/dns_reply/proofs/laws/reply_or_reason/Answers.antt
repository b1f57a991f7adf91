use Rattle.dns_reply.proofs.MatchLemmas.{reply_or_reason}
use Rattle.dns_reply.proofs.laws.reply_or_reason.Goals as goal

pub returns : goal.returns
returns c = reply_or_reason
