use Rattle.std.proofs.Common.{ℕ, List, subst}
use Rattle.dns_message.specs.Messages.{message_octets}
use Rattle.dns_message.specs.Replies.{IsNotReply, IsReply}
use Rattle.dns_message.specs.declared.reply.LetterCase.TheVariants.{Ignored}
use Rattle.example_resolve.proofs.resolving.Lookup.judge.Goals as goal

pub returns-in-Ok-clause-reply : goal.returns-in-Ok-clause-reply
returns-in-Ok-clause-reply g c =
    subst (λ (b : List ℕ). IsReply Ignored (message_octets c.args.received.now) b) c.query-sent.ensures.asks.octets c.in-Ok.ensures.reply

pub returns-in-Err-clause-reason : goal.returns-in-Err-clause-reason
returns-in-Err-clause-reason g c =
    subst (λ (b : List ℕ). IsNotReply Ignored (message_octets c.args.received.now) b c.in-Err.reason) c.query-sent.ensures.asks.octets c.in-Err.ensures.reason
