use Rattle.std.proofs.Common.{ℕ, List, ap, inr, subst}
use Rattle.dns_name.specs.NameReading.{name_labels}
use Rattle.dns_name.proofs.theory.NameLemmas.{name_is}
use Rattle.dns_read.specs.Message.{message_octets}
use Rattle.dns_reply.specs.Matches.{IsNotReply, IsReply}
use Rattle.dns_reply.specs.Replies.{said_of}
use Rattle.dns_reply.specs.Sayings.{Says}
use Rattle.dns_reply.specs.declared.matching.LetterCase.TheVariants.{Ignored}
use Rattle.dnsm_status.specs.Codes.{number_of}
use Rattle.dnsm_replies.proofs.ReplyLemmas.{are_long}
use Rattle.dnsm_replies.proofs.reply.reply.Goals as goal

pub returns-in-Ok-reply_to-clause-says : goal.returns-in-Ok-reply_to-clause-says
returns-in-Ok-reply_to-clause-says c =
    let asked = c.in-Ok.ensures in
    let message = c.in-Ok-from_slice.ensures in
    let name = name_labels c.in-Ok-from_octets.name in
    let said = said_of c.in-Ok-reply_to.reply in
    let b = message_octets c.in-Ok-from_slice.message in
    record {
      long = are_long _ _ asked.short.1 message.short.1;
      is_reply = subst (λ (x : List ℕ). IsReply Ignored x c.args.query.now) message.octets (subst (λ (x : List ℕ). IsReply Ignored b x) asked.octets c.in-Ok-reply_to.ensures.reply);
      zone_name = name;
      is_name = name_is c.in-Ok-from_octets.name;
      zone_octets = c.in-Ok-from_octets.ensures.name;
      said = said;
      says = subst (λ (x : List ℕ). Says x name said) message.octets c.in-Ok-reply_to.ensures.says;
      reports = c.saying_of.ensures;
    }

pub returns-in-Err-clause-none : goal.returns-in-Err-clause-none
returns-in-Err-clause-none c =
    let asked = c.in-Ok.ensures in
    let message = c.in-Ok-from_slice.ensures in
    let name = name_labels c.in-Ok-from_octets.name in
    let b = message_octets c.in-Ok-from_slice.message in
    let why = c.in-Err.reason in
    let is_not = subst (λ (x : List ℕ). IsNotReply Ignored x c.args.query.now why) message.octets (subst (λ (x : List ℕ). IsNotReply Ignored b x why) asked.octets c.in-Err.ensures.reason) in
    inr (inr (are_long _ _ asked.short.1 message.short.1, (name, name_is c.in-Ok-from_octets.name, c.in-Ok-from_octets.ensures.name), (why, is_not, ap number_of c.fault_of_reason.ensures)))
