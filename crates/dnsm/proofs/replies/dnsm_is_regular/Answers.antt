use Rattle.dns_edit.specs.Acceptance.{IsRegular}
use Rattle.dnsm_text.proofs.theory.NamePairLemmas.{flag_of}
use Rattle.dnsm.proofs.replies.dnsm_is_regular.Goals as goal

pub returns-in-Ok-clause-regular : goal.returns-in-Ok-clause-regular
returns-in-Ok-clause-regular c = λ done. flag_of c.in-Ok.found (IsRegular c.args.message.now) c.from.result c.from.ensures c.in-Ok.ensures.regular
