use Rattle.std.proofs.Common.{refl}
use Rattle.dnsm.proofs.NumberLemmas.{none_spelled}
use Rattle.dns_iana.specs.RegisteredTexts.{SpellsOptRcode}
use Rattle.dnsm.proofs.numbers.dnsm_rcode_from_text.Goals as goal

pub returns-in-Some-clause-number : goal.returns-in-Some-clause-number
returns-in-Some-clause-number c = λ done. (c.in-Some.ensures c.in-Some.found).1 refl

pub returns-in-None-clause-none : goal.returns-in-None-clause-none
returns-in-None-clause-none c = λ failed. (c.of_fault.ensures.number, none_spelled (SpellsOptRcode c.args.text.now) c.in-None.ensures)
