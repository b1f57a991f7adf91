use Rattle.std.proofs.Common.{refl, subst}
use Rattle.dnsm_text.specs.Texts.{SpellsNoName}
use Rattle.dnsm_text.proofs.TextLemmas.{no_utf8, unread}
use Rattle.dnsm_text.proofs.names.name_of.Goals as goal

pub returns-in_default-clause-none : goal.returns-in_default-clause-none
returns-in_default-clause-none c = (refl, no_utf8 c.args.octets.now c.in_default.ensures.cases.0)

pub returns-in-Err-clause-none : goal.returns-in-Err-clause-none
returns-in-Err-clause-none c =
    (refl, subst SpellsNoName c.in-Ok.ensures.cases.0 (unread c.in-Ok.text.now c.from_str.result c.in-Err.field-0 c.in-Err.is c.from_str.ensures))
