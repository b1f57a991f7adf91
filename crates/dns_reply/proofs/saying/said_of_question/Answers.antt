use Rattle.std.proofs.Common.{sym}
use Rattle.dns_name.specs.ParsedName.{labels}
use Rattle.dns_reply.specs.Sayings.SaysOf.{loop, alias, named}
use Rattle.dns_reply.proofs.saying.said_of_question.Goals as goal

pub returns-in_default : goal.returns-in_default
returns-in_default c = loop c.in_default.ensures

pub returns-then-not-is_within : goal.returns-then-not-is_within
returns-then-not-is_within c =
    rw (c.unwrap_or.ensures, c.ttl_of_aliases-alias_ttl.ensures) (alias (labels c.in-Some.name) c.in-Some.ttl c.in-Some.ensures (sym c.if-not-is_within.ensures))

pub returns : goal.returns
returns c = named (labels c.in-Some.name) c.in-Some.ttl c.in-Some.ensures (sym c.if-not-is_within.ensures) c.said_at.ensures
