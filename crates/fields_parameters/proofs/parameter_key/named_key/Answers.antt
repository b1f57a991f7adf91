use Rattle.std.proofs.Common.{refl}
use Rattle.std.specs.Prelude.{codes}
use Rattle.fields_parameters.proofs.KeyLemmas.{named_is, not_named, other_text, same_text}
use Rattle.fields_parameters.proofs.parameter_key.named_key.Goals as goal

pub returns-then-eq : goal.returns-then-eq
returns-then-eq c = named_is c.args.name.now (codes "mandatory") 0 refl (same_text c.args.name.now (codes "mandatory") c.eq.result c.eq.ensures c.if-eq.true)

pub returns-then-eq-2 : goal.returns-then-eq-2
returns-then-eq-2 c = named_is c.args.name.now (codes "alpn") 1 refl (same_text c.args.name.now (codes "alpn") c.eq-2.result c.eq-2.ensures c.if-eq-2.true)

pub returns-then-eq-3 : goal.returns-then-eq-3
returns-then-eq-3 c = named_is c.args.name.now (codes "no-default-alpn") 2 refl (same_text c.args.name.now (codes "no-default-alpn") c.eq-3.result c.eq-3.ensures c.if-eq-3.true)

pub returns-then-eq-4 : goal.returns-then-eq-4
returns-then-eq-4 c = named_is c.args.name.now (codes "port") 3 refl (same_text c.args.name.now (codes "port") c.eq-4.result c.eq-4.ensures c.if-eq-4.true)

pub returns-then-eq-5 : goal.returns-then-eq-5
returns-then-eq-5 c = named_is c.args.name.now (codes "ipv4hint") 4 refl (same_text c.args.name.now (codes "ipv4hint") c.eq-5.result c.eq-5.ensures c.if-eq-5.true)

pub returns-then-eq-6 : goal.returns-then-eq-6
returns-then-eq-6 c = named_is c.args.name.now (codes "ech") 5 refl (same_text c.args.name.now (codes "ech") c.eq-6.result c.eq-6.ensures c.if-eq-6.true)

pub returns-then-eq-7 : goal.returns-then-eq-7
returns-then-eq-7 c = named_is c.args.name.now (codes "ipv6hint") 6 refl (same_text c.args.name.now (codes "ipv6hint") c.eq-7.result c.eq-7.ensures c.if-eq-7.true)

pub returns-then-eq-8 : goal.returns-then-eq-8
returns-then-eq-8 c = named_is c.args.name.now (codes "dohpath") 7 refl (same_text c.args.name.now (codes "dohpath") c.eq-8.result c.eq-8.ensures c.if-eq-8.true)

pub returns-then-eq-9 : goal.returns-then-eq-9
returns-then-eq-9 c = named_is c.args.name.now (codes "ohttp") 8 refl (same_text c.args.name.now (codes "ohttp") c.eq-9.result c.eq-9.ensures c.if-eq-9.true)

pub returns : goal.returns
returns c =
    not_named c.args.name.now
    (other_text c.args.name.now (codes "mandatory") c.eq.result c.eq.ensures c.if-eq.false)
    (other_text c.args.name.now (codes "alpn") c.eq-2.result c.eq-2.ensures c.if-eq-2.false)
    (other_text c.args.name.now (codes "no-default-alpn") c.eq-3.result c.eq-3.ensures c.if-eq-3.false)
    (other_text c.args.name.now (codes "port") c.eq-4.result c.eq-4.ensures c.if-eq-4.false)
    (other_text c.args.name.now (codes "ipv4hint") c.eq-5.result c.eq-5.ensures c.if-eq-5.false)
    (other_text c.args.name.now (codes "ech") c.eq-6.result c.eq-6.ensures c.if-eq-6.false)
    (other_text c.args.name.now (codes "ipv6hint") c.eq-7.result c.eq-7.ensures c.if-eq-7.false)
    (other_text c.args.name.now (codes "dohpath") c.eq-8.result c.eq-8.ensures c.if-eq-8.false)
    (other_text c.args.name.now (codes "ohttp") c.eq-9.result c.eq-9.ensures c.if-eq-9.false)
