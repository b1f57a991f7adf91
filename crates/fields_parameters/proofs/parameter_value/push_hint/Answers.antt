use Rattle.fields_parameters.specs.ParameterValues.{IsHint}
use Rattle.fields_parameters.proofs.PushLemmas.{none_pushed}
use Rattle.fields_parameters.proofs.ValueLemmas.{hint_pushed, ipv4_hint, ipv6_hint, no_ipv4_hint, no_ipv6_hint}
use Rattle.fields_parameters.proofs.parameter_value.push_hint.Goals as goal

pub returns-in_default : goal.returns-in_default
returns-in_default g c =
    none_pushed g.row.N (IsHint c.args.key c.args.text.now) c.args.value.now.items c.args.value.now.items
    (no_ipv4_hint c.args.key c.args.text.now c.as_bytes.result.now c.if-key-eq4.true c.as_bytes.ensures.value c.in_default.ensures)

pub returns-then-key-eq4 : goal.returns-then-key-eq4
returns-then-key-eq4 g c =
    hint_pushed g.row.N c.args.key c.args.text.now c.in-Some.address c.args.value.now.items c.push_octets.new.value.items c.push_octets.result
    (ipv4_hint c.args.key c.args.text.now c.as_bytes.result.now c.in-Some.address c.if-key-eq4.true c.as_bytes.ensures.value c.in-Some.ensures) c.push_octets.ensures

pub returns-in_default-read_ipv6 : goal.returns-in_default-read_ipv6
returns-in_default-read_ipv6 g c =
    none_pushed g.row.N (IsHint c.args.key c.args.text.now) c.args.value.now.items c.args.value.now.items
    (no_ipv6_hint c.args.key c.args.text.now c.as_bytes-2.result.now c.if-key-eq4.false c.as_bytes-2.ensures.value c.in_default-read_ipv6.ensures)

pub returns : goal.returns
returns g c =
    hint_pushed g.row.N c.args.key c.args.text.now c.in-Some-read_ipv6.address c.args.value.now.items c.push_octets-2.new.value.items c.push_octets-2.result
    (ipv6_hint c.args.key c.args.text.now c.as_bytes-2.result.now c.in-Some-read_ipv6.address c.if-key-eq4.false c.as_bytes-2.ensures.value c.in-Some-read_ipv6.ensures) c.push_octets-2.ensures
