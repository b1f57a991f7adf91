use Rattle.std.proofs.Common.{arith}
use Rattle.fields_forms.proofs.GatewayLemmas.{appends_ipv4, appends_ipv6, appends_name}
use Rattle.fields_forms.proofs.gateway_words.push_gateway.Goals as goal

pub returns-in-1 : goal.returns-in-1
returns-in-1 c =
    appends_ipv4 c.args.gateway_type c.args.word.now c.args.octets.now.items c.push_ipv4.new.octets.items c.push_ipv4.result (omega arith) c.push_ipv4.ensures

pub returns-in-2 : goal.returns-in-2
returns-in-2 c =
    appends_ipv6 c.args.gateway_type c.args.word.now c.args.octets.now.items c.push_ipv6.new.octets.items c.push_ipv6.result (omega arith) c.push_ipv6.ensures

pub returns-in-3 : goal.returns-in-3
returns-in-3 c =
    appends_name c.args.gateway_type c.args.word.now c.args.octets.now.items c.push_name.new.octets.items c.push_name.result (omega arith) c.push_name.ensures
