use Rattle.fields_parameters.proofs.ValueLemmas.{no_port, port_pushed}
use Rattle.fields_parameters.proofs.parameter_value.push_port.Goals as goal

pub returns-in_default : goal.returns-in_default
returns-in_default g c = no_port g.row.N c.args.text.now c.args.value.now.items c.args.value.now.items c.in_default.ensures

pub returns : goal.returns
returns g c = port_pushed g.row.N c.args.text.now c.args.value.now.items c.push_octets.new.value.items c.in-Some.port c.push_octets.result c.in-Some.ensures c.push_octets.ensures
