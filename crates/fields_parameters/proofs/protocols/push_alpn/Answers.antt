use Rattle.fields_parameters.proofs.ProtocolLemmas.{alpn_pushed}
use Rattle.fields_parameters.proofs.protocols.push_alpn.Goals as goal

pub returns : goal.returns
returns g c =
    alpn_pushed g.row.N c.args.text.now c.unquoted.result.now c.as_bytes.result.now c.new-name.result.items c.args.value.now.items c.push_names.new.value.items c.push_names.result
    c.unquoted.ensures c.as_bytes.ensures.value c.new-name.ensures c.push_names.ensures
