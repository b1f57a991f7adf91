use Rattle.std.proofs.lemmas.List.{take_rest}
use Rattle.fields_forms.proofs.GatewayLemmas.{gateway_words}
use Rattle.fields_forms.proofs.gateway_words.read_gateway.Goals as goal

pub returns : goal.returns
returns c = gateway_words c.args.words.now _ _ _ _ c.read_gateway_and_key.result c.in-len3-up.len_at_least (take_rest c.args.words.now 3) c.read_gateway_and_key.ensures
