use Rattle.fields_forms.proofs.GatewayLemmas.{relay_words}
use Rattle.fields_forms.proofs.gateway_words.read_relay.Goals as goal

pub returns-in-len3 : goal.returns-in-len3
returns-in-len3 c = relay_words c.args.words.now _ _ _ c.read_typed_relay.result c.in-len3.len_at_least c.in-len3.len_below c.read_typed_relay.ensures
