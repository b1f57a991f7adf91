use Rattle.fields_parameters.proofs.KeyLemmas.{key_named, key_numbered}
use Rattle.fields_parameters.proofs.parameter_key.read_key.Goals as goal

pub returns-in-Some : goal.returns-in-Some
returns-in-Some c = key_named c.args.text.now c.in-Some.key c.in-Some.ensures

pub returns-in-None : goal.returns-in-None
returns-in-None c = key_numbered c.args.text.now c.numbered_key.result c.in-None.ensures c.numbered_key.ensures
