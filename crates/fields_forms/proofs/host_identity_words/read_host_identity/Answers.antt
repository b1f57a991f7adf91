use Rattle.std.proofs.lemmas.List.{take_rest}
use Rattle.fields_forms.proofs.IdentityLemmas.{identity_words}
use Rattle.fields_forms.proofs.host_identity_words.read_host_identity.Goals as goal

pub returns : goal.returns
returns c = identity_words c.args.words.now _ _ _ _ c.read_identity.result c.in-len3-up.len_at_least (take_rest c.args.words.now 3) c.read_identity.ensures
