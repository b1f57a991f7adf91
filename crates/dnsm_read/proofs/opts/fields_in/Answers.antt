use Rattle.std.proofs.Common.{refl}
use Rattle.dnsm_read.proofs.theory.OptLemmas.{fields_read}
use Rattle.dnsm_read.proofs.opts.fields_in.Goals as goal

pub returns : goal.returns
returns c = fields_read c.args.class c.args.ttl _ _ _ refl refl refl
