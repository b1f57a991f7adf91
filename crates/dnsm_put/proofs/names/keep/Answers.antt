use Rattle.dnsm_put.proofs.Hints.{own_hint}
use Rattle.dnsm_put.proofs.names.keep.Goals as goal

pub returns : goal.returns
returns c = λ end low less h. own_hint c.args.hints.now end c.args.slot c.args.own low less h
