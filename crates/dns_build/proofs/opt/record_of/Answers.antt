use Rattle.std.proofs.Common.{◌<◌, ap, arith, rules}
use Rattle.dns_build.proofs.OptLemmas.{is_gathered}
use Rattle.dns_build.proofs.opt.record_of.Goals as goal

pub returns-clause-is_gathered : goal.returns-clause-is_gathered
returns-clause-is_gathered c =
    let ext = ap (λ f. f.ext) c.opt_header-header.ensures in
    let below : c.ttl.result < 4294967296 = search rules in
    is_gathered c.args.builder.now (omega (arith, ext, below, c.ttl.ensures.ttl))
