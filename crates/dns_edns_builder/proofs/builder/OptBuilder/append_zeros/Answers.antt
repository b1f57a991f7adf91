use Rattle.dns_edns_builder.proofs.theory.OptBuilderLemmas.{kept, adds}
use Rattle.dns_edns_builder.proofs.builder.OptBuilder.append_zeros.Goals as goal

pub invariant_of-self : goal.invariant_of-self
invariant_of-self c =
    let all = kept _ c.args.self.now _ _ c.ranges.code.fits c.append_zeros_option.ensures in
    record { listed = all.listed; whole = all.whole; short = all.short }

pub returns : goal.returns
returns c = adds _ c.args.self.now c.append_zeros_option.new.list _ c.ranges.code.fits c.append_zeros_option.ensures
