use Rattle.std.proofs.Common.{arith, rules}
use Rattle.dnsview_rows.proofs.Names.{all_labels, none_skipped, one_more_label}
use Rattle.dnsview_rows.proofs.walk.Walk.labels.Goals as goal

pub labels-init : goal.labels-init
labels-init c = record { comes = search rules; covers = none_skipped c.args.name c.args.self.now; short = omega arith }

pub labels-preserved : goal.labels-preserved
labels-preserved c = record {
  comes = search rules;
  covers = one_more_label c.args.name c.labels.size c.in-Some.len c.args.self.now c.labels.self c.octets.new.self c.labels.invariant.covers c.in-Some.ensures.some c.in_ok-octets.ensures.adds;
  short = omega (arith, c.in-Some.ensures.some.short);
}

pub returns-clause-covers : goal.returns-clause-covers
returns-clause-covers c = all_labels c.args.name c.labels.size c.args.self.now c.labels.self c.labels.invariant.covers (c.in_default.ensures.none (search rules))
