use Rattle.dns_data.proofs.ComposedParts as composed
use Rattle.dns_data.proofs.laws.parts_compose.Goals as goal

pub returns : goal.returns
returns c = record {
  none = composed.no_part_composes;
  one = composed.one_part_composes;
  after = composed.parts_compose_after;
  refused = composed.refused_part_composes;
}
