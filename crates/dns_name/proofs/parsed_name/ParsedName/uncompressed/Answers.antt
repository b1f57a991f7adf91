use Rattle.dns_name.proofs.theory.NameLemmas.{label_fits}
use Rattle.dns_name.proofs.parsed_name.ParsedName.uncompressed.Goals as goal

pub append_label-requires : goal.append_label-requires
append_label-requires c =
    let whole = rw c.in-Some.ensures.steps at c.loop-label.invariant.2 in
    label_fits c.args.self _ _ _ whole
