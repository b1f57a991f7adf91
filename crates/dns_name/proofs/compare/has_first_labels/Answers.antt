use Rattle.std.proofs.Common.{◌≡◌, rules}
use Rattle.dns_name.specs.Names.{with_root}
use Rattle.dns_name.specs.ParsedName.{labels, labels_left}
use Rattle.dns_name.proofs.theory.NameLemmas.{parsed_is}
use Rattle.dns_name.proofs.Suffixes.{starts_with_root}
use Rattle.dns_name.proofs.compare.has_first_labels.Goals as goal

pub loop-base_label-init : goal.loop-base_label-init
loop-base_label-init c =
    let left : labels_left c.into_iter-base_label-iterator.result ≡ with_root (labels c.args.base.now) = search rules in
    (tt, tt, rw (c.iter_labels-rest.ensures, left) (starts_with_root _ _ (parsed_is c.args.base.now).labels))
