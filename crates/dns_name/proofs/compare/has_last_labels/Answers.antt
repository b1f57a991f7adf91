use Rattle.std.proofs.Common.{◌≡◌, rules}
use Rattle.dns_name.specs.ParsedName.{labels}
use Rattle.dns_name.specs.Suffixes.{suffixes, suffixes_left}
use Rattle.dns_name.proofs.Suffixes.{among_suffixes}
use Rattle.dns_name.proofs.compare.has_last_labels.Goals as goal

pub loop-suffix-init : goal.loop-suffix-init
loop-suffix-init c =
    let left : suffixes_left c.into_iter-suffix-iterator.result ≡ suffixes (labels c.args.name.now) = search rules in
    (tt, tt, rw left (among_suffixes (labels c.args.name.now) (labels c.args.base.now)))
