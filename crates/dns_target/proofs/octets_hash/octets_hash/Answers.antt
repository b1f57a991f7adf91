use Rattle.std.proofs.Common.{◌∙◌, ap, ◌/◌, ◌^◌}
use Rattle.std.specs.Hash.FoldHasher.{write, finish}
use Rattle.dns_target.specs.OctetHashes.{octets_hash}
use Rattle.dns_target.proofs.octets_hash.octets_hash.Goals as goal

pub returns : goal.returns
unfolding octets_hash
returns c =
    ap (λ n. n / 2 ^ 32) (c.finish.ensures ∙ ap finish c.write.ensures)
    ∙ ap (λ h. finish (write h c.args.octets.now) / 2 ^ 32) c.default-hasher.ensures
