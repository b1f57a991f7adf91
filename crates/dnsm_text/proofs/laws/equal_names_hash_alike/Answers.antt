use Rattle.std.proofs.Common.{ap, ◌/◌, ◌^◌}
use Rattle.std.specs.Hash.DefaultHasher.{initial, write, finish}
use Rattle.dns_name.specs.Names.{uncompressed}
use Rattle.dnsm_text.specs.NameHashes.{name_hash}
use Rattle.dnsm_text.proofs.laws.equal_names_hash_alike.Goals as goal

pub returns : goal.returns
unfolding name_hash
returns c = λ seed m n same. ap (λ labels. finish (write (write initial seed) (uncompressed labels)) / 2 ^ 32) same
